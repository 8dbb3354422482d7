use Rattle.access.proofs.Losses.{lost_from_the_nth, never_lost}
use Rattle.access.proofs.board.lost_from_the_nth.Goals as goal

pub returns : goal.returns
returns c = record { told = lost_from_the_nth; untold = never_lost }
