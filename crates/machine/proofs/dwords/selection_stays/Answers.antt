use Rattle.machine.proofs.Stays.{selected_written}
use Rattle.machine.proofs.dwords.selection_stays.Goals as goal

pub returns : goal.returns
returns c = selected_written
