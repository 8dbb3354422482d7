use Rattle.names.proofs.Selection.{lowest_acts}
use Rattle.names.proofs.lowest_acts.Goals as goal

pub returns : goal.returns
returns c = lowest_acts
