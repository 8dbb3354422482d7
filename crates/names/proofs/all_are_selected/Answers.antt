use Rattle.names.proofs.Selection.{all_are_selected}
use Rattle.names.proofs.all_are_selected.Goals as goal

pub returns : goal.returns
returns c = all_are_selected
