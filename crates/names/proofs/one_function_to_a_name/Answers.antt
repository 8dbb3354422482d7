use Rattle.names.proofs.Selection.{one_function}
use Rattle.names.proofs.one_function_to_a_name.Goals as goal

pub returns : goal.returns
returns c = one_function
