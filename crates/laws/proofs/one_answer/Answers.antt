use Rattle.laws.proofs.Once.{one_answer}
use Rattle.laws.proofs.one_answer.Goals as goal

pub returns : goal.returns
returns c = one_answer
