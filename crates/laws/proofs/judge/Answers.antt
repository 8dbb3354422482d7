use Rattle.std.proofs.Common.{below_more, rules}
use Rattle.laws.proofs.judge.Goals as goal

pub loop-at-preserved : goal.loop-at-preserved
loop-at-preserved c = below_more _ _ c.loop-at.invariant (search rules)
