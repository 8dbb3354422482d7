use Rattle.std.proofs.Common.{ℕ, ◌<◌}
use Rattle.laws.specs.Lawful.{KeepsAll}
use Rattle.laws.proofs.judge.Given as goal

-- the nodes so far keep every law
abbrev pub invariant-loop-at : goal.invariant-loop-at
invariant-loop-at l = (k : ℕ) → k < l.at → KeepsAll l.nodes k
