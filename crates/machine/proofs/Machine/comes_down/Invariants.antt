use Rattle.std.proofs.Common.{◌≡◌, ◌-◌, length, vec_items}
use Rattle.machine.specs.Machine.{reaches}
use Rattle.machine.proofs.Machine.comes_down.Given as goal

-- what is left to climb decides
abbrev pub invariant-loop : goal.invariant-loop
invariant-loop l =
    let ns = vec_items l.self.nodes in
    reaches (length ns - l.counter) ns l.b l.at ≡ reaches (length ns) ns l.b l.initial.at
