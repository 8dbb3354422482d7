use Rattle.std.proofs.Common.{◌≡◌, drop, vec_items}
use Rattle.std.specs.List.{position_from}
use Rattle.machine.specs.Machine.{hits, selected}
use Rattle.machine.proofs.Machine.find.Given as goal

-- what is left decides
abbrev pub invariant-loop-i : goal.invariant-loop-i
invariant-loop-i l =
    let ns = vec_items l.self.nodes in
    position_from (hits ns l.at) l.i (drop l.i ns) ≡ selected ns l.at
