-- Every bus is within a last bus of 255.
use Rattle.std.proofs.Common.{◌≡◌, ℕ, ◌/◌, ◌<◌, ◌≤◌, cond, List, None, ap, arith}
use Rattle.std.proofs.lemmas.Bool.{le-leb}
use Rattle.pci.specs.declared.Name.{Name}
use Rattle.machine.specs.declared.Node.{Node}
use Rattle.machine.specs.Machine.{chosen, read_at, write_at, read_of, written}
use Rattle.access.specs.Access.{answer, after}

pub answers_all : (ns : List Node) (at : Name) (offset : ℕ) → at.bus < 256 → answer 255 ns at offset ≡ read_of ns at offset
unfolding answer
answers_all ns at offset h =
    let l : at.bus ≤ 255 = omega arith in
    ap (λ x. read_at ns (cond x (chosen ns at offset) None) (offset / 4)) (le-leb at.bus 255 l)

pub writes_all : (ns : List Node) (at : Name) (offset v : ℕ) → at.bus < 256 → after 255 ns at offset v ≡ written ns at offset v
unfolding after
writes_all ns at offset v h =
    let l : at.bus ≤ 255 = omega arith in
    ap (λ x. write_at ns (cond x (chosen ns at offset) None) (offset / 4) v) (le-leb at.bus 255 l)
