-- An access that reaches fewer buses than the one below it: the same within its last bus, and nothing above it.
use Rattle.std.proofs.Common.{◌≡◌, ℕ, ◌/◌, ◌<◌, ◌≤◌, cond, List, None, Ok, Err, Option, Result, sym, ap, ◌∙◌, ap₂}
use Rattle.std.proofs.lemmas.Bool.{le-leb, lt-leb}
use Rattle.pci.specs.declared.Name.{Name}
use Rattle.pci.specs.declared.Loss.{Loss}
use Rattle.machine.specs.declared.Node.{Node}
use Rattle.machine.specs.Machine.{chosen, read_at, write_at}
use Rattle.access.specs.Access.{State, unknown, reached, answer, after, Reads, Writes}

-- the same machine and loss up to another last bus, where it is not known when it will be lost
abbrev pub up_to : ℕ → State → State
up_to last s = record { machine = s.machine; last = last; loss = s.loss; due = unknown }

reached_within : (a b : ℕ) (ns : List Node) (at : Name) (offset : ℕ) → at.bus ≤ a → at.bus ≤ b → reached a ns at offset ≡ reached b ns at offset
reached_within a b ns at offset h g = ap (λ x. cond x (chosen ns at offset) None) (le-leb at.bus a h ∙ sym (le-leb at.bus b g))

reached_above : (last : ℕ) (ns : List Node) (at : Name) (offset : ℕ) → last < at.bus → reached last ns at offset ≡ None
reached_above last ns at offset h = ap (λ x. cond x (chosen ns at offset) None) (lt-leb at.bus last h)

pub reads_within : (s s' : State) (last : ℕ) (at : Name) (offset : ℕ) (r : Result ℕ Loss) → at.bus ≤ last → at.bus ≤ s.last → Reads s at offset r s' → Reads (up_to last s) at offset r (up_to last s')
unfolding answer
reads_within s s' last at offset (Ok v) h g (n, a, e, q) =
    (n, tt, ap (up_to last) e, q ∙ ap (λ o. read_at s.machine o (offset / 4)) (reached_within s.last last s.machine at offset g h))
reads_within s s' last at offset (Err l) h g (q, f, e) = (q, λ _. tt, ap (up_to last) e)

pub writes_within : (s s' : State) (last : ℕ) (at : Name) (offset v : ℕ) (r : Result (Unit {0}) Loss) → at.bus ≤ last → at.bus ≤ s.last → Writes s at offset v r s' → Writes (up_to last s) at offset v r (up_to last s')
unfolding after
writes_within s s' last at offset v (Ok u) h g (n, a, e) =
    (n, tt, ap (up_to last) e ∙ ap (λ o. let t : State = record { machine = write_at s.machine o (offset / 4) v; last = last; loss = None; due = unknown } in t) (reached_within s.last last s.machine at offset g h))
writes_within s s' last at offset v (Err l) h g (q, f, e) = (q, λ _. tt, ap (up_to last) e)

-- a read above the last bus answers all ones, and a write there does nothing
pub reads_above : (s : State) (last : ℕ) (at : Name) (offset : ℕ) → last < at.bus → s.loss ≡ None → Reads (up_to last s) at offset (Ok 0xffffffff) (up_to last s)
unfolding answer
reads_above s last at offset h n =
    (n, tt, ap (λ (l : Option Loss). let t : State = record { machine = s.machine; last = last; loss = l; due = unknown } in t) n, sym (ap (λ o. read_at s.machine o (offset / 4)) (reached_above last s.machine at offset h)))

pub writes_above : (s : State) (last : ℕ) (at : Name) (offset v : ℕ) → last < at.bus → s.loss ≡ None → Writes (up_to last s) at offset v (Ok tt) (up_to last s)
unfolding after
writes_above s last at offset v h n =
    let e : write_at s.machine (reached last s.machine at offset) (offset / 4) v ≡ s.machine = ap (λ o. write_at s.machine o (offset / 4) v) (reached_above last s.machine at offset h) in
    (n, tt, ap₂ (λ (ns : List Node) (l : Option Loss). let t : State = record { machine = ns; last = last; loss = l; due = unknown } in t) (sym e) n)
