-- When a board is lost, as its count has it and as its meaning has it.
use Rattle.std.proofs.Common.{◌≡◌, ℕ, ◌-◌, ◌<◌, true, false, List, Some, None, Ok, Err, vec_items, Option, sym, refl, ap, ◌∙◌, arith}
use Rattle.std.proofs.lemmas.Bool.{ltb-true, ltb-false, both_ways}
use Rattle.std.specs.Option.{option_map}
use Rattle.pci.specs.declared.Name.{Name}
use Rattle.pci.specs.declared.Loss.{Loss}
use Rattle.machine.specs.declared.Machine.{Machine}
use Rattle.machine.specs.declared.Node.{Node}
use Rattle.machine.specs.Machine.{read_of, written}
use Rattle.access.specs.Access.{State, Due, Allows, Falls, later, Loses, granted_with, Reads, Writes}
use Rattle.access.specs.Boards.{due_in, grants_next, board_state}
use Rattle.access.specs.Counts.{Counted}
use Rattle.access.specs.declared.board.Board.{Board}
use Rattle.access.proofs.Buses.{answers_all, writes_all}

allowed : (o : Option ℕ) → grants_next o ≡ true → Allows (due_in o) 1
allowed None e = tt
allowed (Some n) e = ltb-true 0 n e

fallen : (o : Option ℕ) → grants_next o ≡ false → Falls (due_in o) 0
fallen None e = absurd (both_ways true e refl)
fallen (Some n) e = omega (arith, ltb-false 0 n e)

one_less : (o : Option ℕ) → due_in (option_map (λ n. n - 1) o) ≡ later (due_in o) 1
one_less None = refl
one_less (Some n) = refl

-- a state by its parts
pub parts : (ms ns : List Node) (l k : Option Loss) (d e : Due) → ms ≡ ns → l ≡ k → d ≡ e → ◌≡◌ {A = State} (record { machine = ms; last = 255; loss = l; due = d }) (record { machine = ns; last = 255; loss = k; due = e })
parts ms ns l k d e p q r =
    ap (λ (x : List Node). let s : State = record { machine = x; last = 255; loss = l; due = d } in s) p
    ∙ ap (λ (x : Option Loss). let s : State = record { machine = ns; last = 255; loss = x; due = d } in s) q
    ∙ ap (λ (x : Due). let s : State = record { machine = ns; last = 255; loss = k; due = x } in s) r

-- a read or write that the board's count lost, and one that it granted
pub loses : (b b' : Board) (at : Name) (offset : ℕ) (l : Loss) → b'.machine ≡ b.machine → Counted b at offset (Err l) b' → Loses (board_state b) at offset l (board_state b')
loses b b' at offset l m (q, f, d, e) = (
  q,
  λ n. fallen b.left (f n),
  parts (vec_items b'.machine.nodes) (vec_items b.machine.nodes) b'.loss (Some l) (due_in b'.left) (due_in b.left) (ap (λ (x : Machine). vec_items x.nodes) m) e (ap due_in d),
)

grants : (b b' : Board) (at : Name) (offset : ℕ) (ns : List Node) → vec_items b'.machine.nodes ≡ ns → Counted b at offset (Ok tt) b' → board_state b' ≡ granted_with (board_state b) ns
grants b b' at offset ns m (n, g, d, e) =
    parts (vec_items b'.machine.nodes) ns b'.loss None (due_in b'.left) (later (due_in b.left) 1) m e (ap due_in d ∙ one_less b.left)

-- a read and a write that the board's count granted are those of the access that it means
pub granted_read : (b b' : Board) (at : Name) (offset : ℕ) → at.bus < 256 → b'.machine ≡ b.machine → Counted b at offset (Ok tt) b' → Reads (board_state b) at offset (Ok (read_of (vec_items b.machine.nodes) at offset)) (board_state b')
granted_read b b' at offset h m k = (
  k.0,
  allowed b.left k.1,
  grants b b' at offset (vec_items b.machine.nodes) (ap (λ (x : Machine). vec_items x.nodes) m) k,
  sym (answers_all (vec_items b.machine.nodes) at offset h),
)

pub granted_write : (b b' : Board) (at : Name) (offset v : ℕ) → at.bus < 256 → vec_items b'.machine.nodes ≡ written (vec_items b.machine.nodes) at offset v → Counted b at offset (Ok tt) b' → Writes (board_state b) at offset v (Ok tt) (board_state b')
granted_write b b' at offset v h e k = (
  k.0,
  allowed b.left k.1,
  grants b b' at offset _ (e ∙ sym (writes_all (vec_items b.machine.nodes) at offset v h)) k,
)
