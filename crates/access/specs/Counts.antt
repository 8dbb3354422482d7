-- What one read or write does to a board.
use Rattle.std.specs.Prelude.{◌≡◌, ℕ, ◌-◌, true, false, Some, None, Ok, Err, Result}
use Rattle.std.specs.Option.{option_map}
use Rattle.pci.specs.declared.Name.{Name}
use Rattle.pci.specs.declared.Loss.{Loss}
use Rattle.access.specs.Access.{loss_told}
use Rattle.access.specs.Boards.{grants_next}
use Rattle.access.specs.declared.board.Board.{Board}

-- granted: the board is not lost and takes one of those left; else it is lost, now or before
abbrev pub Counted : Board → Name → ℕ → Result (Unit {0}) Loss → Board → Type 0
Counted b at offset (Ok u) b' = (b.loss ≡ None) × (grants_next b.left ≡ true) × (b'.left ≡ option_map (λ n. n - 1) b.left) × (b'.loss ≡ None)
Counted b at offset (Err l) b' = (l ≡ loss_told b.loss at offset) × (b.loss ≡ None → grants_next b.left ≡ false) × (b'.left ≡ b.left) × (b'.loss ≡ Some l)
