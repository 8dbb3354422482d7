-- The board: what it means, and when it is lost.
use Rattle.std.specs.Prelude.{◌≡◌, ℕ, ◌+◌, ◌-◌, ◌<◌, Bool, true, false, List, [], ◌∷◌, length, is_ok, Some, None, vec_items, Option, Result, nat_lt, slice_index_or}
use Rattle.std.specs.Option.{option_map}
use Rattle.pci.specs.declared.Name.{Name}
use Rattle.pci.specs.declared.Loss.{Loss}
use Rattle.machine.specs.declared.Machine.{Machine}
use Rattle.access.specs.Access.{State, Due, never, after_more, Reads, Writes}
use Rattle.access.specs.declared.board.Board.{Board}

-- so many reads and writes are left to be granted; none means that every one will be
abbrev pub due_in : Option ℕ → Due
due_in None = never
due_in (Some n) = after_more n

-- where the n-th is to be lost, those before it are granted
abbrev pub due_of : Option ℕ → Due
due_of lose = due_in (option_map (λ n. n - 1) lose)

-- a board's machine is its file's, and its last bus is 255
abbrev pub board_state : Board → State
board_state b = record { machine = vec_items b.machine.nodes; last = 255; loss = b.loss; due = due_in b.left }

-- a new board of this machine, which is to lose its n-th read or write where `lose` is n
pub record New (machine : Machine) (lose : Option ℕ) (b : Board) : Type 0 where
  pub keeps : b.machine ≡ machine
  pub grants : b.left ≡ option_map (λ n. n - 1) lose
  pub unlost : b.loss ≡ None

-- whether the next one is granted, where so many are left
abbrev pub grants_next : Option ℕ → Bool
grants_next None = true
grants_next (Some n) = nat_lt 0 n

-- reads and writes one after another through an access, and which of them were granted
pub data Accesses : State → List Bool → State → Type 0 where
  none : {s : State} → Accesses s [] s
  one_read : {s t u : State} {more : List Bool} (at : Name) (offset : ℕ) (r : Result ℕ Loss) → Reads s at offset r t → Accesses t more u → Accesses s (is_ok r ∷ more) u
  one_write : {s t u : State} {more : List Bool} (at : Name) (offset v : ℕ) (r : Result (Unit {0}) Loss) → Writes s at offset v r t → Accesses t more u → Accesses s (is_ok r ∷ more) u

-- A new board that is to lose its n-th read or write grants all before it, and none from it on; i counts from 0.
abbrev pub LostFromTheNth : Type 0
LostFromTheNth =
    (machine : Machine) (n : ℕ) (b : Board) (t : State) (granted : List Bool) → New machine (Some n) b → Accesses (board_state b) granted t →
    (i : ℕ) → i < length granted → slice_index_or granted i false ≡ nat_lt (i + 1) n

-- A new board that is to lose none grants every one.
abbrev pub NeverLost : Type 0
NeverLost =
    (machine : Machine) (b : Board) (t : State) (granted : List Bool) → New machine None b → Accesses (board_state b) granted t →
    (i : ℕ) → i < length granted → slice_index_or granted i false ≡ true
