-- The longest run of whole lines that fits, and what a listing from the buffer's first byte on answers.
use Rattle.std.specs.Prelude.{◌≡◌, ℕ, ◌-◌, ◌<◌, ◌≤◌, cond, List, [], ◌∷◌, ◌++◌, length, take, Ok, Err, Result, nat_le}
use Rattle.pci.specs.declared.fault.Fault.{Fault}
use Rattle.pci.specs.declared.fault.Fault.TheVariants.{Narrow}
use Rattle.listing.specs.Lines.{joined}

-- all lines before the first that does not fit
abbrev pub fitting : ℕ → List (List ℕ) → List ℕ
fitting room [] = []
fitting room (l ∷ ls) = cond (nat_le (length l) room) (l ++ fitting (room - length l) ls) []

-- granted where all lines fit, and then they are what is kept; else refused, and those that fit are kept
abbrev pub Printed : Result ℕ Fault → List ℕ → List (List ℕ) → List ℕ → Type 0
Printed (Ok n) buf ls buf' = (length (joined ls) ≤ length buf) × (n ≡ length (joined ls)) × (take n buf' ≡ joined ls)
Printed (Err e) buf ls buf' =
    (length buf < length (joined ls))
    × (e ≡ Narrow (length (fitting (length buf) ls)))
    × (take (length (fitting (length buf) ls)) buf' ≡ fitting (length buf) ls)
