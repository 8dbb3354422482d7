-- The kinds of functions and their numbers.
use Rattle.std.specs.Prelude.{◌≡◌, ℕ, zero, suc, ◌<◌, Ok, Err, Result, MatchResult}
use Rattle.pci.specs.declared.kind.Kind.{Kind}
use Rattle.pci.specs.declared.kind.Kind.TheVariants.{Endpoint, Bridge}
use Rattle.pci.specs.declared.kind.Strange.{Strange}

-- the numbers of the kinds
abbrev pub kind_number : Kind → ℕ
kind_number Endpoint = 0
kind_number Bridge = 1

-- the kind of a number, and no kind above 1
abbrev pub decoded : ℕ → Result Kind Strange
decoded zero = Ok Endpoint
decoded (suc zero) = Ok Bridge
decoded (suc (suc n)) = Err (record { number = suc (suc n) })

-- the answer is that, which is the kind with this number, or tells the number, which no kind has
abbrev pub Decodes : ℕ → Result Kind Strange → Type 0
Decodes n r = (r ≡ decoded n) × MatchResult r (λ kind. kind_number kind ≡ n) (λ strange. (strange.number ≡ n) × (1 < n))
