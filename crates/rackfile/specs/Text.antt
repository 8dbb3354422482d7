-- How a text is parted, and what a reader of a text answers.
use Rattle.std.specs.Prelude.{◌≡◌, ℕ, List, [], ◌∷◌, Some, None, Option, ◌==◌, ◌≢◌}
use denote.Ref.{Bor}
use Rattle.std.specs.List.{slice_split}

-- the answer of a reader: what the text writes, or nothing where it writes none of those that hold
abbrev pub Reads : {A X : Type 0} → (A → X) → (A → Type 0) → X → Option A → Type 0
Reads {A} writes holds text None = (x : A) → holds x → writes x ≢ text
Reads writes holds text (Some x) = holds x × (writes x ≡ text)

-- the pieces that the byte b parts
abbrev pub parted : ℕ → List ℕ → List (List ℕ)
parted b = slice_split (λ x. x == b)

-- the pieces that are given, up to the first that is not, and more of them where all are
abbrev pub given : List (Option (Bor (List ℕ))) → List (List ℕ) → List (List ℕ)
given [] more = more
given (None ∷ ps) more = []
given (Some p ∷ ps) more = p.now ∷ given ps more
