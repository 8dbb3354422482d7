-- The line of a refusal, and what comes of putting it behind what is kept.
use Rattle.std.specs.Prelude.{ℕ, List, [], ◌∷◌, Some, None, codes, decimal, Option}
use Rattle.pci.specs.declared.Name.{Name}
use Rattle.pci.specs.declared.fault.Told.{Told}
use Rattle.listing.specs.Fields.{name, dash, layer, line}
use Rattle.listing.specs.Kept.{Stands, Gone}

-- the name concerned, or a dash
abbrev pub concerned : Option Name → List ℕ
concerned None = dash
concerned (Some n) = name n

-- no,NUMBER,LAYER,NAME or -,P,Q
abbrev pub no_line : Told → List ℕ
no_line t = line (codes "no") (decimal t.number ∷ layer t.layer ∷ concerned t.name ∷ decimal t.p ∷ decimal t.q ∷ [])

-- the line stands behind the first `at` bytes, with the new length; or it does not fit, and those bytes are as they were
abbrev pub Behind : Option ℕ → List ℕ → ℕ → List ℕ → List ℕ → Type 0
Behind (Some n) buf at text buf' = Stands buf at text buf' n
Behind None buf at text buf' = Gone buf at text buf' at
