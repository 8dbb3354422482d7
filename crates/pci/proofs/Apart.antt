-- A refusal is known by what it tells.
use Rattle.std.proofs.Common.{◌≡◌, ℕ, cond, eqb, Some, None, Option, sym, refl, ap, ◌∙◌}
use Rattle.pci.specs.declared.Name.{Name}
use Rattle.pci.specs.declared.Law.{Law}
use Rattle.pci.specs.declared.Law.TheVariants.{Parent, Place, Device, Identity, Command, Bridge, Bar}
use Rattle.pci.specs.declared.Space.{Space}
use Rattle.pci.specs.declared.Space.TheVariants.{Memory, Io}
use Rattle.pci.specs.declared.fault.Fault.{Fault}
use Rattle.pci.specs.declared.fault.Fault.TheVariants.{Torn, Unlawful, Lost, Strange, Full, Spent, Crooked, Large, Aperture, Short, WrongBook, NoRow, NoAddress, Narrow}
use Rattle.pci.specs.declared.fault.Told.{Told}
use Rattle.pci.specs.Faults.{told, ToldApart}

-- the law of this number
abbrev law_of : ℕ → Law
law_of n =
    cond (eqb n 1) Parent (cond (eqb n 2) Place (cond (eqb n 3) Device (cond (eqb n 4) Identity (cond (eqb n 5) Command (cond (eqb n 6) Bridge Bar)))))

-- the space of this number
abbrev space_of : ℕ → Space
space_of n = cond (eqb n 1) Memory Io

-- the name, where one is told
abbrev name_of : Option Name → Name
name_of None = record { bus = 0; device = 0; function = 0 }
name_of (Some at) = at

-- the refusal that tells this
abbrev refusal : Told → Fault
refusal t =
    cond (eqb t.number 1) (Torn t.p)
    (cond (eqb t.number 2) (Unlawful t.p (law_of t.q))
    (cond (eqb t.number 3) (Lost (record { register = record { at = name_of t.name; offset = t.p } }))
    (cond (eqb t.number 4) (Strange (name_of t.name) t.p)
    (cond (eqb t.number 5) (Full (name_of t.name))
    (cond (eqb t.number 6) (Spent (name_of t.name) t.p)
    (cond (eqb t.number 7) (Crooked (name_of t.name) t.p)
    (cond (eqb t.number 8) (Large (name_of t.name) t.p)
    (cond (eqb t.number 9) (Aperture (space_of t.p))
    (cond (eqb t.number 10) (Short (space_of t.p))
    (cond (eqb t.number 11) WrongBook
    (cond (eqb t.number 12) (NoRow t.p)
    (cond (eqb t.number 13) NoAddress (Narrow t.p)))))))))))))

read_back : (f : Fault) → refusal (told f) ≡ f
read_back (Torn n) = refl
read_back (Unlawful n Parent) = refl
read_back (Unlawful n Place) = refl
read_back (Unlawful n Device) = refl
read_back (Unlawful n Identity) = refl
read_back (Unlawful n Command) = refl
read_back (Unlawful n Bridge) = refl
read_back (Unlawful n Bar) = refl
read_back (Lost l) = refl
read_back (Strange at k) = refl
read_back (Full at) = refl
read_back (Spent at n) = refl
read_back (Crooked at b) = refl
read_back (Large at b) = refl
read_back (Aperture Memory) = refl
read_back (Aperture Io) = refl
read_back (Short Memory) = refl
read_back (Short Io) = refl
read_back WrongBook = refl
read_back (NoRow n) = refl
read_back NoAddress = refl
read_back (Narrow n) = refl

pub told_apart : ToldApart
told_apart f g e = sym (read_back f) ∙ ap refusal e ∙ read_back g
