-- What a field of a line is in bytes, and how fields make a line.
use Rattle.std.specs.Prelude.{ℕ, ◌/◌, ◌%◌, List, [], ◌∷◌, ◌++◌, codes, decimal}
use Rattle.pci.specs.declared.Name.{Name}
use Rattle.pci.specs.declared.fault.Layer.{Layer}
use Rattle.pci.specs.declared.fault.Layer.TheVariants.{File, Access, List as Listing, Job}
use Rattle.listing.specs.declared.fields.Field.{Field}
use Rattle.listing.specs.declared.fields.Field.TheVariants.{At, Dash, Ids, Bus, Decimal, In}
use Rattle.pci.specs.Digits.{hex}

-- bus:device.function
abbrev pub name : Name → List ℕ
name n = hex 2 n.bus ++ (codes ":" ++ (hex 2 n.device ++ (codes "." ++ hex 1 n.function)))

-- no name
abbrev pub dash : List ℕ
dash = codes "-"

-- vendor:device, the low and the high half of dword 00h
abbrev pub ids : ℕ → List ℕ
ids id = hex 4 (id % 65536) ++ (codes ":" ++ hex 4 (id / 65536))

-- the word for a layer
abbrev pub layer : Layer → List ℕ
layer File = codes "file"
layer Access = codes "access"
layer Listing = codes "list"
layer Job = codes "job"

-- the bytes of a field
abbrev pub field : Field → List ℕ
field (At n) = name n
field Dash = dash
field (Ids id) = ids id
field (Bus b) = hex 2 b
field (Decimal n) = decimal n
field (In l) = layer l

-- fields after the first: each is led by a comma, and a line feed ends the line
abbrev pub more : List (List ℕ) → List ℕ
more [] = 10 ∷ []
more (f ∷ fs) = 44 ∷ (f ++ more fs)

-- a line: its first field, then the others
abbrev pub line : List ℕ → List (List ℕ) → List ℕ
line first fs = first ++ more fs
