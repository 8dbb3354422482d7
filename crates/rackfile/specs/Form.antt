-- The lines of a machine file: their fields, and the numbers that may stand in them.
use Rattle.std.specs.Prelude.{◌≡◌, ℕ, ◌%◌, ◌^◌, ◌<◌, ◌≤◌, List, [], ◌∷◌, Some, None, codes, decimal, Option}
use Rattle.pci.specs.Digits.{hex}
use Rattle.rackfile.specs.declared.line.Line.{Line}
use Rattle.rackfile.specs.declared.line.Line.TheVariants.{Apertures, Lose, Function, Register}

-- how a parent is written: a node's number in decimal, or a dash for the host
abbrev pub parent_word : Option ℕ → List ℕ
parent_word None = codes "-"
parent_word (Some p) = decimal p

-- a parent that may be written: the host, or a node up to 79
abbrev pub Parent : Option ℕ → Type 0
Parent None = Unit {0}
Parent (Some p) = p ≤ 79

-- the fields of a line: its word, then its numbers
abbrev pub words : Line → List (List ℕ)
words (Apertures a) = codes "ap" ∷ hex 8 a.memory.low ∷ hex 8 a.memory.high ∷ hex 8 a.io.low ∷ hex 8 a.io.high ∷ []
words (Lose n) = codes "lose" ∷ decimal n ∷ []
words (Function p d f) = codes "fn" ∷ parent_word p ∷ decimal d ∷ decimal f ∷ []
words (Register r) = codes "rg" ∷ hex 2 r.offset ∷ hex 8 r.dword.value ∷ hex 8 r.dword.mask ∷ []

-- the numbers that a line may hold
abbrev pub Holds : Line → Type 0
Holds (Apertures a) = (a.memory.low < 2 ^ 32) × (a.memory.high < 2 ^ 32) × (a.io.low < 2 ^ 32) × (a.io.high < 2 ^ 32)
Holds (Lose n) = (1 ≤ n) × (n ≤ 1000000)
Holds (Function p d f) = Parent p × (d ≤ 31) × (f ≤ 7)
Holds (Register r) = (r.offset < 2 ^ 8) × (r.offset % 4 ≡ 0) × (r.dword.value < 2 ^ 32) × (r.dword.mask < 2 ^ 32)
