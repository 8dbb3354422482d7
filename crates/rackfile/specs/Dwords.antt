-- What the dwords of a node are, by the lines that name them.
use Rattle.std.specs.Prelude.{◌≡◌, ℕ, ◌+◌, ◌/◌, ◌%◌, ◌<◌, ◌≤◌, Bool, cond, ◌&&◌, List, [], ◌∷◌, ◌++◌, map, length, Some, Option, ◌==◌}
use Rattle.std.specs.List.{AllByRecursion, find}
use Rattle.std.specs.Option.{option_map_or}
use Rattle.pci.specs.Fields.{kind_of}
use Rattle.machine.specs.Machine.{dword}
use Rattle.machine.specs.declared.Node.{Node}
use Rattle.rackfile.specs.Form.{Holds}
use Rattle.rackfile.specs.Reading.{State}
use Rattle.rackfile.specs.Written.{through}
use Rattle.rackfile.specs.declared.line.Named.{Named}
use Rattle.rackfile.specs.declared.line.Line.TheVariants.{Function, Register}

-- the line that names dword k
abbrev pub naming : List Named → ℕ → Option Named
naming rs k = find (λ r. r.offset / 4 == k) rs

-- the value of dword k under these lines: 0 where none names it
abbrev pub value_at : List Named → ℕ → ℕ
value_at rs k = option_map_or (λ (r : Named). r.dword.value) (naming rs k) 0

-- these lines make a bridge: the kind is 1
abbrev pub is_bridge : List Named → Bool
is_bridge rs = kind_of (value_at rs 3) == 1

-- the masks of a bridge at 18h, 1Ch and 20h, and else m
abbrev pub in_bridge : Bool → ℕ → ℕ → ℕ
in_bridge b k m = cond (b && k == 6) 0x00FFFFFF (cond (b && k == 7) 0x0000F0F0 (cond (b && k == 8) 0xFFF0FFF0 m))

-- the mask of dword k under these lines; where none names it, a bridge's own, 7 at 04h and else 0
abbrev pub mask_at : List Named → ℕ → ℕ
mask_at rs k = option_map_or (λ (r : Named). r.dword.mask) (naming rs k) (in_bridge (is_bridge rs) k (cond (k == 1) 7 0))

-- offsets of dwords that rise from f on
abbrev pub Rising : ℕ → List Named → Type 0
Rising f [] = Unit {0}
Rising f (r ∷ rs) = (f ≤ r.offset) × (r.offset < 256) × (r.offset % 4 ≡ 0) × Rising (r.offset + 4) rs

-- a node as these lines name its dwords
pub record Made (p : Option ℕ) (d f : ℕ) (rs : List Named) (n : Node) : Type 0 where
  pub parent : n.parent ≡ p
  pub device : n.device ≡ d
  pub function : n.function ≡ f
  pub dwords_len : length n.dwords ≡ 64
  pub dwords : (k : ℕ) → k < 64 → dword n k ≡ record { value = value_at rs k; mask = mask_at rs k }

-- a line `fn` and its lines `rg`, where they may stand, rise and add such a node
abbrev pub NodeTold : Type 0
NodeTold =
    (s t : State) (p : Option ℕ) (d f : ℕ) (rs : List Named) → AllByRecursion Holds (map Register rs) → through (Function p d f ∷ map Register rs) s ≡ Some t →
    Rising 0 rs × ((n : Node) × (t.nodes ≡ s.nodes ++ (n ∷ [])) × Made p d f rs n)
