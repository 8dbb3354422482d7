-- A node as its lines of a machine file make it.
use Rattle.std.specs.Prelude.{ℕ, ◌/◌, Bool, cond, ◌&&◌, List, replicate, Option, ◌==◌, slice_index_or, slice_set}
use Rattle.pci.specs.Fields.{kind_of}
use Rattle.machine.specs.Machine.{blank}
use Rattle.machine.specs.declared.Dword.{Dword}
use Rattle.machine.specs.declared.Node.{Node}

-- a node of which no dword is named: all are 0, and so are the masks but that of 04h
abbrev pub fresh : Option ℕ → ℕ → ℕ → Node
fresh p d f = record { parent = p; device = d; function = f; dwords = slice_set (replicate 64 blank) 1 (record { value = 0; mask = 7 }) }

-- the dwords with another mask at place k
abbrev pub masked : List Dword → ℕ → ℕ → List Dword
masked ds k m = slice_set ds k (record { value = (slice_index_or ds k blank).value; mask = m })

-- the masks that a bridge has at 18h, 1Ch and 20h where these are not named
abbrev pub bridge_masks : List Dword → List Dword
bridge_masks ds = masked (masked (masked ds 6 0x00FFFFFF) 7 0x0000F0F0) 8 0xFFF0FFF0

-- offset 0Ch and a kind of 1
abbrev pub makes_bridge : ℕ → ℕ → Bool
makes_bridge o v = o == 12 && kind_of v == 1

-- the node with one more dword named; a bridge gets its masks with its kind, and a later line may name them
abbrev pub named : Node → ℕ → ℕ → ℕ → Node
named n o v m =
    let ds = slice_set n.dwords (o / 4) (record { value = v; mask = m }) in
    record { parent = n.parent; device = n.device; function = n.function; dwords = cond (makes_bridge o v) (bridge_masks ds) ds }
