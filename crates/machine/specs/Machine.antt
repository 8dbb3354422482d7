-- What a machine answers to names: which node is selected, what is read, what a write leaves.
use Rattle.std.specs.Prelude.{◌≡◌, ℕ, zero, suc, ◌/◌, ◌%◌, Bool, true, false, cond, ◌&&◌, List, [], length, Some, None, Option, ◌==◌, ◌≢◌, bit_and, bit_or, bit_xor, nat_eq, nat_le, nat_lt, slice_index_or, slice_set}
use Rattle.std.specs.List.{position}
use Rattle.std.specs.Option.{option_eq}
use Rattle.pci.specs.declared.Name.{Name}
use Rattle.pci.specs.Fields.{kind_of, secondary_of, subordinate_of}
use Rattle.machine.specs.declared.Dword.{Dword}
use Rattle.machine.specs.declared.Node.{Node}

-- a dword that nobody named
abbrev pub blank : Dword
blank = record { value = 0; mask = 0 }

-- a dword, by its place: 00h is at 0, 04h at 1, FCh at 63
abbrev pub dword : Node → ℕ → Dword
dword n k = slice_index_or n.dwords k blank

-- its value
abbrev pub value : Node → ℕ → ℕ
value n k = (dword n k).value

-- its writable bits
abbrev pub mask : Node → ℕ → ℕ
mask n k = (dword n k).mask

-- the bus that a bridge makes, from its dword 18h
abbrev pub secondary : Node → ℕ
secondary n = secondary_of (value n 6)

-- the highest bus below a bridge
abbrev pub subordinate : Node → ℕ
subordinate n = subordinate_of (value n 6)

-- the kind, from dword 0Ch: 0 endpoint, 1 bridge, others strange
abbrev pub kind : Node → ℕ
kind n = kind_of (value n 3)

-- a bridge is of kind 1
abbrev pub bridge : Node → Bool
bridge n = kind n == 1

-- stands past the end of the list
abbrev pub nowhere : Node
nowhere = record { parent = None; device = 0; function = 0; dwords = [] }

-- node i of a machine
abbrev pub node : List Node → ℕ → Node
node ns i = slice_index_or ns i nowhere

-- two parents are the same: both the host, or both the same node
abbrev pub same_parent : Option ℕ → Option ℕ → Bool
same_parent = option_eq nat_eq

-- the bridge n hands the bus number b on to the bridges of its own bus
abbrev pub passes : ℕ → Node → Bool
passes b n = bridge n && (nat_lt (secondary n) b && nat_le b (subordinate n))

-- b comes down to the bus that p makes (the host's bus for none), by at most k bridges
abbrev pub reaches : ℕ → List Node → ℕ → Option ℕ → Bool
reaches zero ns b None = true
reaches (suc k) ns b None = true
reaches zero ns b (Some p) = false
reaches (suc k) ns b (Some p) = passes b (node ns p) && reaches k ns b (node ns p).parent

-- the bus that p makes is the one that b selects on: the host's is bus 0, a bridge's is that of its secondary number
abbrev pub on_bus : List Node → ℕ → Option ℕ → Bool
on_bus ns b None = b == 0
on_bus ns b (Some p) =
    nat_lt 0 b && ((bridge (node ns p) && (secondary (node ns p) == b && nat_le b (subordinate (node ns p)))) && reaches (length ns) ns b (node ns p).parent)

-- the name selects the node n; a device above 31 or a function above 7 selects nothing
abbrev pub hits : List Node → Name → Node → Bool
hits ns at n = (nat_lt at.device 32 && nat_lt at.function 8) && ((n.device == at.device && n.function == at.function) && on_bus ns at.bus n.parent)

-- where a name selects several nodes, the lowest alone acts
abbrev pub selected : List Node → Name → Option ℕ
selected ns at = position (hits ns at) ns

-- what a read of dword k answers: all ones where nothing is selected
abbrev pub read_at : List Node → Option ℕ → ℕ → ℕ
read_at ns None k = 0xffffffff
read_at ns (Some i) k = value (node ns i) k

-- new bits under the mask, old bits elsewhere
abbrev pub merged : ℕ → ℕ → ℕ → ℕ
merged m old new = bit_or (bit_and new m) (bit_and old (bit_xor m 0xffffffff))

-- a dword after a write
abbrev pub put_in : Dword → ℕ → Dword
put_in d v = record { value = merged d.mask d.value v; mask = d.mask }

-- the node with another dword k
abbrev pub with_dword : Node → ℕ → Dword → Node
with_dword n k d = record { parent = n.parent; device = n.device; function = n.function; dwords = slice_set n.dwords k d }

-- a node after a write to its dword k
abbrev pub written_dword : Node → ℕ → ℕ → Node
written_dword n k v = with_dword n k (put_in (dword n k) v)

-- a write to dword k: nothing where nothing is selected
abbrev pub write_at : List Node → Option ℕ → ℕ → ℕ → List Node
write_at ns None k v = ns
write_at ns (Some i) k v = slice_set ns i (written_dword (node ns i) k v)

-- an offset that is no dword's selects nothing
abbrev pub chosen : List Node → Name → ℕ → Option ℕ
chosen ns at offset = cond (offset % 4 == 0) (selected ns at) None

-- what a read answers
abbrev pub read_of : List Node → Name → ℕ → ℕ
read_of ns at offset = read_at ns (chosen ns at offset) (offset / 4)

-- the machine after a write
abbrev pub written : List Node → Name → ℕ → ℕ → List Node
written ns at offset v = write_at ns (chosen ns at offset) (offset / 4) v

-- a write to another dword than the bus numbers' and the kind's moves no name
abbrev pub SelectionStays : Type 0
SelectionStays = (ns : List Node) (to : Name) (offset v : ℕ) (at : Name) → (6 ≢ offset / 4) → (3 ≢ offset / 4) → selected (written ns to offset v) at ≡ selected ns at
