-- The seven laws that a machine keeps at reset, and what the test of them answers.
use Rattle.std.specs.Prelude.{◌≡◌, ℕ, ◌+◌, ◌/◌, ◌%◌, ◌<◌, Bool, true, false, cond, not, ◌&&◌, ◌||◌, List, length, take, drop, Some, None, Ok, Err, Option, Result, MatchResult, ◌==◌, bit_and, bit_or, bit_xor, nat_lt, slice_range}
use Rattle.std.specs.List.{find, list_all, list_any}
use Rattle.pci.specs.Fields.{absent, several}
use Rattle.pci.specs.Faults.{law_number}
use Rattle.pci.specs.declared.Law.{Law}
use Rattle.pci.specs.declared.Law.TheVariants.{Parent, Place, Device, Identity, Command, Bridge, Bar}
use Rattle.pci.specs.declared.fault.Fault.{Fault}
use Rattle.pci.specs.declared.fault.Fault.TheVariants.{Unlawful}
use Rattle.machine.specs.Machine.{same_parent, value, mask, kind, bridge, node}
use Rattle.machine.specs.declared.Dword.{Dword}
use Rattle.machine.specs.declared.Node.{Node}

-- how many BAR dwords a function of this kind has: six in an endpoint, two in a bridge, none in another
abbrev pub bar_count : ℕ → ℕ
bar_count k = cond (k == 0) 6 (cond (k == 1) 2 0)

-- a node's BAR dwords, from 10h on
abbrev pub bars : Node → List Dword
bars n = slice_range n.dwords 4 (4 + bar_count (kind n))

-- two nodes are of one device: they share parent and device number
abbrev pub beside : Node → Node → Bool
beside a b = same_parent a.parent b.parent && a.device == b.device

-- two nodes share parent, device and function
abbrev pub alike : Node → Node → Bool
alike a b = beside a b && a.function == b.function

-- b is of a's device, and its function is 0
abbrev pub zero_of : Node → Node → Bool
zero_of a b = beside a b && b.function == 0

-- b is of a's device, and its function is not 0
abbrev pub other_of : Node → Node → Bool
other_of a b = beside a b && not (b.function == 0)

-- node i may have this parent: the host, or an earlier node that is a bridge
abbrev pub earlier_bridge : List Node → ℕ → Option ℕ → Bool
earlier_bridge ns i None = true
earlier_bridge ns i (Some p) = nat_lt p i && bridge (node ns p)

-- law 1: the parent is the host or an earlier bridge
abbrev pub lawful_parent : List Node → ℕ → Bool
lawful_parent ns i = earlier_bridge ns i (node ns i).parent

-- a later node shares node i's parent, device and function
abbrev pub repeated : List Node → ℕ → Bool
repeated ns i = list_any (alike (node ns i)) (drop (i + 1) ns)

-- law 2: no later node shares parent, device and function, so two that do are counted at the lower
abbrev pub lawful_place : List Node → ℕ → Bool
lawful_place ns i = not (repeated ns i)

-- an earlier node is of node i's device
abbrev pub preceded : List Node → ℕ → Bool
preceded ns i = list_any (beside (node ns i)) (take i ns)

-- node i is the lowest node of its device
abbrev pub lowest : List Node → ℕ → Bool
lowest ns i = nat_lt i (length ns) && not (preceded ns i)

-- bit 23 of 0Ch is set
abbrev pub many : Node → Bool
many n = several (value n 3)

-- the device of n has functions other than 0
abbrev pub shared : List Node → Node → Bool
shared ns n = list_any (other_of n) ns

-- the device of n has a function 0, here where it was found, with bit 23 of 0Ch set if the device has others
abbrev pub headed : List Node → Node → Option Node → Bool
headed ns n None = false
headed ns n (Some z) = not (shared ns n) || many z

-- law 3: the device has a function 0, which tells of the others where there are some; told of the device's lowest node
abbrev pub lawful_device : List Node → ℕ → Bool
lawful_device ns i = not (lowest ns i) || headed ns (node ns i) (find (zero_of (node ns i)) ns)

-- law 4: 00h is not writable and its low half is not FFFFh, and bits 16 to 23 of 0Ch are not writable
abbrev pub lawful_identity : Node → Bool
lawful_identity n = mask n 0 == 0 && (not (absent (value n 0)) && mask n 3 / 0x10000 % 0x100 == 0)

-- an I/O BAR can be turned on by bit 0 of 04h, and a memory BAR whose mask is not 0 by bit 1, where this mask of 04h makes it writable
abbrev pub enabled : ℕ → Dword → Bool
enabled command bar = cond (bar.value % 2 == 1) (command % 2 == 1) (bar.mask == 0 || command / 2 % 2 == 1)

-- law 5: the low half of 04h is zero, its upper half is not writable, and bits 0 and 1 are writable in a bridge and as the BARs need them
abbrev pub lawful_command : Node → Bool
lawful_command n =
    (value n 1 % 0x10000 == 0 && mask n 1 / 0x10000 == 0)
    && ((not (bridge n) || mask n 1 % 4 == 3) && list_all (enabled (mask n 1)) (bars n))

-- bits 0 to 23 of 18h are writable, and the masks of 1Ch and 20h are 0000F0F0h and FFF0FFF0h
abbrev pub windows_masked : Node → Bool
windows_masked n = mask n 6 % 0x1000000 == 0xFFFFFF && (mask n 7 == 0x0000F0F0 && mask n 8 == 0xFFF0FFF0)

-- all these bits and the rest of 20h are zero
abbrev pub windows_zero : Node → Bool
windows_zero n = value n 6 % 0x1000000 == 0 && (bit_and (value n 7) 0x0000F0F0 == 0 && value n 8 == 0)

-- the dword is zero with mask 0
abbrev pub cleared : Dword → Bool
cleared d = d.value == 0 && d.mask == 0

-- law 6: in a bridge 18h, 1Ch and 20h have their masks and are zero, and 24h to 30h are zero with mask 0
abbrev pub lawful_bridge : Node → Bool
lawful_bridge n = not (bridge n) || (windows_masked n && (windows_zero n && list_all cleared (slice_range n.dwords 9 13)))

-- the bits of a BAR that are never writable: the low four, or the low two where bit 0 is 1
abbrev pub fixed_bits : ℕ → ℕ
fixed_bits v = cond (v % 2 == 1) 3 15

-- in a BAR dword the fixed bits are not writable, and every other bit that is not writable is zero
abbrev pub formed : Dword → Bool
formed bar =
    (bit_and bar.mask (fixed_bits bar.value) == 0)
    && bit_and bar.value (bit_xor (bit_or bar.mask (fixed_bits bar.value)) 0xFFFFFFFF) == 0

-- law 7: each BAR dword has that form
abbrev pub lawful_bars : Node → Bool
lawful_bars n = list_all formed (bars n)

-- node i keeps the law
abbrev pub keeps : List Node → ℕ → Law → Bool
keeps ns i Parent = lawful_parent ns i
keeps ns i Place = lawful_place ns i
keeps ns i Device = lawful_device ns i
keeps ns i Identity = lawful_identity (node ns i)
keeps ns i Command = lawful_command (node ns i)
keeps ns i Bridge = lawful_bridge (node ns i)
keeps ns i Bar = lawful_bars (node ns i)

-- node i keeps all laws before this one
abbrev pub KeepsBefore : List Node → ℕ → Law → Type 0
KeepsBefore ns i l = (k : Law) → law_number k < law_number l → keeps ns i k ≡ true

-- node i keeps every law
abbrev pub KeepsAll : List Node → ℕ → Type 0
KeepsAll ns i = (k : Law) → keeps ns i k ≡ true

-- the machine is lawful: each node keeps every law
abbrev pub Lawful : List Node → Type 0
Lawful ns = (i : ℕ) → i < length ns → KeepsAll ns i

-- node i keeps every law, or the law answered is the first that it breaks
abbrev pub AtNode : List Node → ℕ → Result (Unit {0}) Law → Type 0
AtNode ns i r = MatchResult r (λ u. KeepsAll ns i) (λ l. (keeps ns i l ≡ false) × KeepsBefore ns i l)

-- the refusal names the first node that breaks a law, and the first law that it breaks
pub record NamesFirst (ns : List Node) (fault : Fault) : Type 0 where
  pub at : ℕ
  pub law : Law
  pub is : fault ≡ Unlawful at law
  pub within : at < length ns
  pub broken : keeps ns at law ≡ false
  pub laws_before : KeepsBefore ns at law
  pub nodes_before : (i : ℕ) → i < at → KeepsAll ns i

-- the answer of the test: the machine is lawful, or the refusal names the first breach
abbrev pub Tested : List Node → Result (Unit {0}) Fault → Type 0
Tested ns (Ok u) = Lawful ns
Tested ns (Err fault) = NamesFirst ns fault
