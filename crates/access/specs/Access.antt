-- What one read or write of an access does, over what the access means before and after it.
use Rattle.std.specs.Prelude.{◌≡◌, ℕ, ◌-◌, ◌/◌, ◌≤◌, cond, List, Some, None, Ok, Err, Option, Result, nat_le}
use Rattle.pci.specs.declared.Name.{Name}
use Rattle.pci.specs.declared.Loss.{Loss}
use Rattle.machine.specs.declared.Node.{Node}
use Rattle.machine.specs.Machine.{chosen, read_at, write_at}

-- When an access will be lost, as far as that is known beforehand: it may be at any time, never, or after so many more reads and writes.
pub data Due : Type 0 where
  unknown : Due
  never : Due
  after_more : ℕ → Due

-- so many more reads and writes can be granted
abbrev pub Allows : Due → ℕ → Type 0
Allows unknown n = Unit {0}
Allows never n = Unit {0}
Allows (after_more k) n = n ≤ k

-- the one that comes after so many more can be lost
abbrev pub Falls : Due → ℕ → Type 0
Falls unknown n = Unit {0}
Falls never n = ⊥
Falls (after_more k) n = k ≡ n

-- the same seen after so many more
abbrev pub later : Due → ℕ → Due
later unknown n = unknown
later never n = never
later (after_more k) n = after_more (k - n)

-- what an access means: the machine, the last bus and, once lost, the name and offset of the loss; and what is known of when it will be lost
pub record State : Type 0 where
  pub machine : List Node
  pub last : ℕ
  pub loss : Option Loss
  pub due : Due

-- the node whose dword is meant; a bus above the last, a device above 31, a function above 7 and an offset that is no dword's select nothing
abbrev pub reached : ℕ → List Node → Name → ℕ → Option ℕ
reached last ns at offset = cond (nat_le at.bus last) (chosen ns at offset) None

-- what a read answers: the selected dword, or all ones where nothing is selected
unfoldable pub answer : ℕ → List Node → Name → ℕ → ℕ
answer last ns at offset = read_at ns (reached last ns at offset) (offset / 4)

-- the machine after a write: the value's bits under the mask are in the selected dword, and nothing else has changed
unfoldable pub after : ℕ → List Node → Name → ℕ → ℕ → List Node
after last ns at offset v = write_at ns (reached last ns at offset) (offset / 4) v

-- the loss that a lost call tells: the first one stays
abbrev pub loss_told : Option Loss → Name → ℕ → Loss
loss_told None at offset = record { register = record { at = at; offset = offset } }
loss_told (Some l) at offset = l

-- an access lost at l: all else is as it was
abbrev pub lost_with : State → Loss → State
lost_with s l = record { machine = s.machine; last = s.last; loss = Some l; due = s.due }

-- an access through which one more read or write was granted, which left this machine
abbrev pub granted_with : State → List Node → State
granted_with s ns = record { machine = ns; last = s.last; loss = None; due = later s.due 1 }

-- A lost read or write tells the first loss. Where the access was not lost before, it could be lost now.
abbrev pub Loses : State → Name → ℕ → Loss → State → Type 0
Loses s at offset l s' = (l ≡ loss_told s.loss at offset) × (s.loss ≡ None → Falls s.due 0) × (s' ≡ lost_with s l)

-- A read: s before, s' after, r answered. An answer comes only from an access that is not lost, and leaves the machine as it was.
abbrev pub Reads : State → Name → ℕ → Result ℕ Loss → State → Type 0
Reads s at offset (Ok v) s' = (s.loss ≡ None) × Allows s.due 1 × (s' ≡ granted_with s s.machine) × (v ≡ answer s.last s.machine at offset)
Reads s at offset (Err l) s' = Loses s at offset l s'

-- A write, likewise: granted, it changes the machine as told and nothing else.
abbrev pub Writes : State → Name → ℕ → ℕ → Result (Unit {0}) Loss → State → Type 0
Writes s at offset v (Ok u) s' = (s.loss ≡ None) × Allows s.due 1 × (s' ≡ granted_with s (after s.last s.machine at offset v))
Writes s at offset v (Err l) s' = Loses s at offset l s'
