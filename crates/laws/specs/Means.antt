-- What the second and the third law say of any two nodes of a lawful machine.
use Rattle.std.specs.Prelude.{◌≡◌, ℕ, ◌<◌, true, false, List, length}
use Rattle.machine.specs.Machine.{node}
use Rattle.machine.specs.declared.Node.{Node}
use Rattle.laws.specs.Lawful.{Lawful, alike, zero_of, other_of, many}

-- no two nodes share parent, device and function
abbrev pub NoTwins : Type 0
NoTwins = (ns : List Node) → Lawful ns → (i j : ℕ) → i < j → j < length ns → alike (node ns i) (node ns j) ≡ false

-- a function 0 of node i's device, with bit 23 of 0Ch set where the device has others
pub record Head (ns : List Node) (i : ℕ) : Type 0 where
  pub at : ℕ
  pub within : at < length ns
  pub zero : zero_of (node ns i) (node ns at) ≡ true
  pub tells : (j : ℕ) → j < length ns → other_of (node ns i) (node ns j) ≡ true → many (node ns at) ≡ true

-- each device used has such a function 0
abbrev pub AllHeaded : Type 0
AllHeaded = (ns : List Node) → Lawful ns → (i : ℕ) → i < length ns → Head ns i
