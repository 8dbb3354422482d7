-- What each refusal tells: its number, its layer, the name concerned, P and Q.
use Rattle.std.specs.Prelude.{◌≡◌, ℕ, Some, None}
use Rattle.pci.specs.declared.Law.{Law}
use Rattle.pci.specs.declared.Law.TheVariants.{Parent, Place, Device, Identity, Command, Bridge, Bar}
use Rattle.pci.specs.declared.Space.{Space}
use Rattle.pci.specs.declared.Space.TheVariants.{Memory, Io}
use Rattle.pci.specs.declared.fault.Fault.{Fault}
use Rattle.pci.specs.declared.fault.Fault.TheVariants.{Torn, Unlawful, Lost, Strange, Full, Spent, Crooked, Large, Aperture, Short, WrongBook, NoRow, NoAddress, Narrow}
use Rattle.pci.specs.declared.fault.Layer.TheVariants.{File, Access, List, Job}
use Rattle.pci.specs.declared.fault.Told.{Told}

-- the laws of a machine, in the order in which they are tested
abbrev pub law_number : Law → ℕ
law_number Parent = 1
law_number Place = 2
law_number Device = 3
law_number Identity = 4
law_number Command = 5
law_number Bridge = 6
law_number Bar = 7

-- the spaces, memory first
abbrev pub space_number : Space → ℕ
space_number Memory = 1
space_number Io = 2

-- Each refusal is known by this alone: the line `no` prints these five values.
abbrev pub told : Fault → Told
told (Torn line) = record { number = 1; layer = File; name = None; p = line; q = 0 }
told (Unlawful node law) = record { number = 2; layer = File; name = None; p = node; q = law_number law }
told (Lost loss) = record { number = 3; layer = Access; name = Some loss.register.at; p = loss.register.offset; q = 0 }
told (Strange at kind) = record { number = 4; layer = Job; name = Some at; p = kind; q = 0 }
told (Full at) = record { number = 5; layer = Job; name = Some at; p = 64; q = 0 }
told (Spent at last) = record { number = 6; layer = Job; name = Some at; p = last; q = 0 }
told (Crooked at bar) = record { number = 7; layer = Job; name = Some at; p = bar; q = 0 }
told (Large at bar) = record { number = 8; layer = Job; name = Some at; p = bar; q = 0 }
told (Aperture space) = record { number = 9; layer = Job; name = None; p = space_number space; q = 0 }
told (Short space) = record { number = 10; layer = Job; name = None; p = space_number space; q = 0 }
told WrongBook = record { number = 11; layer = Job; name = None; p = 0; q = 0 }
told (NoRow row) = record { number = 12; layer = Job; name = None; p = row; q = 0 }
told NoAddress = record { number = 13; layer = Job; name = None; p = 2; q = 0 }
told (Narrow kept) = record { number = 14; layer = List; name = None; p = kept; q = 0 }

-- no two refusals tell the same
abbrev pub ToldApart : Type 0
ToldApart = (f g : Fault) → told f ≡ told g → f ≡ g
