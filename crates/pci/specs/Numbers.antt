-- A bridge's bus numbers as it holds them in 18h.
use Rattle.std.specs.Prelude.{ℕ}
use Rattle.pci.specs.declared.numbers.Numbers.{Numbers}
use Rattle.pci.specs.Fields.{primary_of, secondary_of, subordinate_of}

-- the numbers in 18h
abbrev pub in_dword : ℕ → Numbers
in_dword dword = record { primary = primary_of dword; secondary = secondary_of dword; subordinate = subordinate_of dword }
