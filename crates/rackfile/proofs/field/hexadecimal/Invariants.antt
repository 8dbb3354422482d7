use Rattle.std.proofs.Common.{◌≡◌, ◌^◌, ◌<◌, take}
use Rattle.pci.specs.Digits.{hex}
use Rattle.rackfile.proofs.field.hexadecimal.Given as goal

-- the digits so far write the value
abbrev pub invariant-loop-b : goal.invariant-loop-b
invariant-loop-b l = (l.value < 16 ^ l.b-index) × (hex l.b-index l.value ≡ take l.b-index l.field)
