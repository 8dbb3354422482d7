use Rattle.std.proofs.Common.{◌≡◌, ◌≤◌, take}
use Rattle.std.specs.Str.Parse.{digits_value, AllDigits}
use Rattle.rackfile.proofs.field.number.Given as goal

-- the digits so far write the value
abbrev pub invariant-loop-b : goal.invariant-loop-b
invariant-loop-b l =
    AllDigits 10 (take l.b-index l.field) × (l.value ≡ digits_value 10 (take l.b-index l.field)) × (l.value ≤ l.limit)
