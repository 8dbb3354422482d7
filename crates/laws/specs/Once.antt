-- The test of the laws has one answer.
use Rattle.std.specs.Prelude.{◌≡◌, List, Result}
use Rattle.pci.specs.declared.fault.Fault.{Fault}
use Rattle.machine.specs.declared.Node.{Node}
use Rattle.laws.specs.Lawful.{Tested}

-- what the test may answer of a machine is one thing
abbrev pub OneAnswer : Type 0
OneAnswer = (ns : List Node) (r q : Result (Unit {0}) Fault) → Tested ns r → Tested ns q → r ≡ q
