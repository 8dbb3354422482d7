use Rattle.std.proofs.Common.{Result, map, drop}
use Rattle.listing.specs.declared.kept.NoRoom.{NoRoom}
use Rattle.listing.specs.declared.kept.Line.{Line}
use Rattle.listing.specs.Fields.{field, more}
use Rattle.listing.specs.Kept.{Adds}
use Rattle.listing.proofs.kept.Line.fill.Given as goal

-- to add the fields that are left is all that is left of adding the fields
abbrev pub invariant-loop-one : goal.invariant-loop-one
invariant-loop-one l =
    (r : Result (Unit {0}) NoRoom) (end : Line) →
    Adds r l.self (more (map field (drop l.one-index l.fields))) end → Adds r l.initial.self (more (map field l.fields)) end
