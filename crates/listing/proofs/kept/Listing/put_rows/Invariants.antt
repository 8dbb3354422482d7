use Rattle.std.proofs.Common.{Result, drop}
use Rattle.listing.specs.declared.kept.NoRoom.{NoRoom}
use Rattle.listing.specs.declared.kept.Listing.{Listing}
use Rattle.listing.specs.Numbers.{rows_lines}
use Rattle.listing.specs.Lines.{Lists}
use Rattle.listing.proofs.kept.Listing.put_rows.Given as goal

-- to put the rows that are left is all that is left of putting the rows
abbrev pub invariant-loop-row : goal.invariant-loop-row
invariant-loop-row l =
    (r : Result (Unit {0}) NoRoom) (end : Listing) →
    Lists r l.self (rows_lines (drop l.row-index l.rows)) end → Lists r l.initial.self (rows_lines l.rows) end
