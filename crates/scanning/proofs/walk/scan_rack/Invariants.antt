use Rattle.std.proofs.Common.{◌-◌, ◌≤◌}
use Rattle.numbering.specs.Rule.{tree}
use Rattle.numbering.specs.Loop.{rounds}
use Rattle.book.specs.Tables.{rows_of}
use Rattle.work.proofs.Leads.{Leads}
use Rattle.scanning.specs.Scans.{Same}
use Rattle.scanning.proofs.walk.scan_rack.Given as goal

-- what is left of the rounds is all that is left
abbrev pub invariant-loop-k : goal.invariant-loop-k
invariant-loop-k g l =
    let state = g.A.Access.state in
    record {
      left : Leads (state l.scan.access.now) (rounds (l.last - l.used) l.used l.last l.scan.bus.parent l.next (rows_of l.scan.functions.now))
          (state l.fn.access) (tree (state l.fn.access).last (rows_of l.fn.functions));
      within : l.used ≤ l.last;
      same : Same l.initial.scan l.scan;
    }

abbrev pub decreases-loop-k : goal.decreases-loop-k
decreases-loop-k g l = l.last - l.used
