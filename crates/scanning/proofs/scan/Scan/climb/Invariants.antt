use Rattle.std.proofs.Common.{ℕ, suc, ◌<◌, length}
use Rattle.numbering.proofs.Climbs.{depth}
use Rattle.numbering.specs.Loop.{climbing}
use Rattle.book.specs.Tables.{rows_of}
use Rattle.work.proofs.Leads.{Leads}
use Rattle.scanning.specs.Scans.{Same}
use Rattle.scanning.proofs.scan.Scan.climb.Given as goal

-- what is left of the climb is all that is left
abbrev pub invariant-loop-k : goal.invariant-loop-k
invariant-loop-k g l =
    let state = g.A.Access.state in
    record {
      n : ℕ;
      enough : depth l.self.bus.parent < n;
      left : Leads (state l.self.access.now) (climbing n l.self.bus.parent l.next l.used (rows_of l.self.functions.now))
          (state l.initial.self.access.now) (climbing (suc (length (rows_of l.initial.self.functions.now))) l.initial.self.bus.parent l.initial.next l.used (rows_of l.initial.self.functions.now));
      same : Same l.initial.self l.self;
    }

abbrev pub decreases-loop-k : goal.decreases-loop-k
decreases-loop-k g l = depth l.self.bus.parent
