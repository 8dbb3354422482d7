use Rattle.std.proofs.Common.{◌-◌}
use Rattle.work.specs.Doing.{times}
use Rattle.numbering.specs.Rule.{another, others}
use Rattle.book.specs.Tables.{rows_of}
use Rattle.work.proofs.Leads.{Leads}
use Rattle.scanning.specs.Scans.{Stays}
use Rattle.scanning.proofs.scan.Scan.scan_others.Given as goal

-- what is left to probe is all that is left
abbrev pub invariant-loop-function : goal.invariant-loop-function
invariant-loop-function g l =
    let state = g.A.Access.state in
    record {
      left : Leads (state l.self.access.now) (times (8 - l.function) l.function (another l.initial.self.bus.number l.device l.initial.self.bus.parent) (rows_of l.self.functions.now))
          (state l.initial.self.access.now) (others l.initial.self.bus.number l.device l.initial.self.bus.parent (rows_of l.initial.self.functions.now));
      stays : Stays l.initial.self l.self;
    }
