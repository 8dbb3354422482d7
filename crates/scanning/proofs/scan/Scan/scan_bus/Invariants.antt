use Rattle.std.proofs.Common.{◌-◌}
use Rattle.work.specs.Doing.{times}
use Rattle.numbering.specs.Rule.{on_device, on_bus}
use Rattle.book.specs.Tables.{rows_of}
use Rattle.work.proofs.Leads.{Leads}
use Rattle.scanning.specs.Scans.{Stays}
use Rattle.scanning.proofs.scan.Scan.scan_bus.Given as goal

-- what is left to probe is all that is left
abbrev pub invariant-loop-device : goal.invariant-loop-device
invariant-loop-device g l =
    let state = g.A.Access.state in
    record {
      left : Leads (state l.self.access.now) (times (32 - l.device) l.device (on_device l.initial.self.bus.number l.initial.self.bus.parent) (rows_of l.self.functions.now))
          (state l.initial.self.access.now) (on_bus l.initial.self.bus.number l.initial.self.bus.parent (rows_of l.initial.self.functions.now));
      stays : Stays l.initial.self l.self;
    }
