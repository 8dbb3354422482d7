use Rattle.std.proofs.Common.{rules}
use Rattle.work.specs.Doing.{now_is}
use Rattle.numbering.specs.Rule.{on_bus}
use Rattle.book.specs.Tables.{rows_of}
use Rattle.work.proofs.Leads.{leads_start}
use Rattle.work.proofs.Turns.{leads_turn, leads_turn_stop, leads_turns_end}
use Rattle.scanning.proofs.Steps.{handed}
use Rattle.scanning.proofs.scan.Scan.scan_bus.Goals as goal

pub loop-device-init : goal.loop-device-init
unfolding on_bus
loop-device-init g c = record { left = leads_start _ _; stays = search rules }

pub loop-device-preserved : goal.loop-device-preserved
loop-device-preserved g c =
    record {
      left = leads_turn _ _ _ _ _ _ _ _ _ c.loop-device-test.true c.loop-device.invariant.left (rw c.loop-device.invariant.stays.1 at c.in_ok-scan_device.ensures.ran);
      stays = search rules;
    }

pub returns-in_err-scan_device-clause-ran : goal.returns-in_err-scan_device-clause-ran
returns-in_err-scan_device-clause-ran g c =
    handed (now_is (rows_of c.scan_device.new.self.functions.now)) c.from_residual.ensures.1
    (leads_turn_stop _ _ _ _ _ _ _ _ _ c.loop-device-test.true c.loop-device.invariant.left (rw c.loop-device.invariant.stays.1 at c.in_err-scan_device.ensures.ran))

pub returns-clause-ran : goal.returns-clause-ran
returns-clause-ran g c = leads_turns_end _ _ _ _ _ _ _ c.loop-device-test.false c.loop-device.invariant.left
