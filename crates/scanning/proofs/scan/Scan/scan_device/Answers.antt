use Rattle.work.specs.Doing.{now_is}
use Rattle.work.proofs.Leads.{ran_give}
use Rattle.numbering.specs.Rule.{on_device}
use Rattle.book.specs.Tables.{rows_of}
use Rattle.scanning.proofs.Steps.{goes_on, stops, handed, takes, leaves}
use Rattle.scanning.proofs.scan.Scan.scan_device.Goals as goal

pub returns-in_err-probe-clause-ran : goal.returns-in_err-probe-clause-ran
unfolding on_device
returns-in_err-probe-clause-ran g c = handed (now_is (rows_of c.probe.new.self.functions.now)) c.from_residual.ensures.1 (stops _ c.in_err-probe.ensures.ran)

pub returns-then-branch-clause-ran : goal.returns-then-branch-clause-ran
unfolding on_device
returns-then-branch-clause-ran g c = goes_on _ c.in_ok-probe.ensures.ran (takes _ _ c.if-branch.true (rw c.in_ok-probe.ensures.stays.1 at c.scan_others.ensures.ran))

pub returns-clause-ran : goal.returns-clause-ran
unfolding on_device
returns-clause-ran g c = goes_on _ c.in_ok-probe.ensures.ran (leaves _ _ c.if-branch.false (ran_give _ _))
