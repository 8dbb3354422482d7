use Rattle.std.proofs.Common.{sym}
use Rattle.work.specs.Doing.{beside}
use Rattle.work.proofs.Leads.{ran_give}
use Rattle.numbering.specs.Rule.{probing}
use Rattle.book.specs.Tables.{rows_of}
use Rattle.scanning.proofs.Steps.{goes_on, stops, handed, takes, leaves}
use Rattle.scanning.proofs.scan.Scan.probe.Goals as goal

pub returns-in_err-id-clause-ran : goal.returns-in_err-id-clause-ran
unfolding probing
returns-in_err-id-clause-ran g c =
    handed (beside (rows_of c.args.self.now.functions.now)) c.from_residual.ensures.1 (stops _ c.in_err-id.ensures.when_lost_left_open)

pub returns-then-is_absent-clause-ran : goal.returns-then-is_absent-clause-ran
unfolding probing
returns-then-is_absent-clause-ran g c = goes_on _ c.in_ok-id.ensures.when_lost_left_open (takes _ _ (sym c.if-is_absent.ensures) (ran_give _ _))

pub returns-in_err-header-clause-ran : goal.returns-in_err-header-clause-ran
unfolding probing
returns-in_err-header-clause-ran g c =
    handed (beside (rows_of c.args.self.now.functions.now)) c.from_residual-in_err-header.ensures.1
    (goes_on _ c.in_ok-id.ensures.when_lost_left_open (leaves _ _ (sym c.if-is_absent.ensures) (stops _ c.in_err-header.ensures.when_lost_left_open)))

pub returns-clause-ran : goal.returns-clause-ran
unfolding probing
returns-clause-ran g c =
    goes_on _ c.in_ok-id.ensures.when_lost_left_open (leaves _ _ (sym c.if-is_absent.ensures) (goes_on _ c.in_ok-header.ensures.when_lost_left_open c.book.ensures.ran))
