use Rattle.work.specs.Doing.{now_is}
use Rattle.numbering.specs.Rule.{descending}
use Rattle.book.specs.Tables.{rows_of}
use Rattle.scanning.proofs.Steps.{goes_on, stops, handed}
use Rattle.scanning.proofs.scan.Scan.descend.Goals as goal

pub returns-in_err-number-clause-ran : goal.returns-in_err-number-clause-ran
unfolding descending
returns-in_err-number-clause-ran g c =
    handed (now_is (rows_of c.number.new.self.functions.now)) c.from_residual.ensures.1 (stops _ (rw c.rows.ensures at c.in_err-number.ensures.ran))

pub returns-clause-ran : goal.returns-clause-ran
unfolding descending
returns-clause-ran g c = goes_on _ (rw c.rows.ensures at c.in_ok-number.ensures.ran) (rw c.in_ok-number.ensures.stays.1 at c.scan_bus.ensures.ran)
