use Rattle.work.specs.Doing.{now_is}
use Rattle.work.proofs.Leads.{ran_give_is}
use Rattle.numbering.specs.Rule.{numbering}
use Rattle.book.specs.Tables.{rows_of}
use Rattle.scanning.proofs.Steps.{goes_on, stops, handed}
use Rattle.scanning.proofs.scan.Scan.number.Goals as goal

pub returns-in_err-set_numbers-clause-ran : goal.returns-in_err-set_numbers-clause-ran
unfolding numbering
returns-in_err-set_numbers-clause-ran g c =
    handed (now_is (rows_of c.args.self.now.functions.now)) c.from_residual.ensures.1 (stops _ (rw (← c.rows.ensures) c.in_err-set_numbers.ensures))

pub returns-clause-ran : goal.returns-clause-ran
unfolding numbering
returns-clause-ran g c =
    goes_on _ {x = c.in_ok-set_numbers.field-0} (rw (← c.rows.ensures) c.in_ok-set_numbers.ensures) (ran_give_is _ _ _ c.set_kind.ensures)
