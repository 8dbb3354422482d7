use Rattle.work.specs.Doing.{beside}
use Rattle.work.proofs.Leads.{ran_give_is, ran_decide_is}
use Rattle.numbering.specs.Rule.{booking}
use Rattle.book.specs.Tables.{rows_of}
use Rattle.scanning.proofs.Steps.{goes_on, stops, handed}
use Rattle.scanning.proofs.scan.Scan.book.Goals as goal

pub returns-in_err-row-clause-ran : goal.returns-in_err-row-clause-ran
unfolding booking
returns-in_err-row-clause-ran g c =
    handed (beside (rows_of c.args.self.now.functions.now)) c.from_residual.ensures.1 (stops _ (ran_decide_is _ _ _ (rw (← c.rows.ensures) c.in_err-row.ensures.is)))

pub returns-in_err-silence-clause-ran : goal.returns-in_err-silence-clause-ran
unfolding booking
returns-in_err-silence-clause-ran g c =
    handed (beside (rows_of c.args.self.now.functions.now)) c.from_residual-in_err-silence.ensures.1
    (goes_on _ {x = c.in_ok-row.row} (ran_decide_is _ _ _ (rw (← c.rows.ensures) c.in_ok-row.ensures.is)) (stops _ c.in_err-silence.ensures))

pub returns-clause-ran : goal.returns-clause-ran
unfolding booking
returns-clause-ran g c =
    goes_on _ {x = c.in_ok-row.row} (ran_decide_is _ _ _ (rw (← c.rows.ensures) c.in_ok-row.ensures.is)) (goes_on _ c.in_ok-silence.ensures (ran_give_is _ _ _ cc))
