use Rattle.std.proofs.Common.{rules}
use Rattle.work.specs.Doing.{now_is}
use Rattle.numbering.specs.Rule.{another, others}
use Rattle.book.specs.Tables.{rows_of}
use Rattle.work.proofs.Leads.{leads_start, ran_give}
use Rattle.work.proofs.Turns.{leads_turn, leads_turn_stop, leads_turns_end}
use Rattle.scanning.proofs.Steps.{goes_on, stops, handed}
use Rattle.scanning.proofs.scan.Scan.scan_others.Goals as goal

pub loop-function-init : goal.loop-function-init
unfolding others
loop-function-init g c = record { left = leads_start _ _; stays = search rules }

pub loop-function-preserved : goal.loop-function-preserved
unfolding another
loop-function-preserved g c =
    record {
      left = leads_turn _ _ _ _ _ _ _ _ _ c.loop-function-test.true c.loop-function.invariant.left (goes_on _ (rw c.loop-function.invariant.stays.1 at c.in_ok-probe.ensures.ran) (ran_give _ _));
      stays = search rules;
    }

pub returns-in_err-probe-clause-ran : goal.returns-in_err-probe-clause-ran
unfolding another
returns-in_err-probe-clause-ran g c =
    handed (now_is (rows_of c.probe.new.self.functions.now)) c.from_residual.ensures.1
    (leads_turn_stop _ _ _ _ _ _ _ _ _ c.loop-function-test.true c.loop-function.invariant.left (stops _ (rw c.loop-function.invariant.stays.1 at c.in_err-probe.ensures.ran)))

pub returns-clause-ran : goal.returns-clause-ran
returns-clause-ran g c = leads_turns_end _ _ _ _ _ _ _ c.loop-function-test.false c.loop-function.invariant.left
