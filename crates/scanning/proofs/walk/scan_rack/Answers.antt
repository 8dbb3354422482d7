use Rattle.std.proofs.Common.{rules, ◌≡◌, suc, ◌+◌, ◌-◌, arith}
use Rattle.work.specs.Doing.{now_is}
use Rattle.book.specs.Tables.{rows_of}
use Rattle.numbering.proofs.Honest.{searched}
use Rattle.numbering.proofs.Rounds.{rounds_lost, rounds_end, rounds_spent, rounds_next, rounds_stop}
use Rattle.numbering.proofs.Trees.{rounds_begin, tree_stop}
use Rattle.scanning.proofs.Steps.{handed}
use Rattle.scanning.proofs.walk.scan_rack.Goals as goal

pub returns-in_err-scan_bus : goal.returns-in_err-scan_bus
returns-in_err-scan_bus g c =
    let h = searched _ _ _ _ (handed (now_is (rows_of c.scan_bus.new.self.functions.now)) c.from_residual.ensures.1 (tree_stop _ _ _ _ c.in_err-scan_bus.ensures.ran)) in
    record { when_lost_left_open = search rules }

pub loop-k-init : goal.loop-k-init
loop-k-init g c =
    record {
      left = rw c.in_ok-scan_bus.ensures.stays.1
          (rounds_begin _ _ c.last_bus-last.result _ _ c.last_bus-last.ensures c.args.functions.now.parents c.in_ok-scan_bus.ensures.ran);
      within = omega arith;
      same = search rules;
    }

pub returns-in_err-k : goal.returns-in_err-k
returns-in_err-k g c =
    let h = searched _ _ _ _ (handed (now_is (rows_of c.climb.new.self.functions.now)) c.from_residual-in_err-k.ensures.1
    (rounds_lost _ _ _ _ _ _ _ _ _ _ c.loop-k.invariant.left _ c.in_err-k.ensures.ran)) in
    record { when_lost_left_open = search rules }

pub returns : goal.returns
returns g c =
    let h = searched _ _ _ _ (rounds_end _ _ _ _ _ _ _ _ _ _ c.loop-k.invariant.left _ (rw c.in_default.is at c.in_ok-k.ensures.ran)) in
    record { when_lost_left_open = search rules }

pub returns-then-used-last : goal.returns-then-used-last
returns-then-used-last g c =
    let h = searched _ _ _ _
    (rounds_spent _ _ _ _ _ _ _ _ _ _ c.loop-k.invariant.left _ c.in-Some.k (omega (arith, c.if-used-last.true)) (rw c.in-Some.is at c.in_ok-k.ensures.ran)) in
    record { when_lost_left_open = rw c.rows.ensures (search rules) }

pub loop-k-preserved : goal.loop-k-preserved
loop-k-preserved g c =
    let less : c.last_bus-last.result - c.loop-k.used ≡ suc (c.last_bus-last.result - (c.loop-k.used + 1)) = omega (arith, c.if-used-last.false) in
    record {
      left = rw c.in_ok-descend.ensures.on (rw c.rows-next.ensures
          (rounds_next _ _ _ _ _ _ _ _ _ _ c.loop-k.invariant.left _ c.in-Some.k _ less (rw c.in-Some.is at c.in_ok-k.ensures.ran) _ _ c.in_ok-descend.ensures.ran));
      within = omega (arith, c.if-used-last.false);
      same = search rules;
    }

pub returns-in_err-descend : goal.returns-in_err-descend
returns-in_err-descend g c =
    let less : c.last_bus-last.result - c.loop-k.used ≡ suc (c.last_bus-last.result - (c.loop-k.used + 1)) = omega (arith, c.if-used-last.false) in
    let h = searched _ _ _ _ (handed (now_is (rows_of c.descend.new.self.functions.now)) c.from_residual-in_err-descend.ensures.1
    (rounds_stop _ _ _ _ _ _ _ _ _ _ c.loop-k.invariant.left _ c.in-Some.k _ less (rw c.in-Some.is at c.in_ok-k.ensures.ran) _ _ c.in_err-descend.ensures.ran)) in
    record { when_lost_left_open = search rules }
