use Rattle.std.proofs.Common.{rules, suc, ◌≤◌, length, get_or, sym, ap, arith}
use Rattle.work.specs.Doing.{beside}
use Rattle.book.specs.Rows.{no_row, Earlier}
use Rattle.book.specs.Tables.{rows_of}
use Rattle.work.proofs.Leads.{leads_start}
use Rattle.numbering.proofs.Climbs.{depth, climb_found, climb_top, climb_up, climb_stop, depth_within}
use Rattle.scanning.proofs.Steps.{handed}
use Rattle.scanning.proofs.scan.Scan.climb.Given as given
use Rattle.scanning.proofs.scan.Scan.climb.Goals as goal

pub loop-k-init : goal.loop-k-init
loop-k-init g c =
    record {
      n = suc (length (rows_of c.args.self.now.functions.now));
      enough = omega (arith, depth_within c.args.self.now.bus.parent (length (rows_of c.args.self.now.functions.now)) c.args.self.now.known);
      left = leads_start _ _;
      same = search rules;
    }

pub returns-in-Some-clause-ran : goal.returns-in-Some-clause-ran
returns-in-Some-clause-ran g c =
    let inv = c.loop-k.invariant in
    climb_found _ _ _ _ _ _ _ _ inv.left c.in-Some.k inv.enough (sym c.in-Some.ensures.picks)

pub returns-in_default-parent-clause-ran : goal.returns-in_default-parent-clause-ran
returns-in_default-parent-clause-ran g c =
    let inv = c.loop-k.invariant in
    climb_top _ _ _ _ _ _ _ _ inv.left c.in_default-parent.is (sym c.in_default.ensures.picks)

pub returns-in_err-close-clause-ran : goal.returns-in_err-close-clause-ran
returns-in_err-close-clause-ran g c =
    let inv = c.loop-k.invariant in
    handed (beside (rows_of c.close.new.self.functions.now)) c.from_residual.ensures.1
    (climb_stop _ _ _ _ _ _ _ _ _ _ _ inv.left inv.enough c.in-Some-parent.is (sym c.in_default.ensures.picks)
    c.in_err-close.ensures.ran)

-- the parent of the row that was closed stands before it
before : (g : given.Over) (c : goal.After-self-in-loop-k-1 g) → Earlier (get_or c.rows.result.now c.in-Some-parent.p no_row).parent c.in-Some-parent.p
before g c = rw c.rows.ensures (c.close.new.self.functions.now.parents c.in-Some-parent.p)

less : (g : given.Over) (c : goal.After-self-in-loop-k-1 g) → depth (get_or c.rows.result.now c.in-Some-parent.p no_row).parent ≤ c.in-Some-parent.p
less g c = depth_within _ _ (before g c)

pub loop-k-preserved : goal.loop-k-preserved
loop-k-preserved g c =
    let inv = c.loop-k.invariant in
    let p = c.in-Some-parent.p in
    let u = climb_up _ _ _ _ _ _ _ _ _ _ _ inv.left inv.enough c.in-Some-parent.is (sym c.in_default.ensures.picks)
    c.in_ok-close.ensures.ran in
    record {
      n = u.0;
      enough = omega (arith, less g c, ap depth c.in-Some-parent.is, u.1, inv.enough);
      left = rw c.rows.ensures u.2;
      same = search rules;
    }
