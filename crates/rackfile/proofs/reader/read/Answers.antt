use Rattle.std.proofs.Common.{◌≡◌, ◌-◌, true, leb, [], length, get_or, is_some, Err, sym, ap, ◌∙◌, subst, arith, ltb-true, ltb-false, rules, tests}
use Rattle.std.proofs.lemmas.List.{nil_from_length, length-take}
use Rattle.std.proofs.lemmas.Bool.{both_ways, leb-true, le-leb}
use Rattle.std.specs.Slice.Iter.{split_inclusive_rest}
use Rattle.pci.specs.declared.fault.Fault.{Fault}
use Rattle.rackfile.specs.Text.{parted}
use Rattle.rackfile.specs.Reading.{File}
use Rattle.rackfile.specs.Built.{said}
use Rattle.rackfile.proofs.Lines.{step, ended, torn_off, some_in, shorter}
use Rattle.rackfile.proofs.Runs.{run_says, run_torn, run_short, run_ends, from_start, refused}
use Rattle.rackfile.proofs.reader.read.Goals as goal
use Rattle.rackfile.proofs.reader.read.Goals.{in_default-via-then-piece-lt1, in_default-via-else-piece-lt1+in_default-1, in_default-apertures-via-in-Some-apertures+else-text-le-LIMIT, in_default-apertures-via-in_default-apertures}

pub loop-piece-init : goal.loop-piece-init
loop-piece-init c =
    let it = c.into_iter-piece-iterator.ensures.into_iter_gives in
    let e = ap split_inclusive_rest it ∙ c.split_inclusive-piece-items.ensures.rest in
    record {
      bound = omega (arith, ap length e, length-take c.min.result c.args.text.now);
      leads = λ r k. from_start c.args.text.now _ c.min.result _ _ r c.new-builder.ensures.first c.new-builder.ensures.says c.min.ensures e k;
    }

pub returns-in_default : goal.returns-in_default
returns-in_default c =
    let cut = step _ c.loop-piece.piece-iterator c.in-Some.piece c.next.new.self c.in-Some.ensures.steps (λ x r q k. search (rules, tests)) in
    let x = c.in-Some.piece.now in
    let some = some_in _ _ _ cut.0 cut.1 in
    let last : get_or x (length x - 1) 0 ≡ 10 → ⊥ = λ z.
    elim c.in_default.branch [ in_default-via-then-piece-lt1 w ↦ omega (arith, ltb-true, ltb-false) | in_default-via-else-piece-lt1+in_default-1 w ↦ omega (arith, ltb-true, ltb-false) ] in
    rw c.torn.ensures
    (c.loop-piece.invariant.leads _ (run_short _ _ _ x _ (torn_off _ _ _ cut.0 cut.1 last) (λ a b z. let l = ap length z in omega arith)))

pub loop-piece-preserved : goal.loop-piece-preserved
loop-piece-preserved c =
    let cut = step _ c.loop-piece.piece-iterator c.in-Some.piece c.next.new.self c.in-Some.ensures.steps (λ x r q k. search (rules, tests)) in
    let x = c.in-Some.piece.now in
    let less = shorter _ _ _ cut.0 cut.1 in
    let last : get_or x (length x - 1) 0 ≡ 10 = omega arith in
    let a = c.in_ok-add.ensures.taken in
    record {
      bound = omega (arith, a.3);
      leads = λ r k. c.loop-piece.invariant.leads r (run_says _ _ _ _ _ _ (split_inclusive_rest c.next.new.self) _ a.0 r a.3 (ended _ _ _ cut.0 cut.1 last) a.1 a.2 k);
    }

pub returns-in_err-add : goal.returns-in_err-add
returns-in_err-add c =
    let cut = step _ c.loop-piece.piece-iterator c.in-Some.piece c.next.new.self c.in-Some.ensures.steps (λ x r q k. search (rules, tests)) in
    let x = c.in-Some.piece.now in
    let last : get_or x (length x - 1) 0 ≡ 10 = omega arith in
    refused _ _ _ c.from_residual.ensures.1
    (subst (λ (f : Fault). File c.args.text.now (Err f)) (sym c.in_err-add.ensures.refused.0)
    (c.loop-piece.invariant.leads _ (run_torn _ _ _ _ (split_inclusive_rest c.next.new.self) _ (ended _ _ _ cut.0 cut.1 last) c.in_err-add.ensures.refused.1)))

pub returns-in-Some-apertures : goal.returns-in-Some-apertures
returns-in-Some-apertures c =
    let e = c.in-None.ensures.steps in
    c.loop-piece.invariant.leads _
    (run_ends _ _ (said c.loop-piece.builder) _ c.in-Some-apertures.apertures (ap (parted 10) (nil_from_length _ e.0)) (le-leb _ _ c.if-text-le-LIMIT.true) c.in-Some-apertures.is)

pub returns-in_default-apertures : goal.returns-in_default-apertures
returns-in_default-apertures c =
    let e = c.in-None.ensures.steps in
    let bad : leb (length c.args.text.now) 65536 ≡ true → is_some c.loop-piece.builder.apertures ≡ true → ⊥ =
    λ a b. elim c.in_default-apertures.branch [
      | in_default-apertures-via-in-Some-apertures+else-text-le-LIMIT w ↦ (let h = leb-true _ _ a in omega arith)
      | in_default-apertures-via-in_default-apertures w ↦ both_ways _ (ap is_some w.in_default-apertures.is) b
    ] in
    rw c.torn-torn.ensures
    (c.loop-piece.invariant.leads _ (run_short _ _ _ [] _ (ap (parted 10) (nil_from_length _ e.0)) (λ a b z. bad a b)))
