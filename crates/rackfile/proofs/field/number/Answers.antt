use Rattle.std.proofs.Common.{◌≡◌, ℕ, ◌+◌, List, length, get_or, take, decimal, sym, ap, ◌∙◌, subst, arith}
use Rattle.std.proofs.lemmas.Bool.{eqb-true, eqb-false}
use Rattle.std.specs.Str.Parse.{digits_value, AllDigits}
use Rattle.std.proofs.lemmas.Int.Digits.{digits_value_more, digits_more}
use Rattle.std.proofs.lemmas.Fmt.{decimal_nonempty, digits_decimal, digits_value-decimal, decimal-digits_value}
use Rattle.std.proofs.lemmas.Str.Parse.{digit_at}
use Rattle.std.proofs.lemmas.List.{take_all}
use Rattle.rackfile.proofs.Digits.{own, digit_value, value_front, no_leading_zero}
use Rattle.rackfile.proofs.field.number.Goals as goal
use Rattle.rackfile.proofs.field.number.Goals.{else-field-gt1-via-then-field-gt1+else-field-eq48, else-field-gt1-via-else-field-gt1}

pub returns-then-is_empty : goal.returns-then-is_empty
returns-then-is_empty c = λ x h e. let s = decimal_nonempty x (omega arith) in let l = ap length e in let z : length c.args.field.now ≡ 0 = eqb-true _ _ (sym c.is_empty.ensures ∙ c.if-is_empty.true) in omega arith

pub returns-then-field-eq48 : goal.returns-then-field-eq48
returns-then-field-eq48 c = λ x h e.
    no_leading_zero x c.args.field.now (omega arith) e c.if-field-gt1.true c.if-field-eq48.true

pub returns-then-not-is_ascii_digit : goal.returns-then-not-is_ascii_digit
returns-then-not-is_ascii_digit c = λ x h e.
    let ds = subst (AllDigits 10) e (digits_decimal own x (omega arith)) in
    let d = digit_at c.args.field.now c.loop-b.b-index ds (omega arith) in
    omega (arith, c.if-not-is_ascii_digit.ensures.cases)

pub returns-then-value-limit : goal.returns-then-value-limit
returns-then-value-limit c = λ x h e.
    let fs = c.args.field.now in
    let i = c.loop-b.b-index in
    let b = get_or fs i 0 in
    let m = digits_value_more 10 fs i (omega arith) in
    let w = c.if-not-is_ascii_digit.ensures.cases in
    let d = digit_value b w.0 w.1 in
    let f = value_front (i + 1) fs in
    let v : digits_value 10 fs ≡ x = subst (λ (ds : List ℕ). digits_value 10 ds ≡ x) e (digits_value-decimal own x (omega arith)) in
    omega (arith, c.loop-b.invariant.1)

pub loop-b-preserved : goal.loop-b-preserved
loop-b-preserved c =
    let fs = c.args.field.now in
    let i = c.loop-b.b-index in
    let b = get_or fs i 0 in
    let m = digits_value_more 10 fs i (omega arith) in
    let w = c.if-not-is_ascii_digit.ensures.cases in
    let d = digit_value b w.0 w.1 in
    (digits_more 10 fs i (omega arith) c.loop-b.invariant.0 (omega arith), omega (arith, c.loop-b.invariant.1), omega arith)

pub returns : goal.returns
returns c =
    let fs = c.args.field.now in
    let t : take c.loop-b.b-index fs ≡ fs = take_all c.loop-b.b-index fs c.loop-b-test.false in
    let ds : AllDigits 10 fs = subst (AllDigits 10) t c.loop-b.invariant.0 in
    let v : c.loop-b.value ≡ digits_value 10 fs = c.loop-b.invariant.1 ∙ ap (digits_value 10) t in
    let some : length fs ≡ 0 → ⊥ = eqb-false _ _ (sym c.is_empty.ensures ∙ c.if-is_empty.false) in
    let z : get_or fs 0 0 ≡ 48 → length fs ≡ 1 = λ e.
    elim c.else-field-gt1.branch [
      | else-field-gt1-via-then-field-gt1+else-field-eq48 w ↦ absurd (w.if-field-eq48.false e)
      | else-field-gt1-via-else-field-gt1 w ↦ omega arith
    ] in
    (omega (arith, c.loop-b.invariant.2), ap decimal v ∙ decimal-digits_value own fs ds (omega arith) z (omega (arith, c.loop-b.invariant.2)))
