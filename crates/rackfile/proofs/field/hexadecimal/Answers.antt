use Rattle.std.proofs.Common.{ℕ, ◌+◌, ◌*◌, ◌<◌, List, [], ◌∷◌, ◌++◌, length, get_or, take, sym, ap, ◌∙◌, add-one, arith}
use Rattle.std.proofs.lemmas.List.{take_more}
use Rattle.pci.specs.Digits.{hex, glyph}
use Rattle.rackfile.proofs.Digits.{length_hex, hex_push, hex_at, hex_room, hex_fits}
use Rattle.rackfile.proofs.field.hexadecimal.Goals as goal

pub returns-then-field-width : goal.returns-then-field-width
returns-then-field-width c = λ x h e. c.if-field-width.true (ap length (sym e) ∙ length_hex c.args.width x)

pub overflow_mul-value : goal.overflow_mul-value
overflow_mul-value c =
    let i = c.loop-b.b-index in
    let r = hex_room i c.loop-b.value 0 c.loop-b.invariant.0 (omega arith) in
    let f = hex_fits i c.args.width (omega arith) c.requires in
    omega arith

pub overflow_add-value : goal.overflow_add-value
overflow_add-value c =
    let i = c.loop-b.b-index in
    let r = hex_room i c.loop-b.value c.in_ok-value.field-0 c.loop-b.invariant.0 c.in_ok-value.ensures.0 in
    let f = hex_fits i c.args.width (omega arith) c.requires in
    omega arith

pub returns-in_err-value : goal.returns-in_err-value
returns-in_err-value c =
    rw c.from_residual.ensures
    (λ x h e. let g = hex_at c.args.width x c.loop-b.b-index (omega arith) in
    c.in_err-value.ensures g.0 g.1 (g.2 ∙ ap (λ (ds : List ℕ). get_or ds c.loop-b.b-index 0) e))

pub loop-b-preserved : goal.loop-b-preserved
loop-b-preserved c =
    let i = c.loop-b.b-index in
    let v = c.loop-b.value in
    let d = c.in_ok-value.field-0 in
    let fs = c.args.field.now in
    let ok = c.in_ok-value.ensures in
    let h : i < length fs = omega arith in (
      hex_room i v d c.loop-b.invariant.0 ok.0,
      ap (λ (n : ℕ). hex n (v * 16 + d)) (add-one i) ∙ hex_push i v d ok.0
          ∙ ap (λ (ds : List ℕ). ds ++ (glyph d ∷ [])) c.loop-b.invariant.1
          ∙ ap (λ (b : ℕ). take i fs ++ (b ∷ [])) ok.1
          ∙ sym (take_more fs i 0 h),
    )
