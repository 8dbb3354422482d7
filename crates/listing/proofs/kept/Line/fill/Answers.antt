use Rattle.std.proofs.Common.{ℕ, ◌+◌, ◌<◌, List, ◌∷◌, [], ◌++◌, map, length, drop, get_or, Result, sym, subst, arith}
use Rattle.std.proofs.lemmas.List.{at_drop_more, at_drop_all}
use Rattle.listing.specs.declared.kept.NoRoom.{NoRoom}
use Rattle.listing.specs.declared.kept.Line.{Line}
use Rattle.listing.specs.declared.fields.Field.{Field}
use Rattle.listing.specs.declared.fields.Field.TheVariants.{Dash}
use Rattle.listing.specs.Fields.{field, more}
use Rattle.listing.specs.Kept.{Adds}
use Rattle.listing.proofs.Texts.{adds_then, adds_stop}
use Rattle.listing.proofs.kept.Line.fill.Goals as goal

-- the fields from the i-th on
abbrev rest : List Field → ℕ → List ℕ
rest fs i = more (map field (drop i fs))

-- a comma, the i-th of them, and those after it
led : (r : Result (Unit {0}) NoRoom) (fs : List Field) (i : ℕ) (d : Field) {a b : Line} → i < length fs →
    Adds r a ((44 ∷ []) ++ (field (get_or fs i d) ++ rest fs (i + 1))) b → Adds r a (rest fs i) b
led r fs i d {a} {b} h = subst (λ (x : List ℕ). Adds r a x b) (sym (at_drop_more (λ (l : List Field). more (map field l)) fs i d h))

pub returns-in_err-add : goal.returns-in_err-add
returns-in_err-add c = adds_stop _ _ c.from_residual.ensures.0 c.in_err-add.ensures.adds

pub returns-in_err-add-2 : goal.returns-in_err-add-2
returns-in_err-add-2 c =
    adds_then _ c.in_ok-add.ensures.adds
    (c.loop-one.invariant _ _
    (led _ c.args.fields.now c.loop-one.one-index Dash (omega arith) (adds_stop _ _ c.from_residual-in_err-add-2.ensures.0 c.in_err-add-2.ensures.adds)))

pub returns-in_err-add_field : goal.returns-in_err-add_field
returns-in_err-add_field c =
    adds_then _ c.in_ok-add.ensures.adds
    (c.loop-one.invariant _ _
    (led _ c.args.fields.now c.loop-one.one-index _ (omega arith)
    (adds_then _ c.in_ok-add-2.ensures.adds (adds_stop _ _ c.from_residual-in_err-add_field.ensures.0 c.in_err-add_field.ensures))))

pub loop-one-preserved : goal.loop-one-preserved
loop-one-preserved c r end w =
    c.loop-one.invariant r end
    (led r c.args.fields.now c.loop-one.one-index _ (omega arith) (adds_then r c.in_ok-add-2.ensures.adds (adds_then r c.in_ok-add_field.ensures w)))

pub returns : goal.returns
returns c =
    adds_then _ c.in_ok-add.ensures.adds
    (c.loop-one.invariant _ _
    (subst (λ (x : List ℕ). Adds c.add-2.result c.loop-one.self x c.add-2.new.self)
    (sym (at_drop_all (λ (l : List Field). more (map field l)) c.args.fields.now c.loop-one.one-index c.loop-one-test.false)) c.add-2.ensures.adds))
