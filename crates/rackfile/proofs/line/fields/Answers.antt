use Rattle.std.proofs.Common.{ℕ, Bool, refl, sym, ◌∙◌, eqb, rules, tests}
use Rattle.rackfile.proofs.Fields.{left, begun, one_given}
use Rattle.rackfile.proofs.line.fields.Goals as goal

pub returns : goal.returns
returns c =
    let p : ℕ → Bool = λ x. eqb x 44 in
    let z = begun _ p c.split-fields.result c.next.result c.next.new.self c.args.line.now c.next.ensures.steps c.split-fields.ensures.rest c.split-fields.ensures.done c.split-fields.ensures.closure (λ x r q k. search (rules, tests)) in
    let a = one_given _ p _ c.next.result c.next.new.self z.1 c.next.ensures.steps in
    let b = one_given _ p _ c.next-2.result c.next-2.new.self a.0 c.next-2.ensures.steps in
    let d = one_given _ p _ c.next-3.result c.next-3.new.self b.0 c.next-3.ensures.steps in
    let e = one_given _ p _ c.next-4.result c.next-4.new.self d.0 c.next-4.ensures.steps in
    let f = one_given _ p _ c.next-5.result c.next-5.new.self e.0 c.next-5.ensures.steps in
    let g = one_given _ p _ c.next-6.result c.next-6.new.self f.0 c.next-6.ensures.steps in
    (left p c.next-6.new.self, sym z.0 ∙ a.1 _ _ (b.1 _ _ (d.1 _ _ (e.1 _ _ (f.1 _ _ (g.1 _ _ refl))))))
