use Rattle.std.proofs.Common.{◌≡◌, ◌<◌, true, false, length, get_or, vec_items, sym, arith, rules, tests}
use Rattle.std.specs.List.{position_from}
use Rattle.std.proofs.lemmas.List.{get_or_read, at_drop_more, at_drop_all}
use Rattle.std.proofs.lemmas.Iterator.Adapters.{position_from-zero}
use Rattle.machine.specs.Machine.{hits, nowhere}
use Rattle.machine.proofs.Machine.find.Goals as goal

pub loop-i-init : goal.loop-i-init
loop-i-init c =
    let ns = vec_items c.args.self.now.nodes in
    sym (position_from-zero (hits ns c.args.at) ns)

pub returns-then-is_hit : goal.returns-then-is_hit
returns-then-is_hit c =
    let ns = vec_items c.args.self.now.nodes in
    let h : c.loop-i.i < length ns = omega arith in
    let n = get_or_read ns c.loop-i.i c.index.result.now h c.index.ensures nowhere in
    let s : hits ns c.args.at (get_or ns c.loop-i.i nowhere) ≡ true = cc in
    let e = at_drop_more (position_from (hits ns c.args.at) c.loop-i.i) ns c.loop-i.i nowhere h in
    record { picks = search (rules, tests); within = omega arith }

pub loop-i-preserved : goal.loop-i-preserved
loop-i-preserved c =
    let ns = vec_items c.args.self.now.nodes in
    let h : c.loop-i.i < length ns = omega arith in
    let n = get_or_read ns c.loop-i.i c.index.result.now h c.index.ensures nowhere in
    let s : hits ns c.args.at (get_or ns c.loop-i.i nowhere) ≡ false = cc in
    let e = at_drop_more (position_from (hits ns c.args.at) c.loop-i.i) ns c.loop-i.i nowhere h in
    search (rules, tests)

pub returns : goal.returns
returns c =
    let ns = vec_items c.args.self.now.nodes in
    let e = at_drop_all (position_from (hits ns c.args.at) c.loop-i.i) ns c.loop-i.i (omega arith) in
    record { picks = cc; within = tt }
