use Rattle.std.proofs.Common.{rules, ◌≡◌, ◌+◌, ◌-◌, ◌<◌, true, length, get_or, vec_items, arith}
use Rattle.machine.specs.Machine.{passes, nowhere}
use Rattle.machine.proofs.Reach.{reaches_step}
use Rattle.machine.proofs.Machine.comes_down.Goals as goal

pub loop-preserved : goal.loop-preserved
loop-preserved c =
    let ns = vec_items c.args.self.now.nodes in
    let g : get_or ns c.in-Some.p nowhere ≡ c.in-Some-get.node.now = search rules in
    let s : passes c.args.b (get_or ns c.in-Some.p nowhere) ≡ true = cc in
    let i : length ns - (c.loop.counter + 1) ≡ length ns - c.loop.counter - 1 = omega arith in
    let h : 0 < length ns - c.loop.counter = omega arith in
    let e = reaches_step (length ns - c.loop.counter) ns c.args.b c.in-Some.p h s in
    cc
