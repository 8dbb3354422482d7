use Rattle.std.proofs.Common.{◌<◌, ap, ◌∙◌, arith, vec_items}
use Rattle.machine.specs.declared.Machine.{Machine}
use Rattle.machine.specs.Machine.{read_of}
use Rattle.access.proofs.Dues.{granted_read}
use Rattle.access.proofs.board.BoardAccess.read.Goals as goal

pub returns : goal.returns
returns c =
    let m = c.in_ok-count.ensures.machine in
    let b : c.args.register.at.bus < 256 = omega arith in
    let k = granted_read c.args.self.now c.count.new.self c.args.register.at c.args.register.offset b m c.in_ok-count.ensures.counted in
    let v = ap (λ (x : Machine). read_of (vec_items x.nodes) c.args.register.at c.args.register.offset) m in
    record { when_lost_left_open = (k.0, k.1, k.2, c.read.ensures ∙ v ∙ k.3) }
