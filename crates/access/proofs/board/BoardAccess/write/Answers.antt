use Rattle.std.proofs.Common.{◌<◌, ap, ◌∙◌, arith, vec_items}
use Rattle.machine.specs.declared.Machine.{Machine}
use Rattle.machine.specs.Machine.{written}
use Rattle.access.proofs.Dues.{granted_write}
use Rattle.access.proofs.board.BoardAccess.write.Goals as goal

pub returns : goal.returns
returns c =
    let b : c.args.register.at.bus < 256 = omega arith in
    let m = ap (λ (x : Machine). written (vec_items x.nodes) c.args.register.at c.args.register.offset c.args.value) c.in_ok-count.ensures.machine in
    record {
      when_lost_left_open = granted_write c.args.self.now (record { machine = c.write.new.self; left = c.count.new.self.left; loss = c.count.new.self.loss }) c.args.register.at c.args.register.offset c.args.value b (c.write.ensures ∙ m) c.in_ok-count.ensures.counted;
    }
