use Rattle.std.proofs.Common.{sym, ◌∙◌, arith}
use Rattle.access.specs.Boards.{board_state}
use Rattle.access.proofs.Within.{writes_within, writes_above}
use Rattle.trials.proofs.few.FewBusesAccess.write.Goals as goal

pub returns-then-register-self : goal.returns-then-register-self
returns-then-register-self c =
    let s = board_state c.args.self.now.board in
    record { when_lost_left_open = writes_within s (board_state c.write.new.self) c.args.self.now.last c.args.register.at c.args.register.offset c.args.value c.write.result (omega arith) (omega arith) c.write.ensures.when_lost_left_open }

pub returns-in-None : goal.returns-in-None
returns-in-None c =
    let s = board_state c.args.self.now.board in
    record { when_lost_left_open = writes_above s c.args.self.now.last c.args.register.at c.args.register.offset c.args.value (omega arith) (sym c.loss.ensures ∙ c.in-None.is) }
