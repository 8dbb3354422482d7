use Rattle.std.proofs.Common.{sym, ◌∙◌, arith}
use Rattle.access.specs.Boards.{board_state}
use Rattle.access.proofs.Within.{reads_within, reads_above}
use Rattle.trials.proofs.few.FewBusesAccess.read.Goals as goal

pub returns-then-register-self : goal.returns-then-register-self
returns-then-register-self c =
    let s = board_state c.args.self.now.board in
    record { when_lost_left_open = reads_within s (board_state c.read.new.self) c.args.self.now.last c.args.register.at c.args.register.offset c.read.result (omega arith) (omega arith) c.read.ensures.when_lost_left_open }

pub returns-in-None : goal.returns-in-None
returns-in-None c =
    let s = board_state c.args.self.now.board in
    record { when_lost_left_open = reads_above s c.args.self.now.last c.args.register.at c.args.register.offset (omega arith) (sym c.loss.ensures ∙ c.in-None.is) }
