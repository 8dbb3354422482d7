use Rattle.work.proofs.Leads.{ran_read, ran_read_lost}
use Rattle.work.proofs.look.Goals as goal

pub returns-in_err-read : goal.returns-in_err-read
returns-in_err-read g c =
    let state = g.A.Access.state in
    record { when_lost_left_open = ran_read_lost (state c.args.access.now) (state c.read.new.self) c.args.register.at c.args.register.offset c.in_err-read.field-0.0 c.from_residual.result c.in_err-read.ensures.when_lost_left_open c.from_residual.ensures.1 }

pub returns : goal.returns
returns g c =
    let state = g.A.Access.state in
    record { when_lost_left_open = ran_read (state c.args.access.now) (state c.read.new.self) c.args.register.at c.args.register.offset c.in_ok-read.field-0 c.in_ok-read.ensures.when_lost_left_open }
