use Rattle.work.proofs.Leads.{ran_write, ran_write_lost}
use Rattle.work.proofs.put.Goals as goal

pub returns-in_err-write : goal.returns-in_err-write
returns-in_err-write g c =
    let state = g.A.Access.state in
    record { when_lost_left_open = ran_write_lost (state c.args.access.now) (state c.write.new.self) c.args.register.at c.args.register.offset c.args.value c.in_err-write.field-0.0 c.from_residual.result c.in_err-write.ensures.when_lost_left_open c.from_residual.ensures.1 }

pub returns : goal.returns
returns g c =
    let state = g.A.Access.state in
    record { when_lost_left_open = ran_write (state c.args.access.now) (state c.write.new.self) c.args.register.at c.args.register.offset c.args.value c.in_ok-write.ensures.when_lost_left_open }
