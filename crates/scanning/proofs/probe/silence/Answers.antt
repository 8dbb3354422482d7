use Rattle.work.proofs.Leads.{ran_give}
use Rattle.scanning.proofs.probe.silence.Goals as goal

pub returns-in-Endpoint : goal.returns-in-Endpoint
returns-in-Endpoint g c =
    let s = g.A.Access.state c.args.access.now in
    rw c.in-Endpoint.is (ran_give s tt)

pub returns-in-Bridge : goal.returns-in-Bridge
returns-in-Bridge g c = rw c.in-Bridge.is c.set_numbers.ensures
