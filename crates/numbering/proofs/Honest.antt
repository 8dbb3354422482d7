-- What is told of a loss: the rule of scan answers none of its own, and makes an access.
use Rattle.std.proofs.Common.{ℕ, ◌<◌, length, None, Result, arith}
use Rattle.pci.specs.declared.fault.Fault.{Fault}
use Rattle.access.specs.Access.{State}
use Rattle.work.specs.Doing.{Ran, read, times}
use Rattle.work.proofs.Leads.{bind_some, ran_told}
use Rattle.work.proofs.Honest.{Honest, honest_give, honest_read, honest_write, honest_refuse, honest_decide, honest_bind, ran_honest}
use Rattle.numbering.specs.Rule.{Rows, name, probing, on_device, on_bus, tree}
use Rattle.numbering.specs.Law.{Searched}
use Rattle.numbering.proofs.Parts.{part_tree}

pub honest_tree : (last : ℕ) (rows : Rows) → Honest (tree last rows)
honest_tree last rows =
    part_tree (λ X m. Honest {X = X} m) (λ X x. honest_give x) honest_read (λ at v. honest_write at 0x18 v) honest_refuse (λ X r h. honest_decide r h) (λ X Y m k h g. honest_bind m k h g) last rows

first_read : (s : State) → 0 < length (read (name 0 0 0) 0 s).acts
unfolding read
first_read s = omega arith

probes : (rows : Rows) (s : State) → 0 < length (probing (name 0 0 0) None rows s).acts
unfolding probing
probes rows s = bind_some (read (name 0 0 0) 0) _ s (first_read s)

first_device : (rows : Rows) (s : State) → 0 < length (on_device 0 None 0 rows s).acts
unfolding on_device
first_device rows s = bind_some (probing (name 0 0 0) None rows) _ s (probes rows s)

first_bus : (rows : Rows) (s : State) → 0 < length (on_bus 0 None rows s).acts
unfolding on_bus times
first_bus rows s = bind_some (on_device 0 None 0 rows) _ s (first_device rows s)

some_act : (last : ℕ) (rows : Rows) (s : State) → 0 < length (tree last rows s).acts
unfolding tree
some_act last rows s = bind_some (on_bus 0 None rows) _ s (first_bus rows s)

pub searched : (s s' : State) (rows : Rows) (r : Result Rows Fault) → Ran s (tree s.last rows) r s' → Searched s rows r s'
searched s s' rows r h =
    record {
      by_rule = h;
      lost_told = λ l e. ran_told s s' (tree s.last rows) r l (some_act s.last rows s) h e;
      told_lost = λ l e. ran_honest s s' (tree s.last rows) r l (honest_tree s.last rows) h e;
    }
