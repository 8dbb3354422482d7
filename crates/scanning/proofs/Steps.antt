-- The steps of work in a function's body, one for each of its exits.
use Rattle.std.proofs.Common.{◌≡◌, Bool, true, false, cond, IsErrAnd, Ok, Err, Result}
use Rattle.access.specs.Access.{State}
use Rattle.access.proofs.Exits.{err_is}
use Rattle.pci.specs.declared.fault.Fault.{Fault}
use Rattle.work.specs.Doing.{Work, Ran, bind}
use Rattle.work.proofs.Leads.{ran_then, ran_stop, ran_if, ran_else, seen}

-- a stretch that was granted, and the next
pub goes_on : {X Y : Type 0} {s s₁ s₂ : State} {m : Work X} (k : X → Work Y) {x : X} {r : Result Y Fault} → Ran s m (Ok x) s₁ → Ran s₁ (k x) r s₂ → Ran s (bind m k) r s₂
goes_on k h g = ran_then _ _ _ _ k _ _ h g

-- a stretch that was refused or lost
pub stops : {X Y : Type 0} {s s₁ : State} {m : Work X} (k : X → Work Y) {e : Fault} → Ran s m (Err e) s₁ → Ran s (bind m k) (Err e) s₁
stops k h = ran_stop _ _ _ k _ h

-- what a `?` hands on
pub handed : {W Y : Type 0} (V : Result Y Fault → Result W Fault) {s s' : State} {m : Work W} {r : Result Y Fault} {e : Fault} → IsErrAnd r (λ x. x ≡ e) → Ran s m (V (Err e)) s' → Ran s m (V r) s'
handed V {r = r} {e = e} q h = seen V _ _ _ r e (err_is r e q) h

pub takes : {X : Type 0} {s s' : State} {b : Bool} (m k : Work X) {r : Result X Fault} → b ≡ true → Ran s m r s' → Ran s (cond b m k) r s'
takes m k e h = ran_if _ _ _ m k _ e h

pub leaves : {X : Type 0} {s s' : State} {b : Bool} (m k : Work X) {r : Result X Fault} → b ≡ false → Ran s k r s' → Ran s (cond b m k) r s'
leaves m k e h = ran_else _ _ _ m k _ e h
