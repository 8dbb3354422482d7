-- Work that answers no loss of its own: a loss comes from the access alone.
use Rattle.std.proofs.Common.{◌≡◌, ℕ, true, false, List, Some, Ok, Err, Option, Result, sym, refl, ap, ◌∙◌}
use Rattle.std.proofs.lemmas.Bool.{both_ways}
use Rattle.pci.specs.declared.Name.{Name}
use Rattle.pci.specs.declared.Loss.{Loss}
use Rattle.pci.specs.declared.fault.Fault.{Fault}
use Rattle.pci.specs.declared.fault.Fault.TheVariants.{Lost}
use Rattle.access.specs.Access.{State}
use Rattle.work.specs.Doing.{Act, place, done, Work, give, refuse, read, write, decide, follow, bind, Ran, whole, lost_at, was_lost, is_loss, is_lost}

abbrev pub Honest : {X : Type 0} → Work X → Type 0
Honest m = (s : State) → is_lost (m s).answer ≡ false

pub honest_give : {X : Type 0} (x : X) → Honest (give x)
unfolding give
honest_give x s = refl

pub honest_read : (at : Name) (o : ℕ) → Honest (read at o)
unfolding read
honest_read at o s = refl

pub honest_write : (at : Name) (o v : ℕ) → Honest (write at o v)
unfolding write
honest_write at o v s = refl

pub honest_refuse : (X : Type 0) (e : Fault) → is_loss e ≡ false → Honest {X = X} (refuse e)
unfolding refuse
honest_refuse X e h s = h

pub honest_decide : {X : Type 0} (r : Result X Fault) → is_lost r ≡ false → Honest (decide r)
unfolding decide
honest_decide r h s = h

honest_follow : {X Y : Type 0} (s : State) (ws : List Act) (o : Result X Fault) (k : X → Work Y) → is_lost o ≡ false → ((x : X) → Honest (k x)) → is_lost (follow s ws o k).answer ≡ false
honest_follow s ws (Err e) k h g = h
honest_follow s ws (Ok x) k h g = g x (done s ws)

pub honest_bind : {X Y : Type 0} (m : Work X) (k : X → Work Y) → Honest m → ((x : X) → Honest (k x)) → Honest (bind m k)
unfolding bind
honest_bind m k h g s = honest_follow s (m s).acts (m s).answer k (h s) g

-- a loss that is answered is that of the access
pub ran_honest : {X : Type 0} (s s' : State) (m : Work X) (r : Result X Fault) (l : Loss) → Honest m → Ran s m r s' → r ≡ Err (Lost l) → s'.loss ≡ Some l
ran_honest {X} s s' m r l h (whole u d a e) q =
    let z : is_lost (m s).answer ≡ true = ap is_lost (sym a ∙ q) in
    absurd (both_ways (is_lost (m s).answer) (h s) z)
ran_honest {X} s s' m r l h (lost_at granted a rest split n f b e) q =
    let z : ◌≡◌ {A = Result X Fault} (Err (Lost (place a))) (Err (Lost l)) = sym b ∙ q in
    let y : place a ≡ l = cc in
    ap (λ (t : State). t.loss) e ∙ ap (λ (x : Loss). let o : Option Loss = Some x in o) y
ran_honest {X} s s' m r l h (was_lost k some n b e) q =
    let z : ◌≡◌ {A = Result X Fault} (Err (Lost k)) (Err (Lost l)) = sym b ∙ q in
    let y : k ≡ l = cc in
    ap (λ (t : State). t.loss) e ∙ n ∙ ap (λ (x : Loss). let o : Option Loss = Some x in o) y
