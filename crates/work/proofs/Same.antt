-- Work that does the same at a state.
use Rattle.std.proofs.Common.{◌≡◌, ◌<◌, List, ◌++◌, length, Ok, Err, Result, sym, refl, ap, ◌∙◌, subst, append_assoc}
use Rattle.access.specs.Access.{State, Allows}
use Rattle.pci.specs.declared.fault.Fault.{Fault}
use Rattle.work.specs.Doing.{Act, done, Out, Work, give, refuse, follow, bind, Ran, whole, lost_at, was_lost}
use Rattle.work.proofs.Leads.{done_append}

pub bind_give : {X Y : Type 0} (x : X) (k : X → Work Y) (s : State) → bind (give x) k s ≡ k x s
unfolding bind give
bind_give x k s = refl

pub bind_refuse : {X Y : Type 0} (e : Fault) (k : X → Work Y) (s : State) → bind (refuse e) k s ≡ refuse e s
unfolding bind refuse
bind_refuse e k s = refl

abbrev behind : {Y : Type 0} → List Act → Out Y → Out Y
behind ws q = record { acts = ws ++ q.acts; answer = q.answer }

follow_more : {Y Z : Type 0} (s : State) (ws vs : List Act) (o : Result Y Fault) (g : Y → Work Z) → follow s (ws ++ vs) o g ≡ behind ws (follow (done s ws) vs o g)
follow_more s ws vs (Err e) g = refl
follow_more {Z = Z} s ws vs (Ok y) g =
    ap (λ t. behind (ws ++ vs) (g y t)) (done_append s ws vs)
    ∙ ap (λ l. let q : Out Z = record { acts = l; answer = (g y (done (done s ws) vs)).answer } in q) (append_assoc ws vs (g y (done (done s ws) vs)).acts)

follow_assoc : {X Y Z : Type 0} (s : State) (ws : List Act) (o : Result X Fault) (f : X → Work Y) (g : Y → Work Z) → follow s (follow s ws o f).acts (follow s ws o f).answer g ≡ follow s ws o (λ x. bind (f x) g)
unfolding bind
follow_assoc s ws (Err e) f g = refl
follow_assoc s ws (Ok x) f g = follow_more s ws (f x (done s ws)).acts (f x (done s ws)).answer g

pub bind_assoc : {X Y Z : Type 0} (m : Work X) (f : X → Work Y) (g : Y → Work Z) (s : State) → bind (bind m f) g s ≡ bind m (λ x. bind (f x) g) s
unfolding bind
bind_assoc m f g s = follow_assoc s (m s).acts (m s).answer f g

follow_at : {X Y : Type 0} (s : State) (ws : List Act) (o : Result X Fault) (k k' : X → Work Y) → ((x : X) → o ≡ Ok x → k x (done s ws) ≡ k' x (done s ws)) → follow s ws o k ≡ follow s ws o k'
follow_at s ws (Err e) k k' h = refl
follow_at s ws (Ok x) k k' h = ap (behind ws) (h x refl)

-- what follows a stretch, seen only where that stretch is granted
pub bind_at : {X Y : Type 0} (m : Work X) (k k' : X → Work Y) (s : State) → ((x : X) → (m s).answer ≡ Ok x → k x (done s (m s).acts) ≡ k' x (done s (m s).acts)) → bind m k s ≡ bind m k' s
unfolding bind
bind_at m k k' s h = follow_at s (m s).acts (m s).answer k k' h

pub bind_left : {X Y : Type 0} (m m' : Work X) (k : X → Work Y) (s : State) → m s ≡ m' s → bind m k s ≡ bind m' k s
unfolding bind
bind_left m m' k s e = ap (λ o. follow s o.acts o.answer k) e

pub ran_same : {X : Type 0} (s s' : State) (m m' : Work X) (r : Result X Fault) → m s ≡ m' s → Ran s m r s' → Ran s m' r s'
ran_same {X} s s' m m' r e (whole u d a b) =
    whole (λ h. u (subst (λ (o : Out X). 0 < length o.acts) (sym e) h)) (subst (λ (o : Out X). Allows s.due (length o.acts)) e d) (a ∙ ap (λ (o : Out X). o.answer) e) (b ∙ ap (λ (o : Out X). done s o.acts) e)
ran_same {X} s s' m m' r e (lost_at granted a rest split n f q b) = lost_at granted a rest (sym (ap (λ (o : Out X). o.acts) e) ∙ split) n f q b
ran_same {X} s s' m m' r e (was_lost l h n q b) = was_lost l (subst (λ (o : Out X). 0 < length o.acts) e h) n q b
