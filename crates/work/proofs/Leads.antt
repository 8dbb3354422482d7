-- How stretches of work compose, and what a loop of them keeps.
use Rattle.std.proofs.Common.{◌≡◌, ℕ, suc, ◌+◌, ◌-◌, ◌<◌, Bool, true, false, cond, List, [], ◌∷◌, ◌++◌, length, Some, None, Ok, Err, Option, Result, IsErrAnd, sym, refl, ap, ◌∙◌, subst, append_assoc, arith, length-append}
use Rattle.pci.specs.declared.Name.{Name}
use Rattle.pci.specs.declared.Loss.{Loss}
use Rattle.pci.specs.declared.fault.Fault.{Fault}
use Rattle.pci.specs.declared.fault.Fault.TheVariants.{Lost}
use Rattle.access.specs.Access.{State, Due, unknown, never, after_more, Allows, Falls, later, Reads, Writes, loss_told, lost_with}
use Rattle.access.proofs.Exits.{err_is}
use Rattle.work.specs.Doing.{Act, reads, writes, place, did, done, Out, Work, give, refuse, read, write, follow, bind, decide, Ran, whole, lost_at, was_lost}

pub done_append : (s : State) (ws vs : List Act) → done s (ws ++ vs) ≡ done (done s ws) vs
done_append s [] vs = refl
done_append s (a ∷ ws) vs = done_append (did s a) ws vs

did_due : (s : State) (a : Act) → (did s a).due ≡ later s.due 1
unfolding did
did_due s (reads at o) = refl
did_due s (writes at o v) = refl

later_none : (d : Due) → later d 0 ≡ d
later_none unknown = refl
later_none never = refl
later_none (after_more k) = let e : k - 0 ≡ k = omega arith in ap after_more e

later_more : (d : Due) (n : ℕ) → later (later d 1) n ≡ later d (suc n)
later_more unknown n = refl
later_more never n = refl
later_more (after_more k) n = let e : k - 1 - n ≡ k - suc n = omega arith in ap after_more e

-- each granted access brings the loss nearer
done_due : (s : State) (ws : List Act) → (done s ws).due ≡ later s.due (length ws)
done_due s [] = sym (later_none s.due)
done_due s (w ∷ ws) = done_due (did s w) ws ∙ ap (λ d. later d (length ws)) (did_due s w) ∙ later_more s.due (length ws)

allows_none : (d : Due) → Allows d 0
allows_none unknown = tt
allows_none never = tt
allows_none (after_more k) = omega arith

allows_both : (d : Due) (a b : ℕ) → Allows d a → Allows (later d a) b → Allows d (a + b)
allows_both unknown a b h g = tt
allows_both never a b h g = tt
allows_both (after_more k) a b h g = omega arith

falls_later : (d : Due) (a n : ℕ) → Allows d a → Falls (later d a) n → Falls d (a + n)
falls_later unknown a n h g = tt
falls_later never a n h g = g
falls_later (after_more k) a n h g = omega arith

did_loss : (s : State) (a : Act) → (did s a).loss ≡ s.loss
unfolding did
did_loss s (reads at o) = refl
did_loss s (writes at o v) = refl

-- granted accesses lose nothing
pub done_loss : (s : State) (ws : List Act) → (done s ws).loss ≡ s.loss
done_loss s [] = refl
done_loss s (a ∷ ws) = done_loss (did s a) ws ∙ did_loss s a

-- the same over what `follow` gives
abbrev Does : {X : Type 0} → State → Out X → Result X Fault → State → Type 0
Does {X} s o r s' = let m : Work X = λ _. o in Ran s m r s'

first_or_second : (s : State) (ws vs : List Act) → (0 < length ws → s.loss ≡ None) → (0 < length vs → (done s ws).loss ≡ None) → 0 < length (ws ++ vs) → s.loss ≡ None
first_or_second s [] vs u v h = v h
first_or_second s (a ∷ ws) vs u v h = u (omega arith)

module _ {X Y : Type 0} (s s₂ : State) (k : X → Work Y) (x : X) (r : Result Y Fault) where
  allows_then : (ws vs : List Act) → Allows s.due (length ws) → Allows (done s ws).due (length vs) → Allows s.due (length (ws ++ vs))
  allows_then ws vs a b =
      subst (Allows s.due) (sym (length-append ws vs)) (allows_both s.due (length ws) (length vs) a (subst (λ d. Allows d (length vs)) (done_due s ws) b))

  falls_then : (ws vs : List Act) → Allows s.due (length ws) → Falls (done s ws).due (length vs) → Falls s.due (length (ws ++ vs))
  falls_then ws vs a b =
      subst (Falls s.due) (sym (length-append ws vs)) (falls_later s.due (length ws) (length vs) a (subst (λ d. Falls d (length vs)) (done_due s ws) b))

  follow_then : (ws : List Act) → (0 < length ws → s.loss ≡ None) → Allows s.due (length ws) → Ran (done s ws) (k x) r s₂ → Does s (follow s ws (Ok x) k) r s₂
  follow_then ws u a (whole v b q e) =
      whole (first_or_second s ws (k x (done s ws)).acts u v) (allows_then ws (k x (done s ws)).acts a b) q (e ∙ sym (done_append s ws (k x (done s ws)).acts))
  follow_then ws u a (lost_at granted w rest split n f q e) =
      lost_at (ws ++ granted) w rest (ap (λ l. ws ++ l) split ∙ sym (append_assoc ws granted (w ∷ rest))) (sym (done_loss s ws) ∙ n) (falls_then ws granted a f) q
      (e ∙ ap (λ t. lost_with t (place w)) (sym (done_append s ws granted)))
  follow_then [] u a (was_lost l h n q e) = was_lost l h n q e
  follow_then (w ∷ ws) u a (was_lost l h n q e) =
      let z : s.loss ≡ None = u (omega arith) in
      absurd (cc (done_loss s (w ∷ ws)))

follow_to : {X Y : Type 0} (s s₁ s₂ : State) (ws : List Act) (o : Result X Fault) (k : X → Work Y) (x : X) (r : Result Y Fault) → (0 < length ws → s.loss ≡ None) → Allows s.due (length ws) → Ok x ≡ o → s₁ ≡ done s ws → Ran s₁ (k x) r s₂ → Does s (follow s ws o k) r s₂
follow_to s s₁ s₂ ws o k x r u a q e h =
    subst (λ p. Does s (follow s ws p k) r s₂) q (follow_then s s₂ k x r ws u a (subst (λ t. Ran t (k x) r s₂) e h))

bind_does : {X Y : Type 0} (s s' : State) (m : Work X) (k : X → Work Y) (r : Result Y Fault) → Does s (follow s (m s).acts (m s).answer k) r s' → Ran s (bind m k) r s'
unfolding bind
bind_does s s' m k r (whole u a q e) = whole u a q e
bind_does s s' m k r (lost_at granted a rest split n f q e) = lost_at granted a rest split n f q e
bind_does s s' m k r (was_lost l h n q e) = was_lost l h n q e

-- a stretch that was granted, and then the next
pub ran_then : {X Y : Type 0} (s s₁ s₂ : State) (m : Work X) (k : X → Work Y) (x : X) (r : Result Y Fault) → Ran s m (Ok x) s₁ → Ran s₁ (k x) r s₂ → Ran s (bind m k) r s₂
ran_then s s₁ s₂ m k x r (whole u a q e) g = bind_does s s₂ m k r (follow_to s s₁ s₂ (m s).acts (m s).answer k x r u a q e g)
ran_then s s₁ s₂ m k x r (lost_at granted a rest split n f q e) g = absurd cc
ran_then s s₁ s₂ m k x r (was_lost l h n q e) g = absurd cc

-- what begins a stretch begins what begins with it
follow_split : {X Y : Type 0} (s : State) (ws : List Act) (o : Result X Fault) (k : X → Work Y) (granted : List Act) (a : Act) (rest : List Act) → ws ≡ granted ++ a ∷ rest → (more : List Act) × ((follow s ws o k).acts ≡ granted ++ a ∷ more)
follow_split s ws (Err e) k granted a rest h = (rest, h)
follow_split s ws (Ok x) k granted a rest h =
    (rest ++ (k x (done s ws)).acts, ap (λ l. l ++ (k x (done s ws)).acts) h ∙ append_assoc granted (a ∷ rest) (k x (done s ws)).acts)

follow_some : {X Y : Type 0} (s : State) (ws : List Act) (o : Result X Fault) (k : X → Work Y) → 0 < length ws → 0 < length (follow s ws o k).acts
follow_some s ws (Err e) k h = h
follow_some s ws (Ok x) k h = omega (arith, length-append ws (k x (done s ws)).acts)

-- what begins with an access makes one
pub bind_some : {X Y : Type 0} (m : Work X) (k : X → Work Y) (s : State) → 0 < length (m s).acts → 0 < length (bind m k s).acts
unfolding bind
bind_some m k s h = follow_some s (m s).acts (m s).answer k h

-- a stretch that was refused or lost ends it
pub ran_stop : {X Y : Type 0} (s s₁ : State) (m : Work X) (k : X → Work Y) (e : Fault) → Ran s m (Err e) s₁ → Ran s (bind m k) (Err e) s₁
ran_stop {Y = Y} s s₁ m k e (whole u a q b) =
    let r : Result Y Fault = Err e in
    bind_does s s₁ m k r (subst (λ p. Does s (follow s (m s).acts p k) r s₁) q (whole u a refl b))
ran_stop {Y = Y} s s₁ m k e (lost_at granted a rest split n f q b) =
    let r : Result Y Fault = Err e in
    let p = follow_split s (m s).acts (m s).answer k granted a rest split in
    let z : e ≡ Lost (place a) = cc in
    bind_does s s₁ m k r (lost_at granted a p.0 p.1 n f (ap (λ (x : Fault). let y : Result Y Fault = Err x in y) z) b)
ran_stop {Y = Y} s s₁ m k e (was_lost l h n q b) =
    let r : Result Y Fault = Err e in
    let z : e ≡ Lost l = cc in
    bind_does s s₁ m k r (was_lost l (follow_some s (m s).acts (m s).answer k h) n (ap (λ (x : Fault). let y : Result Y Fault = Err x in y) z) b)

-- no access
pub ran_give : {X : Type 0} (s : State) (x : X) → Ran s (give x) (Ok x) s
unfolding give
ran_give s x = whole (λ h. absurd (omega arith)) (allows_none s.due) refl refl

pub ran_refuse : {X : Type 0} (s : State) (e : Fault) → Ran {X = X} s (refuse e) (Err e) s
unfolding refuse
ran_refuse s e = whole (λ h. absurd (omega arith)) (allows_none s.due) refl refl

pub ran_decide : {X : Type 0} (s : State) (r : Result X Fault) → Ran s (decide r) r s
unfolding decide
ran_decide s r = whole (λ h. absurd (omega arith)) (allows_none s.due) refl refl

-- with the loss put in, a state is lost
with_loss : (s : State) (o : Option Loss) → s.loss ≡ o → ◌≡◌ {A = State} (record { machine = s.machine; last = s.last; loss = o; due = s.due }) s
with_loss s o q = ap (λ (x : Option Loss). let t : State = record { machine = s.machine; last = s.last; loss = x; due = s.due } in t) (sym q)

-- one read or write that was lost, now or before
lost_one : {X : Type 0} (s s' : State) (m : Work X) (a : Act) (l : Loss) (o : Option Loss) → (m s).acts ≡ a ∷ [] → s.loss ≡ o → l ≡ loss_told o (place a).register.at (place a).register.offset → (s.loss ≡ None → Falls s.due 0) → s' ≡ lost_with s l → Ran s m (Err (Lost l)) s'
lost_one {X} s s' m a l None m_is n e f t =
    let z : l ≡ place a = e in
    lost_at [] a [] m_is n (f n) (ap (λ (x : Loss). let y : Result X Fault = Err (Lost x) in y) z) (t ∙ ap (lost_with s) z)
lost_one {X} s s' m a l (Some k) m_is n e f t =
    was_lost k (subst (λ (ws : List Act). 0 < length ws) (sym m_is) (omega arith)) n (ap (λ (x : Loss). let y : Result X Fault = Err (Lost x) in y) e) (t ∙ ap (lost_with s) e ∙ with_loss s (Some k) n)

pub ran_read : (s s' : State) (at : Name) (offset v : ℕ) → Reads s at offset (Ok v) s' → Ran s (read at offset) (Ok v) s'
unfolding read did
ran_read s s' at offset v h =
    whole (λ _. h.0) h.1 (ap (λ x. let y : Result ℕ Fault = Ok x in y) h.3)
    (h.2 ∙ ap (λ (x : Option Loss). let t : State = record { machine = s.machine; last = s.last; loss = x; due = later s.due 1 } in t) (sym h.0))

pub ran_read_lost : (s s' : State) (at : Name) (offset : ℕ) (l : Loss) (r : Result ℕ Fault) → Reads s at offset (Err l) s' → IsErrAnd r (λ f. f ≡ Lost l) → Ran s (read at offset) r s'
unfolding read
ran_read_lost s s' at offset l r h e =
    subst (λ x. Ran s (read at offset) x s') (sym (err_is r (Lost l) e)) (lost_one s s' (read at offset) (reads at offset) l s.loss refl refl h.0 h.1 h.2)

pub ran_write : (s s' : State) (at : Name) (offset v : ℕ) → Writes s at offset v (Ok tt) s' → Ran s (write at offset v) (Ok tt) s'
unfolding write did
ran_write s s' at offset v h =
    whole (λ _. h.0) h.1 refl
    (h.2 ∙ ap (λ (x : Option Loss). let t : State = record { machine = (did s (writes at offset v)).machine; last = s.last; loss = x; due = later s.due 1 } in t) (sym h.0))

pub ran_write_lost : (s s' : State) (at : Name) (offset v : ℕ) (l : Loss) (r : Result (Unit {0}) Fault) → Writes s at offset v (Err l) s' → IsErrAnd r (λ f. f ≡ Lost l) → Ran s (write at offset v) r s'
unfolding write
ran_write_lost s s' at offset v l r h e =
    subst (λ x. Ran s (write at offset v) x s') (sym (err_is r (Lost l) e)) (lost_one s s' (write at offset v) (writes at offset v) l s.loss refl refl h.0 h.1 h.2)

-- to do m from s is all that is left of doing m₀ from s₀: what a loop keeps
abbrev pub Leads : {X : Type 0} → State → Work X → State → Work X → Type 0
Leads {X} s m s₀ m₀ = (r : Result X Fault) (s' : State) → Ran s m r s' → Ran s₀ m₀ r s'

pub leads_start : {X : Type 0} (s : State) (m : Work X) → Leads s m s m
leads_start s m r s' h = h

pub leads_step : {X Y : Type 0} (s s₁ s₀ : State) (m : Work X) (k : X → Work Y) (m₀ : Work Y) (x : X) → Leads s (bind m k) s₀ m₀ → Ran s m (Ok x) s₁ → Leads s₁ (k x) s₀ m₀
leads_step s s₁ s₀ m k m₀ x f e r s' h = f r s' (ran_then s s₁ s' m k x r e h)

pub leads_stop : {X Y : Type 0} (s s' s₀ : State) (m : Work X) (k : X → Work Y) (m₀ : Work Y) (e : Fault) → Leads s (bind m k) s₀ m₀ → Ran s m (Err e) s' → Ran s₀ m₀ (Err e) s'
leads_stop s s' s₀ m k m₀ e f h = f (Err e) s' (ran_stop s s' m k e h)

pub leads_end : {X : Type 0} (s s₀ : State) (m₀ : Work X) (x : X) → Leads s (give x) s₀ m₀ → Ran s₀ m₀ (Ok x) s
leads_end s s₀ m₀ x f = f (Ok x) s (ran_give s x)

pub ran_give_is : {X : Type 0} (s : State) (x y : X) → y ≡ x → Ran s (give x) (Ok y) s
ran_give_is {X} s x y e = subst (λ (z : X). Ran s (give x) (Ok z) s) (sym e) (ran_give s x)

pub ran_decide_is : {X : Type 0} (s : State) (r q : Result X Fault) → q ≡ r → Ran s (decide r) q s
ran_decide_is {X} s r q e = subst (λ z. Ran s (decide r) z s) (sym e) (ran_decide s r)

-- one of two stretches
pub ran_if : {X : Type 0} (s s' : State) (b : Bool) (m k : Work X) (r : Result X Fault) → b ≡ true → Ran s m r s' → Ran s (cond b m k) r s'
ran_if s s' b m k r e h = subst (λ q. Ran s (cond q m k) r s') (sym e) h

pub ran_else : {X : Type 0} (s s' : State) (b : Bool) (m k : Work X) (r : Result X Fault) → b ≡ false → Ran s k r s' → Ran s (cond b m k) r s'
ran_else s s' b m k r e h = subst (λ q. Ran s (cond q m k) r s') (sym e) h

-- a refusal seen in the answer of the whole
pub seen : {W Y : Type 0} (V : Result Y Fault → Result W Fault) (s s' : State) (m : Work W) (r : Result Y Fault) (e : Fault) → r ≡ Err e → Ran s m (V (Err e)) s' → Ran s m (V r) s'
seen V s s' m r e q h = subst (λ x. Ran s m (V x) s') (sym q) h

-- work that makes an access tells a loss wherever the access is lost afterwards
pub ran_told : {X : Type 0} (s s' : State) (m : Work X) (r : Result X Fault) (l : Loss) → 0 < length (m s).acts → Ran s m r s' → s'.loss ≡ Some l → r ≡ Err (Lost l)
ran_told s s' m r l some (whole u a q e) t =
    let z : s.loss ≡ None = u some in
    absurd (cc (done_loss s (m s).acts))
ran_told {X} s s' m r l some (lost_at granted a rest split n f q e) t =
    let z : ◌≡◌ {A = Option Loss} (Some (place a)) (Some l) = ap (λ (x : State). x.loss) (sym e) ∙ t in
    let y : place a ≡ l = cc in
    q ∙ ap (λ (x : Loss). let o : Result X Fault = Err (Lost x) in o) y
ran_told {X} s s' m r l some (was_lost k h n q e) t =
    let z : ◌≡◌ {A = Option Loss} (Some k) (Some l) = sym n ∙ ap (λ (x : State). x.loss) (sym e) ∙ t in
    let y : k ≡ l = cc in
    q ∙ ap (λ (x : Loss). let o : Result X Fault = Err (Lost x) in o) y
