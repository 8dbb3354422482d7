-- What work keeps at every moment, wherever it stops.
use Rattle.std.proofs.Common.{◌≡◌, ℕ, zero, suc, ◌≤◌, List, [], ◌∷◌, ◌++◌, length, take, Ok, Err, Result, sym, refl, ap, ◌∙◌, subst, arith, length-append}
use Rattle.std.proofs.lemmas.List.{take_at}
use Rattle.pci.specs.declared.Name.{Name}
use Rattle.machine.specs.declared.Node.{Node}
use Rattle.access.specs.Access.{State}
use Rattle.pci.specs.declared.fault.Fault.{Fault}
use Rattle.work.specs.Doing.{Act, reads, writes, did, done, Work, give, refuse, read, write, decide, follow, bind, Ran, whole, lost_at, was_lost}
use Rattle.work.proofs.Leads.{done_append}

-- begun where P holds, the work keeps I at every moment, and where it is granted it ends in Q
pub record Holds {X : Type 0} (P : State → Type 0) (m : Work X) (I : List Node → Type 0) (Q : X → State → Type 0) : Type 0 where
  pub always : (s : State) → P s → (n : ℕ) → n ≤ length (m s).acts → I (done s (take n (m s).acts)).machine
  pub ends : (s : State) → P s → (x : X) → (m s).answer ≡ Ok x → Q x (done s (m s).acts)

first_none : (I : List Node → Type 0) (s : State) (n : ℕ) → I s.machine → I (done s (take n [])).machine
first_none I s zero h = h
first_none I s (suc n) h = h

first_one : (I : List Node → Type 0) (s : State) (w : Act) (n : ℕ) → n ≤ 1 → I s.machine → I (did s w).machine → I (done s (take n (w ∷ []))).machine
first_one I s w zero l h g = h
first_one I s w (suc zero) l h g = g
first_one I s w (suc (suc n)) l h g = absurd (omega arith)

pub holds_give : {X : Type 0} (P : State → Type 0) (I : List Node → Type 0) (Q : X → State → Type 0) (x : X) → ((s : State) → P s → I s.machine) → ((s : State) → P s → Q x s) → Holds P (give x) I Q
unfolding give
holds_give P I Q x h g =
    record { always = λ s p n _. first_none I s n (h s p); ends = λ s p y e. (let q : x ≡ y = cc in subst (λ z. Q z s) q (g s p)) }

pub holds_read : (P : State → Type 0) (I : List Node → Type 0) (Q : ℕ → State → Type 0) (at : Name) (o : ℕ) → ((s : State) → P s → I s.machine) → ((s : State) → P s → (v : ℕ) → (read at o s).answer ≡ Ok v → Q v (did s (reads at o))) → Holds P (read at o) I Q
unfolding read did
holds_read P I Q at o h g = record { always = λ s p n l. first_one I s (reads at o) n l (h s p) (h s p); ends = λ s p y e. g s p y e }

pub holds_write : (P : State → Type 0) (I : List Node → Type 0) (Q : Unit {0} → State → Type 0) (at : Name) (o v : ℕ)
    → ((s : State) → P s → I s.machine) → ((s : State) → P s → I (did s (writes at o v)).machine) → ((s : State) → P s → Q tt (did s (writes at o v)))
    → Holds P (write at o v) I Q
unfolding write
holds_write P I Q at o v h g q =
    record { always = λ s p n l. first_one I s (writes at o v) n l (h s p) (g s p); ends = λ s p y e. q s p }

pub holds_refuse : {X : Type 0} (P : State → Type 0) (I : List Node → Type 0) (Q : X → State → Type 0) (d : Fault) → ((s : State) → P s → I s.machine) → Holds P (refuse d) I Q
unfolding refuse
holds_refuse P I Q d h = record { always = λ s p n _. first_none I s n (h s p); ends = λ s p y e. absurd (let z : ◌≡◌ {A = ℕ} 0 1 = cc in omega arith) }

pub holds_decide : {X : Type 0} (P : State → Type 0) (I : List Node → Type 0) (Q : X → State → Type 0) (r : Result X Fault) → ((s : State) → P s → I s.machine) → ((s : State) → P s → (x : X) → r ≡ Ok x → Q x s) → Holds P (decide r) I Q
unfolding decide
holds_decide P I Q r h g = record { always = λ s p n _. first_none I s n (h s p); ends = λ s p y e. g s p y e }

-- a moment of two stretches is one of the first or one of the second
moment : (I : List Node → Type 0) (s : State) (ws vs : List Act) (n : ℕ) → n ≤ length (ws ++ vs)
    → ((k : ℕ) → k ≤ length ws → I (done s (take k ws)).machine) → ((k : ℕ) → k ≤ length vs → I (done (done s ws) (take k vs)).machine) → I (done s (take n (ws ++ vs))).machine
moment I s [] vs n l f g = g n l
moment I s (w ∷ ws) vs zero l f g = f zero (omega arith)
moment I s (w ∷ ws) vs (suc n) l f g = moment I (did s w) ws vs n (omega arith) (λ k q. f (suc k) (omega arith)) g

follow_always : {X Y : Type 0} (I : List Node → Type 0) (Q : X → State → Type 0) (s : State) (ws : List Act) (o : Result X Fault) (k : X → Work Y)
    → ((n : ℕ) → n ≤ length ws → I (done s (take n ws)).machine) → ((x : X) → o ≡ Ok x → Q x (done s ws)) → ((x : X) → Q x (done s ws) → (n : ℕ) → n ≤ length (k x (done s ws)).acts → I (done (done s ws) (take n (k x (done s ws)).acts)).machine)
    → (n : ℕ) → n ≤ length (follow s ws o k).acts → I (done s (take n (follow s ws o k).acts)).machine
follow_always I Q s ws (Err e) k f q g n l = f n l
follow_always I Q s ws (Ok x) k f q g n l = moment I s ws (k x (done s ws)).acts n l f (g x (q x refl))

follow_ends : {X Y : Type 0} (Q : X → State → Type 0) (R : Y → State → Type 0) (s : State) (ws : List Act) (o : Result X Fault) (k : X → Work Y)
    → ((x : X) → o ≡ Ok x → Q x (done s ws)) → ((x : X) → Q x (done s ws) → (y : Y) → (k x (done s ws)).answer ≡ Ok y → R y (done (done s ws) (k x (done s ws)).acts))
    → (y : Y) → (follow s ws o k).answer ≡ Ok y → R y (done s (follow s ws o k).acts)
follow_ends Q R s ws (Err d) k q g y e = absurd (let z : ◌≡◌ {A = ℕ} 0 1 = cc in omega arith)
follow_ends Q R s ws (Ok x) k q g y e = subst (R y) (sym (done_append s ws (k x (done s ws)).acts)) (g x (q x refl) y e)

pub holds_bind : {X Y : Type 0} (P : State → Type 0) (I : List Node → Type 0) (Q : X → State → Type 0) (R : Y → State → Type 0) (m : Work X) (k : X → Work Y) → Holds P m I Q → ((x : X) → Holds (Q x) (k x) I R) → Holds P (bind m k) I R
unfolding bind
holds_bind P I Q R m k h g =
    record {
      always = λ s p n l. follow_always I Q s (m s).acts (m s).answer k (h.always s p) (h.ends s p) (λ x q. (g x).always (done s (m s).acts) q) n l;
      ends = λ s p y e. follow_ends Q R s (m s).acts (m s).answer k (h.ends s p) (λ x q. (g x).ends (done s (m s).acts) q) y e;
    }

first_all : (s : State) (ws : List Act) → done s (take (length ws) ws) ≡ done s ws
first_all s [] = refl
first_all s (w ∷ ws) = first_all (did s w) ws

-- whatever came of a call
pub holds_ran : {X : Type 0} (P : State → Type 0) (I : List Node → Type 0) (Q : X → State → Type 0) (s s' : State) (m : Work X) (r : Result X Fault) → Holds P m I Q → P s → Ran s m r s' → I s'.machine
holds_ran P I Q s s' m r h p (whole u d a e) =
    subst (λ (t : State). I t.machine) (first_all s (m s).acts ∙ sym e) (h.always s p (length (m s).acts) (omega arith))
holds_ran P I Q s s' m r h p (lost_at granted a rest split n f q e) =
    let t : take (length granted) (m s).acts ≡ granted = ap (take (length granted)) split ∙ take_at granted (a ∷ rest) (length granted) refl in
    let within : length granted ≤ length (m s).acts = omega (arith, ap length split, length-append granted (a ∷ rest)) in
    subst (λ (t : State). I t.machine) (sym e) (subst (λ (ws : List Act). I (done s ws).machine) t (h.always s p (length granted) within))
holds_ran P I Q s s' m r h p (was_lost l some n q e) = subst (λ (t : State). I t.machine) (sym e) (h.always s p 0 (omega arith))
