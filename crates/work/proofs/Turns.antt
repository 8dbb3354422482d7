-- The turns of a loop that counts from i up to e.
use Rattle.std.proofs.Common.{◌≡◌, ℕ, suc, ◌+◌, ◌-◌, ◌<◌, ◌≤◌, Ok, Err, ap, subst, arith}
use Rattle.access.specs.Access.{State}
use Rattle.pci.specs.declared.fault.Fault.{Fault}
use Rattle.work.specs.Doing.{Work, Ran, give, bind, times}
use Rattle.work.proofs.Leads.{Leads, leads_step, leads_stop, leads_end}

times_more : {X : Type 0} (e i : ℕ) (f : ℕ → X → Work X) (x : X) → i < e → times (e - i) i f x ≡ bind (f i x) (times (e - (i + 1)) (i + 1) f)
unfolding times
times_more e i f x h =
    let q : e - i ≡ suc (e - (i + 1)) = omega arith in
    ap (λ n. times n i f x) q

times_none : {X : Type 0} (e i : ℕ) (f : ℕ → X → Work X) (x : X) → e ≤ i → times (e - i) i f x ≡ give x
unfolding times
times_none e i f x h =
    let q : e - i ≡ 0 = omega arith in
    ap (λ n. times n i f x) q

pub leads_turn : {X : Type 0} (s s₁ s₀ : State) (e i : ℕ) (f : ℕ → X → Work X) (x y : X) (m₀ : Work X) → i < e → Leads s (times (e - i) i f x) s₀ m₀ → Ran s (f i x) (Ok y) s₁ → Leads s₁ (times (e - (i + 1)) (i + 1) f y) s₀ m₀
leads_turn s s₁ s₀ e i f x y m₀ h l r =
    leads_step s s₁ s₀ (f i x) (times (e - (i + 1)) (i + 1) f) m₀ y (subst (λ w. Leads s w s₀ m₀) (times_more e i f x h) l) r

pub leads_turn_stop : {X : Type 0} (s s' s₀ : State) (e i : ℕ) (f : ℕ → X → Work X) (x : X) (m₀ : Work X) (d : Fault) → i < e → Leads s (times (e - i) i f x) s₀ m₀ → Ran s (f i x) (Err d) s' → Ran s₀ m₀ (Err d) s'
leads_turn_stop s s' s₀ e i f x m₀ d h l r =
    leads_stop s s' s₀ (f i x) (times (e - (i + 1)) (i + 1) f) m₀ d (subst (λ w. Leads s w s₀ m₀) (times_more e i f x h) l) r

pub leads_turns_end : {X : Type 0} (s s₀ : State) (e i : ℕ) (f : ℕ → X → Work X) (x : X) (m₀ : Work X) → e ≤ i → Leads s (times (e - i) i f x) s₀ m₀ → Ran s₀ m₀ (Ok x) s
leads_turns_end s s₀ e i f x m₀ h l = leads_end s s₀ m₀ x (subst (λ w. Leads s w s₀ m₀) (times_none e i f x h) l)
