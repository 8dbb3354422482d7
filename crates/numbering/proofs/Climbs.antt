-- The steps of a climb.
use Rattle.std.proofs.Common.{◌≡◌, ℕ, zero, suc, ◌+◌, ◌<◌, ◌≤◌, get_or, Some, None, Ok, Err, Option, sym, refl, ap, ◌∙◌, subst, arith}
use Rattle.access.specs.Access.{State}
use Rattle.pci.specs.declared.fault.Fault.{Fault}
use Rattle.work.specs.Doing.{Work, Ran, give, bind}
use Rattle.book.specs.Rows.{no_row, Earlier}
use Rattle.numbering.specs.Rule.{Rows, next_bridge, closing}
use Rattle.numbering.specs.Loop.{climbing, found_or, above_or}
use Rattle.work.proofs.Leads.{Leads, leads_step, leads_stop, leads_end}

-- how many rows stand up to a parent: 0 for the host
abbrev pub depth : Option ℕ → ℕ
depth None = 0
depth (Some p) = suc p

abbrev Found : Type 0
Found = Rows × Option ℕ

-- what a climb is where n suffices
abbrev pub rest : ℕ → ℕ → Rows → ℕ → Work Found
rest n used rows p = bind (closing p used rows) (λ closed. climbing n (get_or closed p no_row).parent (p + 1) used closed)

pub at_found : (n : ℕ) (parent : Option ℕ) (i used k : ℕ) (rows : Rows) → depth parent < n → next_bridge parent i rows ≡ Some k → climbing n parent i used rows ≡ give (rows, Some k)
unfolding climbing
at_found zero parent i used k rows h e = absurd (omega arith)
at_found (suc n) parent i used k rows h e = ap (λ x. found_or x rows (above_or parent rows (rest n used rows))) e

pub at_top : (n i used : ℕ) (rows : Rows) → next_bridge None i rows ≡ None → climbing n None i used rows ≡ give (rows, None)
unfolding climbing
at_top zero i used rows e = refl
at_top (suc n) i used rows e = ap (λ x. found_or x rows (above_or None rows (rest n used rows))) e

pub at_up : (n p i used : ℕ) (rows : Rows) → next_bridge (Some p) i rows ≡ None → climbing (suc n) (Some p) i used rows ≡ rest n used rows p
unfolding climbing
at_up n p i used rows e = ap (λ x. found_or x rows (above_or (Some p) rows (rest n used rows))) e

module _ (s s₀ : State) (m₀ : Work Found) (n : ℕ) (parent : Option ℕ) (i used : ℕ) (rows : Rows) (inv : Leads s (climbing n parent i used rows) s₀ m₀) where
  pub climb_found : (k : ℕ) → depth parent < n → next_bridge parent i rows ≡ Some k → Ran s₀ m₀ (Ok (rows, Some k)) s
  climb_found k h e = leads_end s s₀ m₀ (rows, Some k) (subst (λ w. Leads s w s₀ m₀) (at_found n parent i used k rows h e) inv)

  pub climb_top : parent ≡ None → next_bridge parent i rows ≡ None → Ran s₀ m₀ (Ok (rows, None)) s
  climb_top q e =
      let e' : next_bridge None i rows ≡ None = ap (λ x. next_bridge x i rows) (sym q) ∙ e in
      leads_end s s₀ m₀ (rows, None) (subst (λ w. Leads s w s₀ m₀) (ap (λ x. climbing n x i used rows) q ∙ at_top n i used rows e') inv)

-- one bus up
up_from : (s s₀ : State) (m₀ : Work Found) (n : ℕ) (parent : Option ℕ) (p i used : ℕ) (rows : Rows) → Leads s (climbing n parent i used rows) s₀ m₀ → depth parent < n → parent ≡ Some p → next_bridge parent i rows ≡ None
    → (m : ℕ) × (n ≡ suc m) × Leads s (rest m used rows p) s₀ m₀
up_from s s₀ m₀ zero parent p i used rows inv h q e = absurd (omega arith)
up_from s s₀ m₀ (suc n) parent p i used rows inv h q e =
    let e' : next_bridge (Some p) i rows ≡ None = ap (λ x. next_bridge x i rows) (sym q) ∙ e in
    (n, refl, subst (λ w. Leads s w s₀ m₀) (ap (λ x. climbing (suc n) x i used rows) q ∙ at_up n p i used rows e') inv)

pub climb_up : (s s₁ s₀ : State) (m₀ : Work Found) (n : ℕ) (parent : Option ℕ) (p i used : ℕ) (rows closed : Rows) → Leads s (climbing n parent i used rows) s₀ m₀ → depth parent < n → parent ≡ Some p → next_bridge parent i rows ≡ None
    → Ran s (closing p used rows) (Ok closed) s₁ → (m : ℕ) × (n ≡ suc m) × Leads s₁ (climbing m (get_or closed p no_row).parent (p + 1) used closed) s₀ m₀
climb_up s s₁ s₀ m₀ n parent p i used rows closed inv h q e r =
    let u = up_from s s₀ m₀ n parent p i used rows inv h q e in
    (u.0, u.1, leads_step s s₁ s₀ (closing p used rows) (λ closed. climbing u.0 (get_or closed p no_row).parent (p + 1) used closed) m₀ closed u.2 r)

pub climb_stop : (s s₁ s₀ : State) (m₀ : Work Found) (n : ℕ) (parent : Option ℕ) (p i used : ℕ) (rows : Rows) (d : Fault) → Leads s (climbing n parent i used rows) s₀ m₀ → depth parent < n → parent ≡ Some p → next_bridge parent i rows ≡ None
    → Ran s (closing p used rows) (Err d) s₁ → Ran s₀ m₀ (Err d) s₁
climb_stop s s₁ s₀ m₀ n parent p i used rows d inv h q e r =
    let u = up_from s s₀ m₀ n parent p i used rows inv h q e in
    leads_stop s s₁ s₀ (closing p used rows) (λ closed. climbing u.0 (get_or closed p no_row).parent (p + 1) used closed) m₀ d u.2 r

pub depth_within : (o : Option ℕ) (n : ℕ) → Earlier o n → depth o ≤ n
depth_within None n h = omega arith
depth_within (Some p) n h = omega (arith, h p refl)

pub earlier_more : (o : Option ℕ) (m n : ℕ) → Earlier o m → m ≤ n → Earlier o n
earlier_more o m n h l p e = omega (arith, h p e)
