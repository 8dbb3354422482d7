-- The steps from bridge to bridge.
use Rattle.std.proofs.Common.{◌≡◌, ℕ, zero, suc, ◌+◌, length, get_or, Some, None, Ok, Err, Option, Result, refl, ap, subst}
use Rattle.access.specs.Access.{State}
use Rattle.pci.specs.declared.fault.Fault.{Fault}
use Rattle.pci.specs.declared.fault.Fault.TheVariants.{Spent}
use Rattle.work.specs.Doing.{Work, Ran, give, refuse, bind}
use Rattle.book.specs.Rows.{no_row}
use Rattle.numbering.specs.Rule.{Rows, descending, on_bus}
use Rattle.numbering.specs.Loop.{climbing, bridge_or, rounds, scanning}
use Rattle.work.proofs.Leads.{Leads, ran_then, ran_refuse, leads_step, leads_stop, leads_end}

pub onward : ℕ → ℕ → ℕ → Rows × Option ℕ → Work Rows
onward zero used last found = bridge_or found.1 found.0 (λ k. refuse (Spent (get_or found.0 k no_row).at last))
onward (suc left) used last found =
    bridge_or found.1 found.0 (λ k. bind (descending k (used + 1) last found.0) (rounds left (used + 1) last (Some k) (length found.0)))

pub at_rounds : (left used last : ℕ) (parent : Option ℕ) (i : ℕ) (rows : Rows) → rounds left used last parent i rows ≡ bind (climbing (suc (length rows)) parent i used rows) (onward left used last)
unfolding rounds onward
at_rounds zero used last parent i rows = refl
at_rounds (suc left) used last parent i rows = refl

pub onward_none : (left used last : ℕ) (rows : Rows) → onward left used last (rows, None) ≡ give rows
unfolding onward
onward_none zero used last rows = refl
onward_none (suc left) used last rows = refl

pub onward_spent : (left used last k : ℕ) (rows : Rows) → left ≡ zero → onward left used last (rows, Some k) ≡ refuse (Spent (get_or rows k no_row).at last)
unfolding onward
onward_spent left used last k rows e = ap (λ n. onward n used last (rows, Some k)) e

pub onward_next : (left less used last k : ℕ) (rows : Rows) → left ≡ suc less → onward left used last (rows, Some k) ≡ bind (descending k (used + 1) last rows) (rounds less (used + 1) last (Some k) (length rows))
unfolding onward
onward_next left less used last k rows e = ap (λ n. onward n used last (rows, Some k)) e

module _ (s s₁ s₀ : State) (m₀ : Work Rows) (left used last : ℕ) (parent : Option ℕ) (i : ℕ) (rows : Rows) (inv : Leads s (rounds left used last parent i rows) s₀ m₀) where
  climbs : Leads s (bind (climbing (suc (length rows)) parent i used rows) (onward left used last)) s₀ m₀
  climbs = subst (λ w. Leads s w s₀ m₀) (at_rounds left used last parent i rows) inv

  pub rounds_lost : (d : Fault) → Ran s (climbing (suc (length rows)) parent i used rows) (Err d) s₁ → Ran s₀ m₀ (Err d) s₁
  rounds_lost d r = leads_stop s s₁ s₀ (climbing (suc (length rows)) parent i used rows) (onward left used last) m₀ d climbs r

  goes_on : (at : Rows × Option ℕ) → Ran s (climbing (suc (length rows)) parent i used rows) (Ok at) s₁ → Leads s₁ (onward left used last at) s₀ m₀
  goes_on at r = leads_step s s₁ s₀ (climbing (suc (length rows)) parent i used rows) (onward left used last) m₀ at climbs r

  pub rounds_end : (xs : Rows) → Ran s (climbing (suc (length rows)) parent i used rows) (Ok (xs, None)) s₁ → Ran s₀ m₀ (Ok xs) s₁
  rounds_end xs r = leads_end s₁ s₀ m₀ xs (subst (λ w. Leads s₁ w s₀ m₀) (onward_none left used last xs) (goes_on (xs, None) r))

  pub rounds_spent : (xs : Rows) (k : ℕ) → left ≡ zero → Ran s (climbing (suc (length rows)) parent i used rows) (Ok (xs, Some k)) s₁ → Ran s₀ m₀ (Err (Spent (get_or xs k no_row).at last)) s₁
  rounds_spent xs k e r =
      let d = Spent (get_or xs k no_row).at last in
      subst (λ w. Leads s₁ w s₀ m₀) (onward_spent left used last k xs e) (goes_on (xs, Some k) r) (Err d) s₁ (ran_refuse s₁ d)

  module _ (xs : Rows) (k less : ℕ) (e : left ≡ suc less) (r : Ran s (climbing (suc (length rows)) parent i used rows) (Ok (xs, Some k)) s₁) (s₂ : State) where
    descends : Leads s₁ (bind (descending k (used + 1) last xs) (rounds less (used + 1) last (Some k) (length xs))) s₀ m₀
    descends = subst (λ w. Leads s₁ w s₀ m₀) (onward_next left less used last k xs e) (goes_on (xs, Some k) r)

    pub rounds_next : (ys : Rows) → Ran s₁ (descending k (used + 1) last xs) (Ok ys) s₂ → Leads s₂ (rounds less (used + 1) last (Some k) (length xs) ys) s₀ m₀
    rounds_next ys h = leads_step s₁ s₂ s₀ (descending k (used + 1) last xs) (rounds less (used + 1) last (Some k) (length xs)) m₀ ys descends h

    pub rounds_stop : (d : Fault) → Ran s₁ (descending k (used + 1) last xs) (Err d) s₂ → Ran s₀ m₀ (Err d) s₂
    rounds_stop d h = leads_stop s₁ s₂ s₀ (descending k (used + 1) last xs) (rounds less (used + 1) last (Some k) (length xs)) m₀ d descends h

-- bus 0 first
pub scan_then : (s₀ s₁ s' : State) (last : ℕ) (rows xs : Rows) (r : Result Rows Fault) → last ≡ s₀.last → Ran s₀ (on_bus 0 None rows) (Ok xs) s₁ → Ran s₁ (rounds last 0 last None 0 xs) r s' → Ran s₀ (scanning s₀.last rows) r s'
unfolding scanning
scan_then s₀ s₁ s' last rows xs r e h k =
    subst (λ n. Ran s₀ (scanning n rows) r s') e (ran_then s₀ s₁ s' (on_bus 0 None rows) (rounds last 0 last None 0) xs r h k)
