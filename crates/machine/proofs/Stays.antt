-- What a write to another dword leaves: the selection.
use Rattle.std.proofs.Common.{◌≡◌, ℕ, zero, suc, ◌+◌, ◌/◌, ◌%◌, ◌<◌, ◌≤◌, Bool, cond, ◌&&◌, eqb, ltb, leb, ◌≢◌, List, [], ◌∷◌, length, get_or, set, Some, None, Option, sym, refl, ap, ◌∙◌, ap₂, ⊎_elim, arith, length-set}
use Rattle.std.proofs.lemmas.List.{get_or-set_same, get_or-set_other, set_past}
use Rattle.std.proofs.lemmas.Bool.{cases_eq, cases_lt}
use Rattle.pci.specs.declared.Name.{Name}
use Rattle.machine.specs.declared.Dword.{Dword}
use Rattle.machine.specs.declared.Node.{Node}
use Rattle.std.specs.List.{position_from}
use Rattle.std.proofs.lemmas.Iterator.Adapters.{position_from-zero}
use Rattle.machine.specs.Machine.{bridge, secondary, subordinate, passes, reaches, on_bus, hits, selected, nowhere, value, blank, with_dword, write_at, chosen, written}

-- all that the selection reads of a node
abbrev pub Shape : Type 0
Shape = Option ℕ × ℕ × ℕ × ℕ × ℕ

abbrev pub shape : Node → Shape
shape n = (n.parent, n.device, n.function, value n 6, value n 3)

abbrev low : Shape → ℕ
low s = s.3 / 0x100 % 0x100

abbrev high : Shape → ℕ
high s = s.3 / 0x10000 % 0x100

abbrev is_bridge : Shape → Bool
is_bridge s = eqb (s.4 / 0x10000 % 0x80) 1

module _ (ns ms : List Node) (same : (j : ℕ) → shape (get_or ns j nowhere) ≡ shape (get_or ms j nowhere)) where
  reaches_alike : (k b : ℕ) (p : Option ℕ) → reaches k ns b p ≡ reaches k ms b p
  reaches_alike zero b None = refl
  reaches_alike (suc k) b None = refl
  reaches_alike zero b (Some p) = refl
  reaches_alike (suc k) b (Some p) =
      ap (λ s. (is_bridge s && (ltb (low s) b && leb b (high s))) && reaches k ns b s.0) (same p)
      ∙ ap (λ x. passes b (get_or ms p nowhere) && x) (reaches_alike k b (get_or ms p nowhere).parent)

  module _ (long : length ns ≡ length ms) where
    on_bus_alike : (b : ℕ) (p : Option ℕ) → on_bus ns b p ≡ on_bus ms b p
    on_bus_alike b None = refl
    on_bus_alike b (Some p) =
        ap (λ s. ltb 0 b && ((is_bridge s && (eqb (low s) b && leb b (high s))) && reaches (length ns) ns b s.0)) (same p)
        ∙ ap (λ x. ltb 0 b && ((bridge (get_or ms p nowhere) && (eqb (secondary (get_or ms p nowhere)) b && leb b (subordinate (get_or ms p nowhere)))) && x)) (reaches_alike (length ns) b (get_or ms p nowhere).parent ∙ ap (λ k. reaches k ms b (get_or ms p nowhere).parent) long)

    hits_alike : (at : Name) (n m : Node) → shape n ≡ shape m → hits ns at n ≡ hits ms at m
    hits_alike at n m e =
        ap (λ s. (ltb at.device 32 && ltb at.function 8) && ((eqb s.1 at.device && eqb s.2 at.function) && on_bus ns at.bus s.0)) e
        ∙ ap (λ x. (ltb at.device 32 && ltb at.function 8) && ((eqb m.device at.device && eqb m.function at.function) && x)) (on_bus_alike at.bus m.parent)

first_alike : (t u : Node → Bool) (i : ℕ) (ns ms : List Node) → length ns ≡ length ms → ((j : ℕ) → j < length ns → t (get_or ns j nowhere) ≡ u (get_or ms j nowhere)) → position_from t i ns ≡ position_from u i ms
first_alike t u i [] [] l h = refl
first_alike t u i [] (m ∷ ms) l h = absurd (omega arith)
first_alike t u i (n ∷ ns) [] l h = absurd (omega arith)
first_alike t u i (n ∷ ns) (m ∷ ms) l h =
    ap (λ x. cond x (Some i) (position_from t (i + 1) ns)) (h 0 (omega arith))
    ∙ ap (λ x. cond (u m) (Some i) x) (first_alike t u (i + 1) ns ms (omega arith) (λ j q. h (suc j) (omega arith)))

-- machines whose nodes look alike select alike
pub selected_alike : (ns ms : List Node) → length ns ≡ length ms → ((j : ℕ) → shape (get_or ns j nowhere) ≡ shape (get_or ms j nowhere)) → (at : Name) → selected ns at ≡ selected ms at
selected_alike ns ms l same at =
    position_from-zero (hits ns at) ns ∙ first_alike (hits ns at) (hits ms at) 0 ns ms l (λ j q. hits_alike ns ms same l at (get_or ns j nowhere) (get_or ms j nowhere) (same j)) ∙ sym (position_from-zero (hits ms at) ms)

-- a function of the nodes that the write leaves at one node, it leaves at each
kept_by_set : {X : Type 0} (F : Node → X) (ns : List Node) (i : ℕ) (m : Node) → F m ≡ F (get_or ns i nowhere) → (j : ℕ) → F (get_or (set ns i m) j nowhere) ≡ F (get_or ns j nowhere)
kept_by_set F ns i m e j =
    ⊎_elim
    (λ (p : j ≡ i).
    ⊎_elim
    (λ (q : i < length ns). ap (λ x. F (get_or (set ns i m) x nowhere)) p ∙ ap F (get_or-set_same ns i m nowhere q) ∙ e ∙ ap (λ x. F (get_or ns x nowhere)) (sym p))
    (λ (q : length ns ≤ i). ap (λ x. F (get_or x j nowhere)) (set_past ns i m q))
    (cases_lt i (length ns)))
    (λ (p : j ≡ i → ⊥). ap F (get_or-set_other ns i j m nowhere p))
    (cases_eq j i)

-- whatever is put into a dword that holds neither the bus numbers nor the kind, the selection stays
pub selected_stored : (ns : List Node) (i k : ℕ) (d : Dword) (at : Name) → 6 ≢ k → 3 ≢ k → selected (set ns i (with_dword (get_or ns i nowhere) k d)) at ≡ selected ns at
selected_stored ns i k d at h h' =
    let n = get_or ns i nowhere in
    let other : (j : ℕ) → j ≢ k → value (with_dword n k d) j ≡ value n j = λ j q. ap (λ (x : Dword). x.value) (get_or-set_other n.dwords k j d blank q) in
    let e : shape (with_dword n k d) ≡ shape n = ap₂ (λ x y. (n.parent, n.device, n.function, x, y)) (other 6 h) (other 3 h') in
    selected_alike (set ns i (with_dword n k d)) ns (length-set ns i (with_dword n k d)) (kept_by_set shape ns i (with_dword n k d) e) at

stays_at : (ns : List Node) (o : Option ℕ) (k v : ℕ) (at : Name) → 6 ≢ k → 3 ≢ k → selected (write_at ns o k v) at ≡ selected ns at
stays_at ns None k v at h h' = refl
stays_at ns (Some i) k v at h h' = selected_stored ns i k _ at h h'

-- a write to another dword than the bus numbers' and the kind's moves no name
pub selected_written : (ns : List Node) (to : Name) (offset v : ℕ) (at : Name) → 6 ≢ offset / 4 → 3 ≢ offset / 4 → selected (written ns to offset v) at ≡ selected ns at
selected_written ns to offset v at h h' = stays_at ns (chosen ns to offset) (offset / 4) v at h h'
