-- The second and the third law, of any nodes of a lawful machine.
use Rattle.std.proofs.Common.{◌≡◌, ℕ, ◌+◌, ◌-◌, ◌<◌, ◌≤◌, Bool, true, false, not, ◌&&◌, eqb, List, length, get_or, take, drop, Some, None, Option, sym, refl, ap, ◌∙◌, inl, inr, ⊎_elim, arith}
use Rattle.std.specs.List.{find, list_any, position_or_len}
use Rattle.std.specs.Cmp.Lexicographic.{options_equiv}
use Rattle.std.proofs.lemmas.Cmp.{nat_eq_equiv}
use Rattle.std.proofs.lemmas.List.{get_or-drop, get_or-take, length-drop, length-take}
use Rattle.std.proofs.lemmas.List.Folds.{find_at, list_any_at, list_any_none}
use Rattle.std.proofs.lemmas.List.Sums.{fails_before_first, passes_at_first}
use Rattle.std.proofs.lemmas.Option.{get_or_from_slice_get, slice_get_within}
use Rattle.std.proofs.lemmas.Bool.{both_ways, false_from_ne_true, not-true, and_parts, and_from, or_cases, cases_lt, lt-ltb}
use Rattle.pci.specs.declared.Law.TheVariants.{Place, Device}
use Rattle.machine.specs.Machine.{nowhere, node, same_parent}
use Rattle.machine.specs.declared.Node.{Node}
use Rattle.laws.specs.Lawful.{beside, alike, zero_of, other_of, preceded, lowest, repeated, headed, many}
use Rattle.laws.specs.Means.{NoTwins, Head, AllHeaded}

-- where none is found, each node fails
each_fails : (t : Node → Bool) (ns : List Node) → list_any t ns ≡ false → (k : ℕ) → k < length ns → t (node ns k) ≡ false
each_fails t ns e k h = false_from_ne_true (t (node ns k)) (λ y. both_ways (list_any t ns) e (list_any_at t ns k nowhere h y))

-- nodes of one device stand alike to all others
beside_own : (a : Node) → beside a a ≡ true
beside_own a = and_from _ _ ((options_equiv nat_eq_equiv).refl a.parent) (nat_eq_equiv.refl a.device)

beside_same : (a b c : Node) → beside a b ≡ true → beside a c ≡ beside b c
beside_same a b c e =
    let p = and_parts (same_parent a.parent b.parent) (eqb a.device b.device) e in
    ap (λ (x : Bool). x && eqb a.device c.device) ((options_equiv nat_eq_equiv).congr a.parent b.parent c.parent p.0)
    ∙ ap (λ (x : Bool). same_parent b.parent c.parent && x) (nat_eq_equiv.congr a.device b.device c.device p.1)

pub no_twins : NoTwins
no_twins ns l i j h g =
    let t = alike (node ns i) in
    let e : repeated ns i ≡ false = not-true _ (l i (omega arith) Place) in
    let k = j - (i + 1) in
    let d = length-drop (i + 1) ns in
    let z : i + 1 + k ≡ j = omega arith in
    ap t (sym (get_or-drop (i + 1) ns k nowhere ∙ ap (node ns) z)) ∙ each_fails t (drop (i + 1) ns) e k (omega arith)

-- a function 0 found for node m serves each node of m's device
head_from :
    (ns : List Node) (i m : ℕ) (o : Option Node) → beside (node ns i) (node ns m) ≡ true →
    find (zero_of (node ns m)) ns ≡ o → headed ns (node ns m) o ≡ true → Head ns i
head_from ns i m None e f k = absurd (both_ways false refl k)
head_from ns i m (Some z) e f k =
    let t = zero_of (node ns m) in
    let p = position_or_len t ns in
    let found = sym (find_at t ns) ∙ f in
    let inside = slice_get_within ns p z found in
    let is_z : node ns p ≡ z = get_or_from_slice_get ns p z nowhere found in
    record {
      at = p;
      within = inside;
      zero = ap (λ (b : Bool). b && eqb (node ns p).function 0) (beside_same (node ns i) (node ns m) (node ns p) e) ∙ passes_at_first t ns nowhere inside;
      tells = λ j l y. elim (or_cases _ _ k) [
        | inl w ↦ absurd (both_ways (other_of (node ns m) (node ns j)) (each_fails (other_of (node ns m)) ns (not-true _ w) j l)
            (ap (λ (b : Bool). b && not (eqb (node ns j).function 0)) (sym (beside_same (node ns i) (node ns m) (node ns j) e)) ∙ y))
        | inr w ↦ ap many is_z ∙ w
      ];
    }

pub all_headed : AllHeaded
all_headed ns l i h =
    let t = beside (node ns i) in
    let m = position_or_len t ns in
    let low : m ≤ i =
    ⊎_elim (λ (q : i < m). absurd (both_ways (t (node ns i)) (fails_before_first t ns i nowhere q) (beside_own (node ns i)))) (λ (q : m ≤ i). q) (cases_lt i m) in
    let e : t (node ns m) ≡ true = passes_at_first t ns nowhere (omega arith) in
    let size = length-take m ns in
    let first : preceded ns m ≡ false =
    list_any_none (beside (node ns m)) (take m ns)
    (λ k d q. let b : k < m = omega arith in
    ap (beside (node ns m)) (get_or-take m ns k d b) ∙ sym (beside_same (node ns i) (node ns m) (get_or ns k d) e) ∙ fails_before_first t ns k d b) in
    elim (or_cases _ _ (l m (omega arith) Device)) [
      | inl w ↦ absurd (both_ways (lowest ns m) (not-true _ w) (and_from _ _ (lt-ltb m (length ns) (omega arith)) (ap not first)))
      | inr w ↦ head_from ns i m (find (zero_of (node ns m)) ns) e refl w
    ]
