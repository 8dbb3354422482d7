-- The climb up the parents and the reading downwards agree; a name selects at most one node.
use Rattle.std.proofs.Common.{◌≡◌, ℕ, zero, suc, ◌+◌, ◌<◌, ◌≤◌, Bool, true, false, cond, ◌&&◌, eqb, ltb, leb, List, [], ◌∷◌, length, get_or, Some, None, Option, sym, refl, ap, ◌∙◌, subst, inl, inr, ⊎_elim, arith}
use Rattle.std.proofs.lemmas.List.{get_or_past}
use Rattle.std.proofs.lemmas.Bool.{and_parts, and_from, eqb-true, ltb-true, leb-true, eq-eqb, lt-ltb, le-leb, cases_lt, false≢true}
use Rattle.pci.specs.declared.Name.{Name}
use Rattle.machine.specs.declared.Node.{Node}
use Rattle.std.specs.List.{position_from}
use Rattle.std.proofs.lemmas.Iterator.Adapters.{position_from-zero}
use Rattle.machine.specs.Machine.{secondary, subordinate, kind, bridge, passes, reaches, on_bus, hits, nowhere, node}
use Rattle.names.specs.Selection.{In, Passes, Leads, OnBus, Selects, all_from, all_selected, first, ParentsEarlier, PlacesApart, SiblingsApart, AllAreSelected, LowestActs, OneFunctionToAName}
use Rattle.names.specs.Selection.Leads.{ends, goes}
use Rattle.names.specs.Selection.OnBus.{at_host, at_bridge}

-- a bridge stands in the list
pub bridge_inside : (ns : List Node) (p : ℕ) → kind (node ns p) ≡ 1 → p < length ns
bridge_inside ns p e =
    ⊎_elim
    (λ (h : p < length ns). h)
    (λ (h : length ns ≤ p). let z : kind nowhere ≡ 1 = sym (ap kind (get_or_past ns p nowhere h)) ∙ e in absurd (omega arith))
    (cases_lt p (length ns))

-- ------------------------------------------------------------ from the climb to the reading downwards

passes_parts : (b : ℕ) (n : Node) → passes b n ≡ true → Passes n b × (secondary n ≡ b → ⊥)
passes_parts b n e =
    let h = and_parts (bridge n) (ltb (secondary n) b && leb b (subordinate n)) e in
    let k = and_parts (ltb (secondary n) b) (leb b (subordinate n)) h.1 in
    let x : secondary n < b = ltb-true (secondary n) b k.0 in
    let y : b ≤ subordinate n = leb-true b (subordinate n) k.1 in
    (record { is_bridge = eqb-true (kind n) 1 h.0; low = omega arith; high = y }, omega arith)

climb : (ns : List Node) (b p k : ℕ) (o : Option ℕ) → reaches k ns b o ≡ true → Leads ns b p o → Leads ns b p None
climb ns b p zero None e l = l
climb ns b p (suc k) None e l = l
climb ns b p zero (Some q) e l = absurd (false≢true e)
climb ns b p (suc k) (Some q) e l =
    let h = and_parts (passes b (node ns q)) (reaches k ns b (node ns q).parent) e in
    let g = passes_parts b (node ns q) h.0 in
    climb ns b p k (node ns q).parent h.1 (goes q refl g.0 g.1 l)

on_bus_sound : (ns : List Node) (b : ℕ) (o : Option ℕ) → on_bus ns b o ≡ true → OnBus ns b o
on_bus_sound ns b None e = at_host (eqb-true b 0 e)
on_bus_sound ns b (Some p) e =
    let n = node ns p in
    let r = reaches (length ns) ns b n.parent in
    let h = and_parts (ltb 0 b) ((bridge n && (eqb (secondary n) b && leb b (subordinate n))) && r) e in
    let k = and_parts (bridge n && (eqb (secondary n) b && leb b (subordinate n))) r h.1 in
    let m = and_parts (bridge n) (eqb (secondary n) b && leb b (subordinate n)) k.0 in
    let w = and_parts (eqb (secondary n) b) (leb b (subordinate n)) m.1 in
    let s : secondary n ≡ b = eqb-true (secondary n) b w.0 in
    let y : Passes n b = record { is_bridge = eqb-true (kind n) 1 m.0; low = omega arith; high = leb-true b (subordinate n) w.1 } in
    at_bridge p (ltb-true 0 b h.0) (climb ns b p (length ns) n.parent k.1 (ends refl y s))

-- ------------------------------------------------------------ and back

-- how many bridges may stand from o to the host
abbrev rank : Option ℕ → ℕ
rank None = 0
rank (Some p) = suc p

abbrev Up : List Node → ℕ → Option ℕ → Type 0
Up ns b o = (k : ℕ) → rank o ≤ k → reaches k ns b o ≡ true

rank_parent : (ns : List Node) → ParentsEarlier ns → (p : ℕ) → p < length ns → (o : Option ℕ) → (node ns p).parent ≡ o → rank o ≤ p
rank_parent ns law p h None e = omega arith
rank_parent ns law p h (Some q) e = (law p q h e).0

passes_from : (b : ℕ) (n : Node) → Passes n b → (secondary n ≡ b → ⊥) → passes b n ≡ true
passes_from b n y ne =
    let a = y.low in
    and_from (bridge n) (ltb (secondary n) b && leb b (subordinate n)) (eq-eqb (kind n) 1 y.is_bridge) (and_from (ltb (secondary n) b) (leb b (subordinate n)) (lt-ltb (secondary n) b (omega arith)) (le-leb b (subordinate n) y.high))

up_none : (ns : List Node) (b : ℕ) → Up ns b None
up_none ns b zero h = refl
up_none ns b (suc k) h = refl

up_more : (ns : List Node) → ParentsEarlier ns → (b q : ℕ) → Passes (node ns q) b → (secondary (node ns q) ≡ b → ⊥) → Up ns b (node ns q).parent → Up ns b (Some q)
up_more ns law b q y ne u zero h = absurd (omega arith)
up_more ns law b q y ne u (suc k) h =
    let r = rank_parent ns law q (bridge_inside ns q y.is_bridge) (node ns q).parent refl in
    and_from (passes b (node ns q)) (reaches k ns b (node ns q).parent) (passes_from b (node ns q) y ne) (u k (omega arith))

leads_up : (ns : List Node) → ParentsEarlier ns → (b p : ℕ) → 0 < b → {o : Option ℕ} → Up ns b o → Leads ns b p o → on_bus ns b (Some p) ≡ true
leads_up ns law b p z u (ends e y s) =
    let n = node ns p in
    let i = bridge_inside ns p y.is_bridge in
    let r = rank_parent ns law p i n.parent refl in
    let u' : Up ns b n.parent = subst (Up ns b) (sym e) u in
    and_from (ltb 0 b) ((bridge n && (eqb (secondary n) b && leb b (subordinate n))) && reaches (length ns) ns b n.parent) (lt-ltb 0 b z)
    (and_from (bridge n && (eqb (secondary n) b && leb b (subordinate n))) (reaches (length ns) ns b n.parent)
    (and_from (bridge n) (eqb (secondary n) b && leb b (subordinate n)) (eq-eqb (kind n) 1 y.is_bridge) (and_from (eqb (secondary n) b) (leb b (subordinate n)) (eq-eqb (secondary n) b s) (le-leb b (subordinate n) y.high)))
    (u' (length ns) (omega arith)))
leads_up ns law b p z u (goes q e y ne l) = leads_up ns law b p z (up_more ns law b q y ne (subst (Up ns b) (sym e) u)) l

on_bus_from : (ns : List Node) → ParentsEarlier ns → (b : ℕ) {o : Option ℕ} → OnBus ns b o → on_bus ns b o ≡ true
on_bus_from ns law b (at_host e) = eq-eqb b 0 e
on_bus_from ns law b (at_bridge p z l) = leads_up ns law b p z (up_none ns b) l

-- ------------------------------------------------------------ the list of all

-- x is the place, counted from i, of a node that passes the test
abbrev pub Passing : (Node → Bool) → ℕ → List Node → ℕ → Type 0
Passing t i ns x = (k : ℕ) × (k < length ns) × (i + k ≡ x) × (t (get_or ns k nowhere) ≡ true)

passing_later : (t : Node → Bool) (i : ℕ) (n : Node) (ns : List Node) (x : ℕ) → Passing t (i + 1) ns x → Passing t i (n ∷ ns) x
passing_later t i n ns x r = let e = r.2 in (suc r.0, omega arith, omega arith, r.3)

in_step : (t : Node → Bool) (i : ℕ) (n : Node) (ns : List Node) (x : ℕ) (b : Bool) → t n ≡ b → (In (all_from t (i + 1) ns) x → Passing t (i + 1) ns x) → In (cond b (i ∷ all_from t (i + 1) ns) (all_from t (i + 1) ns)) x → Passing t i (n ∷ ns) x
in_step t i n ns x true e f (inl p) = (0, omega arith, omega arith, e)
in_step t i n ns x true e f (inr g) = passing_later t i n ns x (f g)
in_step t i n ns x false e f g = passing_later t i n ns x (f g)

pub in_all_from : (t : Node → Bool) (i : ℕ) (ns : List Node) (x : ℕ) → In (all_from t i ns) x → Passing t i ns x
in_all_from t i [] x h = absurd h
in_all_from t i (n ∷ ns) x h = in_step t i n ns x (t n) refl (in_all_from t (i + 1) ns x) h

in_cond : (b : Bool) (i : ℕ) (xs : List ℕ) (x : ℕ) → In xs x → In (cond b (i ∷ xs) xs) x
in_cond true i xs x h = inr h
in_cond false i xs x h = h

in_cond_here : (b : Bool) (i : ℕ) (xs : List ℕ) (x : ℕ) → b ≡ true → i ≡ x → In (cond b (i ∷ xs) xs) x
in_cond_here true i xs x e p = inl p
in_cond_here false i xs x e p = absurd (false≢true e)

pub all_from_in : (t : Node → Bool) (i : ℕ) (ns : List Node) (k : ℕ) → k < length ns → t (get_or ns k nowhere) ≡ true → In (all_from t i ns) (i + k)
all_from_in t i [] k h e = absurd (omega arith)
all_from_in t i (n ∷ ns) zero h e = in_cond_here (t n) i (all_from t (i + 1) ns) (i + 0) e (omega arith)
all_from_in t i (n ∷ ns) (suc k) h e =
    let p : i + 1 + k ≡ i + suc k = omega arith in
    in_cond (t n) i (all_from t (i + 1) ns) (i + suc k) (subst (In (all_from t (i + 1) ns)) p (all_from_in t (i + 1) ns k (omega arith) e))

pub hits_selects : (ns : List Node) (at : Name) (i : ℕ) → i < length ns → hits ns at (node ns i) ≡ true → Selects ns at i
hits_selects ns at i l e =
    let n = node ns i in
    let small = ltb at.device 32 && ltb at.function 8 in
    let same = eqb n.device at.device && eqb n.function at.function in
    let h = and_parts small (same && on_bus ns at.bus n.parent) e in
    let g = and_parts (ltb at.device 32) (ltb at.function 8) h.0 in
    let k = and_parts same (on_bus ns at.bus n.parent) h.1 in
    let w = and_parts (eqb n.device at.device) (eqb n.function at.function) k.0 in
    let d = ltb-true at.device 32 g.0 in
    let f = ltb-true at.function 8 g.1 in
    record { inside = l; low_device = omega arith; low_function = omega arith; device = eqb-true n.device at.device w.0; function = eqb-true n.function at.function w.1; bus = on_bus_sound ns at.bus n.parent k.1 }

pub selects_hits : (ns : List Node) → ParentsEarlier ns → (at : Name) (i : ℕ) → Selects ns at i → hits ns at (node ns i) ≡ true
selects_hits ns law at i s =
    let n = node ns i in
    let small = ltb at.device 32 && ltb at.function 8 in
    let same = eqb n.device at.device && eqb n.function at.function in
    let d = s.low_device in
    let f = s.low_function in
    and_from small (same && on_bus ns at.bus n.parent) (and_from (ltb at.device 32) (ltb at.function 8) (lt-ltb at.device 32 (omega arith)) (lt-ltb at.function 8 (omega arith)))
    (and_from same (on_bus ns at.bus n.parent) (and_from (eqb n.device at.device) (eqb n.function at.function) (eq-eqb n.device at.device s.device) (eq-eqb n.function at.function s.function)) (on_bus_from ns law at.bus s.bus))

pub in_selected : (ns : List Node) (at : Name) (i : ℕ) → In (all_selected ns at) i → Selects ns at i
in_selected ns at i h =
    let r = in_all_from (hits ns at) 0 ns i h in
    let e : r.0 ≡ i = omega (arith, r.2) in
    subst (Selects ns at) e (hits_selects ns at r.0 r.1 r.3)

pub selected_in : (ns : List Node) → ParentsEarlier ns → (at : Name) (i : ℕ) → Selects ns at i → In (all_selected ns at) i
selected_in ns law at i s =
    let e : 0 + i ≡ i = omega arith in
    subst (In (all_selected ns at)) e (all_from_in (hits ns at) 0 ns i s.inside (selects_hits ns law at i s))

pub all_are_selected : AllAreSelected
all_are_selected ns law at i = (in_selected ns at i, selected_in ns law at i)

first_step : (b : Bool) (i : ℕ) (o : Option ℕ) (xs : List ℕ) → o ≡ first xs → cond b (Some i) o ≡ first (cond b (i ∷ xs) xs)
first_step true i o xs e = refl
first_step false i o xs e = e

first_is : (t : Node → Bool) (i : ℕ) (ns : List Node) → position_from t i ns ≡ first (all_from t i ns)
first_is t i [] = refl
first_is t i (n ∷ ns) = first_step (t n) i (position_from t (i + 1) ns) (all_from t (i + 1) ns) (first_is t (i + 1) ns)

pub lowest_acts : LowestActs
lowest_acts ns at = position_from-zero (hits ns at) ns ∙ first_is (hits ns at) 0 ns

-- ------------------------------------------------------------ one at most

pub leads_once : (ns : List Node) → SiblingsApart ns → (b p q : ℕ) → 0 < b → {o : Option ℕ} → Leads ns b p o → Leads ns b q o → p ≡ q
leads_once ns apart b p q z (ends e y s) (ends f x t) = apart b p q z (e ∙ sym f) y x
leads_once ns apart b p q z (ends e y s) (goes r f x ne m) =
    let w = apart b p r z (e ∙ sym f) y x in
    absurd (ne (ap (λ i. secondary (node ns i)) (sym w) ∙ s))
leads_once ns apart b p q z (goes r f x ne m) (ends e y s) =
    let w = apart b q r z (e ∙ sym f) y x in
    absurd (ne (ap (λ i. secondary (node ns i)) (sym w) ∙ s))
leads_once ns apart b p q z (goes r e y ne l) (goes u f x me m) =
    let w = apart b r u z (e ∙ sym f) y x in
    leads_once ns apart b p q z l (subst (λ i. Leads ns b q (Some i)) (sym w) m)

bus_once : (ns : List Node) → SiblingsApart ns → (b : ℕ) {o u : Option ℕ} → OnBus ns b o → OnBus ns b u → o ≡ u
bus_once ns apart b (at_host e) (at_host f) = refl
bus_once ns apart b (at_host e) (at_bridge p z l) = absurd (omega arith)
bus_once ns apart b (at_bridge p z l) (at_host e) = absurd (omega arith)
bus_once ns apart b (at_bridge p z l) (at_bridge q y m) = ap Some (leads_once ns apart b p q z l m)

-- a list whose places rise and whose members are one has one
abbrev Above : ℕ → List ℕ → Type 0
Above i xs = (x : ℕ) → In xs x → i ≤ x

above_all : (t : Node → Bool) (i : ℕ) (ns : List Node) → Above i (all_from t i ns)
above_all t i ns x h = let r = in_all_from t i ns x h in omega (arith, r.2)

short_step : (b : Bool) (i : ℕ) (xs : List ℕ) → Above (i + 1) xs → (((x y : ℕ) → In xs x → In xs y → x ≡ y) → length xs ≤ 1) → ((x y : ℕ) → In (cond b (i ∷ xs) xs) x → In (cond b (i ∷ xs) xs) y → x ≡ y) → length (cond b (i ∷ xs) xs) ≤ 1
short_step true i [] a f one = omega arith
short_step true i (x ∷ xs) a f one =
    let e : i ≡ x = one i x (inl refl) (inr (inl refl)) in
    let l : i + 1 ≤ x = a x (inl refl) in
    absurd (omega arith)
short_step false i xs a f one = f one

short : (t : Node → Bool) (i : ℕ) (ns : List Node) → ((x y : ℕ) → In (all_from t i ns) x → In (all_from t i ns) y → x ≡ y) → length (all_from t i ns) ≤ 1
short t i [] one = omega arith
short t i (n ∷ ns) one = short_step (t n) i (all_from t (i + 1) ns) (above_all t (i + 1) ns) (short t (i + 1) ns) one

pub selects_once : (ns : List Node) → PlacesApart ns → SiblingsApart ns → (at : Name) (i j : ℕ) → Selects ns at i → Selects ns at j → i ≡ j
selects_once ns places apart at i j s t =
    places i j s.inside t.inside (bus_once ns apart at.bus s.bus t.bus) (s.device ∙ sym t.device) (s.function ∙ sym t.function)

pub one_function : OneFunctionToAName
one_function ns places apart at =
    (selects_once ns places apart at, short (hits ns at) 0 ns (λ x y h g. selects_once ns places apart at x y (in_selected ns at x h) (in_selected ns at y g)))
