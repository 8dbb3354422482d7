-- The dwords that a node's lines name, and those that they do not name.
use Rattle.std.proofs.Common.{◌≡◌, ℕ, ◌+◌, ◌-◌, ◌*◌, ◌/◌, ◌%◌, ◌<◌, ◌≤◌, Bool, true, false, cond, ◌&&◌, eqb, ltb, leb, List, [], ◌∷◌, ◌++◌, map, length, get_or, set, replicate, is_some, Some, None, Option, sym, refl, ap, ◌∙◌, subst, inl, inr, arith}
use Rattle.std.specs.Option.{option_and_then, option_map_or}
use Rattle.std.specs.List.{AllByRecursion}
use Rattle.std.proofs.lemmas.List.{length-set, length-append, get_or-set_other, get_or-replicate, get_or_at, set_at}
use Rattle.std.proofs.lemmas.Bool.{cases_eq, cases_lt, cases_Bool, eq-eqb, ne_eqb, leb-true, and_parts}
use Rattle.std.proofs.lemmas.Bool.Decides.{nat_tests}
use Rattle.machine.specs.Machine.{dword, blank, nowhere}
use Rattle.machine.specs.Nodes.{fresh, named, masked, bridge_masks, makes_bridge}
use Rattle.machine.specs.declared.Dword.{Dword}
use Rattle.std.proofs.lemmas.Grind.{get_or-set_at}
use Rattle.rackfile.specs.Form.{Holds}
use Rattle.rackfile.specs.Reading.{State}
use Rattle.rackfile.specs.Written.{through}
use Rattle.rackfile.specs.Dwords.{naming, is_bridge, in_bridge, Rising, Made, NodeTold}
use Rattle.machine.specs.declared.Node.{Node}
use Rattle.rackfile.specs.declared.line.Line.TheVariants.{Register}
use Rattle.rackfile.specs.declared.line.Named.{Named}

-- the node with all these dwords named
abbrev filled : Node → List Named → Node
filled n [] = n
filled n (r ∷ rs) = filled (named n r.offset r.dword.value r.dword.mask) rs

-- what lies below the offsets is not named
unnamed : (rs : List Named) (f k : ℕ) → Rising f rs → k * 4 < f → naming rs k ≡ None
unnamed [] f k u h = refl
unnamed (r ∷ rs) f k u h =
    let n : r.offset / 4 ≡ k → ⊥ = λ e. omega (arith, u.0, u.2) in
    ap (λ (b : Bool). cond b (Some r) (naming rs k)) (ne_eqb (r.offset / 4) k n) ∙ unnamed rs (r.offset + 4) k u.3 (omega (arith, u.0))

naming_here : (r : Named) (rs : List Named) (k : ℕ) → r.offset / 4 ≡ k → naming (r ∷ rs) k ≡ Some r
naming_here r rs k e = ap (λ (b : Bool). cond b (Some r) (naming rs k)) (eq-eqb (r.offset / 4) k e)

naming_there : (r : Named) (rs : List Named) (k : ℕ) → (r.offset / 4 ≡ k → ⊥) → naming (r ∷ rs) k ≡ naming rs k
naming_there r rs k e = ap (λ (b : Bool). cond b (Some r) (naming rs k)) (ne_eqb (r.offset / 4) k e)

-- dword k of a bridge or not, and a dword that these lines name or else d
abbrev bridged : Bool → ℕ → Dword → Dword
bridged b k d = record { value = d.value; mask = in_bridge b k d.mask }

abbrev dword_or : Dword → Option Named → Dword
dword_or d None = d
dword_or d (Some r) = record { value = r.dword.value; mask = r.dword.mask }

-- no bridge is named past 0Ch
no_bridge : (rs : List Named) (f : ℕ) → Rising f rs → 12 < f → is_bridge rs ≡ false
no_bridge rs f u h = ap (λ (o : Option Named). eqb (option_map_or (λ (r : Named). r.dword.value) o 0 / 65536 % 128) 1) (unnamed rs f 3 u (omega arith))

-- a bridge's masks lie past its kind
in_low : (b : Bool) (k m : ℕ) → k < 6 → in_bridge b k m ≡ m
in_low true k m h = grind (arith, nat_tests)
in_low false k m h = refl

past_kind : (rs : List Named) (f k m : ℕ) → Rising f rs → k * 4 ≤ f → in_bridge (is_bridge rs) k m ≡ m
past_kind rs f k m u h = elim (cases_lt k 6) [
  | inl l ↦ in_low (is_bridge rs) k m l
  | inr g ↦ ap (λ (b : Bool). in_bridge b k m) (no_bridge rs f u (omega arith))
]

-- a dword after a write
get_set : (ds : List Dword) (i k : ℕ) (d : Dword) → i < length ds → get_or (set ds i d) k blank ≡ cond (eqb k i) d (get_or ds k blank)
get_set ds i k d h = elim (cases_eq k i) [
  | inl e ↦ get_or-set_at ds i k d blank e h ∙ ap (λ (b : Bool). cond b d (get_or ds k blank)) (sym (eq-eqb k i e))
  | inr e ↦ get_or-set_other ds i k d blank e ∙ ap (λ (b : Bool). cond b d (get_or ds k blank)) (sym (ne_eqb k i e))
]

masked_get : (ds : List Dword) (i m k : ℕ) → i < length ds → get_or (masked ds i m) k blank ≡ record { value = (get_or ds k blank).value; mask = cond (eqb k i) m (get_or ds k blank).mask }
masked_get ds i m k h = get_set ds i k _ h ∙ elim (cases_eq k i) [
  | inl e ↦ rw (eq-eqb k i e) (ap (λ (j : ℕ). record { value = (get_or ds j blank).value; mask = m }) (sym e))
  | inr e ↦ rw (ne_eqb k i e) refl
]

in_order : (k x : ℕ) → cond (eqb k 8) 0xFFF0FFF0 (cond (eqb k 7) 0x0000F0F0 (cond (eqb k 6) 0x00FFFFFF x)) ≡ in_bridge true k x
in_order k x = grind (arith, nat_tests)

bridge_get : (b : Bool) (ds : List Dword) (k : ℕ) → length ds ≡ 64 → get_or (cond b (bridge_masks ds) ds) k blank ≡ bridged b k (get_or ds k blank)
bridge_get false ds k l = refl
bridge_get true ds k l =
    let a = masked_get (masked (masked ds 6 0x00FFFFFF) 7 0x0000F0F0) 8 0xFFF0FFF0 k (simp length-set (omega arith)) in
    let b = masked_get (masked ds 6 0x00FFFFFF) 7 0x0000F0F0 k (simp length-set (omega arith)) in
    let c = masked_get ds 6 0x00FFFFFF k (omega arith) in
    a ∙ ap (λ (d : Dword). record { value = d.value; mask = cond (eqb k 8) 0xFFF0FFF0 d.mask })
    (b ∙ ap (λ (d : Dword). record { value = d.value; mask = cond (eqb k 7) 0x0000F0F0 d.mask }) c)
    ∙ ap (λ (m : ℕ). record { value = (get_or ds k blank).value; mask = m }) (in_order k (get_or ds k blank).mask)

bridge_len : (b : Bool) (ds : List Dword) → length (cond b (bridge_masks ds) ds) ≡ length ds
bridge_len true ds = simp length-set
bridge_len false ds = refl

abbrev told : Named → Dword
told r = record { value = r.dword.value; mask = r.dword.mask }

named_get :
    (n : Node) (r : Named) (k : ℕ) → length n.dwords ≡ 64 → r.offset < 256 →
    dword (named n r.offset r.dword.value r.dword.mask) k ≡ bridged (makes_bridge r.offset r.dword.value) k (cond (eqb k (r.offset / 4)) (told r) (dword n k))
named_get n r k l h =
    bridge_get (makes_bridge r.offset r.dword.value) (set n.dwords (r.offset / 4) (told r)) k (length-set n.dwords (r.offset / 4) (told r) ∙ l)
    ∙ ap (bridged (makes_bridge r.offset r.dword.value) k) (get_set n.dwords (r.offset / 4) k (told r) (omega arith))

-- one line names the kind
bridge_step :
    (r : Named) (rs : List Named) (k m : ℕ) → r.offset % 4 ≡ 0 → Rising (r.offset + 4) rs →
    in_bridge (is_bridge rs) k (in_bridge (makes_bridge r.offset r.dword.value) k m) ≡ in_bridge (is_bridge (r ∷ rs)) k m
bridge_step r rs k m z u =
    let b = eqb (r.dword.value / 65536 % 128) 1 in
    elim (cases_eq r.offset 12) [
      | inl e ↦
          (let three : r.offset / 4 ≡ 3 = omega arith in
          rw (no_bridge rs (r.offset + 4) u (omega arith))
          (rw (eq-eqb r.offset 12 e) (rw (naming_here r rs 3 three) refl)))
      | inr d ↦
          (let not3 : r.offset / 4 ≡ 3 → ⊥ = λ g. d (omega arith) in
          rw (ne_eqb r.offset 12 d) (rw (naming_there r rs 3 not3) refl))
    ]

-- one line more
one_more :
    (r : Named) (rs : List Named) (n : Node) (k : ℕ) → Rising r.offset (r ∷ rs) → length n.dwords ≡ 64 →
    dword_or (bridged (is_bridge rs) k (dword (named n r.offset r.dword.value r.dword.mask) k)) (naming rs k)
    ≡ dword_or (bridged (is_bridge (r ∷ rs)) k (dword n k)) (naming (r ∷ rs) k)
one_more r rs n k u l =
    let step = bridge_step r rs k in
    let g = named_get n r k l u.1 in
    elim (cases_eq k (r.offset / 4)) [
      | inl e ↦
          (let g' : dword (named n r.offset r.dword.value r.dword.mask) k ≡ bridged (makes_bridge r.offset r.dword.value) k (told r) = rw (eq-eqb k (r.offset / 4) e) at g in
          ap (dword_or (bridged (is_bridge rs) k (dword (named n r.offset r.dword.value r.dword.mask) k))) (unnamed rs (r.offset + 4) k u.3 (omega (arith, u.2)))
          ∙ ap (bridged (is_bridge rs) k) g'
          ∙ ap (λ (m : ℕ). record { value = r.dword.value; mask = m }) (step r.dword.mask u.2 u.3 ∙ past_kind (r ∷ rs) r.offset k r.dword.mask u (omega (arith, u.2)))
          ∙ ap (dword_or (bridged (is_bridge (r ∷ rs)) k (dword n k))) (sym (naming_here r rs k (sym e))))
      | inr d ↦
          (let g' : dword (named n r.offset r.dword.value r.dword.mask) k ≡ bridged (makes_bridge r.offset r.dword.value) k (dword n k) = rw (ne_eqb k (r.offset / 4) d) at g in
          ap (λ (x : Dword). dword_or (bridged (is_bridge rs) k x) (naming rs k)) g'
          ∙ ap (λ (m : ℕ). dword_or (record { value = (dword n k).value; mask = m }) (naming rs k)) (step (dword n k).mask u.2 u.3)
          ∙ ap (dword_or (bridged (is_bridge (r ∷ rs)) k (dword n k))) (sym (naming_there r rs k (λ e. d (sym e)))))
    ]

named_len : (n : Node) (r : Named) → length (named n r.offset r.dword.value r.dword.mask).dwords ≡ length n.dwords
named_len n r = bridge_len (makes_bridge r.offset r.dword.value) (set n.dwords (r.offset / 4) (told r)) ∙ length-set n.dwords (r.offset / 4) (told r)

filled_len : (rs : List Named) (n : Node) → length (filled n rs).dwords ≡ length n.dwords
filled_len [] n = refl
filled_len (r ∷ rs) n = filled_len rs (named n r.offset r.dword.value r.dword.mask) ∙ named_len n r

-- from an offset on
from_own : (r : Named) (rs : List Named) (f : ℕ) → Rising f (r ∷ rs) → Rising r.offset (r ∷ rs)
from_own r rs f u = (omega arith, u.1, u.2, u.3)

filled_get :
    (rs : List Named) (f : ℕ) (n : Node) (k : ℕ) → Rising f rs → length n.dwords ≡ 64 →
    dword (filled n rs) k ≡ dword_or (bridged (is_bridge rs) k (dword n k)) (naming rs k)
filled_get [] f n k u l = refl
filled_get (r ∷ rs) f n k u l =
    filled_get rs (r.offset + 4) (named n r.offset r.dword.value r.dword.mask) k u.3 (named_len n r ∙ l) ∙ one_more r rs n k (from_own r rs f u) l

same_head : (rs : List Named) (n : Node) → ((filled n rs).parent ≡ n.parent) × ((filled n rs).device ≡ n.device) × ((filled n rs).function ≡ n.function)
same_head [] n = (refl, refl, refl)
same_head (r ∷ rs) n = same_head rs (named n r.offset r.dword.value r.dword.mask)

apart_or : (v m : ℕ) (o : Option Named) → dword_or (record { value = v; mask = m }) o ≡ record { value = option_map_or (λ (r : Named). r.dword.value) o v; mask = option_map_or (λ (r : Named). r.dword.mask) o m }
apart_or v m None = refl
apart_or v m (Some r) = refl

fresh_get : (p : Option ℕ) (d f k : ℕ) → k < 64 → dword (fresh p d f) k ≡ record { value = 0; mask = cond (eqb k 1) 7 0 }
fresh_get p d f k h =
    get_set (replicate 64 blank) 1 k (record { value = 0; mask = 7 }) (omega arith)
    ∙ ap (cond (eqb k 1) (record { value = 0; mask = 7 })) (get_or-replicate 64 k blank blank h)
    ∙ elim (eqb k 1) as (λ (b : Bool). cond b (record { value = 0; mask = 7 }) blank ≡ record { value = 0; mask = cond b 7 0 }) [ true ↦ refl | false ↦ refl ]

-- a node that starts fresh
made_node : (rs : List Named) (p : Option ℕ) (d f : ℕ) → Rising 0 rs → Made p d f rs (filled (fresh p d f) rs)
made_node rs p d f u =
    let z = same_head rs (fresh p d f) in
    record {
      parent = z.0;
      device = z.1;
      function = z.2;
      dwords_len = filled_len rs (fresh p d f);
      dwords = λ k h.
          filled_get rs 0 (fresh p d f) k u refl
          ∙ ap (λ (x : Dword). dword_or (bridged (is_bridge rs) k x) (naming rs k)) (fresh_get p d f k h)
          ∙ apart_or 0 (in_bridge (is_bridge rs) k (cond (eqb k 1) 7 0)) (naming rs k);
    }

-- the last node, written anew
set_last :
    (ms ns : List Node) (n : Node) (g : Node → Node) → ms ≡ ns ++ (n ∷ []) →
    set ms (length ms - 1) (g (get_or ms (length ms - 1) nowhere)) ≡ ns ++ (g n ∷ [])
set_last ms ns n g e =
    let l : length ns ≡ length ms - 1 = omega (arith, length-append ns (n ∷ []), ap length e) in
    ap (λ (xs : List Node). set xs (length ms - 1) (g (get_or xs (length ms - 1) nowhere))) e
    ∙ ap (λ (x : Node). set (ns ++ (n ∷ [])) (length ms - 1) (g x)) (get_or_at ns n [] nowhere (length ms - 1) l)
    ∙ set_at ns n [] (g n) (length ms - 1) l

none_some : (t : State) → ◌≡◌ {A = Option State} None (Some t) → ⊥
none_some t e = let z : ◌≡◌ {A = ℕ} 0 1 = cc in omega arith

abbrev after : State → Named → State
after s r = record {
  apertures = s.apertures;
  lose = s.lose;
  nodes = set s.nodes (length s.nodes - 1) (named (get_or s.nodes (length s.nodes - 1) nowhere) r.offset r.dword.value r.dword.mask);
  free = r.offset + 4;
}

-- lines `rg` fill the last node
told_on :
    (rs : List Named) (s t : State) (ns : List Node) (n : Node) → s.nodes ≡ ns ++ (n ∷ []) → AllByRecursion Holds (map Register rs) → through (map Register rs) s ≡ Some t →
    Rising s.free rs × (t.nodes ≡ ns ++ (filled n rs ∷ []))
told_on [] s t ns n e h g = let p : s ≡ t = cc in (tt, ap (λ (u : State). u.nodes) (sym p) ∙ e)
told_on (r ∷ rs) s t ns n e h g =
    let c = ltb 0 (length s.nodes) && leb s.free r.offset in
    elim (cases_Bool c) [
      | inl y ↦
          (let k : through (map Register rs) (after s r) ≡ Some t =
          subst (λ (b : Bool). option_and_then (through (map Register rs)) (cond b (Some (after s r)) None) ≡ Some t) y g in
          let i = told_on rs (after s r) t ns (named n r.offset r.dword.value r.dword.mask)
          (set_last s.nodes ns n (λ x. named x r.offset r.dword.value r.dword.mask) e) h.1 k in
          ((leb-true _ _ (and_parts _ _ y).1, h.0.0, h.0.1, i.0), i.1))
      | inr x ↦ absurd (none_some t (subst (λ (b : Bool). option_and_then (through (map Register rs)) (cond b (Some (after s r)) None) ≡ Some t) x g))
    ]

abbrev begun : State → Option ℕ → ℕ → ℕ → State
begun s p d f = record { apertures = s.apertures; lose = s.lose; nodes = s.nodes ++ (fresh p d f ∷ []); free = 0 }

pub node_told : NodeTold
node_told s t p d f rs h g =
    let c = is_some s.apertures && ltb (length s.nodes) 80 in
    elim (cases_Bool c) [
      | inl y ↦
          (let k : through (map Register rs) (begun s p d f) ≡ Some t =
          subst (λ (b : Bool). option_and_then (through (map Register rs)) (cond b (Some (begun s p d f)) None) ≡ Some t) y g in
          let i = told_on rs (begun s p d f) t s.nodes (fresh p d f) refl h k in
          (i.0, (filled (fresh p d f) rs, i.1, made_node rs p d f i.0)))
      | inr x ↦ absurd (none_some t (subst (λ (b : Bool). option_and_then (through (map Register rs)) (cond b (Some (begun s p d f)) None) ≡ Some t) x g))
    ]
