-- A text line by line: a line with its line feed, and what follows it.
use Rattle.std.proofs.Common.{◌≡◌, ℕ, suc, ◌+◌, ◌-◌, ◌<◌, ◌≤◌, min, Bool, false, eqb, List, [], ◌∷◌, ◌++◌, length, get_or, take, refl, sym, ap, ◌∙◌, append_assoc, length-append, inl, inr, Bor, arith}
use Rattle.std.proofs.lemmas.Bool.{cases_lt, eqb-true, eq-eqb, both_ways}
use Rattle.std.proofs.lemmas.List.{nil_from_length, append-nil, get_or-take, length-take, take_all}
use Rattle.std.proofs.Math.ListN.{get_or-append}
use Rattle.std.proofs.Math.Seq.{take-suc}
use Rattle.std.proofs.lemmas.Fn.{always_returns_same}
use Rattle.std.specs.Fn.{ComputesKey, CalledAt}
use Rattle.std.specs.Slice.Iter.{split_inclusive_rest, split_inclusive_callee}
use Rattle.std.specs.declared.slice.SplitInclusive.{SplitInclusive}
use denote.Param.Members.{Mut}
use Rattle.std.proofs.lemmas.List.Splits.{slice_split_none, slice_split_at}
use Rattle.std.specs.List.{All, IsFirstMatchOrLen}
use Rattle.rackfile.specs.Text.{parted}

abbrev feed : ℕ → Bool
feed b = eqb b 10

-- x is what stands in xs up to the first line feed, with it, and ys is what follows
pub record Cut (xs x ys : List ℕ) (i : ℕ) : Type 0 where
  pub whole : xs ≡ x ++ ys
  pub long : length x ≡ min (i + 1) (length xs)
  pub some : 0 < length xs
  pub first : IsFirstMatchOrLen feed xs i

module _ (xs x ys : List ℕ) (i : ℕ) (c : Cut xs x ys i) where
  same_at : (k d : ℕ) → k < length x → get_or xs k d ≡ get_or x k d
  same_at k d h = ap (λ (zs : List ℕ). get_or zs k d) c.whole ∙ get_or-append x ys d k h

  long_past : length xs ≤ i → length x ≡ length xs
  long_past h = let l = c.long in omega arith

  long_at : i < length xs → length x ≡ i + 1
  long_at h = let l = c.long in omega arith

  pub some_in : 0 < length x
  some_in = let l = c.long in let s = c.some in omega arith

  pub shorter : length ys < length xs
  shorter = let s = some_in in omega (arith, length-append x ys, ap length c.whole)

  -- no line feed at the end
  past : length xs ≤ i → get_or x (length x - 1) 0 ≡ 10 → ⊥
  past h z =
      let s = some_in in
      let n = long_past h in
      let m : feed (get_or xs (length x - 1) 0) ≡ false = c.first.0 (length x - 1) 0 (omega arith) (omega arith) in
      both_ways _ m (eq-eqb (get_or xs (length x - 1) 0) 10 (same_at (length x - 1) 0 (omega arith) ∙ z))

  pub ended : get_or x (length x - 1) 0 ≡ 10 → parted 10 xs ≡ take (length x - 1) x ∷ parted 10 ys
  ended z = elim (cases_lt i (length xs)) [
    | inl h ↦
        (let m = length x - 1 in
        let n = long_at h in
        let front : All (λ y. feed y ≡ false) (take m x) = λ k d l.
        (let j : k < m = omega (arith, length-take m x) in
        ap feed (get_or-take m x k d j ∙ sym (same_at k d (omega arith))) ∙ c.first.0 k d (omega arith) (omega arith)) in
        let last : x ≡ take m x ++ (10 ∷ []) =
        sym (take_all (suc m) x (omega arith)) ∙ take-suc x m 0 (omega arith) ∙ ap (λ (b : ℕ). take m x ++ (b ∷ [])) z in
        ap (parted 10) (c.whole ∙ ap (λ (zs : List ℕ). zs ++ ys) last ∙ append_assoc (take m x) (10 ∷ []) ys)
        ∙ slice_split_at feed (take m x) 10 ys front refl)
    | inr h ↦ absurd (past h z)
  ]

  pub torn_off : (get_or x (length x - 1) 0 ≡ 10 → ⊥) → parted 10 xs ≡ x ∷ []
  torn_off z = elim (cases_lt i (length xs)) [
    | inl h ↦
        (let n = long_at h in
        absurd (z (sym (same_at (length x - 1) 0 (omega arith)) ∙ ap (λ (k : ℕ). get_or xs k 0) (omega arith) ∙ eqb-true (get_or xs i 0) 10 (c.first.1 h 0))))
    | inr h ↦
        (let n = long_past h in
        let e : ys ≡ [] = nil_from_length ys (omega (arith, length-append x ys, ap length c.whole)) in
        slice_split_none feed xs (λ k d l. c.first.0 k d (omega arith) (omega arith))
        ∙ ap (λ (zs : List ℕ). zs ∷ []) (c.whole ∙ ap (λ (zs : List ℕ). x ++ zs) e ∙ append-nil x))
  ]

-- what one step of `split_inclusive` takes
pub step :
    {F : Type 0} (g : Mut F (Bor ℕ × Unit {0}) Bool) (s : SplitInclusive ℕ F) (x : Bor (List ℕ)) (t : SplitInclusive ℕ F) →
    ((split_inclusive_rest s ≡ x.now ++ split_inclusive_rest t)
    × ((i : ℕ) × (length x.now ≡ min (i + 1) (length (split_inclusive_rest s)))
    × ((p : ℕ → Bool) → ComputesKey g p (split_inclusive_callee s) → ComputesKey g p (split_inclusive_callee t) × IsFirstMatchOrLen p (split_inclusive_rest s) i))
    × (0 < length (split_inclusive_rest s))) →
    ((y : ℕ) (b : Bool) (q : F) → CalledAt g (split_inclusive_callee s) y b q → (q ≡ split_inclusive_callee s) × (b ≡ eqb y 10)) →
    (i : ℕ) × Cut (split_inclusive_rest s) x.now (split_inclusive_rest t) i
step g s x t k tests =
    let h : ComputesKey g feed (split_inclusive_callee s) =
    always_returns_same g (λ a r. r ≡ feed a.0.now) (split_inclusive_callee s) (λ a r q c. let m = tests a.0.now r q (record { shown = a.0; shows = refl; called = c }) in (m.1, m.0)) in
    (k.1.0, record { whole = k.0; long = k.1.1; some = k.2; first = (k.1.2 feed h).1 })
