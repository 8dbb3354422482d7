-- The fields that a line's splitting gives, one after another.
use Rattle.std.proofs.Common.{◌≡◌, ℕ, Bool, true, false, cond, List, [], ◌∷◌, ◌++◌, length, get_or, Some, None, Option, sym, refl, ap, ◌∙◌, subst, Bor, arith}
use Rattle.std.proofs.lemmas.Grind.{common_steps}
use Rattle.std.specs.Bool.{MatchBool}
use Rattle.std.specs.Fn.{ComputesKey, CalledAt}
use Rattle.std.proofs.lemmas.Fn.{always_returns_same}
use Rattle.rackfile.specs.Text.{given}
use Rattle.std.specs.List.{slice_split, All, IsFirstMatchOrLen}
use Rattle.std.specs.Slice.Iter.{split_steps, split_rest, split_done, split_callee}
use Rattle.std.specs.declared.slice.Split.{Split}
use Rattle.std.proofs.lemmas.List.Splits.{slice_split_none, slice_split_at}
use denote.Param.Members.{Mut}

-- the first part, and those behind it
part : {A : Type 0} (p : A → Bool) (xs x rest : List A) (done : Bool) → MatchBool done (xs ≡ x) ((y : A) × (xs ≡ x ++ (y ∷ rest))) → IsFirstMatchOrLen p xs (length x) → slice_split p xs ≡ x ∷ cond done [] (slice_split p rest)
part p xs x rest true e h = ap (slice_split p) e ∙ slice_split_none p x (λ k d l. subst (λ (ys : List _). p (get_or ys k d) ≡ false) e (h.0 k d (omega arith) l))
part p xs x rest false e h =
    let front : All (λ z. p z ≡ false) x = λ k d l. let a = h.0 k d (omega arith) l in let b = e.1 in grind (arith, common_steps) in
    let hit : p e.0 ≡ true = let b = e.1 in let a = h.1 (grind (arith, common_steps)) e.0 in grind (arith, common_steps) in
    ap (slice_split p) e.1 ∙ slice_split_at p x e.0 rest front hit

-- the parts that are left
abbrev pub left : {F : Type 0} (p : ℕ → Bool) → Split ℕ F → List (List ℕ)
left p s = cond (split_done s) [] (slice_split p (split_rest s))

module _ {F : Type 0} (g : Mut F (Bor ℕ × Unit {0}) Bool) (p : ℕ → Bool) where
  -- the call of `split`, before the first call of `next`
  pub begun :
      {f : F} (s : Split ℕ F) (r : Option (Bor (List ℕ))) (t : Split ℕ F) (xs : List ℕ) → split_steps g s r t → split_rest s ≡ xs → split_done s ≡ false → split_callee s ≡ f →
      ((x : ℕ) (b : Bool) (q : F) → CalledAt g f x b q → (q ≡ f) × (b ≡ p x)) → (left p s ≡ slice_split p xs) × ComputesKey g p (split_callee s)
  begun {f} s r t xs k rest done closure tests = (
    ap (λ (b : Bool). cond b [] (slice_split p (split_rest s))) done ∙ ap (slice_split p) rest,
    subst (ComputesKey g p) (sym closure)
        (always_returns_same g (λ a r. r ≡ p a.0.now) f (λ a r q k. let m = tests a.0.now r q (record { shown = a.0; shows = refl; called = k }) in (m.1, m.0))),
  )

  -- a call of `next`
  pub one_given :
      (s : Split ℕ F) (r : Option (Bor (List ℕ))) (t : Split ℕ F) → ComputesKey g p (split_callee s) → split_steps g s r t →
      ComputesKey g p (split_callee t) × ((rs : List (Option (Bor (List ℕ)))) (more : List (List ℕ)) → left p t ≡ given rs more → left p s ≡ given (r ∷ rs) more)
  one_given s None t h k = (subst (λ (u : Split ℕ F). ComputesKey g p (split_callee u)) (sym k.1) h, λ rs more e. ap (λ (b : Bool). cond b [] (slice_split p (split_rest s))) k.0)
  one_given s (Some x) t h k = (
    (k.2 p h).0,
    λ rs more e.
        ap (λ (b : Bool). cond b [] (slice_split p (split_rest s))) k.0
        ∙ part p (split_rest s) x.now (split_rest t) (split_done t) k.1 (k.2 p h).1 ∙ ap (λ (ps : List (List ℕ)). x.now ∷ ps) e,
  )
