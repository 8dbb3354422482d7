-- Which reads and writes are granted, where it is known when the access will be lost: by induction over them.
use Rattle.std.proofs.Common.{◌≡◌, ℕ, zero, suc, ◌-◌, ◌<◌, ◌≤◌, Bool, true, false, ltb, List, [], ◌∷◌, length, get_or, is_ok, Some, None, Ok, Err, Result, refl, ap, ◌∙◌, subst, arith}
use Rattle.std.proofs.lemmas.Bool.Decides.{nat_tests}
use Rattle.pci.specs.declared.Name.{Name}
use Rattle.pci.specs.declared.Loss.{Loss}
use Rattle.access.specs.Access.{State, never, after_more, Allows, Falls, later, Reads, Writes}
use Rattle.access.specs.Boards.{due_in, Accesses, none, one_read, one_write, LostFromTheNth, NeverLost}

-- what one read or write does to the loss, and to when it is due
data Step (s t : State) : Bool → Type 0 where
  grants : s.loss ≡ None → Allows s.due 1 → t.loss ≡ None → t.due ≡ later s.due 1 → Step s t true
  loses : (l : Loss) → t.loss ≡ Some l → (s.loss ≡ None → Falls s.due 0) → Step s t false

step_read : (s t : State) (at : Name) (o : ℕ) (r : Result ℕ Loss) → Reads s at o r t → Step s t (is_ok r)
step_read s t at o (Ok v) (n, a, e, q) = grants n a (ap (λ (x : State). x.loss) e) (ap (λ (x : State). x.due) e)
step_read s t at o (Err l) (q, f, e) = loses l (ap (λ (x : State). x.loss) e) f

step_write : (s t : State) (at : Name) (o v : ℕ) (r : Result (Unit {0}) Loss) → Writes s at o v r t → Step s t (is_ok r)
step_write s t at o v (Ok u) (n, a, e) = grants n a (ap (λ (x : State). x.loss) e) (ap (λ (x : State). x.due) e)
step_write s t at o v (Err l) (q, f, e) = loses l (ap (λ (x : State). x.loss) e) f

data Steps : State → List Bool → State → Type 0 where
  stop : {s : State} → Steps s [] s
  go : {s t u : State} {g : Bool} {more : List Bool} → Step s t g → Steps t more u → Steps s (g ∷ more) u

steps : (s t : State) (gs : List Bool) → Accesses s gs t → Steps s gs t
steps s t gs none = stop
steps s t gs (one_read {t = m} at o r h more) = go (step_read s m at o r h) (steps m t _ more)
steps s t gs (one_write {t = m} at o v r h more) = go (step_write s m at o v r h) (steps m t _ more)

-- a lost access grants nothing more
all_lost : (s t : State) (gs : List Bool) (l : Loss) → s.loss ≡ Some l → Steps s gs t → (i : ℕ) → get_or gs i false ≡ false
all_lost s t [] l h stop i = refl
all_lost s t (g ∷ gs) l h (go (grants n a b d) more) i = absurd cc
all_lost s t (g ∷ gs) l h (go (loses k b f) more) zero = refl
all_lost s t (g ∷ gs) l h (go {t = m} (loses k b f) more) (suc i) = all_lost m t gs k b more i

-- where k more are granted, those are the first k
first_granted : (k : ℕ) (s t : State) (gs : List Bool) → s.loss ≡ None → s.due ≡ after_more k → Steps s gs t → (i : ℕ) → i < length gs → get_or gs i false ≡ ltb i k
first_granted k s t [] h e stop i w = absurd (omega arith)
first_granted k s t (g ∷ gs) h e (go (grants n a b d) more) zero w =
    let l : 1 ≤ k = subst (λ x. Allows x 1) e a in
    grind (arith, nat_tests)
first_granted k s t (g ∷ gs) h e (go {t = m} (grants n a b d) more) (suc i) w =
    let l : 1 ≤ k = subst (λ x. Allows x 1) e a in
    first_granted (k - 1) m t gs b (d ∙ ap (λ x. later x 1) e) more i (omega arith) ∙ grind (arith, nat_tests)
first_granted k s t (g ∷ gs) h e (go (loses l b f) more) zero w =
    let z : k ≡ 0 = subst (λ x. Falls x 0) e (f h) in
    grind (arith, nat_tests)
first_granted k s t (g ∷ gs) h e (go {t = m} (loses l b f) more) (suc i) w =
    let z : k ≡ 0 = subst (λ x. Falls x 0) e (f h) in
    all_lost m t gs l b more i ∙ grind (arith, nat_tests)

-- where it is never lost, all are granted
always : (s t : State) (gs : List Bool) → s.loss ≡ None → s.due ≡ never → Steps s gs t → (i : ℕ) → i < length gs → get_or gs i false ≡ true
always s t [] h e stop i w = absurd (omega arith)
always s t (g ∷ gs) h e (go (grants n a b d) more) zero w = refl
always s t (g ∷ gs) h e (go {t = m} (grants n a b d) more) (suc i) w = always m t gs b (d ∙ ap (λ x. later x 1) e) more i (omega arith)
always s t (g ∷ gs) h e (go (loses l b f) more) i w = absurd (subst (λ x. Falls x 0) e (f h))

pub never_lost : NeverLost
never_lost machine b t gs new more = always _ t gs new.unlost (ap due_in new.grants) (steps _ t gs more)

pub lost_from_the_nth : LostFromTheNth
lost_from_the_nth machine n b t gs new more i w =
    first_granted (n - 1) _ t gs new.unlost (ap due_in new.grants) (steps _ t gs more) i w ∙ grind (arith, nat_tests)
