-- Where it is known when the access will be lost, work comes to one thing.
use Rattle.std.proofs.Common.{◌≡◌, ℕ, ◌<◌, List, [], ◌∷◌, ◌++◌, length, Some, None, Err, Option, Result, sym, refl, ap, ◌∙◌, ap₂, arith, length-append}
use Rattle.pci.specs.declared.Loss.{Loss}
use Rattle.pci.specs.declared.fault.Fault.{Fault}
use Rattle.pci.specs.declared.fault.Fault.TheVariants.{Lost}
use Rattle.access.specs.Access.{State, Due, unknown, never, after_more, Allows, Falls, lost_with}
use Rattle.work.specs.Doing.{Act, place, done, Work, Ran, whole, lost_at, was_lost}

abbrev pub Known : Due → Type 0
Known unknown = ⊥
Known never = Unit {0}
Known (after_more k) = Unit {0}

-- all granted and one lost cannot both be
no_both : {Z : Type 0} (d : Due) (n m : ℕ) → Known d → m < n → Allows d n → Falls d m → Z
no_both unknown n m k l a f = absurd k
no_both never n m k l a f = absurd f
no_both (after_more j) n m k l a f = absurd (omega arith)

-- the loss falls at one place
one_place : (d : Due) (n m : ℕ) → Known d → Falls d n → Falls d m → n ≡ m
one_place unknown n m k f g = absurd k
one_place never n m k f g = absurd f
one_place (after_more j) n m k f g = omega arith

same_split : (gs hs rs ss : List Act) (a b : Act) → length gs ≡ length hs → gs ++ a ∷ rs ≡ hs ++ b ∷ ss → (gs ≡ hs) × (a ≡ b)
same_split [] [] rs ss a b l e = let q : a ≡ b = cc in (refl, q)
same_split [] (y ∷ ys) rs ss a b l e = absurd (omega arith)
same_split (x ∷ xs) [] rs ss a b l e = absurd (omega arith)
same_split (x ∷ xs) (y ∷ ys) rs ss a b l e =
    let q : x ≡ y = cc in
    let t : xs ++ a ∷ rs ≡ ys ++ b ∷ ss = cc in
    let p = same_split xs ys rs ss a b (omega arith) t in
    (ap₂ (λ (z : Act) (zs : List Act). z ∷ zs) q p.0, p.1)

shorter : (ws gs rs : List Act) (a : Act) → ws ≡ gs ++ a ∷ rs → length gs < length ws
shorter ws gs rs a e = omega (arith, ap length e, length-append gs (a ∷ rs))

pub ran_once : {X : Type 0} (s s' t : State) (m : Work X) (r q : Result X Fault) → Known s.due → Ran s m r s' → Ran s m q t → (r ≡ q) × (s' ≡ t)
ran_once s s' t m r q k (whole u a b c) (whole u' a' b' c') = (b ∙ sym b', c ∙ sym c')
ran_once s s' t m r q k (whole u a b c) (lost_at g w rest split n f x y) = no_both s.due (length (m s).acts) (length g) k (shorter (m s).acts g rest w split) a f
ran_once s s' t m r q k (whole u a b c) (was_lost l h n x y) =
    let z : s.loss ≡ None = u h in
    absurd cc
ran_once s s' t m r q k (lost_at g w rest split n f x y) (whole u a b c) = no_both s.due (length (m s).acts) (length g) k (shorter (m s).acts g rest w split) a f
ran_once {X} s s' t m r q k (lost_at g w rest split n f x y) (lost_at g' w' rest' split' n' f' x' y') =
    let p = same_split g g' rest rest' w w' (one_place s.due (length g) (length g') k f f') (sym split ∙ split') in (
      x ∙ ap (λ (z : Act). let o : Result X Fault = Err (Lost (place z)) in o) p.1 ∙ sym x',
      y ∙ ap₂ (λ (zs : List Act) (z : Act). lost_with (done s zs) (place z)) p.0 p.1 ∙ sym y',
    )
ran_once s s' t m r q k (lost_at g w rest split n f x y) (was_lost l h n' x' y') = absurd cc
ran_once s s' t m r q k (was_lost l h n x y) (whole u a b c) =
    let z : s.loss ≡ None = u h in
    absurd cc
ran_once s s' t m r q k (was_lost l h n x y) (lost_at g w rest split n' f x' y') = absurd cc
ran_once {X} s s' t m r q k (was_lost l h n x y) (was_lost l' h' n' x' y') =
    let z : ◌≡◌ {A = Option Loss} (Some l) (Some l') = sym n ∙ n' in
    let e : l ≡ l' = cc in
    (x ∙ ap (λ (j : Loss). let o : Result X Fault = Err (Lost j) in o) e ∙ sym x', y ∙ sym y')
