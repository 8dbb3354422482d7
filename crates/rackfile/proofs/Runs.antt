-- A run, one piece on.
use Rattle.std.proofs.Common.{◌≡◌, ℕ, ◌+◌, ◌<◌, min, Bool, true, leb, List, [], ◌∷◌, length, take, is_some, Some, None, Ok, Err, Option, Result, sym, refl, ap, ◌∙◌, subst, inl, inr, arith}
use Rattle.std.proofs.lemmas.List.{take_all}
use Rattle.std.proofs.lemmas.Bool.{cases_lt}
use Rattle.pci.specs.declared.fault.Fault.{Fault}
use Rattle.pci.specs.declared.fault.Fault.TheVariants.{Torn}
use Rattle.std.specs.Result.{IsErrAnd}
use Rattle.rackfile.specs.declared.reader.Rack.{Rack}
use Rattle.rackfile.specs.Racks.{meant}
use Rattle.rackfile.specs.Text.{parted}
use Rattle.rackfile.specs.declared.line.Apertures.{Apertures as Bounds}
use Rattle.rackfile.specs.Reading.{State, Content, Run, ends, short, says, torn, Says, next, start, File, OneReading}
use Rattle.rackfile.specs.declared.line.Line.{Line}
use Rattle.rackfile.proofs.Parted.{parted_some}
use Rattle.rackfile.proofs.Words.{words_same}

says_at :
    (w : Bool) (n : ℕ) (s t : State) (p : List ℕ) (ps qs : List (List ℕ)) (l : Line) (r : Result Content Fault) → 0 < length qs →
    ps ≡ p ∷ qs → Says p l → next s l ≡ Some t → Run w (n + 1) t qs r → Run w n s ps r
says_at w n s t p ps [] l r h e y x k = absurd (omega arith)
says_at w n s t p ps (q ∷ qs) l r h e y x k = subst (λ (xs : List (List ℕ)). Run w n s xs r) (sym e) (says l y x k)

-- the first piece says a line that may stand there
pub run_says :
    (w : Bool) (n m : ℕ) (s t : State) (p rest : List ℕ) (ps : List (List ℕ)) (l : Line) (r : Result Content Fault) → m ≡ n + 1 →
    ps ≡ p ∷ parted 10 rest → Says p l → next s l ≡ Some t → Run w m t (parted 10 rest) r → Run w n s ps r
run_says w n m s t p rest ps l r g e y x k =
    says_at w n s t p ps (parted 10 rest) l r (parted_some 10 rest) e y x (subst (λ (i : ℕ). Run w i t (parted 10 rest) r) g k)

torn_at :
    (w : Bool) (n : ℕ) (s : State) (p : List ℕ) (ps qs : List (List ℕ)) → 0 < length qs →
    ps ≡ p ∷ qs → ((l : Line) → Says p l → next s l ≡ None) → Run w n s ps (Err (Torn n))
torn_at w n s p ps [] h e k = absurd (omega arith)
torn_at w n s p ps (q ∷ qs) h e k = subst (λ (xs : List (List ℕ)). Run w n s xs (Err (Torn n))) (sym e) (torn k)

-- the first piece says no line that may stand there
pub run_torn :
    (w : Bool) (n : ℕ) (s : State) (p rest : List ℕ) (ps : List (List ℕ)) →
    ps ≡ p ∷ parted 10 rest → ((l : Line) → Says p l → next s l ≡ None) → Run w n s ps (Err (Torn n))
run_torn w n s p rest ps e k = torn_at w n s p ps (parted 10 rest) (parted_some 10 rest) e k

-- the last piece
pub run_short :
    (w : Bool) (n : ℕ) (s : State) (p : List ℕ) (ps : List (List ℕ)) → ps ≡ p ∷ [] →
    (w ≡ true → is_some s.apertures ≡ true → p ≡ [] → ⊥) → Run w n s ps (Err (Torn n))
run_short w n s p ps e k = subst (λ (xs : List (List ℕ)). Run w n s xs (Err (Torn n))) (sym e) (short k)

pub run_ends :
    (w : Bool) (n : ℕ) (s : State) (ps : List (List ℕ)) (a : Bounds) → ps ≡ [] ∷ [] →
    w ≡ true → s.apertures ≡ Some a → Run w n s ps (Ok (record { apertures = a; lose = s.lose; nodes = s.nodes }))
run_ends w n s ps a e h b =
    subst (λ (xs : List (List ℕ)). Run w n s xs (Ok (record { apertures = a; lose = s.lose; nodes = s.nodes }))) (sym e) (ends a h b)

take_min : (xs : List ℕ) (k n : ℕ) → n ≡ min (length xs) k → take n xs ≡ take k xs
take_min xs k n e = elim (cases_lt k (length xs)) [
  | inl h ↦ ap (λ (m : ℕ). take m xs) (omega arith)
  | inr h ↦ take_all n xs (omega arith) ∙ sym (take_all k xs h)
]

-- a run over the front of a text, from the start, is what the file says
pub from_start :
    (text front : List ℕ) (m n : ℕ) (s : State) (r : Result Content Fault) → n ≡ 1 → s ≡ start → m ≡ min (length text) 65536 → front ≡ take m text →
    Run (leb (length text) 65536) n s (parted 10 front) r → File text r
from_start text front m n s r a b e f k =
    subst (λ (xs : List ℕ). Run (leb (length text) 65536) 1 start (parted 10 xs) r) (f ∙ take_min text 65536 m e)
    (subst (λ (t : State). Run (leb (length text) 65536) 1 t (parted 10 front) r) b
    (subst (λ (i : ℕ). Run (leb (length text) 65536) i s (parted 10 front) r) a k))

-- a refusal that a `?` hands on
pub refused : (text : List ℕ) (r : Result Rack Fault) (e : Fault) → IsErrAnd r (λ f. f ≡ e) → File text (Err e) → File text (meant r)
refused text (Ok k) e h f = absurd h
refused text (Err g) e h f = subst (λ (x : Fault). File text (Err x)) (sym h) f

-- a piece says at most one line
pub says_one : (p : List ℕ) (k l : Line) (s : State) → Says p k → next s k ≡ None → Says p l → next s l ≡ None
says_one p k l s a e b = subst (λ (m : Line). next s m ≡ None) (words_same k l a.0 b.0 (a.1 ∙ sym b.1)) e

some_not_none : (o : Option State) (t : State) → o ≡ Some t → o ≡ None → ⊥
some_not_none o t e g = let z : ◌≡◌ {A = ℕ} 0 1 = cc in omega arith

same_next : (p : List ℕ) (k l : Line) (s t u : State) → Says p k → Says p l → next s k ≡ Some t → next s l ≡ Some u → t ≡ u
same_next p k l s t u a b e g =
    let x = words_same k l a.0 b.0 (a.1 ∙ sym b.1) in
    let y : ◌≡◌ {A = Option State} (Some t) (Some u) = sym e ∙ ap (next s) x ∙ g in
    cc

-- two runs over the same pieces agree
pub same_run : (w : Bool) (n : ℕ) (s : State) (ps : List (List ℕ)) (q r : Result Content Fault) → Run w n s ps q → Run w n s ps r → q ≡ r
same_run w n s ps q r (ends a h b) (ends c i d) =
    let x : a ≡ c = cc in
    ap (λ (y : Bounds). Ok (record { apertures = y; lose = s.lose; nodes = s.nodes })) x
same_run w n s ps q r (ends a h b) (short k) = absurd (k h (ap is_some b) refl)
same_run w n s ps q r (short k) (ends a h b) = absurd (k h (ap is_some b) refl)
same_run w n s ps q r (short k) (short j) = refl
same_run w n s ps q r (says {t = t} {p = p} {q = x} {ps = xs} l y e k) (says {t = u} m z g j) =
    same_run w (n + 1) t (x ∷ xs) q r k (subst (λ (v : State). Run w (n + 1) v (x ∷ xs) r) (sym (same_next p l m s t u y z e g)) j)
same_run w n s ps q r (says {t = t} l y e k) (torn j) = absurd (some_not_none (next s l) t e (j l y))
same_run w n s ps q r (torn k) (says {t = t} l y e j) = absurd (some_not_none (next s l) t e (k l y))
same_run w n s ps q r (torn k) (torn j) = refl

pub one_reading : OneReading
one_reading bytes q r a b = same_run _ _ _ _ q r a b
