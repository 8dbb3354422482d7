-- One text after another in a line.
use Rattle.std.proofs.Common.{◌≡◌, ℕ, ◌+◌, ◌<◌, ◌≤◌, true, List, ◌++◌, length, take, drop, is_err, Ok, Err, Result, sym, ap, ◌∙◌, append_assoc, arith, length-append, length-drop, length-take, length-take-le}
use Rattle.std.specs.List.{replace_range}
use Rattle.std.proofs.lemmas.List.{take_all, take_at, drop_at, drop-drop, take-take}
use mathlib.Core.Bool.{false≢true}
use Rattle.listing.specs.declared.kept.NoRoom.{NoRoom}
use Rattle.listing.specs.declared.kept.Line.{Line}
use Rattle.listing.specs.Kept.{Stands, Gone, Began, Ended, Adds}

-- a text written at a place
abbrev pub put : List ℕ → ℕ → List ℕ → List ℕ
put buf at x = replace_range buf at (at + length x) x

-- what was kept, and the text
front : (buf : List ℕ) (at : ℕ) (x : List ℕ) → at + length x ≤ length buf → length (take at buf ++ x) ≡ at + length x
front buf at x h = grind (arith, length-append, length-take-le)

pub length_put : (buf : List ℕ) (at : ℕ) (x : List ℕ) → at + length x ≤ length buf → length (put buf at x) ≡ length buf
length_put buf at x h = simp (length-append, length-take, length-drop) (omega arith)

pub take_put : (buf : List ℕ) (at : ℕ) (x : List ℕ) → at + length x ≤ length buf → take (at + length x) (put buf at x) ≡ take at buf ++ x
take_put buf at x h = take_at (take at buf ++ x) _ _ (front buf at x h)

pub drop_put : (buf : List ℕ) (at : ℕ) (x : List ℕ) → at + length x ≤ length buf → drop (at + length x) (put buf at x) ≡ drop (at + length x) buf
drop_put buf at x h = drop_at (take at buf ++ x) _ _ (front buf at x h)

put_put : (buf : List ℕ) (at : ℕ) (x y : List ℕ) → at + length x ≤ length buf → put (put buf at x) (at + length x) y ≡ put buf at (x ++ y)
put_put buf at x y h =
    let far : drop (at + length x + length y) (put buf at x) ≡ drop (at + length (x ++ y)) buf =
    sym (drop-drop (length y) (at + length x) _) ∙ ap (drop (length y)) (drop_put buf at x h) ∙ drop-drop (length y) (at + length x) buf
    ∙ ap (λ n. drop n buf) (omega (arith, length-append x y)) in
    rw (take_put buf at x h, far) (simp append_assoc)

then : (r : Result (Unit {0}) NoRoom) (buf : List ℕ) (at : ℕ) (x buf₁ : List ℕ) (at₁ : ℕ) (y buf₂ : List ℕ) (at₂ : ℕ) →
    Stands buf at x buf₁ at₁ → Began r buf₁ at₁ y buf₂ at₂ → Began r buf at (x ++ y) buf₂ at₂
then (Ok u) buf at x buf₁ at₁ y buf₂ at₂ s t =
    let whole = ap length s.bytes ∙ length_put buf at x s.room in
    let both = length-append x y in
    record { room = omega (arith, t.room, s.len); bytes = t.bytes ∙ rw (s.bytes, s.len) (put_put buf at x y s.room); len = omega (arith, t.len, s.len) }
then (Err e) buf at x buf₁ at₁ y buf₂ at₂ s t =
    let whole : length buf₁ ≡ length buf = ap length s.bytes ∙ length_put buf at x s.room in
    let both = length-append x y in
    let low : (l : List ℕ) → take at (take at₁ l) ≡ take at l = λ l. take-take at at₁ l (omega (arith, s.len)) in
    let kept : take at₁ buf₁ ≡ take at buf ++ x = rw (s.len, s.bytes) (take_put buf at x s.room) in
    record {
      narrow = omega (arith, t.narrow, s.len);
      below = sym (low buf₂) ∙ ap (take at) (t.below ∙ kept) ∙ take_at (take at buf) x at (length-take-le at buf (omega (arith, s.room)));
      low = omega (arith, t.low, s.len);
      high = λ _. t.high (omega (arith, s.room, s.len, whole));
      whole = t.whole ∙ whole;
    }

-- one text after another
pub adds_then :
    (r : Result (Unit {0}) NoRoom) {a : Line} {x : List ℕ} {b : Line} {y : List ℕ} {c : Line} →
    Adds (Ok tt) a x b → Adds r b y c → Adds r a (x ++ y) c
adds_then r s t =
    record { kept = t.kept ∙ s.kept; buf = t.buf ∙ s.buf; back_to = t.back_to ∙ s.back_to; came = then r _ _ _ _ _ _ _ _ s.came t.came }

-- what does not fit alone does not fit with more after it
pub adds_stop :
    (r : Result (Unit {0}) NoRoom) {e : NoRoom} {a : Line} {x : List ℕ} {b : Line} (y : List ℕ) →
    is_err r ≡ true → Adds (Err e) a x b → Adds r a (x ++ y) b
adds_stop (Ok u) y f w = absurd (false≢true f)
adds_stop (Err e) {x = x} y f w =
    let both = length-append x y in
    record {
      kept = w.kept;
      buf = w.buf;
      back_to = w.back_to;
      came = record { narrow = omega (arith, w.came.narrow); below = w.came.below; low = w.came.low; high = w.came.high; whole = w.came.whole };
    }

-- the exit of a `?` where nothing is kept
pub ended_err :
    (r : Result (Unit {0}) NoRoom) {buf : List ℕ} {at : ℕ} {x end : List ℕ} {len : ℕ} →
    is_err r ≡ true → Gone buf at x end len → Ended r buf at x end len
ended_err (Ok u) f w = absurd (false≢true f)
ended_err (Err e) f w = w

-- behind bytes that are not there nothing changes
pub untouched : (buf : List ℕ) (at : ℕ) (end : List ℕ) → length buf < at → take at end ≡ take at buf → length end ≡ length buf → end ≡ buf
untouched buf at end h below whole = sym (take_all at end (omega arith)) ∙ below ∙ take_all at buf (omega arith)
