-- How lines follow one another in a listing.
use Rattle.std.proofs.Common.{◌≡◌, ℕ, ◌-◌, ◌≤◌, true, List, [], ◌∷◌, ◌++◌, drop, is_err, Ok, Err, Result, sym, refl, ap, ◌∙◌, append_assoc, append-nil, add-zero, arith, length-append}
use Rattle.std.proofs.lemmas.List.Folds.{concat-append}
use Rattle.std.proofs.lemmas.List.{drop-drop}
use mathlib.Core.Bool.{false≢true}
use Rattle.listing.specs.declared.kept.NoRoom.{NoRoom}
use Rattle.listing.specs.declared.kept.Listing.{Listing}
use Rattle.listing.specs.Kept.{Puts}
use Rattle.listing.specs.Lines.{joined, Lists}
use Rattle.listing.proofs.Texts.{length_put, take_put, drop_put}

-- no line
pub lists_none : (l : Listing) → Lists (Ok tt) l [] l
lists_none l = record { buf = refl; came = record { room = λ h. omega (arith, h); bytes = sym (append-nil _); after = refl; len = sym (add-zero _); past = refl } }

-- one line
pub lists_one : (r : Result (Unit {0}) NoRoom) {a : Listing} {x : List ℕ} {b : Listing} → Puts r a x b → Lists r a (x ∷ []) b
lists_one (Ok u) {a} {x} {b} p =
    let s = p.came in
    let kept = take_put a.buf.now a.kept.len x s.room in
    let whole = length_put a.buf.now a.kept.len x s.room in
    let same = drop_put a.buf.now a.kept.len x s.room in
    record {
      buf = p.buf;
      came =
          record {
            room = λ _. rw (append-nil x) s.room;
            bytes = rw (s.len, s.bytes, append-nil x) kept;
            after = rw (s.len, s.bytes) same;
            len = rw (append-nil x) s.len;
            past = rw s.bytes whole;
          };
    }
lists_one (Err e) {a} {x} {b} p =
    let g = p.came in
    record {
      buf = p.buf;
      came =
          record {
            done = [];
            next = x;
            rest = [];
            split = refl;
            room = λ h. omega (arith, h);
            narrow = omega (arith, g.narrow);
            bytes = rw (g.len, append-nil) g.below;
            len = omega (arith, g.len);
            past = g.whole;
          };
    }

-- what is the same from one place on is the same from a later one on
drop_further : (i j : ℕ) (xs ys : List ℕ) → i ≤ j → drop i xs ≡ drop i ys → drop j xs ≡ drop j ys
drop_further i j xs ys h e =
    let far : (l : List ℕ) → drop (j - i) (drop i l) ≡ drop j l = λ l. drop-drop (j - i) i l ∙ ap (λ n. drop n l) (omega (arith, h)) in
    sym (far xs) ∙ ap (drop (j - i)) e ∙ far ys

-- lines that stand, and then some
pub lists_then :
    (r : Result (Unit {0}) NoRoom) {a : Listing} {xs : List (List ℕ)} {b : Listing} {ys : List (List ℕ)} {c : Listing} →
    Lists (Ok tt) a xs b → Lists r b ys c → Lists r a (xs ++ ys) c
lists_then (Ok u) {a} {xs} {b} {ys} {c} p q =
    let s = p.came in
    let t = q.came in
    let all = concat-append xs ys in
    let long = length-append (joined xs) (joined ys) in
    record {
      buf = q.buf ∙ p.buf;
      came =
          record {
            room = λ h. rw all (omega (arith, t.room (omega (arith, s.room h, s.len, s.past)), s.len, s.past, long));
            bytes = rw (t.bytes, s.bytes, all, append_assoc);
            after = t.after ∙ drop_further b.kept.len c.kept.len _ _ (omega (arith, t.len)) s.after;
            len = rw all (omega (arith, t.len, s.len, long));
            past = t.past ∙ s.past;
          };
    }
lists_then (Err e) {a} {xs} p q =
    let s = p.came in
    let t = q.came in
    let all = concat-append xs t.done in
    let long = length-append (joined xs) (joined t.done) in
    record {
      buf = q.buf ∙ p.buf;
      came =
          record {
            done = xs ++ t.done;
            next = t.next;
            rest = t.rest;
            split = rw (t.split, append_assoc);
            room = λ h. rw all (omega (arith, t.room (omega (arith, s.room h, s.len, s.past)), s.len, s.past, long));
            narrow = rw all (omega (arith, t.narrow, s.len, s.past, long));
            bytes = rw (t.bytes, s.bytes, all, append_assoc);
            len = rw all (omega (arith, t.len, s.len, long));
            past = t.past ∙ s.past;
          };
    }

-- where a line does not fit, those after it are not put
pub lists_stop :
    (r : Result (Unit {0}) NoRoom) {e : NoRoom} {a : Listing} {xs : List (List ℕ)} {b : Listing} (ys : List (List ℕ)) →
    is_err r ≡ true → Lists (Err e) a xs b → Lists r a (xs ++ ys) b
lists_stop (Ok u) ys f p = absurd (false≢true f)
lists_stop (Err e) ys f p =
    let w = p.came in
    record {
      buf = p.buf;
      came =
          record {
            done = w.done;
            next = w.next;
            rest = w.rest ++ ys;
            split = rw (w.split, append_assoc);
            room = w.room;
            narrow = w.narrow;
            bytes = w.bytes;
            len = w.len;
            past = w.past;
          };
    }
