-- Which line some fields can be.
use Rattle.std.proofs.Common.{◌≡◌, ℕ, List, [], ◌∷◌, get_or, Some, None, codes, decimal, Option, sym, refl, ap, ◌∙◌, arith}
use Rattle.std.proofs.lemmas.Fmt.{decimal_injective, digits_decimal, decimal_nonempty}
use Rattle.std.proofs.lemmas.Str.Parse.{digit_at}
use Rattle.rackfile.proofs.Digits.{hex_same, own}
use Rattle.rackfile.specs.Form.{words, Holds, Parent, parent_word}
use Rattle.rackfile.specs.declared.line.Line.{Line}
use Rattle.rackfile.specs.declared.line.Line.TheVariants.{Apertures, Lose, Function, Register}
use Rattle.rackfile.specs.declared.line.Apertures.{Apertures as Bounds}
use Rattle.rackfile.specs.declared.line.Named.{Named}

-- the first letter of the first field tells the lines apart
abbrev first : List (List ℕ) → ℕ
first ws = get_or (get_or ws 0 []) 0 0

abbrev rest : List (List ℕ) → List (List ℕ)
rest [] = []
rest (w ∷ ws) = ws

-- a line whose first field is the word of a form has that form
module _ (X : Line → Type 0) where
  pub apertures_are : (ws : List (List ℕ)) → ((a : Bounds) → Holds (Apertures a) → rest (words (Apertures a)) ≡ ws → X (Apertures a)) → (l : Line) → Holds l → words l ≡ codes "ap" ∷ ws → X l
  apertures_are ws k (Apertures a) h e = k a h (ap rest e)
  apertures_are ws k (Lose n) h e = absurd (let z = ap first e in omega arith)
  apertures_are ws k (Function p d f) h e = absurd (let z = ap first e in omega arith)
  apertures_are ws k (Register r) h e = absurd (let z = ap first e in omega arith)

  pub lose_are : (ws : List (List ℕ)) → ((n : ℕ) → Holds (Lose n) → rest (words (Lose n)) ≡ ws → X (Lose n)) → (l : Line) → Holds l → words l ≡ codes "lose" ∷ ws → X l
  lose_are ws k (Apertures a) h e = absurd (let z = ap first e in omega arith)
  lose_are ws k (Lose n) h e = k n h (ap rest e)
  lose_are ws k (Function p d f) h e = absurd (let z = ap first e in omega arith)
  lose_are ws k (Register r) h e = absurd (let z = ap first e in omega arith)

  pub function_are : (ws : List (List ℕ)) → ((p : Option ℕ) (d f : ℕ) → Holds (Function p d f) → rest (words (Function p d f)) ≡ ws → X (Function p d f)) → (l : Line) → Holds l → words l ≡ codes "fn" ∷ ws → X l
  function_are ws k (Apertures a) h e = absurd (let z = ap first e in omega arith)
  function_are ws k (Lose n) h e = absurd (let z = ap first e in omega arith)
  function_are ws k (Function p d f) h e = k p d f h (ap rest e)
  function_are ws k (Register r) h e = absurd (let z = ap first e in omega arith)

  pub register_are : (ws : List (List ℕ)) → ((r : Named) → Holds (Register r) → rest (words (Register r)) ≡ ws → X (Register r)) → (l : Line) → Holds l → words l ≡ codes "rg" ∷ ws → X l
  register_are ws k (Apertures a) h e = absurd (let z = ap first e in omega arith)
  register_are ws k (Lose n) h e = absurd (let z = ap first e in omega arith)
  register_are ws k (Function p d f) h e = absurd (let z = ap first e in omega arith)
  register_are ws k (Register r) h e = k r h (ap rest e)

-- the field at a place
abbrev pub at : ℕ → List (List ℕ) → List ℕ
at k ws = get_or ws k []

pub parent_same : (p q : Option ℕ) → Parent p → Parent q → parent_word p ≡ parent_word q → p ≡ q
parent_same None None a b e = refl
parent_same None (Some q) a b e =
    absurd (let d = digit_at (decimal q) 0 (digits_decimal own q (omega arith)) (decimal_nonempty q (omega arith)) in
    let g = ap (λ (ds : List ℕ). get_or ds 0 0) e in omega arith)
parent_same (Some p) None a b e =
    absurd (let d = digit_at (decimal p) 0 (digits_decimal own p (omega arith)) (decimal_nonempty p (omega arith)) in
    let g = ap (λ (ds : List ℕ). get_or ds 0 0) e in omega arith)
parent_same (Some p) (Some q) a b e = ap Some (decimal_injective p q (omega arith) (omega arith) e)

abbrev made : ℕ → ℕ → ℕ → ℕ → Bounds
made x y z w = record { memory = record { low = x; high = y }; io = record { low = z; high = w } }

bounds_same :
    (a b : Bounds) → a.memory.low ≡ b.memory.low → a.memory.high ≡ b.memory.high → a.io.low ≡ b.io.low → a.io.high ≡ b.io.high → a ≡ b
bounds_same a b p q r s =
    ap (λ (x : ℕ). made x a.memory.high a.io.low a.io.high) p ∙ ap (λ (x : ℕ). made b.memory.low x a.io.low a.io.high) q
    ∙ ap (λ (x : ℕ). made b.memory.low b.memory.high x a.io.high) r ∙ ap (made b.memory.low b.memory.high b.io.low) s

abbrev named : ℕ → ℕ → ℕ → Named
named o v m = record { offset = o; dword = record { value = v; mask = m } }

record_same : (r t : Named) → r.offset ≡ t.offset → r.dword.value ≡ t.dword.value → r.dword.mask ≡ t.dword.mask → r ≡ t
record_same r t x y z = ap (λ (o : ℕ). named o r.dword.value r.dword.mask) x ∙ ap (λ (v : ℕ). named t.offset v r.dword.mask) y ∙ ap (named t.offset t.dword.value) z

-- a line is written in one way only
pub words_same : (k l : Line) → Holds k → Holds l → words k ≡ words l → k ≡ l
words_same (Apertures a) l h g e = apertures_are (λ m. Apertures a ≡ m) (rest (words (Apertures a))) (λ b i x.
    let p = hex_same 8 a.memory.low b.memory.low h.0 i.0 (sym (ap (at 0) x)) in
    let q = hex_same 8 a.memory.high b.memory.high h.1 i.1 (sym (ap (at 1) x)) in
    let r = hex_same 8 a.io.low b.io.low h.2 i.2 (sym (ap (at 2) x)) in
    let s = hex_same 8 a.io.high b.io.high h.3 i.3 (sym (ap (at 3) x)) in
    ap Apertures (bounds_same a b p q r s)) l g (sym e)
words_same (Lose m) l h g e = lose_are (λ k. Lose m ≡ k) (rest (words (Lose m))) (λ n i x.
    ap Lose (decimal_injective m n (omega arith) (omega arith) (sym (ap (at 0) x)))) l g (sym e)
words_same (Function p d f) l h g e = function_are (λ m. Function p d f ≡ m) (rest (words (Function p d f))) (λ q c k i x.
    let y = parent_same p q h.0 i.0 (sym (ap (at 0) x)) in
    let z = decimal_injective d c (omega arith) (omega arith) (sym (ap (at 1) x)) in
    let w = decimal_injective f k (omega arith) (omega arith) (sym (ap (at 2) x)) in
    cc) l g (sym e)
words_same (Register r) l h g e = register_are (λ m. Register r ≡ m) (rest (words (Register r))) (λ t i x.
    let y = hex_same 2 r.offset t.offset h.0 i.0 (sym (ap (at 0) x)) in
    let z = hex_same 8 r.dword.value t.dword.value h.2 i.2 (sym (ap (at 1) x)) in
    let w = hex_same 8 r.dword.mask t.dword.mask h.3 i.3 (sym (ap (at 2) x)) in
    ap Register (record_same r t y z w)) l g (sym e)
