-- The text of lines is read back.
use Rattle.std.proofs.Common.{◌≡◌, ℕ, zero, suc, ◌+◌, ◌/◌, ◌%◌, ◌^◌, ◌<◌, ◌≤◌, Bool, true, false, eqb, get_or, List, [], ◌∷◌, ◌++◌, length, take, Some, None, Ok, decimal, Option, Result, sym, refl, ap, ◌∙◌, subst, arith}
use Rattle.std.proofs.lemmas.List.{append-nil, take_all}
use Rattle.std.specs.Str.Parse.{AllDigits}
use Rattle.std.specs.Option.{option_and_then}
use Rattle.std.specs.List.{All, AllByRecursion, join_with_byte}
use Rattle.std.proofs.lemmas.List.Splits.{slice_split_none, slice_split_at}
use Rattle.std.proofs.lemmas.List.Elements.{All-from_recursion}
use Rattle.std.proofs.lemmas.Fmt.{digits_decimal}
use Rattle.std.proofs.lemmas.Str.Parse.{digit_from_value}
use Rattle.std.proofs.lemmas.Bool.{eq-eqb, ne_eqb, le-leb}
use Rattle.std.proofs.lemmas.Bool.Decides.{nat_tests}
use Rattle.pci.specs.declared.fault.Fault.{Fault}
use Rattle.pci.specs.Digits.{glyph, hex}
use Rattle.rackfile.specs.Text.{parted}
use Rattle.rackfile.specs.Form.{words, Holds, Parent, parent_word}
use Rattle.rackfile.specs.Reading.{State, Content, Run, ends, next, start, limit}
use Rattle.rackfile.specs.Written.{text, through, ReadsBack}
use Rattle.rackfile.specs.declared.line.Apertures.{Apertures as Bounds}
use Rattle.rackfile.specs.declared.line.Line.{Line}
use Rattle.rackfile.specs.declared.line.Line.TheVariants.{Apertures, Lose, Function, Register}
use Rattle.machine.specs.declared.Node.{Node}
use Rattle.rackfile.proofs.Digits.{own}
use Rattle.rackfile.proofs.Runs.{run_says}

-- bytes above the comma
abbrev High : List ℕ → Type 0
High = AllByRecursion (λ b. 44 < b)

-- a piece without the separator, and what follows it
lacks : (b : ℕ) (xs : List ℕ) → AllByRecursion (λ x. b < x) xs → All (λ x. eqb x b ≡ false) xs
lacks b xs h = λ k d l. let a : b < get_or xs k d = All-from_recursion (λ x. b < x) xs h k d l in ne_eqb (get_or xs k d) b (λ e. omega arith)

cut_off : (b : ℕ) (xs ys : List ℕ) → AllByRecursion (λ x. b < x) xs → parted b (xs ++ (b ∷ ys)) ≡ xs ∷ parted b ys
cut_off b xs ys h = slice_split_at (λ x. eqb x b) xs b ys (lacks b xs h) (eq-eqb b b refl)

-- fields without commas come back
fields_back : (w : List ℕ) (ws : List (List ℕ)) → High w → AllByRecursion High ws → parted 44 (join_with_byte 44 (w ∷ ws)) ≡ w ∷ ws
fields_back w [] h g = slice_split_none (λ x. eqb x 44) w (lacks 44 w h)
fields_back w (v ∷ ws) h g = cut_off 44 w (join_with_byte 44 (v ∷ ws)) h ∙ ap (λ (ps : List (List ℕ)). w ∷ ps) (fields_back v ws g.0 g.1)

glyph_high : (d : ℕ) → 44 < glyph d
glyph_high d = grind (arith, nat_tests)

hex_high : (k x : ℕ) → High (hex k x)
hex_high zero x = tt
hex_high (suc k) x = (glyph_high (x / 16 ^ k % 16), hex_high k x)

digits_high : (ds : List ℕ) → AllDigits 10 ds → High ds
digits_high [] h = tt
digits_high (d ∷ ds) h = (omega (arith, digit_from_value d h.0), digits_high ds h.1)

decimal_high : (n : ℕ) → n ≤ 1000000 → High (decimal n)
decimal_high n h = digits_high (decimal n) (digits_decimal own n (omega arith))

parent_high : (p : Option ℕ) → Parent p → High (parent_word p)
parent_high None h = (omega arith, tt)
parent_high (Some p) h = decimal_high p (omega arith)

words_high : (l : Line) → Holds l → AllByRecursion High (words l)
words_high (Apertures a) h = (
  (omega arith, (omega arith, tt)),
  (hex_high 8 a.memory.low, (hex_high 8 a.memory.high, (hex_high 8 a.io.low, (hex_high 8 a.io.high, tt)))),
)
words_high (Lose n) h = ((omega arith, (omega arith, (omega arith, (omega arith, tt)))), (decimal_high n h.1, tt))
words_high (Function p d f) h =
    ((omega arith, (omega arith, tt)), (parent_high p h.0, (decimal_high d (omega arith), (decimal_high f (omega arith), tt))))
words_high (Register r) h = ((omega arith, (omega arith, tt)), (hex_high 2 r.offset, (hex_high 8 r.dword.value, (hex_high 8 r.dword.mask, tt))))

-- the fields of a line's text are its words
line_back : (l : Line) → Holds l → words l ≡ parted 44 (join_with_byte 44 (words l))
line_back (Apertures a) h = let g = words_high (Apertures a) h in sym (fields_back _ _ g.0 g.1)
line_back (Lose n) h = let g = words_high (Lose n) h in sym (fields_back _ _ g.0 g.1)
line_back (Function p d f) h = let g = words_high (Function p d f) h in sym (fields_back _ _ g.0 g.1)
line_back (Register r) h = let g = words_high (Register r) h in sym (fields_back _ _ g.0 g.1)

-- no line feed stands in it
feedless : (w ys : List ℕ) → High w → AllByRecursion (λ b. 10 < b) ys → AllByRecursion (λ b. 10 < b) (w ++ ys)
feedless [] ys h g = g
feedless (b ∷ w) ys h g = (omega (arith, h.0), feedless w ys h.1 g)

joined_feedless : (ws : List (List ℕ)) → AllByRecursion High ws → AllByRecursion (λ b. 10 < b) (join_with_byte 44 ws)
joined_feedless [] h = tt
joined_feedless (w ∷ []) h = subst (AllByRecursion (λ b. 10 < b)) (append-nil w) (feedless w [] h.0 tt)
joined_feedless (w ∷ v ∷ ws) h = feedless w (44 ∷ join_with_byte 44 (v ∷ ws)) h.0 (omega arith, joined_feedless (v ∷ ws) h.1)

-- a run over the text of lines
step_run :
    (l : Line) (ls : List Line) (n : ℕ) (s t : State) (r : Result Content Fault) (o : Option State) → Holds l → next s l ≡ o → option_and_then (through ls) o ≡ Some t →
    ((u : State) → through ls u ≡ Some t → Run true (n + 1) u (parted 10 (text ls)) r) → Run true n s (parted 10 (text (l ∷ ls))) r
step_run l ls n s t r None h e f k = absurd (let z : ◌≡◌ {A = ℕ} 0 1 = cc in omega arith)
step_run l ls n s t r (Some u) h e f k =
    run_says true n (n + 1) s u (join_with_byte 44 (words l)) (text ls) (parted 10 (text (l ∷ ls))) l r refl
    (cut_off 10 (join_with_byte 44 (words l)) (text ls) (joined_feedless (words l) (words_high l h))) (h, line_back l h) e (k u f)

text_run :
    (ls : List Line) (n : ℕ) (s t : State) (a : Bounds) → AllByRecursion Holds ls → through ls s ≡ Some t → t.apertures ≡ Some a →
    Run true n s (parted 10 (text ls)) (Ok (record { apertures = a; lose = t.lose; nodes = t.nodes }))
text_run [] n s t a h e g =
    let p : s ≡ t = cc in
    subst (λ (u : State). Run true n s ([] ∷ []) (Ok (record { apertures = a; lose = u.lose; nodes = u.nodes }))) p
    (ends a refl (ap (λ (u : State). u.apertures) p ∙ g))
text_run (l ∷ ls) n s t a h e g = step_run l ls n s t _ (next s l) h.0 refl e (λ u f. text_run ls (n + 1) u t a h.1 f g)

pub back : ReadsBack
back ls c t h =
    let r = text_run ls 1 start t.last c.apertures t.hold t.order t.apertures in
    let p : ◌≡◌ {A = Content} (record { apertures = c.apertures; lose = t.last.lose; nodes = t.last.nodes }) c =
    ap (λ (o : Option ℕ). record { apertures = c.apertures; lose = o; nodes = t.last.nodes }) (sym t.lose)
    ∙ ap (λ (ns : List Node). record { apertures = c.apertures; lose = c.lose; nodes = ns }) (sym t.nodes) in
    subst (λ (w : Bool). Run w 1 start (parted 10 (take limit (text ls))) (Ok c)) (sym (le-leb (length (text ls)) limit h))
    (subst (λ (xs : List ℕ). Run true 1 start (parted 10 xs) (Ok c)) (sym (take_all limit (text ls) h))
    (subst (λ (x : Content). Run true 1 start (parted 10 (text ls)) (Ok x)) p r))
