-- Hexadecimal and decimal digits, one more at the end.
use Rattle.std.proofs.Common.{◌≡◌, ℕ, zero, suc, ◌+◌, ◌-◌, ◌*◌, ◌/◌, ◌%◌, ◌^◌, ◌<◌, ◌≤◌, List, [], ◌∷◌, ◌++◌, map, length, get_or, take, drop, decimal, sym, refl, ap, ◌∙◌, inl, inr, mod-lt, pow-suc, div-add-mod', add-one, arith}
use native.Mathlib.Nat.{div-div-eq-div-mul, pow-succ', pow-le-pow_right}
use lib.Arith.{digits_div, digits_mod, digits_lt}
use Rattle.std.specs.Str.Parse.{digits_value, AllDigits}
use Rattle.std.specs.Char.{digit_value as digitValue}
use Rattle.std.specs.Int.Digits.{number_from_digits, number_from_digits_after}
use Rattle.std.proofs.lemmas.Int.Digits.{digits_value_is, number_after_append, number_after_ge}
use Rattle.std.proofs.lemmas.Fmt.{decimal_digit, first_decimal}
use Rattle.std.proofs.lemmas.Str.Parse.{IsNumeralModel, numerals_by_value, tells_digits}
use Rattle.std.proofs.lemmas.List.{map-append, take-append-drop, same_from_push}
use Rattle.std.proofs.lemmas.Bool.{cases_lt}
use Rattle.std.proofs.lemmas.Bool.Decides.{nat_tests}
use Rattle.pci.specs.Digits.{glyph, hex}

pub length_hex : (w x : ℕ) → length (hex w x) ≡ w
length_hex zero x = refl
length_hex (suc w) x = ap suc (length_hex w x)

-- one digit more at the end
pub hex_push : (i v d : ℕ) → d < 16 → hex (suc i) (v * 16 + d) ≡ hex i v ++ (glyph d ∷ [])
hex_push zero v d h =
    let e : (v * 16 + d) / 16 ^ zero % 16 ≡ d = omega (arith, digits_mod v h) in
    ap (λ (n : ℕ). glyph n ∷ []) e
hex_push (suc i) v d h =
    let e : (v * 16 + d) / 16 ^ suc i ≡ v / 16 ^ i =
    ap (λ (n : ℕ). (v * 16 + d) / n) (pow-succ' 16 i) ∙ sym (div-div-eq-div-mul (v * 16 + d) 16 (16 ^ i))
    ∙ ap (λ (n : ℕ). n / 16 ^ i) (digits_div v h) in
    ap (λ (n : ℕ). glyph (n % 16) ∷ hex (suc i) (v * 16 + d)) e ∙ ap (λ (ds : List ℕ). glyph (v / 16 ^ i % 16) ∷ ds) (hex_push i v d h)

-- each byte of a hexadecimal text is a digit's
pub hex_at : (w x k : ℕ) → k < w → (d : ℕ) × (d < 16) × (glyph d ≡ get_or (hex w x) k 0)
hex_at zero x k h = absurd (omega arith)
hex_at (suc w) x zero h = (x / 16 ^ w % 16, mod-lt (x / 16 ^ w) (omega arith), refl)
hex_at (suc w) x (suc k) h = hex_at w x k (omega arith)

-- a value of i digits and one more digit
pub hex_room : (i v d : ℕ) → v < 16 ^ i → d < 16 → v * 16 + d < 16 ^ (i + 1)
hex_room i v d a b =
    let e : 16 ^ (i + 1) ≡ 16 ^ i * 16 = ap (λ (n : ℕ). 16 ^ n) (add-one i) ∙ pow-suc 16 i in
    omega (arith, digits_lt a b)

pub hex_fits : (i w : ℕ) → i < w → w ≤ 8 → 16 ^ (i + 1) ≤ 2 ^ 32
hex_fits i w a b = pow-le-pow_right {n = 16} (omega arith) {i = i + 1} {j = 8} (omega arith)

-- a decimal digit's value
pub digit_value : (c : ℕ) → 48 ≤ c → c ≤ 57 → digitValue c ≡ c - 48
digit_value c a b = grind (arith, nat_tests)

-- the digits of decimals, by std's words
pub own : IsNumeralModel (AllDigits 10) (digits_value 10)
own = numerals_by_value (AllDigits 10) tells_digits

-- the first digits write no more than all of them
pub value_front : (j : ℕ) (bs : List ℕ) → digits_value 10 (take j bs) ≤ digits_value 10 bs
value_front j bs =
    let ds = map digitValue in
    let e : digits_value 10 bs ≡ number_from_digits_after 10 (number_from_digits 10 (ds (take j bs))) (ds (drop j bs)) =
    digits_value_is 10 bs
    ∙ ap (λ (xs : List ℕ). number_from_digits 10 (ds xs)) (sym (take-append-drop j bs))
    ∙ ap (number_from_digits 10) (map-append digitValue (take j bs) (drop j bs))
    ∙ number_after_append 10 0 (ds (take j bs)) (ds (drop j bs)) in
    let g = number_after_ge 10 (number_from_digits 10 (ds (take j bs))) (ds (drop j bs)) (omega arith) in
    omega (arith, digits_value_is 10 (take j bs))

-- what no decimal begins with
pub no_leading_zero : (x : ℕ) (bs : List ℕ) → x < 2 ^ 64 → decimal x ≡ bs → 1 < length bs → get_or bs 0 0 ≡ 48 → ⊥
no_leading_zero x bs h e l z =
    elim (cases_lt 0 x) [
      | inl p ↦ (let f = first_decimal x p h in let g = ap (λ (ds : List ℕ). get_or ds 0 0) e in omega arith)
      | inr p ↦ (let d = decimal_digit x (omega arith) in let g : length (decimal x) ≡ 1 = ap length d in let k = ap length e in omega arith)
    ]

pub glyph_same : (c d : ℕ) → c < 16 → d < 16 → glyph c ≡ glyph d → c ≡ d
glyph_same c d a b e = grind (arith, nat_tests)

-- a number is written in one way only
pub hex_same : (w x y : ℕ) → x < 16 ^ w → y < 16 ^ w → hex w x ≡ hex w y → x ≡ y
hex_same zero x y a b e = omega arith
hex_same (suc w) x y a b e =
    let p = pow-suc 16 w in
    let split : (n : ℕ) → hex (suc w) n ≡ hex w (n / 16) ++ (glyph (n % 16) ∷ []) = λ n.
    ap (hex (suc w)) (sym (div-add-mod' n 16)) ∙ hex_push w (n / 16) (n % 16) (mod-lt n (omega arith)) in
    let s = same_from_push (hex w (x / 16)) (hex w (y / 16)) (glyph (x % 16)) (glyph (y % 16)) (sym (split x) ∙ e ∙ split y) in
    let q = hex_same w (x / 16) (y / 16) (omega arith) (omega arith) s.0 in
    let r = glyph_same (x % 16) (y % 16) (mod-lt x (omega arith)) (mod-lt y (omega arith)) s.1 in
    omega arith
