-- Hexadecimal digits as bytes.
use Rattle.std.specs.Prelude.{ℕ, zero, suc, ◌+◌, ◌/◌, ◌%◌, ◌^◌, cond, List, [], ◌∷◌, nat_lt}

-- 0 to 9, then A to F
abbrev pub glyph : ℕ → ℕ
glyph d = cond (nat_lt d 10) (48 + d) (55 + d)

-- the lowest k digits of x, the highest of them first
abbrev pub hex : ℕ → ℕ → List ℕ
hex zero x = []
hex (suc k) x = glyph (x / 16 ^ k % 16) ∷ hex k x
