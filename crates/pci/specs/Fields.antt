-- The fields of configuration dwords, by quotients: bits k to k + n - 1 of x are x / 2 ^ k % 2 ^ n.
use Rattle.std.specs.Prelude.{◌≡◌, ℕ, ◌+◌, ◌*◌, ◌/◌, ◌%◌, ◌<◌, Bool, ◌==◌}

-- of 00h: a low half of all ones means that nothing is there
abbrev pub absent : ℕ → Bool
absent id = id % 0x10000 == 0xffff

-- of 0Ch: bits 16 to 22, the kind (0 endpoint, 1 bridge, others strange)
abbrev pub kind_of : ℕ → ℕ
kind_of header = header / 0x10000 % 0x80

-- of 0Ch: bit 23, the device has functions beside function 0
abbrev pub several : ℕ → Bool
several header = header / 0x800000 % 2 == 1

-- of a bridge's 18h, bits 0 to 7, 8 to 15 and 16 to 23: the bus that the bridge is on
abbrev pub primary_of : ℕ → ℕ
primary_of numbers = numbers % 0x100

-- the bus that the bridge makes
abbrev pub secondary_of : ℕ → ℕ
secondary_of numbers = numbers / 0x100 % 0x100

-- the highest bus below the bridge
abbrev pub subordinate_of : ℕ → ℕ
subordinate_of numbers = numbers / 0x10000 % 0x100

-- 18h with other bus numbers, bits 24 to 31 as they were
abbrev pub renumbered : ℕ → ℕ → ℕ → ℕ → ℕ
renumbered old primary secondary subordinate = old / 0x1000000 * 0x1000000 + subordinate * 0x10000 + secondary * 0x100 + primary

-- the numbers that are put into 18h are those read back, and its highest byte stays
pub record ReadBack (old primary secondary subordinate : ℕ) : Type 0 where
  pub primary_is : primary_of (renumbered old primary secondary subordinate) ≡ primary
  pub secondary_is : secondary_of (renumbered old primary secondary subordinate) ≡ secondary
  pub subordinate_is : subordinate_of (renumbered old primary secondary subordinate) ≡ subordinate
  pub rest_is : renumbered old primary secondary subordinate / 0x1000000 ≡ old / 0x1000000

-- whatever the highest byte was
abbrev pub NumbersReadBack : Type 0
NumbersReadBack = (old primary secondary subordinate : ℕ) → primary < 0x100 → secondary < 0x100 → subordinate < 0x100 → ReadBack old primary secondary subordinate
