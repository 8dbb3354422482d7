-- The pieces that a byte parts.
use Rattle.std.proofs.Common.{ℕ, ◌<◌, eqb, List, length, arith}
use Rattle.std.proofs.lemmas.List.Splits.{length-slice_split}
use Rattle.rackfile.specs.Text.{parted}

pub parted_some : (b : ℕ) (xs : List ℕ) → 0 < length (parted b xs)
parted_some b xs = omega (arith, length-slice_split (λ x. eqb x b) xs)
