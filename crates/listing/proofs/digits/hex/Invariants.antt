use Rattle.std.proofs.Common.{◌≡◌, ◌-◌, ◌/◌, ◌^◌, length, drop}
use Rattle.pci.specs.Digits.{hex as digits_of}
use Rattle.listing.proofs.digits.hex.Given as goal

abbrev pub invariant-loop-i : goal.invariant-loop-i
invariant-loop-i g l = record {
  len : length l.digits ≡ g.row.N;
  left : l.left ≡ l.fn.x / 16 ^ (g.row.N - l.i);
  digits : drop l.i l.digits ≡ digits_of (g.row.N - l.i) l.fn.x;
}
