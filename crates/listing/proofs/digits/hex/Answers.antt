use Rattle.std.proofs.Common.{◌≡◌, ℕ, suc, ◌-◌, ◌/◌, ◌^◌, sym, ap, ◌∙◌, arith, rules}
use Rattle.std.proofs.lemmas.Grind.{drop-set_at}
use Rattle.std.proofs.Math.Nat.{div-div-eq-div-mul, pow-suc}
use Rattle.listing.proofs.digits.hex.Goals as goal

-- one digit more is taken off
taken : (k x : ℕ) → x / 16 ^ k / 16 ≡ x / 16 ^ suc k
taken k x = div-div-eq-div-mul x (16 ^ k) 16 ∙ ap (λ p. x / p) (sym (pow-suc 16 k))

pub loop-i-preserved : goal.loop-i-preserved
loop-i-preserved g c =
    let more : g.row.N - (c.loop-i.i - 1) ≡ suc (g.row.N - c.loop-i.i) = omega arith in
    record {
      len = search rules;
      left = rw (more, c.loop-i.invariant.left) (taken _ _);
      digits = rw more (grind (arith, drop-set_at));
    }
