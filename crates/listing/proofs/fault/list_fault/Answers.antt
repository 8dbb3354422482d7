use Rattle.std.proofs.Common.{◌≡◌, Ok, Err, refl, arith, rules}
use Rattle.listing.proofs.Short.{no_line_short}
use Rattle.listing.proofs.Texts.{untouched}
use Rattle.listing.proofs.fault.list_fault.Goals as goal

pub returns-in_err-ok : goal.returns-in_err-ok
returns-in_err-ok c =
    let none : c.put_told.result ≡ Err (record {}) = search rules in
    let gone = rw none at c.put_told.ensures.came in
    let short = no_line_short c.told.result (omega (arith, c.told.type_inv)) (omega (arith, c.told.type_inv)) (omega (arith, c.told.type_inv)) in
    record {
      put = rw (c.from_residual.ensures, ← c.told.ensures) (record { narrow = gone.narrow; below = search rules; len = refl; whole = search rules });
      room = λ h. absurd (omega (arith, h, gone.narrow, short));
      beyond = λ h. untouched _ c.args.at _ h (search rules) (search rules);
    }

pub returns : goal.returns
returns c =
    let some : c.put_told.result ≡ Ok tt = search rules in
    let stands = rw some at c.put_told.ensures.came in
    record {
      put = rw (← c.told.ensures) (record { room = stands.room; bytes = search rules; len = stands.len });
      room = λ _. refl;
      beyond = λ h. absurd (omega (arith, h, stands.room));
    }
