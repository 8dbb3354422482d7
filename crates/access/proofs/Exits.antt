-- What the exit of a `?` returns.
use Rattle.std.proofs.Common.{◌≡◌, IsErrAnd, Err, Result, ap, ◌∙◌}
use Rattle.std.proofs.lemmas.Result.{err_from_is_err_and}

pub err_is : {Y E : Type 0} (r : Result Y E) (e : E) → IsErrAnd r (λ x. x ≡ e) → r ≡ Err e
err_is {Y} {E} r e h = let p = err_from_is_err_and r h in p.1 ∙ ap (λ (x : E). let y : Result Y E = Err x in y) p.2
