use Rattle.std.proofs.Common.{sym, ap, ◌∙◌, arith}
use Rattle.std.proofs.lemmas.Fmt.{decimal_injective}
use Rattle.rackfile.proofs.Words.{lose_are, at}
use Rattle.rackfile.proofs.line.read_lose.Goals as goal

pub returns-in-0 : goal.returns-in-0
returns-in-0 c = lose_are (λ l. ⊥) _ (λ n h e.
    let g = c.in_ok-n.ensures in
    let s = decimal_injective n c.in_ok-n.n (omega arith) (omega arith) (ap (at 0) e ∙ sym g.1) in
    omega arith)
