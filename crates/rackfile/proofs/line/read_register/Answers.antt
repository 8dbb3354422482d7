use Rattle.std.proofs.Common.{ap}
use Rattle.rackfile.proofs.Words.{register_are, at}
use Rattle.rackfile.proofs.line.read_register.Goals as goal

pub returns-in_err-hexadecimal : goal.returns-in_err-hexadecimal
returns-in_err-hexadecimal c = rw c.from_residual-in_err-hexadecimal.ensures (register_are (λ l. ⊥) _ (λ r h e. c.in_err-hexadecimal.ensures r.dword.value h.2 (ap (at 1) e)))

pub returns-in_err-hexadecimal-2 : goal.returns-in_err-hexadecimal-2
returns-in_err-hexadecimal-2 c = rw c.from_residual-in_err-hexadecimal-2.ensures (register_are (λ l. ⊥) _ (λ r h e. c.in_err-hexadecimal-2.ensures r.dword.mask h.3 (ap (at 2) e)))
