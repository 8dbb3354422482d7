use Rattle.std.proofs.Common.{ap}
use Rattle.rackfile.proofs.Words.{apertures_are, at}
use Rattle.rackfile.proofs.line.read_apertures.Goals as goal

pub returns-in_err-hexadecimal-2 : goal.returns-in_err-hexadecimal-2
returns-in_err-hexadecimal-2 c = rw c.from_residual-in_err-hexadecimal-2.ensures (apertures_are (λ l. ⊥) _ (λ a h e. c.in_err-hexadecimal-2.ensures a.memory.high h.1 (ap (at 1) e)))

pub returns-in_err-hexadecimal-3 : goal.returns-in_err-hexadecimal-3
returns-in_err-hexadecimal-3 c = rw c.from_residual-in_err-hexadecimal-3.ensures (apertures_are (λ l. ⊥) _ (λ a h e. c.in_err-hexadecimal-3.ensures a.io.low h.2 (ap (at 2) e)))

pub returns-in_err-hexadecimal-4 : goal.returns-in_err-hexadecimal-4
returns-in_err-hexadecimal-4 c = rw c.from_residual-in_err-hexadecimal-4.ensures (apertures_are (λ l. ⊥) _ (λ a h e. c.in_err-hexadecimal-4.ensures a.io.high h.3 (ap (at 3) e)))
