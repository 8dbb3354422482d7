use Rattle.numbering.specs.Rule.{program}
use Rattle.scanning.proofs.Steps.{goes_on, stops, handed}
use Rattle.scanning.proofs.registers.set_numbers.Goals as goal

pub returns-in_err-old : goal.returns-in_err-old
unfolding program
returns-in_err-old g c = handed (λ r. r) c.from_residual.ensures.1 (stops _ c.in_err-old.ensures.when_lost_left_open)

pub returns : goal.returns
unfolding program
returns g c = goes_on _ c.in_ok-old.ensures.when_lost_left_open (rw (← c.put_into.ensures.is) c.put.ensures.when_lost_left_open)
