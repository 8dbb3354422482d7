use Rattle.numbering.proofs.Alone.{numbers_alone}
use Rattle.numbering.proofs.scan_writes_numbers_alone.Goals as goal

pub returns : goal.returns
returns c = numbers_alone
