use Rattle.rackfile.proofs.From.{from}
use Rattle.rackfile.proofs.reader.comes_from.Goals as goal

pub returns : goal.returns
returns c = from
