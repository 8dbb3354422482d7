use Rattle.rackfile.proofs.Back.{back}
use Rattle.rackfile.proofs.reader.reads_back.Goals as goal

pub returns : goal.returns
returns c = back
