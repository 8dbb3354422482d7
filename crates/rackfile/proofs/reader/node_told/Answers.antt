use Rattle.rackfile.proofs.Named.{node_told}
use Rattle.rackfile.proofs.reader.node_told.Goals as goal

pub returns : goal.returns
returns c = node_told
