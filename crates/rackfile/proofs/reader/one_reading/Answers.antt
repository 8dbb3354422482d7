use Rattle.rackfile.proofs.Runs.{one_reading}
use Rattle.rackfile.proofs.reader.one_reading.Goals as goal

pub returns : goal.returns
returns c = one_reading
