-- A rack as what its file says.
use Rattle.std.specs.Prelude.{Ok, Err, vec_items, Result}
use Rattle.pci.specs.declared.fault.Fault.{Fault}
use Rattle.rackfile.specs.Reading.{Content}
use Rattle.rackfile.specs.declared.reader.Rack.{Rack}

-- the content that a rack holds; a refusal stays as it is
abbrev pub meant : Result Rack Fault → Result Content Fault
meant (Ok k) = Ok (record { apertures = k.apertures; lose = k.lose; nodes = vec_items k.machine.nodes })
meant (Err fault) = Err fault
