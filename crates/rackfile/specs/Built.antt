-- A builder's values as what has been said.
use Rattle.std.specs.Prelude.{vec_items}
use Rattle.rackfile.specs.Reading.{State}
use Rattle.rackfile.specs.declared.builder.Builder.{Builder}

-- what the lines that the builder took have said
abbrev pub said : Builder → State
said b = record { apertures = b.apertures; lose = b.lose; nodes = vec_items b.machine.nodes; free = b.free }
