use Rattle.std.proofs.Common.{◌+◌, ◌≤◌, length, leb, Result}
use Rattle.std.specs.Slice.Iter.{split_inclusive_rest}
use Rattle.pci.specs.declared.fault.Fault.{Fault}
use Rattle.rackfile.specs.Text.{parted}
use Rattle.rackfile.specs.Reading.{Content, Run, File}
use Rattle.rackfile.specs.Built.{said}
use Rattle.rackfile.proofs.reader.read.Given as goal

-- whatever the rest says leads to what the whole says
abbrev pub invariant-loop-piece : goal.invariant-loop-piece
invariant-loop-piece l = record {
  bound : l.builder.line + length (split_inclusive_rest l.piece-iterator) ≤ 65537;
  leads : (r : Result Content Fault) → Run (leb (length l.text) 65536) l.builder.line (said l.builder) (parted 10 (split_inclusive_rest l.piece-iterator)) r → File l.text r;
}
