-- No line of a refusal is longer than 64 bytes.
use Rattle.std.proofs.Common.{◌^◌, ◌<◌, ◌≤◌, length, Some, None, Option, arith, length-append}
use Rattle.std.proofs.lemmas.Fmt.{length-decimal-le}
use Rattle.pci.specs.declared.Name.{Name}
use Rattle.pci.specs.declared.fault.Layer.{Layer}
use Rattle.pci.specs.declared.fault.Layer.TheVariants.{File, Access, List as Listing, Job}
use Rattle.pci.specs.declared.fault.Told.{Told}
use Rattle.listing.specs.Fields.{layer}
use Rattle.listing.specs.Faults.{concerned, no_line}

layer_short : (l : Layer) → length (layer l) ≤ 6
layer_short File = omega arith
layer_short Access = omega arith
layer_short Listing = omega arith
layer_short Job = omega arith

concerned_short : (n : Option Name) → length (concerned n) ≤ 7
concerned_short None = omega arith
concerned_short (Some n) = omega arith

pub no_line_short : (t : Told) → t.number < 256 → t.p < 2 ^ 64 → t.q < 2 ^ 64 → length (no_line t) ≤ 64
no_line_short t n p q =
    let a = length-decimal-le 3 t.number (omega arith) (omega arith) (omega arith) in
    let b = length-decimal-le 20 t.p (omega arith) (omega arith) (omega arith) in
    let c = length-decimal-le 20 t.q (omega arith) (omega arith) (omega arith) in
    let d = layer_short t.layer in
    let e = concerned_short t.name in
    simp length-append (omega arith)
