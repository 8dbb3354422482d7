-- What is printed, joined from what the calls answer.
use Rattle.std.proofs.Common.{◌≡◌, ℕ, List, length, take, Some, None, Ok, Err, Option, sym, ap, ◌∙◌, subst}
use Rattle.pci.specs.declared.fault.Fault.{Fault}
use Rattle.pci.specs.declared.fault.Fault.TheVariants.{Narrow}
use Rattle.numbering.specs.Rule.{Rows}
use Rattle.listing.specs.Fitting.{fitting, Printed}
use Rattle.listing.specs.Numbers.{rows_lines}
use Rattle.sheet.specs.Sheet.{Comes, Sheet, refused, whole, narrow}

pub refused_sheet : (text map : List ℕ) (f : Fault) (o : Option Fault) (k : ℕ) → o ≡ Some f → k ≡ 0 → Comes text (Err f) → Sheet text (length map) o (take k map)
refused_sheet text map f o k e z h =
    subst (λ x. Sheet text (length map) x (take k map)) (sym e) (subst (λ n. Sheet text (length map) (Some f) (take n map)) (sym z) (refused f h))

pub whole_sheet : (text buf buf' : List ℕ) (rows : Rows) (n : ℕ) → Comes text (Ok rows) → Printed (Ok n) buf (rows_lines rows) buf' → Sheet text (length buf) None (take n buf')
whole_sheet text buf buf' rows n c h = subst (λ l. Sheet text (length buf) None l) (sym h.2) (whole rows c h.0)

pub narrow_sheet : (text buf buf' : List ℕ) (rows : Rows) (f : Fault) (k m : ℕ) (o : Option Fault) → Comes text (Ok rows) → Printed (Err f) buf (rows_lines rows) buf' → f ≡ Narrow k → o ≡ Some (Narrow k) → m ≡ k → Sheet text (length buf) o (take m buf')
narrow_sheet text buf buf' rows f k m o c h e q z =
    let n = length (fitting (length buf) (rows_lines rows)) in
    let kn : k ≡ n = cc h.1 in
    let bytes : take m buf' ≡ fitting (length buf) (rows_lines rows) = ap (λ x. take x buf') (z ∙ kn) ∙ h.2 in
    let told : o ≡ Some (Narrow n) = q ∙ ap (λ x. let y : Option Fault = Some (Narrow x) in y) kn in
    subst (λ l. Sheet text (length buf) o l) (sym bytes) (subst (λ x. Sheet text (length buf) x (fitting (length buf) (rows_lines rows))) (sym told) (narrow rows c h.0))
