use Rattle.std.proofs.Common.{◌≡◌, true, ap}
use Rattle.pci.specs.declared.fault.Fault.TheVariants.{Narrow}
use Rattle.book.specs.declared.book.Stage.{Stage}
use Rattle.book.specs.declared.book.Stage.TheVariants.{Numbered}
use Rattle.book.specs.Stages.{same_stage}
use Rattle.book.specs.Tables.{rows_of}
use Rattle.sheet.proofs.Prints.{refused_sheet, whole_sheet, narrow_sheet}
use Rattle.sheet.proofs.print.print_rack.Goals as goal

-- a numbered book passes the test of its stage
passes : (s : Stage) → s ≡ Numbered → same_stage s Numbered ≡ true
passes s e = ap (λ (x : Stage). same_stage x Numbered) e

pub returns-in-Err-clause-sheet : goal.returns-in-Err-clause-sheet
returns-in-Err-clause-sheet c =
    refused_sheet c.args.text.now c.args.map.now c.in-Err.fault c.refuse.result.fault c.refuse.result.map c.refuse.ensures.fault c.refuse.ensures.map c.in-Err.ensures

pub returns-in-Ok-clause-sheet : goal.returns-in-Ok-clause-sheet
returns-in-Ok-clause-sheet c =
    let b = c.number.new.book in
    let booked = c.in_default.ensures in
    whole_sheet c.args.text.now c.args.map.now c.list_numbers.new.buf (rows_of b.functions) c.in-Ok.len booked.0 (c.in-Ok.ensures.listed (passes b.stage booked.1))

pub returns-in-Err-Narrow-clause-sheet : goal.returns-in-Err-Narrow-clause-sheet
returns-in-Err-Narrow-clause-sheet c =
    let b = c.number.new.book in
    let booked = c.in_default.ensures in
    let listed = c.in-Err-Narrow.ensures.listed (passes b.stage booked.1) in
    let put = c.refuse-in-Err-Narrow.ensures in
    let is : c.in-Err-Narrow.fault ≡ Narrow c.in-Err-Narrow.kept = cc in
    narrow_sheet c.args.text.now c.args.map.now c.list_numbers.new.buf (rows_of b.functions) c.in-Err-Narrow.fault c.in-Err-Narrow.kept c.refuse-in-Err-Narrow.result.map c.refuse-in-Err-Narrow.result.fault booked.0 listed is put.fault put.map
