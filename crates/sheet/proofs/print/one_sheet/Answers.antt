use Rattle.sheet.proofs.Once.{one_sheet}
use Rattle.sheet.proofs.print.one_sheet.Goals as goal

pub returns : goal.returns
returns c = one_sheet
