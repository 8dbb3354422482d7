use Rattle.std.proofs.Common.{◌≡◌, get_or}
use Rattle.work.proofs.Leads.{ran_give}
use Rattle.book.specs.declared.rows.RowKind.TheVariants.{Endpoint, Bridge}
use Rattle.book.specs.Rows.{no_row}
use Rattle.numbering.specs.Rule.{closing}
use Rattle.book.specs.Tables.{rows_of}
use Rattle.scanning.proofs.scan.Scan.close.Goals as goal

pub returns-in-Endpoint-clause-ran : goal.returns-in-Endpoint-clause-ran
unfolding closing
returns-in-Endpoint-clause-ran g c =
    let k : (get_or (rows_of c.args.self.now.functions.now) c.args.k no_row).kind ≡ Endpoint = rw (← c.rows.ensures) c.in-Endpoint.is in
    rw k (ran_give _ _)

pub returns-in-Bridge-clause-ran : goal.returns-in-Bridge-clause-ran
unfolding closing
returns-in-Bridge-clause-ran g c =
    let k : (get_or (rows_of c.args.self.now.functions.now) c.args.k no_row).kind ≡ Bridge c.in-Bridge.numbers = rw (← c.rows.ensures) c.in-Bridge.is in
    rw k c.number.ensures.ran
