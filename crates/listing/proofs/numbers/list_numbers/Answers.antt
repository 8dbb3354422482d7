use Rattle.std.proofs.Common.{◌≡◌, Ok, Err, rules}
use Rattle.pci.specs.declared.fault.Fault.TheVariants.{Narrow}
use Rattle.listing.proofs.Fits.{printed_whole, printed_cut}
use Rattle.listing.proofs.numbers.list_numbers.Goals as goal

pub returns-in_err-map_err-clause-listed : goal.returns-in_err-map_err-clause-listed
returns-in_err-map_err-clause-listed c _ =
    let cut : c.put_rows.result ≡ Err (record {}) = search rules in
    let gives : c.from_residual.result ≡ Err (Narrow c.put_rows.new.self.kept.len) = search rules in
    let p = printed_cut (rw cut at c.put_rows.ensures.came) in
    rw (gives, ← c.rows.ensures) (p.0, p.1, search rules)

pub returns-clause-listed : goal.returns-clause-listed
returns-clause-listed c _ =
    let whole : c.put_rows.result ≡ Ok tt = search rules in
    let p = printed_whole (rw whole at c.put_rows.ensures.came) in
    rw (← c.rows.ensures) (p.0, p.1, search rules)
