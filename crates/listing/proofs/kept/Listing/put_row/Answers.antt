use Rattle.std.proofs.Common.{◌≡◌, [], rules}
use Rattle.listing.specs.Numbers.{br_lines}
use Rattle.listing.proofs.Follow.{lists_one, lists_then, lists_stop}
use Rattle.listing.proofs.kept.Listing.put_row.Goals as goal

pub returns-in_err-put_line : goal.returns-in_err-put_line
returns-in_err-put_line c = lists_stop _ _ c.from_residual.ensures.0 (lists_one _ c.in_err-put_line.ensures)

pub returns-in-Endpoint : goal.returns-in-Endpoint
returns-in-Endpoint c =
    let no_bridge : br_lines c.args.row c.args.row.kind ≡ [] = search rules in
    rw no_bridge (lists_one _ c.in_ok-put_line.ensures)

pub returns-in-Bridge : goal.returns-in-Bridge
returns-in-Bridge c = rw c.in-Bridge.is (lists_then _ (lists_one _ c.in_ok-put_line.ensures) (lists_one _ c.put_line-in-Bridge.ensures))
