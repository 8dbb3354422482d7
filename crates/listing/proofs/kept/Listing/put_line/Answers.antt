use Rattle.std.proofs.Common.{rules}
use Rattle.listing.proofs.Texts.{ended_err}
use Rattle.listing.proofs.kept.Listing.put_line.Goals as goal

pub returns-in_err-fill : goal.returns-in_err-fill
returns-in_err-fill c =
    let part = c.in_err-fill.ensures.came in
    record {
      buf = search rules;
      came = ended_err _ c.from_residual.ensures.0 (record { narrow = part.narrow; below = search rules; len = search rules; whole = search rules });
    }
