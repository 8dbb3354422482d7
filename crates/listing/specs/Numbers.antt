-- The lines of the listing, from the rows of the book.
use Rattle.std.specs.Prelude.{ℕ, List, [], ◌∷◌, codes}
use Rattle.std.specs.List.{flat_map}
use Rattle.book.specs.declared.rows.FunctionRow.{FunctionRow}
use Rattle.book.specs.declared.rows.RowKind.{RowKind}
use Rattle.book.specs.declared.rows.RowKind.TheVariants.{Endpoint, Bridge}
use Rattle.pci.specs.Digits.{hex}
use Rattle.listing.specs.Fields.{name, ids, line}

-- fn,NAME,VVVV:DDDD
abbrev pub fn_line : FunctionRow → List ℕ
fn_line r = line (codes "fn") (name r.at ∷ ids r.id ∷ [])

-- br,NAME,PP,SS,UU, of a bridge alone
abbrev pub br_lines : FunctionRow → RowKind → List (List ℕ)
br_lines r Endpoint = []
br_lines r (Bridge n) = line (codes "br") (name r.at ∷ hex 2 n.primary ∷ hex 2 n.secondary ∷ hex 2 n.subordinate ∷ []) ∷ []

-- all lines of a row
abbrev pub row_lines : FunctionRow → List (List ℕ)
row_lines r = fn_line r ∷ br_lines r r.kind

-- all lines of all rows, in their order
abbrev pub rows_lines : List FunctionRow → List (List ℕ)
rows_lines = flat_map row_lines
