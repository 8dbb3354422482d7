-- What holds of function rows. Names no table, so that the tables' own files may import it.
use Rattle.std.specs.Prelude.{◌≡◌, ℕ, ◌<◌, List, get_or, Some, None, Option}
use Rattle.book.specs.declared.rows.FunctionRow.{FunctionRow}
use Rattle.book.specs.declared.rows.RowKind.{RowKind}
use Rattle.book.specs.declared.rows.RowKind.TheVariants.{Endpoint}

-- stands past the end of the rows
abbrev pub no_row : FunctionRow
no_row = record { parent = None; at = record { bus = 0; device = 0; function = 0 }; id = 0; kind = Endpoint }

-- the row with another kind
abbrev pub with_kind : FunctionRow → RowKind → FunctionRow
with_kind r k = record { parent = r.parent; at = r.at; id = r.id; kind = k }

-- the parent, where there is one, stands before k
abbrev pub Earlier : Option ℕ → ℕ → Type 0
Earlier o k = (p : ℕ) → o ≡ Some p → p < k

-- each row stands after its parent's
abbrev pub ParentsEarlier : List FunctionRow → Type 0
ParentsEarlier rs = (k : ℕ) → Earlier (get_or rs k no_row).parent k
