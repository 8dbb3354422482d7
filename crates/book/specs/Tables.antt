-- The rows of the tables, and what the first stage means. Names no book, so that the book's own file may import it.
use Rattle.std.specs.Prelude.{◌≡◌, ℕ, List, [], vec_items}
use Rattle.book.specs.declared.rows.FunctionRow.{FunctionRow}
use Rattle.book.specs.declared.rows.BarRow.{BarRow}
use Rattle.book.specs.declared.table.Table.{Table}
use Rattle.book.specs.declared.functions.Functions.{Functions}
use Rattle.book.specs.declared.book.Stage.{Stage}
use Rattle.book.specs.declared.book.Stage.TheVariants.{Fresh}

-- the rows of a table of functions
abbrev pub rows_of : Functions → List FunctionRow
rows_of t = vec_items t.table.rows

-- the rows of a table of register blocks
abbrev pub bars_of : {n : ℕ} → Table BarRow n → List BarRow
bars_of t = vec_items t.rows

-- at the first stage nothing is booked
abbrev pub FreshIsEmpty : {n : ℕ} → Stage → Functions → Table BarRow n → Type 0
FreshIsEmpty s f b = s ≡ Fresh → (rows_of f ≡ []) × (bars_of b ≡ [])
