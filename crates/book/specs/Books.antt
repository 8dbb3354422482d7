-- What is said of a whole book.
use Rattle.std.specs.Prelude.{◌≡◌, ◌≤◌, [], length, vec_capacity}
use Rattle.book.specs.declared.book.Book.{Book}
use Rattle.book.specs.declared.book.Stage.TheVariants.{Fresh}
use Rattle.book.specs.Rows.{ParentsEarlier}
use Rattle.book.specs.Tables.{rows_of, bars_of}

-- What the type of a book keeps: room for all rows, few rows, each after its parent's, and none at the first stage.
pub record Sound (b : Book) : Type 0 where
  pub room : (64 ≤ vec_capacity b.functions.table.rows) × (384 ≤ vec_capacity b.bars.rows)
  pub functions : length (rows_of b.functions) ≤ 64
  pub bars : length (bars_of b.bars) ≤ 384
  pub parents : ParentsEarlier (rows_of b.functions)
  pub fresh : b.stage ≡ Fresh → (rows_of b.functions ≡ []) × (bars_of b.bars ≡ [])
