-- The stages of a book. Names no book, so that the book's own file may import it.
use Rattle.std.specs.Prelude.{ℕ, Bool, ◌==◌}
use Rattle.book.specs.declared.book.Stage.{Stage}
use Rattle.book.specs.declared.book.Stage.TheVariants.{Fresh, Numbered, Sized, Placed, Live}

-- the stages, in the order in which a job comes to them
abbrev pub stage_number : Stage → ℕ
stage_number Fresh = 0
stage_number Numbered = 1
stage_number Sized = 2
stage_number Placed = 3
stage_number Live = 4

-- two stages are the same
abbrev pub same_stage : Stage → Stage → Bool
same_stage s t = stage_number s == stage_number t
