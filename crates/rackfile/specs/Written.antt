-- The text of a list of lines, and that it is what a file is.
use Rattle.std.specs.Prelude.{◌≡◌, ℕ, ◌≤◌, List, [], ◌∷◌, ◌++◌, length, Some, Ok, Option}
use Rattle.std.specs.Option.{option_and_then}
use Rattle.std.specs.List.{AllByRecursion, join_with_byte}
use Rattle.rackfile.specs.Form.{words, Holds}
use Rattle.rackfile.specs.Reading.{State, Content, start, next, limit, File}
use Rattle.rackfile.specs.declared.line.Line.{Line}

-- the text of the lines: commas between the fields, a line feed after each line
abbrev pub text : List Line → List ℕ
text [] = []
text (l ∷ ls) = join_with_byte 44 (words l) ++ (10 ∷ text ls)

-- what has been said after all these lines; none where one may not stand in its place
abbrev pub through : List Line → State → Option State
through [] s = Some s
through (l ∷ ls) s = option_and_then (through ls) (next s l)

-- lines in their order that give the file's apertures, loss and nodes
pub record Tells (ls : List Line) (c : Content) : Type 0 where
  pub last : State
  pub hold : AllByRecursion Holds ls
  pub order : through ls start ≡ Some last
  pub apertures : last.apertures ≡ Some c.apertures
  pub lose : c.lose ≡ last.lose
  pub nodes : c.nodes ≡ last.nodes

-- the text of such lines, where it is not too long, is read back
abbrev pub ReadsBack : Type 0
ReadsBack = (ls : List Line) (c : Content) → Tells ls c → length (text ls) ≤ limit → File (text ls) (Ok c)

-- a file that is read is the text of such lines
abbrev pub ComesFrom : Type 0
ComesFrom = (bytes : List ℕ) (c : Content) → File bytes (Ok c) → (ls : List Line) × Tells ls c × (bytes ≡ text ls) × (length bytes ≤ limit)
