-- What is printed of a machine file.
use Rattle.std.specs.Prelude.{◌≡◌, ℕ, ◌<◌, ◌≤◌, List, [], length, Some, None, Ok, Err, Option, Result}
use Rattle.pci.specs.Faults.{told}
use Rattle.pci.specs.declared.fault.Fault.{Fault}
use Rattle.pci.specs.declared.fault.Fault.TheVariants.{Narrow}
use Rattle.rackfile.specs.Reading.{Content, File}
use Rattle.laws.specs.Lawful.{Tested}
use Rattle.access.specs.Access.{State}
use Rattle.access.specs.Boards.{due_of}
use Rattle.book.specs.declared.book.Book.{Book}
use Rattle.book.specs.declared.book.Stage.TheVariants.{Numbered}
use Rattle.book.specs.Tables.{rows_of}
use Rattle.numbering.specs.Rule.{Rows}
use Rattle.numbering.specs.Law.{Searched}
use Rattle.listing.specs.Lines.{joined}
use Rattle.listing.specs.Fitting.{fitting}
use Rattle.listing.specs.Numbers.{rows_lines}
use Rattle.listing.specs.Faults.{no_line}

-- the direct board of a file's machine before the first access
abbrev pub at_reset : Content → State
at_reset c = record { machine = c.nodes; last = 255; loss = None; due = due_of c.lose }

-- What a file comes to: the rows of its rack, or the refusal.
pub data Comes (text : List ℕ) : Result Rows Fault → Type 0 where
  torn : (f : Fault) → File text (Err f) → Comes text (Err f)
  unlawful : (c : Content) (f : Fault) → File text (Ok c) → Tested c.nodes (Err f) → Comes text (Err f)
  scanned : (c : Content) (r : Result Rows Fault) (s' : State) → File text (Ok c) → Tested c.nodes (Ok tt) → Searched (at_reset c) [] r s' → Comes text r

-- a book that was filled so, or the refusal
abbrev pub Booked : List ℕ → Result (Unit {0}) Fault → Book → Type 0
Booked text (Ok u) b = Comes text (Ok (rows_of b.functions)) × (b.stage ≡ Numbered)
Booked text (Err f) b = Comes text (Err f)

-- What is printed, where there is room for so many bytes of map: the refusal, if any, and the lines of the map.
pub data Sheet (text : List ℕ) (room : ℕ) : Option Fault → List ℕ → Type 0 where
  refused : (f : Fault) → Comes text (Err f) → Sheet text room (Some f) []
  whole : (rows : Rows) → Comes text (Ok rows) → length (joined (rows_lines rows)) ≤ room → Sheet text room None (joined (rows_lines rows))
  -- all lines before the first that does not fit
  narrow : (rows : Rows) → Comes text (Ok rows) → room < length (joined (rows_lines rows)) →
      Sheet text room (Some (Narrow (length (fitting room (rows_lines rows))))) (fitting room (rows_lines rows))

-- the `no` line of a refusal, if any
abbrev pub no_lines : Option Fault → List ℕ
no_lines None = []
no_lines (Some f) = no_line (told f)

-- no file prints two things: the refusal and the lines follow from its bytes and the room for them
abbrev pub OneSheet : Type 0
OneSheet =
    (text : List ℕ) (room : ℕ) (f g : Option Fault) (ls ms : List ℕ) → Sheet text room f ls → Sheet text room g ms → (f ≡ g) × (ls ≡ ms)
