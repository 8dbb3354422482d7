-- A listing: a buffer, of which the first bytes are kept. `buf` and `at` are the buffer and the length before, `buf'` and `at'` after.
use Rattle.std.specs.Prelude.{◌≡◌, ℕ, ◌+◌, ◌<◌, ◌≤◌, List, length, take, Ok, Err, Result}
use Rattle.std.specs.List.{replace_range}
use Rattle.listing.specs.declared.kept.NoRoom.{NoRoom}
use Rattle.listing.specs.declared.kept.Line.{Line}
use Rattle.listing.specs.declared.kept.Listing.{Listing}

-- the text stands whole after what was kept, and the rest of the buffer is as it was
pub record Stands (buf : List ℕ) (at : ℕ) (text buf' : List ℕ) (at' : ℕ) : Type 0 where
  pub room : at + length text ≤ length buf
  pub bytes : buf' ≡ replace_range buf at (at + length text) text
  pub len : at' ≡ at + length text

-- the text does not fit, and what was kept is as it was, perhaps with a part of the text after it
pub record Part (buf : List ℕ) (at : ℕ) (text buf' : List ℕ) (at' : ℕ) : Type 0 where
  pub narrow : length buf < at + length text
  pub below : take at buf' ≡ take at buf
  pub low : at ≤ at'
  pub high : at ≤ length buf → at' ≤ length buf'
  pub whole : length buf' ≡ length buf

-- the text does not fit, and nothing of it is kept
pub record Gone (buf : List ℕ) (at : ℕ) (text buf' : List ℕ) (at' : ℕ) : Type 0 where
  pub narrow : length buf < at + length text
  pub below : take at buf' ≡ take at buf
  pub len : at' ≡ at
  pub whole : length buf' ≡ length buf

-- what came of a text that is added bit by bit
abbrev pub Began : Result (Unit {0}) NoRoom → List ℕ → ℕ → List ℕ → List ℕ → ℕ → Type 0
Began (Ok u) = Stands
Began (Err e) = Part

-- what came of a text that is put whole or not at all
abbrev pub Ended : Result (Unit {0}) NoRoom → List ℕ → ℕ → List ℕ → List ℕ → ℕ → Type 0
Ended (Ok u) = Stands
Ended (Err e) = Gone

-- a text is added to a line, which stays the guard of the same record, over the same buffer
pub record Adds (r : Result (Unit {0}) NoRoom) (l : Line) (text : List ℕ) (l' : Line) : Type 0 where
  pub kept : l'.kept.ghost_name ≡ l.kept.ghost_name
  pub buf : l'.buf.ghost_name ≡ l.buf.ghost_name
  pub back_to : l'.back_to ≡ l.back_to
  pub came : Began r l.buf.now l.kept.now.len text l'.buf.now l'.kept.now.len

-- a line is put into a listing, which stays over the same buffer
pub record Puts (r : Result (Unit {0}) NoRoom) (l : Listing) (text : List ℕ) (l' : Listing) : Type 0 where
  pub buf : l'.buf.ghost_name ≡ l.buf.ghost_name
  pub came : Ended r l.buf.now l.kept.len text l'.buf.now l'.kept.len
