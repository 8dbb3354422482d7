-- What came of a list of lines: each stands, or the first that does not fit and all after it do not.
use Rattle.std.specs.Prelude.{◌≡◌, ℕ, ◌+◌, ◌<◌, ◌≤◌, List, ◌∷◌, ◌++◌, length, take, drop, Ok, Err, Result}
use Rattle.std.specs.List.{concat}
use Rattle.listing.specs.declared.kept.NoRoom.{NoRoom}
use Rattle.listing.specs.declared.kept.Listing.{Listing}

-- lines as one text
abbrev pub joined : List (List ℕ) → List ℕ
joined = concat

-- all of them stand after what was kept, and the rest of the buffer is as it was
pub record Whole (buf : List ℕ) (at : ℕ) (ls : List (List ℕ)) (buf' : List ℕ) (at' : ℕ) : Type 0 where
  pub room : at ≤ length buf → at + length (joined ls) ≤ length buf
  pub bytes : take at' buf' ≡ take at buf ++ joined ls
  pub after : drop at' buf' ≡ drop at' buf
  pub len : at' ≡ at + length (joined ls)
  pub past : length buf' ≡ length buf

-- `done` stands whole after what was kept, and `next`, the line after it, does not fit.
-- The bytes past those kept are left open: of them only their number is known (`past`).
pub record Cut (buf : List ℕ) (at : ℕ) (ls : List (List ℕ)) (buf' : List ℕ) (at' : ℕ) : Type 0 where
  pub done : List (List ℕ)
  pub next : List ℕ
  pub rest : List (List ℕ)
  pub split : ls ≡ done ++ (next ∷ rest)
  pub room : at ≤ length buf → at + length (joined done) ≤ length buf
  pub narrow : length buf < at + length (joined done) + length next
  pub bytes : take at' buf' ≡ take at buf ++ joined done
  pub len : at' ≡ at + length (joined done)
  pub past : length buf' ≡ length buf

-- what came of lines that are put one after another
abbrev pub Listed : Result (Unit {0}) NoRoom → List ℕ → ℕ → List (List ℕ) → List ℕ → ℕ → Type 0
Listed (Ok u) = Whole
Listed (Err e) = Cut

-- lines are put into a listing, which stays over the same buffer
pub record Lists (r : Result (Unit {0}) NoRoom) (l : Listing) (ls : List (List ℕ)) (l' : Listing) : Type 0 where
  pub buf : l'.buf.ghost_name ≡ l.buf.ghost_name
  pub came : Listed r l.buf.now l.kept.len ls l'.buf.now l'.kept.len
