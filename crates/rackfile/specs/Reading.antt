-- What a machine file says, or the refusal of the first line that breaks its form.
use Rattle.std.specs.Prelude.{◌≡◌, ℕ, ◌+◌, ◌-◌, Bool, true, cond, not, ◌&&◌, List, [], ◌∷◌, ◌++◌, length, take, is_some, Some, None, Ok, Err, Option, Result, ◌==◌, ◌≢◌, nat_le, nat_lt, slice_set}
use Rattle.pci.specs.declared.fault.Fault.{Fault}
use Rattle.pci.specs.declared.fault.Fault.TheVariants.{Torn}
use Rattle.machine.specs.Machine.{node}
use Rattle.machine.specs.Nodes.{fresh, named}
use Rattle.machine.specs.declared.Node.{Node}
use Rattle.rackfile.specs.Text.{parted}
use Rattle.rackfile.specs.Form.{words, Holds}
use Rattle.rackfile.specs.declared.line.Apertures.{Apertures as Bounds}
use Rattle.rackfile.specs.declared.line.Line.{Line}
use Rattle.rackfile.specs.declared.line.Line.TheVariants.{Apertures, Lose, Function, Register}

-- what the lines so far have said; `free` is the least offset that the next dword of the last node may have
pub record State : Type 0 where
  pub apertures : Option Bounds
  pub lose : Option ℕ
  pub nodes : List Node
  pub free : ℕ

-- before the first line nothing has been said
abbrev pub start : State
start = record { apertures = None; lose = None; nodes = []; free = 0 }

-- what has been said after one line more; none where that line may not stand there
abbrev pub next : State → Line → Option State
next s (Apertures a) = cond (is_some s.apertures) None (Some (record { apertures = Some a; lose = s.lose; nodes = s.nodes; free = s.free }))
next s (Lose n) =
    cond (is_some s.apertures && (not (is_some s.lose) && length s.nodes == 0))
    (Some (record { apertures = s.apertures; lose = Some n; nodes = s.nodes; free = s.free })) None
next s (Function p d f) =
    cond (is_some s.apertures && nat_lt (length s.nodes) 80)
    (Some (record { apertures = s.apertures; lose = s.lose; nodes = s.nodes ++ (fresh p d f ∷ []); free = 0 })) None
next s (Register r) =
    cond (nat_lt 0 (length s.nodes) && nat_le s.free r.offset)
    (Some (record {
      apertures = s.apertures;
      lose = s.lose;
      nodes = slice_set s.nodes (length s.nodes - 1) (named (node s.nodes (length s.nodes - 1)) r.offset r.dword.value r.dword.mask);
      free = r.offset + 4;
    })) None

-- these bytes write this line: commas part its fields
abbrev pub Says : List ℕ → Line → Type 0
Says bytes l = Holds l × (words l ≡ parted 44 bytes)

-- what a whole file says
pub record Content : Type 0 where
  pub apertures : Bounds
  pub lose : Option ℕ
  pub nodes : List Node

-- From line n on, where s has been said and these pieces are left, of which line feeds end all but the last:
-- the file ends there, lacks the end of its last line or its apertures or is cut off, goes on with a line, or breaks the form.
-- `whole` tells that nothing was cut off behind the pieces.
pub data Run (whole : Bool) : ℕ → State → List (List ℕ) → Result Content Fault → Type 0 where
  ends : {n : ℕ} {s : State} (a : Bounds) → whole ≡ true → s.apertures ≡ Some a →
      Run whole n s ([] ∷ []) (Ok (record { apertures = a; lose = s.lose; nodes = s.nodes }))
  short : {n : ℕ} {s : State} {p : List ℕ} → (whole ≡ true → is_some s.apertures ≡ true → p ≢ []) → Run whole n s (p ∷ []) (Err (Torn n))
  says : {n : ℕ} {s t : State} {p q : List ℕ} {ps : List (List ℕ)} {r : Result Content Fault} (l : Line) →
      Says p l → next s l ≡ Some t → Run whole (n + 1) t (q ∷ ps) r → Run whole n s (p ∷ q ∷ ps) r
  torn : {n : ℕ} {s : State} {p q : List ℕ} {ps : List (List ℕ)} → ((l : Line) → Says p l → next s l ≡ None) → Run whole n s (p ∷ q ∷ ps) (Err (Torn n))

-- the most bytes of a file
abbrev pub limit : ℕ
limit = 65536

-- what the file's bytes say, or the refusal with the number of the first line that breaks the form, from 1
abbrev pub File : List ℕ → Result Content Fault → Type 0
File bytes r = Run (nat_le (length bytes) limit) 1 start (parted 10 (take limit bytes)) r

-- no file says two things
abbrev pub OneReading : Type 0
OneReading = (bytes : List ℕ) (q r : Result Content Fault) → File bytes q → File bytes r → q ≡ r
