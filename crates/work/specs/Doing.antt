-- What a stretch of work does through an access: its reads and writes in their order, and its answer.
use Rattle.std.specs.Prelude.{◌≡◌, ℕ, zero, suc, ◌+◌, ◌<◌, Bool, true, false, List, [], ◌∷◌, ◌++◌, length, Some, None, Ok, Err, Result}
use Rattle.pci.specs.declared.Name.{Name}
use Rattle.pci.specs.declared.Loss.{Loss}
use Rattle.pci.specs.declared.fault.Fault.{Fault}
use Rattle.pci.specs.declared.fault.Fault.TheVariants.{Torn, Unlawful, Lost, Strange, Full, Spent, Crooked, Large, Aperture, Short, WrongBook, NoRow, NoAddress, Narrow}
use Rattle.access.specs.Access.{State, Allows, Falls, later, answer, after, lost_with}

-- one read or write: the name, the offset and, of a write, the value
pub data Act : Type 0 where
  reads : Name → ℕ → Act
  writes : Name → ℕ → ℕ → Act

-- where it is lost, if it is
abbrev pub place : Act → Loss
place (reads at offset) = record { register = record { at = at; offset = offset } }
place (writes at offset v) = record { register = record { at = at; offset = offset } }

-- the access after it was granted: a read leaves the machine as it was
unfoldable pub did : State → Act → State
did s (reads at offset) = record { machine = s.machine; last = s.last; loss = s.loss; due = later s.due 1 }
did s (writes at offset v) = record { machine = after s.last s.machine at offset v; last = s.last; loss = s.loss; due = later s.due 1 }

-- after all of them, first to last
abbrev pub done : State → List Act → State
done s [] = s
done s (a ∷ ws) = done (did s a) ws

-- all reads and writes that work makes where none is lost, and what it answers then
pub record Out (X : Type 0) : Type 0 where
  pub acts : List Act
  pub answer : Result X Fault

-- work, by the machine and the last bus where it begins
abbrev pub Work : Type 0 → Type 0
Work X = State → Out X

-- no access, and this answer
unfoldable pub give : {X : Type 0} → X → Work X
give x s = record { acts = []; answer = Ok x }

-- no access, and a refusal
unfoldable pub refuse : {X : Type 0} → Fault → Work X
refuse e s = record { acts = []; answer = Err e }

-- no access, and an answer that is granted or refused
unfoldable pub decide : {X : Type 0} → Result X Fault → Work X
decide r s = record { acts = []; answer = r }

-- one read
unfoldable pub read : Name → ℕ → Work ℕ
read at offset s = record { acts = reads at offset ∷ []; answer = Ok (answer s.last s.machine at offset) }

-- one write
unfoldable pub write : Name → ℕ → ℕ → Work (Unit {0})
write at offset v s = record { acts = writes at offset v ∷ []; answer = Ok tt }

-- first m, then k at what m answered and at the machine that m left; a refusal ends it
abbrev pub follow : {X Y : Type 0} → State → List Act → Result X Fault → (X → Work Y) → Out Y
follow s ws (Err e) k = record { acts = ws; answer = Err e }
follow s ws (Ok x) k = record { acts = ws ++ (k x (done s ws)).acts; answer = (k x (done s ws)).answer }

-- m, and then k
unfoldable pub bind : {X Y : Type 0} → Work X → (X → Work Y) → Work Y
bind m k s = follow s (m s).acts (m s).answer k

-- f at i, i + 1 and so on, m times, each at what the one before answered
unfoldable pub times : {X : Type 0} → ℕ → ℕ → (ℕ → X → Work X) → X → Work X
times zero i f x = give x
times (suc m) i f x = bind (f i x) (times m (i + 1) f)

-- What comes of work m that is begun at the access s: the answer r, and the access s' afterwards.
-- When an access is lost is open where that is not known beforehand; all else follows.
pub data Ran {X : Type 0} (s : State) (m : Work X) (r : Result X Fault) (s' : State) : Type 0 where
  -- nothing was lost: the work's own answer, after all its reads and writes
  whole : (0 < length (m s).acts → s.loss ≡ None) → Allows s.due (length (m s).acts) → r ≡ (m s).answer → s' ≡ done s (m s).acts → Ran s m r s'
  -- one of them, a, was lost, after those before it were granted
  lost_at : (granted : List Act) (a : Act) (rest : List Act) → (m s).acts ≡ granted ++ a ∷ rest → s.loss ≡ None → Falls s.due (length granted) →
      r ≡ Err (Lost (place a)) → s' ≡ lost_with (done s granted) (place a) → Ran s m r s'
  -- the access was lost before, and the first of them told that
  was_lost : (l : Loss) → 0 < length (m s).acts → s.loss ≡ Some l → r ≡ Err (Lost l) → s' ≡ s → Ran s m r s'

-- an answer beside what a table holds at the return
abbrev pub beside : {X Y : Type 0} → X → Result Y Fault → Result (X × Y) Fault
beside x (Ok y) = Ok (x, y)
beside x (Err e) = Err e

-- what a table holds at the return, where the call was granted
abbrev pub now_is : {X Y : Type 0} → X → Result Y Fault → Result X Fault
now_is x (Ok y) = Ok x
now_is x (Err e) = Err e

-- whether a refusal is that of a lost access
abbrev pub is_loss : Fault → Bool
is_loss (Torn n) = false
is_loss (Unlawful n l) = false
is_loss (Lost l) = true
is_loss (Strange at k) = false
is_loss (Full at) = false
is_loss (Spent at n) = false
is_loss (Crooked at b) = false
is_loss (Large at b) = false
is_loss (Aperture sp) = false
is_loss (Short sp) = false
is_loss WrongBook = false
is_loss (NoRow n) = false
is_loss NoAddress = false
is_loss (Narrow n) = false

-- whether an answer is that refusal
abbrev pub is_lost : {X : Type 0} → Result X Fault → Bool
is_lost (Ok x) = false
is_lost (Err e) = is_loss e
