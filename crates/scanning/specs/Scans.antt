-- A scan under way.
use Rattle.std.specs.Prelude.{◌≡◌, Result}
use Rattle.pci.specs.declared.fault.Fault.{Fault}
use Rattle.access.specs.Access.{State}
use Rattle.book.specs.Tables.{rows_of}
use Rattle.work.specs.Doing.{Work, Ran, now_is, beside}
use Rattle.numbering.specs.Rule.{Rows}
use Rattle.scanning.specs.declared.scan.Scan.{Scan}

-- the rows that it has booked so far
abbrev pub rows_in : {A : Type 0} → Scan A → Rows
rows_in s = rows_of s.functions.now

-- it still works through the same access, on the same functions
abbrev pub Same : {A : Type 0} → Scan A → Scan A → Type 0
Same s t = (t.access.ghost_name ≡ s.access.ghost_name) × (t.functions.ghost_name ≡ s.functions.ghost_name)

-- all that, and it is still on the same bus
abbrev pub Stays : {A : Type 0} → Scan A → Scan A → Type 0
Stays s t = Same s t × (t.bus ≡ s.bus)

-- what comes of a step from s to t is what comes of this work on the rows of s: the rows of t
abbrev pub Does : {A : Type 0} → (A → State) → Scan A → (Rows → Work Rows) → Result (Unit {0}) Fault → Scan A → Type 0
Does state s w r t = Ran (state s.access.now) (w (rows_in s)) (now_is (rows_in t) r) (state t.access.now)

-- the same of a step that answers something beside the rows
abbrev pub Tells : {A X : Type 0} → (A → State) → Scan A → (Rows → Work (Rows × X)) → Result X Fault → Scan A → Type 0
Tells state s w r t = Ran (state s.access.now) (w (rows_in s)) (beside (rows_in t) r) (state t.access.now)
