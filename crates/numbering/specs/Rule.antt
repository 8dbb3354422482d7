-- The rule of scan: which rows a rack gives, through which reads and writes.
use Rattle.std.specs.Prelude.{ℕ, zero, suc, ◌+◌, Bool, true, false, cond, ◌&&◌, List, [], ◌∷◌, ◌++◌, length, get_or, drop, Some, None, Ok, Err, Option, Result, nat_lt, slice_index_or, slice_set}
use Rattle.std.specs.List.{position}
use Rattle.std.specs.Option.{option_map}
use Rattle.pci.specs.declared.Name.{Name}
use Rattle.machine.specs.Machine.{same_parent}
use Rattle.pci.specs.Fields.{absent, kind_of, several, renumbered}
use Rattle.pci.specs.Kinds.{decoded}
use Rattle.pci.specs.declared.kind.Kind.{Kind}
use Rattle.pci.specs.declared.kind.Kind.TheVariants.{Endpoint as an_endpoint, Bridge as a_bridge}
use Rattle.pci.specs.declared.kind.Strange.{Strange as NoKind}
use Rattle.pci.specs.declared.numbers.Numbers.{Numbers}
use Rattle.pci.specs.declared.fault.Fault.{Fault}
use Rattle.pci.specs.declared.fault.Fault.TheVariants.{Strange, Full, Spent}
use Rattle.book.specs.declared.rows.FunctionRow.{FunctionRow}
use Rattle.book.specs.declared.rows.RowKind.{RowKind}
use Rattle.book.specs.declared.rows.RowKind.TheVariants.{Endpoint, Bridge}
use Rattle.book.specs.Rows.{no_row, with_kind}
use Rattle.work.specs.Doing.{Work, give, refuse, read, write, bind, decide, times}

-- the function rows of a book
abbrev pub Rows : Type 0
Rows = List FunctionRow

-- the bus numbers of a bridge, the rest of 18h as read
unfoldable pub program : Name → Numbers → Work (Unit {0})
program at numbers = bind (read at 0x18) (λ old. write at 0x18 (renumbered old numbers.primary numbers.secondary numbers.subordinate))

-- a bridge has none at first
abbrev pub no_numbers : Numbers
no_numbers = record { primary = 0; secondary = 0; subordinate = 0 }

-- the kind of a new row
abbrev pub row_kind : Kind → RowKind
row_kind an_endpoint = Endpoint
row_kind a_bridge = Bridge no_numbers

-- the row of a function of that kind; a number that is no kind's is refused
abbrev pub row_of : Name → Option ℕ → ℕ → Result Kind NoKind → Result FunctionRow Fault
row_of at parent id (Ok kind) = Ok (record { parent = parent; at = at; id = id; kind = row_kind kind })
row_of at parent id (Err strange) = Err (Strange at strange.number)

-- the row of a function that was found, where n rows are booked
unfoldable pub booked : Name → Option ℕ → ℕ → ℕ → ℕ → Result FunctionRow Fault
booked at parent id header n = cond (nat_lt n 64) (row_of at parent id (decoded (kind_of header))) (Err (Full at))

-- a bridge that was found loses its numbers
abbrev pub quiet : Name → RowKind → Work (Unit {0})
quiet at Endpoint = give tt
quiet at (Bridge numbers) = program at no_numbers

-- a function that was found
unfoldable pub booking : Name → Option ℕ → ℕ → ℕ → Rows → Work (Rows × Bool)
booking at parent id header rows =
    bind (decide (booked at parent id header (length rows))) (λ row. bind (quiet row.at row.kind) (λ _. give (rows ++ row ∷ [], several header)))

-- one name; answered beside the rows: whether functions 1 to 7 are to be probed
unfoldable pub probing : Name → Option ℕ → Rows → Work (Rows × Bool)
probing at parent rows =
    bind (read at 0) (λ id. cond (absent id) (give (rows, false)) (bind (read at 0x0c) (λ header. booking at parent id header rows)))

-- a name by its three numbers
abbrev pub name : ℕ → ℕ → ℕ → Name
name bus device function = record { bus = bus; device = device; function = function }

-- one of the functions 1 to 7
unfoldable pub another : ℕ → ℕ → Option ℕ → ℕ → Rows → Work Rows
another bus device parent function rows = bind (probing (name bus device function) parent rows) (λ found. give found.0)

-- functions 1 to 7 of a device
unfoldable pub others : ℕ → ℕ → Option ℕ → Rows → Work Rows
others bus device parent = times 7 1 (another bus device parent)

-- function 0 of a device, and the others where it tells of them
unfoldable pub on_device : ℕ → Option ℕ → ℕ → Rows → Work Rows
on_device bus parent device rows =
    bind (probing (name bus device 0) parent rows) (λ found. cond found.1 (others bus device parent found.0) (give found.0))

-- devices 0 to 31 of a bus
unfoldable pub on_bus : ℕ → Option ℕ → Rows → Work Rows
on_bus bus parent = times 32 0 (on_device bus parent)

-- whether the row is of a bridge
abbrev pub is_bridge : RowKind → Bool
is_bridge Endpoint = false
is_bridge (Bridge numbers) = true

-- the bridges of a bus: the rows that have the same parent
abbrev pub bridge_of : Option ℕ → FunctionRow → Bool
bridge_of parent row = same_parent parent row.parent && is_bridge row.kind

-- the first of them at or after i
unfoldable pub next_bridge : Option ℕ → ℕ → Rows → Option ℕ
next_bridge parent i rows = option_map (λ k. i + k) (position (bridge_of parent) (drop i rows))

-- the bridge of row k gets its numbers, in its register and in its row
unfoldable pub numbering : ℕ → Numbers → Rows → Work Rows
numbering k numbers rows =
    bind (program (get_or rows k no_row).at numbers) (λ _. give (slice_set rows k (with_kind (slice_index_or rows k no_row) (Bridge numbers))))

-- all below the bridge of row k is numbered: its subordinate becomes the highest number used
abbrev pub closing_as : RowKind → ℕ → ℕ → Rows → Work Rows
closing_as Endpoint k used rows = give rows
closing_as (Bridge numbers) k used rows = numbering k (record { primary = numbers.primary; secondary = numbers.secondary; subordinate = used }) rows

-- the same at the kind of row k, which is a bridge
unfoldable pub closing : ℕ → ℕ → Rows → Work Rows
closing k used rows = closing_as (get_or rows k no_row).kind k used rows

-- the bridge of row k gets a number, and the bus of that number is scanned
unfoldable pub descending : ℕ → ℕ → ℕ → Rows → Work Rows
descending k number last rows =
    bind (numbering k (record { primary = (get_or rows k no_row).at.bus; secondary = number; subordinate = last }) rows) (on_bus number (Some k))

-- what to do at the next bridge, or where there is none
abbrev pub next_or : {X : Type 0} → Option ℕ → Work X → (ℕ → Work X) → Work X
next_or None w f = w
next_or (Some k) w f = f k

-- The bridges at or after row i on the bus below `parent`: the next of them, of row k, gets the next unused number, and the bus of that number is scanned; then
-- come the bridges of that bus, which stand from the end of the rows so far on; then the bridge is closed, and the rest of the bus below `parent` follows.
-- Answered are the rows and the highest number used. Each bridge takes a number, so that n, the numbers left, bounds the bridges that can come.
unfoldable pub below : ℕ → ℕ → Option ℕ → ℕ → ℕ → Rows → Work (Rows × ℕ)
below zero last parent i used rows = next_or (next_bridge parent i rows) (give (rows, used)) (λ k. refuse (Spent (get_or rows k no_row).at last))
below (suc n) last parent i used rows =
    next_or (next_bridge parent i rows) (give (rows, used))
    (λ k. cond (nat_lt used last)
    (bind (descending k (used + 1) last rows)
    (λ scanned. bind (below n last (Some k) (length rows) (used + 1) scanned)
    (λ x. bind (closing k x.1 x.0)
    (λ closed. below n last parent (k + 1) x.1 closed))))
    (refuse (Spent (get_or rows k no_row).at last)))

-- bus 0, then what is below its bridges
unfoldable pub tree : ℕ → Rows → Work Rows
tree last rows = bind (on_bus 0 None rows) (λ scanned. bind (below last last None 0 0 scanned) (λ x. give x.0))
