-- What holds of each part of the rule, and of what follows one upon another, holds of the whole.
use Rattle.std.proofs.Common.{◌≡◌, ℕ, zero, suc, ◌+◌, Bool, true, false, cond, ltb, [], ◌∷◌, ◌++◌, length, get_or, set, Some, None, Ok, Err, Option, Result, refl}
use Rattle.pci.specs.declared.Name.{Name}
use Rattle.pci.specs.declared.kind.Kind.{Kind}
use Rattle.pci.specs.declared.kind.Strange.{Strange as NoKind}
use Rattle.pci.specs.declared.numbers.Numbers.{Numbers}
use Rattle.pci.specs.Kinds.{decoded}
use Rattle.pci.specs.declared.fault.Fault.{Fault}
use Rattle.pci.specs.declared.fault.Fault.TheVariants.{Full, Spent}
use Rattle.book.specs.declared.rows.RowKind.{RowKind}
use Rattle.book.specs.declared.rows.RowKind.TheVariants.{Endpoint, Bridge}
use Rattle.work.specs.Doing.{Work, give, refuse, read, write, decide, bind, is_loss, is_lost}
use Rattle.book.specs.Rows.{no_row, with_kind}
use Rattle.pci.specs.Fields.{absent, several, kind_of}
use Rattle.work.specs.Doing.{times}
use Rattle.numbering.specs.Rule.{Rows, no_numbers, row_of, booked, quiet, booking, probing, name, another, others, on_device, on_bus, program, numbering, closing, closing_as, descending, next_bridge, next_or, below, tree}

honest_kind : (a : Bool) (at : Name) (parent : Option ℕ) (id : ℕ) (kind : Result Kind NoKind) → is_lost (cond a (row_of at parent id kind) (Err (Full at))) ≡ false
honest_kind true at parent id (Ok kind) = refl
honest_kind true at parent id (Err strange) = refl
honest_kind false at parent id kind = refl

honest_booked : (at : Name) (parent : Option ℕ) (id header n : ℕ) → is_lost (booked at parent id header n) ≡ false
unfolding booked
honest_booked at parent id header n = honest_kind (ltb n 64) at parent id (decoded (kind_of header))

module _
    (C : (X : Type 0) → Work X → Type 0)
    (c_give : (X : Type 0) (x : X) → C X (give x))
    (c_read : (at : Name) (o : ℕ) → C ℕ (read at o))
    (c_write : (at : Name) (v : ℕ) → C (Unit {0}) (write at 0x18 v))
    (c_refuse : (X : Type 0) (e : Fault) → is_loss e ≡ false → C X (refuse e))
    (c_decide : (X : Type 0) (r : Result X Fault) → is_lost r ≡ false → C X (decide r))
    (c_bind : (X Y : Type 0) (m : Work X) (k : X → Work Y) → C X m → ((x : X) → C Y (k x)) → C Y (bind m k))
  where
    part_give : {X : Type 0} (x : X) → C X (give x)
    part_give {X} x = c_give X x

    part_read : (at : Name) (o : ℕ) → C ℕ (read at o)
    part_read at o = c_read at o

    part_decide : {X : Type 0} (r : Result X Fault) → is_lost r ≡ false → C X (decide r)
    part_decide {X} r h = c_decide X r h

    part_spent : (at : Name) (last : ℕ) → C (Rows × ℕ) (refuse (Spent at last))
    part_spent at last = c_refuse (Rows × ℕ) (Spent at last) refl

    part_bind : {X Y : Type 0} (m : Work X) (k : X → Work Y) → C X m → ((x : X) → C Y (k x)) → C Y (bind m k)
    part_bind {X} {Y} m k h g = c_bind X Y m k h g

    part_if : {X : Type 0} (b : Bool) (m k : Work X) → C X m → C X k → C X (cond b m k)
    part_if true m k h g = h
    part_if false m k h g = g

    part_program : (at : Name) (numbers : Numbers) → C (Unit {0}) (program at numbers)
    unfolding program
    part_program at numbers = part_bind (read at 0x18) _ (part_read at 0x18) (λ old. c_write at _)

    part_quiet : (at : Name) (kind : RowKind) → C (Unit {0}) (quiet at kind)
    part_quiet at Endpoint = part_give tt
    part_quiet at (Bridge numbers) = part_program at no_numbers

    part_booking : (at : Name) (parent : Option ℕ) (id header : ℕ) (rows : Rows) → C (Rows × Bool) (booking at parent id header rows)
    unfolding booking
    part_booking at parent id header rows =
        part_bind (decide (booked at parent id header (length rows))) _ (part_decide (booked at parent id header (length rows)) (honest_booked at parent id header (length rows)))
        (λ row. part_bind (quiet row.at row.kind) _ (part_quiet row.at row.kind) (λ _. part_give (rows ++ row ∷ [], several header)))

    part_probing : (at : Name) (parent : Option ℕ) (rows : Rows) → C (Rows × Bool) (probing at parent rows)
    unfolding probing
    part_probing at parent rows =
        part_bind (read at 0) _ (part_read at 0)
        (λ id. part_if (absent id) _ _ (part_give (rows, false)) (part_bind (read at 0x0c) _ (part_read at 0x0c) (λ header. part_booking at parent id header rows)))

    part_times : (f : ℕ → Rows → Work Rows) → ((i : ℕ) (rows : Rows) → C Rows (f i rows)) → (m i : ℕ) (rows : Rows) → C Rows (times m i f rows)
    unfolding times
    part_times f h zero i rows = part_give rows
    part_times f h (suc m) i rows = part_bind (f i rows) (times m (i + 1) f) (h i rows) (λ xs. part_times f h m (i + 1) xs)

    part_another : (bus device : ℕ) (parent : Option ℕ) (function : ℕ) (rows : Rows) → C Rows (another bus device parent function rows)
    unfolding another
    part_another bus device parent function rows =
        part_bind (probing (name bus device function) parent rows) _ (part_probing (name bus device function) parent rows) (λ x. part_give x.0)

    part_on_device : (bus : ℕ) (parent : Option ℕ) (device : ℕ) (rows : Rows) → C Rows (on_device bus parent device rows)
    unfolding on_device others
    part_on_device bus parent device rows =
        part_bind (probing (name bus device 0) parent rows) _ (part_probing (name bus device 0) parent rows)
        (λ x. part_if x.1 _ _ (part_times (another bus device parent) (part_another bus device parent) 7 1 x.0) (part_give x.0))

    part_on_bus : (bus : ℕ) (parent : Option ℕ) (rows : Rows) → C Rows (on_bus bus parent rows)
    unfolding on_bus
    part_on_bus bus parent rows = part_times (on_device bus parent) (part_on_device bus parent) 32 0 rows

    part_numbering : (k : ℕ) (numbers : Numbers) (rows : Rows) → C Rows (numbering k numbers rows)
    unfolding numbering
    part_numbering k numbers rows =
        part_bind (program (get_or rows k no_row).at numbers) _ (part_program (get_or rows k no_row).at numbers) (λ _. part_give (set rows k (with_kind (get_or rows k no_row) (Bridge numbers))))

    part_closing_as : (kind : RowKind) (k used : ℕ) (rows : Rows) → C Rows (closing_as kind k used rows)
    part_closing_as Endpoint k used rows = part_give rows
    part_closing_as (Bridge numbers) k used rows = part_numbering k _ rows

    part_closing : (k used : ℕ) (rows : Rows) → C Rows (closing k used rows)
    unfolding closing
    part_closing k used rows = part_closing_as (get_or rows k no_row).kind k used rows

    part_descending : (k n last : ℕ) (rows : Rows) → C Rows (descending k n last rows)
    unfolding descending
    part_descending k n last rows =
        part_bind _ (on_bus n (Some k)) (part_numbering k _ rows) (part_on_bus n (Some k))

    part_next : {X : Type 0} (o : Option ℕ) (w : Work X) (f : ℕ → Work X) → C X w → ((k : ℕ) → C X (f k)) → C X (next_or o w f)
    part_next None w f h g = h
    part_next (Some k) w f h g = g k

    part_below : (n last : ℕ) (parent : Option ℕ) (i used : ℕ) (rows : Rows) → C (Rows × ℕ) (below n last parent i used rows)
    unfolding below
    part_below zero last parent i used rows = part_next (next_bridge parent i rows) _ _ (part_give (rows, used)) (λ k. part_spent (get_or rows k no_row).at last)
    part_below (suc n) last parent i used rows =
        part_next (next_bridge parent i rows) _ _ (part_give (rows, used))
        (λ k. part_if (ltb used last) _ _
        (part_bind (descending k (used + 1) last rows) _ (part_descending k (used + 1) last rows)
        (λ xs. part_bind (below n last (Some k) (length rows) (used + 1) xs) _ (part_below n last (Some k) (length rows) (used + 1) xs)
        (λ x. part_bind (closing k x.1 x.0) _ (part_closing k x.1 x.0)
        (λ ys. part_below n last parent (k + 1) x.1 ys))))
        (part_spent (get_or rows k no_row).at last))

    pub part_tree : (last : ℕ) (rows : Rows) → C Rows (tree last rows)
    unfolding tree
    part_tree last rows =
        part_bind (on_bus 0 None rows) _ (part_on_bus 0 None rows) (λ xs. part_bind (below last last None 0 0 xs) _ (part_below last last None 0 0 xs) (λ x. part_give x.0))
