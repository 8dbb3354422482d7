-- What holds of the answer of work that is granted.
use Rattle.std.proofs.Common.{◌≡◌, ℕ, zero, suc, ◌+◌, ◌<◌, ◌≤◌, Bool, true, false, cond, ltb, List, [], ◌∷◌, ◌++◌, length, get_or, drop, set, Some, None, Ok, Err, Option, Result, sym, refl, ap, ◌∙◌, subst, arith}
use Rattle.std.proofs.lemmas.List.{get_or-drop, length-drop}
use Rattle.std.proofs.lemmas.Bool.{and_parts, eqb-true}
use Rattle.pci.specs.declared.Name.{Name}
use Rattle.access.specs.Access.{State}
use Rattle.pci.specs.declared.kind.Kind.{Kind}
use Rattle.pci.specs.declared.kind.Strange.{Strange as NoKind}
use Rattle.pci.specs.declared.numbers.Numbers.{Numbers}
use Rattle.pci.specs.Kinds.{decoded}
use Rattle.pci.specs.declared.fault.Fault.{Fault}
use Rattle.pci.specs.declared.fault.Fault.TheVariants.{Full}
use Rattle.book.specs.declared.rows.FunctionRow.{FunctionRow}
use Rattle.book.specs.declared.rows.RowKind.{RowKind}
use Rattle.book.specs.declared.rows.RowKind.TheVariants.{Endpoint, Bridge}
use Rattle.work.specs.Doing.{Act, done, Work, give, refuse, read, decide, follow, bind}
use Rattle.book.specs.Rows.{no_row, with_kind, Earlier, ParentsEarlier}
use Rattle.pci.specs.Fields.{absent, several, kind_of}
use Rattle.work.specs.Doing.{times}
use Rattle.numbering.specs.Rule.{Rows, row_of, booked, quiet, booking, probing, name, another, others, on_device, on_bus, is_bridge, bridge_of, next_bridge, program, numbering, closing, closing_as, descending}
use Rattle.numbering.specs.Rule.{next_or, below}
use Rattle.std.specs.List.{position}
use Rattle.std.specs.Option.{option_map}
use Rattle.std.proofs.lemmas.List.Quantifiers.{position-Some}
use Rattle.std.proofs.lemmas.Grind.{common_steps}
use Rattle.machine.specs.Machine.{same_parent}
use Rattle.numbering.proofs.Climbs.{earlier_more}

abbrev pub Yields : {X : Type 0} → Work X → (X → Type 0) → Type 0
Yields {X} m P = (s : State) (x : X) → (m s).answer ≡ Ok x → P x

pub yields_give : {X : Type 0} (P : X → Type 0) (x : X) → P x → Yields (give x) P
unfolding give
yields_give P x h s y e = let q : x ≡ y = cc in subst P q h

pub yields_refuse : {X : Type 0} (P : X → Type 0) (d : Fault) → Yields (refuse d) P
unfolding refuse
yields_refuse P d s y e = cc

yields_decide : {X : Type 0} (P : X → Type 0) (r : Result X Fault) → ((x : X) → r ≡ Ok x → P x) → Yields (decide r) P
unfolding decide
yields_decide P r h s y e = h y e

abbrev Any : {X : Type 0} → X → Type 0
Any x = Unit {0}

yields_any : {X : Type 0} (m : Work X) → Yields m Any
yields_any m s x e = tt

follow_yields : {X Y : Type 0} (P : X → Type 0) (Q : Y → Type 0) (s : State) (ws : List Act) (o : Result X Fault) (k : X → Work Y) → ((x : X) → o ≡ Ok x → P x) → ((x : X) → P x → Yields (k x) Q) → (y : Y) → (follow s ws o k).answer ≡ Ok y → Q y
follow_yields P Q s ws (Err d) k h g y e = cc
follow_yields P Q s ws (Ok x) k h g y e = g x (h x refl) (done s ws) y e

pub yields_bind : {X Y : Type 0} (P : X → Type 0) (Q : Y → Type 0) (m : Work X) (k : X → Work Y) → Yields m P → ((x : X) → P x → Yields (k x) Q) → Yields (bind m k) Q
unfolding bind
yields_bind P Q m k h g s y e = follow_yields P Q s (m s).acts (m s).answer k (h s) g y e

yields_if : {X : Type 0} (P : X → Type 0) (b : Bool) (m k : Work X) → Yields m P → Yields k P → Yields (cond b m k) P
yields_if P true m k h g = h
yields_if P false m k h g = g

yields_so : {X : Type 0} (P Q : X → Type 0) (m : Work X) → ((x : X) → P x → Q x) → Yields m P → Yields m Q
yields_so P Q m f h s x e = f x (h s x e)

-- rows that were booked keep their places and parents, and each stands after its parent
pub record Stands (rows rows' : Rows) : Type 0 where
  pub longer : length rows ≤ length rows'
  pub parents : (j : ℕ) → j < length rows → (get_or rows' j no_row).parent ≡ (get_or rows j no_row).parent
  pub sound : ParentsEarlier rows'

stands_same : (rows : Rows) → ParentsEarlier rows → Stands rows rows
stands_same rows h = record { longer = omega arith; parents = λ j _. refl; sound = h }

pub stands_then : (a b c : Rows) → Stands a b → Stands b c → Stands a c
stands_then a b c x y =
    record {
      longer = omega (arith, x.longer, y.longer);
      parents = λ j h. (let l : j < length b = omega (arith, x.longer) in y.parents j l ∙ x.parents j h);
      sound = y.sound;
    }

stands_push : (rows : Rows) (row : FunctionRow) → ParentsEarlier rows → Earlier row.parent (length rows) → Stands rows (rows ++ row ∷ [])
stands_push rows row all here =
    record {
      longer = grind (arith, common_steps);
      parents = λ j h. grind (arith, common_steps);
      sound = λ k p e. grind (arith, common_steps, all k p, here p);
    }

stands_set : (rows : Rows) (k : ℕ) (kind : RowKind) → ParentsEarlier rows → Stands rows (set rows k (with_kind (get_or rows k no_row) kind))
stands_set rows k kind all =
    record {
      longer = grind (arith, common_steps);
      parents = λ j h. grind (arith, common_steps);
      sound = λ j p e. grind (arith, common_steps, all j p, all k p);
    }

row_parent : (a : Bool) (at : Name) (parent : Option ℕ) (id : ℕ) (kind : Result Kind NoKind) (x : FunctionRow) → cond a (row_of at parent id kind) (Err (Full at)) ≡ Ok x → x.parent ≡ parent
row_parent true at parent id (Ok kind) x q = cc
row_parent true at parent id (Err strange) x q = cc
row_parent false at parent id kind x q = cc

booked_has : (at : Name) (parent : Option ℕ) (id header n : ℕ) (x : FunctionRow) → booked at parent id header n ≡ Ok x → x.parent ≡ parent
unfolding booked
booked_has at parent id header n x e = row_parent (ltb n 64) at parent id (decoded (kind_of header)) x e

module _ (parent : Option ℕ) where
  abbrev Fits : Rows → Type 0
  Fits rows = ParentsEarlier rows × Earlier parent (length rows)

  booking_yields : (at : Name) (id header : ℕ) (rows : Rows) → Fits rows → Yields (booking at parent id header rows) (λ x. Stands rows x.0)
  unfolding booking
  booking_yields at id header rows h =
      yields_bind (λ (row : FunctionRow). row.parent ≡ parent) (λ x. Stands rows x.0) (decide (booked at parent id header (length rows))) _
      (yields_decide (λ (row : FunctionRow). row.parent ≡ parent) (booked at parent id header (length rows)) (λ x e. booked_has at parent id header (length rows) x e))
      (λ row q. yields_bind Any (λ x. Stands rows x.0) (quiet row.at row.kind) _ (yields_any (quiet row.at row.kind))
      (λ _ _. yields_give (λ x. Stands rows x.0) (rows ++ row ∷ [], several header) (stands_push rows row h.0 (λ p e. h.1 p (sym q ∙ e)))))

  probing_yields : (at : Name) (rows : Rows) → Fits rows → Yields (probing at parent rows) (λ x. Stands rows x.0)
  unfolding probing
  probing_yields at rows h =
      yields_bind Any (λ x. Stands rows x.0) (read at 0) _ (yields_any (read at 0))
      (λ id _. yields_if (λ x. Stands rows x.0) (absent id) _ _ (yields_give (λ x. Stands rows x.0) (rows, false) (stands_same rows h.0))
      (yields_bind Any (λ x. Stands rows x.0) (read at 0x0c) _ (yields_any (read at 0x0c)) (λ header _. booking_yields at id header rows h)))

  another_yields : (bus device function : ℕ) (rows : Rows) → Fits rows → Yields (another bus device parent function rows) (Stands rows)
  unfolding another
  another_yields bus device function rows h =
      yields_bind (λ x. Stands rows x.0) (Stands rows) (probing (name bus device function) parent rows) _ (probing_yields (name bus device function) rows h)
      (λ x q. yields_give (Stands rows) x.0 q)

  fits_on : (rows xs : Rows) → Fits rows → Stands rows xs → Fits xs
  fits_on rows xs h s = (s.sound, earlier_more parent (length rows) (length xs) h.1 s.longer)

  times_yields : (f : ℕ → Rows → Work Rows) → ((i : ℕ) (rows : Rows) → Fits rows → Yields (f i rows) (Stands rows)) → (m i : ℕ) (rows : Rows) → Fits rows → Yields (times m i f rows) (Stands rows)
  unfolding times
  times_yields f g zero i rows h = yields_give (Stands rows) rows (stands_same rows h.0)
  times_yields f g (suc m) i rows h =
      yields_bind (Stands rows) (Stands rows) (f i rows) (times m (i + 1) f) (g i rows h)
      (λ xs q. yields_so (Stands xs) (Stands rows) (times m (i + 1) f xs) (λ ys r. stands_then rows xs ys q r) (times_yields f g m (i + 1) xs (fits_on rows xs h q)))

  on_device_yields : (bus device : ℕ) (rows : Rows) → Fits rows → Yields (on_device bus parent device rows) (Stands rows)
  unfolding on_device others
  on_device_yields bus device rows h =
      yields_bind (λ x. Stands rows x.0) (Stands rows) (probing (name bus device 0) parent rows) _ (probing_yields (name bus device 0) rows h)
      (λ x q. yields_if (Stands rows) x.1 _ _
      (yields_so (Stands x.0) (Stands rows) (times 7 1 (another bus device parent) x.0) (λ ys r. stands_then rows x.0 ys q r) (times_yields (another bus device parent) (another_yields bus device) 7 1 x.0 (fits_on rows x.0 h q)))
      (yields_give (Stands rows) x.0 q))

  pub on_bus_yields : (bus : ℕ) (rows : Rows) → ParentsEarlier rows → Earlier parent (length rows) → Yields (on_bus bus parent rows) (Stands rows)
  unfolding on_bus
  on_bus_yields bus rows h e = times_yields (on_device bus parent) (on_device_yields bus) 32 0 rows (h, e)

numbering_yields : (k : ℕ) (numbers : Numbers) (rows : Rows) → ParentsEarlier rows → Yields (numbering k numbers rows) (Stands rows)
unfolding numbering
numbering_yields k numbers rows h =
    yields_bind Any (Stands rows) (program (get_or rows k no_row).at numbers) _ (yields_any (program (get_or rows k no_row).at numbers))
    (λ _ _. yields_give (Stands rows) (set rows k (with_kind (get_or rows k no_row) (Bridge numbers))) (stands_set rows k (Bridge numbers) h))

closing_as_yields : (kind : RowKind) (k used : ℕ) (rows : Rows) → ParentsEarlier rows → Yields (closing_as kind k used rows) (Stands rows)
closing_as_yields Endpoint k used rows h = yields_give (Stands rows) rows (stands_same rows h)
closing_as_yields (Bridge numbers) k used rows h = numbering_yields k _ rows h

pub closing_yields : (k used : ℕ) (rows : Rows) → ParentsEarlier rows → Yields (closing k used rows) (Stands rows)
unfolding closing
closing_yields k used rows h = closing_as_yields (get_or rows k no_row).kind k used rows h

pub descending_yields : (k n last : ℕ) (rows : Rows) → ParentsEarlier rows → k < length rows → Yields (descending k n last rows) (Stands rows)
unfolding descending
descending_yields k n last rows h l =
    yields_bind (Stands rows) (Stands rows) _ (on_bus n (Some k)) (numbering_yields k _ rows h)
    (λ xs q. yields_so (Stands xs) (Stands rows) (on_bus n (Some k) xs) (λ ys r. stands_then rows xs ys q r)
    (on_bus_yields (Some k) n xs q.sound (λ p e. let z : k ≡ p = cc in omega (arith, q.longer))))

same_parents : (a b : Option ℕ) → same_parent a b ≡ true → b ≡ a
same_parents None None e = refl
same_parents None (Some q) e = cc
same_parents (Some p) None e = cc
same_parents (Some p) (Some q) e = ap (λ (x : ℕ). let o : Option ℕ = Some x in o) (sym (eqb-true p q e))

found_at : (parent : Option ℕ) (rows : Rows) (k i : ℕ) (o : Option ℕ) → position (bridge_of parent) (drop i rows) ≡ o → option_map (λ j. i + j) o ≡ Some k → (k < length rows) × (bridge_of parent (get_or rows k no_row) ≡ true)
found_at parent rows k i None e q = cc
found_at parent rows k i (Some j) e q =
    let p = position-Some (bridge_of parent) (drop i rows) j no_row e in
    let z : i + j ≡ k = cc in
    (omega (arith, p.0, length-drop i rows), ap (λ x. bridge_of parent (get_or rows x no_row)) (sym z) ∙ ap (bridge_of parent) (sym (get_or-drop i rows j no_row)) ∙ p.1)

found : (parent : Option ℕ) (rows : Rows) (k i : ℕ) → next_bridge parent i rows ≡ Some k → (k < length rows) × (bridge_of parent (get_or rows k no_row) ≡ true)
unfolding next_bridge
found parent rows k i e = found_at parent rows k i (position (bridge_of parent) (drop i rows)) refl e

pub found_within : (parent : Option ℕ) (rows : Rows) (k i : ℕ) → next_bridge parent i rows ≡ Some k → k < length rows
found_within parent rows k i e = (found parent rows k i e).0

pub found_parent : (parent : Option ℕ) (rows : Rows) (k i : ℕ) → next_bridge parent i rows ≡ Some k → (get_or rows k no_row).parent ≡ parent
found_parent parent rows k i e =
    same_parents parent (get_or rows k no_row).parent (and_parts (same_parent parent (get_or rows k no_row).parent) (is_bridge (get_or rows k no_row).kind) (found parent rows k i e).1).0

next_or_yields : {X : Type 0} (P : X → Type 0) (o : Option ℕ) (w : Work X) (f : ℕ → Work X) → Yields w P → ((k : ℕ) → o ≡ Some k → Yields (f k) P) → Yields (next_or o w f) P
next_or_yields P None w f h g = h
next_or_yields P (Some k) w f h g = g k refl

abbrev pub More : Rows → ℕ → Rows × ℕ → Type 0
More rows used x = Stands rows x.0 × (used ≤ x.1)

pub below_yields : (n last : ℕ) (parent : Option ℕ) (i used : ℕ) (rows : Rows) → ParentsEarlier rows → Yields (below n last parent i used rows) (More rows used)
unfolding below
below_yields zero last parent i used rows h =
    next_or_yields (More rows used) (next_bridge parent i rows) _ _ (yields_give (More rows used) (rows, used) (stands_same rows h, omega arith)) (λ k e. yields_refuse (More rows used) _)
below_yields (suc n) last parent i used rows h =
    next_or_yields (More rows used) (next_bridge parent i rows) _ _ (yields_give (More rows used) (rows, used) (stands_same rows h, omega arith))
    (λ k e. yields_if (More rows used) _ _ _
    (yields_bind (Stands rows) (More rows used) (descending k (used + 1) last rows) _ (descending_yields k (used + 1) last rows h (found_within parent rows k i e))
    (λ xs q. yields_bind (More xs (used + 1)) (More rows used) (below n last (Some k) (length rows) (used + 1) xs) _ (below_yields n last (Some k) (length rows) (used + 1) xs q.sound)
    (λ x b. yields_bind (Stands x.0) (More rows used) (closing k x.1 x.0) _ (closing_yields k x.1 x.0 b.0.sound)
    (λ ys c. yields_so (More ys x.1) (More rows used) (below n last parent (k + 1) x.1 ys)
    (λ z d. (stands_then rows xs z.0 q (stands_then xs x.0 z.0 b.0 (stands_then x.0 ys z.0 c d.0)), omega (arith, b.1, d.1)))
    (below_yields n last parent (k + 1) x.1 ys c.sound)))))
    (yields_refuse (More rows used) _))
