-- From bridge to bridge by rounds is the same as down and up by the recursion.
use Rattle.std.proofs.Common.{◌≡◌, ℕ, zero, suc, ◌+◌, ◌-◌, ◌<◌, ◌≤◌, cond, ltb, length, get_or, Some, None, Ok, Err, Option, sym, subst, refl, ap, ◌∙◌, ⊎_elim, arith}
use Rattle.std.proofs.lemmas.Bool.{cases_lt, lt-ltb, le-ltb}
use Rattle.access.specs.Access.{State}
use Rattle.pci.specs.declared.fault.Fault.TheVariants.{Spent}
use Rattle.pci.specs.declared.fault.Fault.{Fault}
use Rattle.work.proofs.Leads.{Leads, ran_stop}
use Rattle.work.specs.Doing.{done, Work, Ran, give, refuse, bind}
use Rattle.book.specs.Rows.{no_row, Earlier, ParentsEarlier}
use Rattle.numbering.specs.Rule.{Rows, next_bridge, closing, descending, on_bus}
use Rattle.numbering.specs.Loop.{climbing, found_or, rounds, scanning}
use Rattle.numbering.specs.Rule.{next_or, below, tree}
use Rattle.numbering.proofs.Climbs.{depth, rest, at_found, at_top, at_up, depth_within, earlier_more}
use Rattle.numbering.proofs.Rounds.{onward, at_rounds, onward_none, onward_spent, onward_next, scan_then}
use Rattle.work.proofs.Same.{bind_give, bind_refuse, bind_assoc, bind_at, bind_left, ran_same}
use Rattle.numbering.proofs.Yields.{Stands, on_bus_yields, closing_yields, descending_yields, below_yields, found_within, found_parent}

found_or_same : (o : Option ℕ) (rows : Rows) (v w : Work (Rows × Option ℕ)) (s : State) → v s ≡ w s → found_or o rows v s ≡ found_or o rows w s
found_or_same None rows v w s e = e
found_or_same (Some k) rows v w s e = refl

depth_after : (p : ℕ) (rows closed : Rows) → Stands rows closed → depth (get_or closed p no_row).parent ≤ p
depth_after p rows closed q = depth_within (get_or closed p no_row).parent p (q.sound p)

-- any n that suffices gives the same climb
climb_fuel : (n m : ℕ) (parent : Option ℕ) (i used : ℕ) (rows : Rows) → ParentsEarlier rows → depth parent < n → depth parent < m → (s : State) → climbing n parent i used rows s ≡ climbing m parent i used rows s
unfolding climbing
climb_fuel zero m parent i used rows h a b s = absurd (omega arith)
climb_fuel (suc n) zero parent i used rows h a b s = absurd (omega arith)
climb_fuel (suc n) (suc m) None i used rows h a b s = refl
climb_fuel (suc n) (suc m) (Some p) i used rows h a b s =
    found_or_same (next_bridge (Some p) i rows) rows (rest n used rows p) (rest m used rows p) s
    (bind_at (closing p used rows) (λ closed. climbing n (get_or closed p no_row).parent (p + 1) used closed) (λ closed. climbing m (get_or closed p no_row).parent (p + 1) used closed) s
    (λ closed e. let q = closing_yields p used rows h s closed e in let l = depth_after p rows closed q in
    climb_fuel n m (get_or closed p no_row).parent (p + 1) used closed q.sound (omega arith) (omega arith) (done s (closing p used rows s).acts)))

-- what follows once a bus has no bridge left
abbrev up : ℕ → Option ℕ → ℕ → Rows → Work Rows
up last None used rows = give rows
up last (Some p) used rows = bind (closing p used rows) (λ closed. rounds (last - used) used last (get_or closed p no_row).parent (p + 1) closed)

rounds_none : (last : ℕ) (parent : Option ℕ) (i used : ℕ) (rows : Rows) → ParentsEarlier rows → Earlier parent (length rows) → next_bridge parent i rows ≡ None → (s : State) → rounds (last - used) used last parent i rows s ≡ up last parent used rows s
rounds_none last None i used rows h l e s =
    ap (λ (w : Work Rows). w s) (at_rounds (last - used) used last None i rows)
    ∙ ap (λ w. bind w (onward (last - used) used last) s) (at_top (suc (length rows)) i used rows e)
    ∙ bind_give (rows, None) (onward (last - used) used last) s
    ∙ ap (λ (w : Work Rows). w s) (onward_none (last - used) used last rows)
rounds_none last (Some p) i used rows h l e s =
    ap (λ (w : Work Rows). w s) (at_rounds (last - used) used last (Some p) i rows)
    ∙ ap (λ w. bind w (onward (last - used) used last) s) (at_up (length rows) p i used rows e)
    ∙ bind_assoc (closing p used rows) (λ closed. climbing (length rows) (get_or closed p no_row).parent (p + 1) used closed) (onward (last - used) used last) s
    ∙ bind_at (closing p used rows) (λ closed. bind (climbing (length rows) (get_or closed p no_row).parent (p + 1) used closed) (onward (last - used) used last))
    (λ closed. rounds (last - used) used last (get_or closed p no_row).parent (p + 1) closed) s
    (λ closed c. let q = closing_yields p used rows h s closed c in
    let l₁ = depth_after p rows closed q in
    let l₂ : p < length rows = l p refl in
    let l₃ = q.longer in
    let s₁ = done s (closing p used rows s).acts in
    bind_left (climbing (length rows) (get_or closed p no_row).parent (p + 1) used closed) (climbing (suc (length closed)) (get_or closed p no_row).parent (p + 1) used closed) (onward (last - used) used last) s₁
    (climb_fuel (length rows) (suc (length closed)) (get_or closed p no_row).parent (p + 1) used closed q.sound (omega arith) (omega arith) s₁)
    ∙ ap (λ (w : Work Rows). w s₁) (sym (at_rounds (last - used) used last (get_or closed p no_row).parent (p + 1) closed)))

rounds_some : (left used last : ℕ) (parent : Option ℕ) (i k : ℕ) (rows : Rows) → Earlier parent (length rows) → next_bridge parent i rows ≡ Some k → (s : State) → rounds left used last parent i rows s ≡ onward left used last (rows, Some k) s
rounds_some left used last parent i k rows l e s =
    let p = depth_within parent (length rows) l in
    ap (λ (w : Work Rows). w s) (at_rounds left used last parent i rows)
    ∙ ap (λ w. bind w (onward left used last) s) (at_found (suc (length rows)) parent i used k rows (omega arith) e)
    ∙ bind_give (rows, Some k) (onward left used last) s

abbrev Spends : ℕ → ℕ → Rows → Work (Rows × ℕ)
Spends last k rows = refuse (Spent (get_or rows k no_row).at last)

abbrev Deeper : ℕ → ℕ → Option ℕ → ℕ → ℕ → Rows → Work (Rows × ℕ)
Deeper n last parent used k rows =
    bind (descending k (used + 1) last rows)
    (λ scanned. bind (below n last (Some k) (length rows) (used + 1) scanned) (λ x. bind (closing k x.1 x.0) (λ closed. below n last parent (k + 1) x.1 closed)))

below_none : (n last : ℕ) (parent : Option ℕ) (i used : ℕ) (rows : Rows) → next_bridge parent i rows ≡ None → below n last parent i used rows ≡ give (rows, used)
unfolding below
below_none zero last parent i used rows e = ap (λ o. next_or o (give (rows, used)) (λ k. Spends last k rows)) e
below_none (suc n) last parent i used rows e = ap (λ o. next_or o (give (rows, used)) (λ k. cond (ltb used last) (Deeper n last parent used k rows) (Spends last k rows))) e

below_spent : (n last : ℕ) (parent : Option ℕ) (i used k : ℕ) (rows : Rows) → next_bridge parent i rows ≡ Some k → last ≤ used → below n last parent i used rows ≡ Spends last k rows
unfolding below
below_spent zero last parent i used k rows e l = ap (λ o. next_or o (give (rows, used)) (λ k. Spends last k rows)) e
below_spent (suc n) last parent i used k rows e l =
    ap (λ o. next_or o (give (rows, used)) (λ k. cond (ltb used last) (Deeper n last parent used k rows) (Spends last k rows))) e
    ∙ ap (λ b. cond b (Deeper n last parent used k rows) (Spends last k rows)) (le-ltb used last l)

below_next : (n last : ℕ) (parent : Option ℕ) (i used k : ℕ) (rows : Rows) → next_bridge parent i rows ≡ Some k → used < last → below (suc n) last parent i used rows ≡ Deeper n last parent used k rows
unfolding below
below_next n last parent i used k rows e l =
    ap (λ o. next_or o (give (rows, used)) (λ k. cond (ltb used last) (Deeper n last parent used k rows) (Spends last k rows))) e
    ∙ ap (λ b. cond b (Deeper n last parent used k rows) (Spends last k rows)) (lt-ltb used last l)

abbrev Goal : ℕ → ℕ → Type 0
Goal last n =
    (parent : Option ℕ) (i used : ℕ) (rows : Rows) → last - used ≤ n → ParentsEarlier rows → Earlier parent (length rows) → (s : State)
    → bind (below n last parent i used rows) (λ x. up last parent x.1 x.0) s ≡ rounds (last - used) used last parent i rows s

none_goal : (last n : ℕ) (parent : Option ℕ) (i used : ℕ) (rows : Rows) → ParentsEarlier rows → Earlier parent (length rows) → (s : State) → next_bridge parent i rows ≡ None
    → bind (below n last parent i used rows) (λ x. up last parent x.1 x.0) s ≡ rounds (last - used) used last parent i rows s
none_goal last n parent i used rows h l s e =
    ap (λ w. bind w (λ x. up last parent x.1 x.0) s) (below_none n last parent i used rows e)
    ∙ bind_give (rows, used) (λ x. up last parent x.1 x.0) s
    ∙ sym (rounds_none last parent i used rows h l e s)

spent_goal : (last n : ℕ) (parent : Option ℕ) (i used k : ℕ) (rows : Rows) → Earlier parent (length rows) → (s : State) → next_bridge parent i rows ≡ Some k → last ≤ used
    → bind (below n last parent i used rows) (λ x. up last parent x.1 x.0) s ≡ rounds (last - used) used last parent i rows s
spent_goal last n parent i used k rows l s e g =
    let d = Spent (get_or rows k no_row).at last in
    let z : last - used ≡ zero = omega arith in
    ap (λ w. bind w (λ x. up last parent x.1 x.0) s) (below_spent n last parent i used k rows e g)
    ∙ bind_refuse d (λ (x : Rows × ℕ). up last parent x.1 x.0) s
    ∙ sym (rounds_some (last - used) used last parent i k rows l e s ∙ ap (λ (w : Work Rows). w s) (onward_spent (last - used) used last k rows z))

deeper_goal : (last n : ℕ) → Goal last n → (parent : Option ℕ) (i used k : ℕ) (rows : Rows) → last - used ≤ suc n → ParentsEarlier rows → Earlier parent (length rows) → (s : State) → next_bridge parent i rows ≡ Some k → used < last
    → bind (below (suc n) last parent i used rows) (λ x. up last parent x.1 x.0) s ≡ rounds (last - used) used last parent i rows s
deeper_goal last n ih parent i used k rows b h l s e g =
    let less : last - used ≡ suc (last - (used + 1)) = omega arith in
    let within = found_within parent rows k i e in
    let end : Rows × ℕ → Work Rows = λ x. up last parent x.1 x.0 in
    let shut : Rows × ℕ → Work (Rows × ℕ) = λ x. bind (closing k x.1 x.0) (λ closed. below n last parent (k + 1) x.1 closed) in
    let down : Rows → Work (Rows × ℕ) = λ scanned. bind (below n last (Some k) (length rows) (used + 1) scanned) shut in
    ap (λ w. bind w end s) (below_next n last parent i used k rows e g)
    ∙ bind_assoc (descending k (used + 1) last rows) down end s
    ∙ bind_at (descending k (used + 1) last rows) (λ scanned. bind (down scanned) end) (rounds (last - (used + 1)) (used + 1) last (Some k) (length rows)) s
    (λ xs a. let q = descending_yields k (used + 1) last rows h within s xs a in
    let s₁ = done s (descending k (used + 1) last rows s).acts in
    let in-xs = q.longer in
    bind_assoc (below n last (Some k) (length rows) (used + 1) xs) shut end s₁
    ∙ bind_at (below n last (Some k) (length rows) (used + 1) xs) (λ x. bind (shut x) end) (λ x. up last (Some k) x.1 x.0) s₁
    (λ x c. let m = below_yields n last (Some k) (length rows) (used + 1) xs q.sound s₁ x c in
    let s₂ = done s₁ (below n last (Some k) (length rows) (used + 1) xs s₁).acts in
    let more = m.1 in
    let in-x = m.0.longer in
    bind_assoc (closing k x.1 x.0) (λ closed. below n last parent (k + 1) x.1 closed) end s₂
    ∙ bind_at (closing k x.1 x.0) (λ closed. bind (below n last parent (k + 1) x.1 closed) end) (λ closed. rounds (last - x.1) x.1 last (get_or closed k no_row).parent (k + 1) closed) s₂
    (λ closed f. let r = closing_yields k x.1 x.0 m.0.sound s₂ closed f in
    let s₃ = done s₂ (closing k x.1 x.0 s₂).acts in
    let in-closed = r.longer in
    let l₁ : k < length xs = omega arith in
    let l₂ : k < length x.0 = omega arith in
    let same : (get_or closed k no_row).parent ≡ parent = r.parents k l₂ ∙ m.0.parents k l₁ ∙ q.parents k within ∙ found_parent parent rows k i e in
    ih parent (k + 1) x.1 closed (omega arith) r.sound (earlier_more parent (length rows) (length closed) l (omega arith)) s₃
    ∙ ap (λ o. rounds (last - x.1) x.1 last o (k + 1) closed s₃) (sym same)))
    ∙ ih (Some k) (length rows) (used + 1) xs (omega arith) q.sound (λ p j. let z : k ≡ p = cc in omega arith) s₁)
    ∙ sym (rounds_some (last - used) used last parent i k rows l e s ∙ ap (λ (w : Work Rows). w s) (onward_next (last - used) (last - (used + 1)) used last k rows less))

by_next : (last n : ℕ) (parent : Option ℕ) (i used : ℕ) (rows : Rows) (s : State) → (T : Type 0) → (next_bridge parent i rows ≡ None → T) → ((k : ℕ) → next_bridge parent i rows ≡ Some k → T) → T
by_next last n parent i used rows s T f g = cases (next_bridge parent i rows) refl where
  cases : (o : Option ℕ) → next_bridge parent i rows ≡ o → T
  cases None e = f e
  cases (Some k) e = g k e

goal : (last n : ℕ) → Goal last n
goal last zero parent i used rows b h l s =
    by_next last zero parent i used rows s (bind (below zero last parent i used rows) (λ x. up last parent x.1 x.0) s ≡ rounds (last - used) used last parent i rows s)
    (λ e. none_goal last zero parent i used rows h l s e)
    (λ k e. spent_goal last zero parent i used k rows l s e (omega arith))
goal last (suc n) parent i used rows b h l s =
    by_next last (suc n) parent i used rows s (bind (below (suc n) last parent i used rows) (λ x. up last parent x.1 x.0) s ≡ rounds (last - used) used last parent i rows s)
    (λ e. none_goal last (suc n) parent i used rows h l s e)
    (λ k e. ⊎_elim (λ (g : used < last). deeper_goal last n (goal last n) parent i used k rows b h l s e g) (λ (g : last ≤ used). spent_goal last (suc n) parent i used k rows l s e g) (cases_lt used last))

-- the whole scan
pub scanning_is_tree : (last : ℕ) (rows : Rows) → ParentsEarlier rows → (s : State) → scanning last rows s ≡ tree last rows s
unfolding scanning tree
scanning_is_tree last rows h s =
    let no_parent : (n : ℕ) → Earlier None n = λ n p e. cc in
    let same : last - 0 ≡ last = omega arith in
    bind_at (on_bus 0 None rows) (rounds last 0 last None 0) (λ scanned. bind (below last last None 0 0 scanned) (λ x. give x.0)) s
    (λ xs a. let q = on_bus_yields None 0 rows h (no_parent (length rows)) s xs a in
    let s₁ = done s (on_bus 0 None rows s).acts in
    sym (goal last last None 0 0 xs (omega arith) q.sound (no_parent (length xs)) s₁ ∙ ap (λ n. rounds n 0 last None 0 xs s₁) same))

-- once bus 0 is scanned, the rounds are all that is left of the tree
pub rounds_begin : (s₀ s₁ : State) (last : ℕ) (rows xs : Rows) → last ≡ s₀.last → ParentsEarlier rows → Ran s₀ (on_bus 0 None rows) (Ok xs) s₁ → Leads s₁ (rounds (last - 0) 0 last None 0 xs) s₀ (tree s₀.last rows)
rounds_begin s₀ s₁ last rows xs e h a r s' b =
    let q : last - 0 ≡ last = omega arith in
    ran_same s₀ s' (scanning s₀.last rows) (tree s₀.last rows) r (scanning_is_tree s₀.last rows h s₀) (scan_then s₀ s₁ s' last rows xs r e a (subst (λ n. Ran s₁ (rounds n 0 last None 0 xs) r s') q b))

pub tree_stop : (s₀ s₁ : State) (rows : Rows) (d : Fault) → Ran s₀ (on_bus 0 None rows) (Err d) s₁ → Ran s₀ (tree s₀.last rows) (Err d) s₁
unfolding tree
tree_stop s₀ s₁ rows d h = ran_stop s₀ s₁ (on_bus 0 None rows) _ d h
