-- The rule of scan as its loop follows it: from bridge to bridge, back up by the parents of the rows.
use Rattle.std.specs.Prelude.{ℕ, zero, suc, ◌+◌, length, Some, None, Option, slice_index_or}
use Rattle.pci.specs.declared.fault.Fault.TheVariants.{Spent}
use Rattle.book.specs.Rows.{no_row}
use Rattle.work.specs.Doing.{Work, give, refuse, bind}
use Rattle.numbering.specs.Rule.{Rows, next_bridge, closing, descending, on_bus}

-- the bridge that was found, or else on with w
abbrev pub found_or : Option ℕ → Rows → Work (Rows × Option ℕ) → Work (Rows × Option ℕ)
found_or (Some k) rows w = give (rows, Some k)
found_or None rows w = w

-- the way to the bus above, if there is one
abbrev pub above_or : Option ℕ → Rows → (ℕ → Work (Rows × Option ℕ)) → Work (Rows × Option ℕ)
above_or None rows w = give (rows, None)
above_or (Some p) rows w = w p

-- the next bridge to number, from row i on of the bus below `parent`; where that bus has none left its own bridge is closed, and the search goes on
-- behind that bridge's row on the bus above. n is more than the buses that there are above.
unfoldable pub climbing : ℕ → Option ℕ → ℕ → ℕ → Rows → Work (Rows × Option ℕ)
climbing zero parent i used rows = give (rows, None)
climbing (suc n) parent i used rows =
    found_or (next_bridge parent i rows) rows
    (above_or parent rows (λ p. bind (closing p used rows) (λ closed. climbing n (slice_index_or closed p no_row).parent (p + 1) used closed)))

-- on with w at the bridge that was found, or the end
abbrev pub bridge_or : Option ℕ → Rows → (ℕ → Work Rows) → Work Rows
bridge_or None rows w = give rows
bridge_or (Some k) rows w = w k

-- bridge by bridge, from row i on of the bus below `parent`; so many numbers are left, and `used` is the highest that is used
unfoldable pub rounds : ℕ → ℕ → ℕ → Option ℕ → ℕ → Rows → Work Rows
rounds zero used last parent i rows =
    bind (climbing (suc (length rows)) parent i used rows) (λ found. bridge_or found.1 found.0 (λ k. refuse (Spent (slice_index_or found.0 k no_row).at last)))
rounds (suc left) used last parent i rows =
    bind (climbing (suc (length rows)) parent i used rows)
    (λ found. bridge_or found.1 found.0 (λ k. bind (descending k (used + 1) last found.0) (rounds left (used + 1) last (Some k) (length found.0))))

-- bus 0, then bridge by bridge
unfoldable pub scanning : ℕ → Rows → Work Rows
scanning last rows = bind (on_bus 0 None rows) (rounds last 0 last None 0)
