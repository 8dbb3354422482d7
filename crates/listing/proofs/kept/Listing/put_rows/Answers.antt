use Rattle.std.proofs.Common.{ℕ, ◌+◌, ◌<◌, List, ◌++◌, length, drop, get_or, Ok, Result, sym, subst, arith}
use Rattle.std.proofs.lemmas.List.{at_drop_more, at_drop_all}
use Rattle.book.specs.declared.rows.FunctionRow.{FunctionRow}
use Rattle.listing.specs.declared.kept.NoRoom.{NoRoom}
use Rattle.listing.specs.declared.kept.Listing.{Listing}
use Rattle.listing.specs.Numbers.{row_lines, rows_lines}
use Rattle.listing.specs.Lines.{Lists}
use Rattle.listing.proofs.Follow.{lists_none, lists_then, lists_stop}
use Rattle.listing.proofs.kept.Listing.put_rows.Goals as goal

-- the i-th row, and those after it
led : (r : Result (Unit {0}) NoRoom) (rows : List FunctionRow) (i : ℕ) (d : FunctionRow) {a b : Listing} → i < length rows →
    Lists r a (row_lines (get_or rows i d) ++ rows_lines (drop (i + 1) rows)) b → Lists r a (rows_lines (drop i rows)) b
led r rows i d {a} {b} h = subst (λ (ls : List (List ℕ)). Lists r a ls b) (sym (at_drop_more rows_lines rows i d h))

pub returns-in_err-put_row : goal.returns-in_err-put_row
returns-in_err-put_row c =
    c.loop-row.invariant _ _
    (led _ c.args.rows.now c.loop-row.row-index _ (omega arith) (lists_stop _ _ c.from_residual.ensures.0 c.in_err-put_row.ensures))

pub loop-row-preserved : goal.loop-row-preserved
loop-row-preserved c r end w =
    c.loop-row.invariant r end (led r c.args.rows.now c.loop-row.row-index _ (omega arith) (lists_then r c.in_ok-put_row.ensures w))

pub returns : goal.returns
returns c =
    c.loop-row.invariant _ _
    (subst (λ (ls : List (List ℕ)). Lists (Ok tt) c.loop-row.self ls c.loop-row.self)
    (sym (at_drop_all rows_lines c.args.rows.now c.loop-row.row-index c.loop-row-test.false)) (lists_none c.loop-row.self))
