-- A run from the file to the rows, joined from what its calls answer.
use Rattle.std.proofs.Common.{◌≡◌, ℕ, true, List, [], IsErrAnd, None, Ok, Err, vec_items, Result, sym, ap, subst}
use Rattle.pci.specs.declared.fault.Fault.{Fault}
use Rattle.machine.specs.declared.Machine.{Machine}
use Rattle.rackfile.specs.Reading.{Content, File}
use Rattle.rackfile.specs.declared.reader.Rack.{Rack}
use Rattle.laws.specs.Lawful.{Tested}
use Rattle.access.specs.Access.{State}
use Rattle.access.specs.Boards.{board_state, due_in, due_of, New}
use Rattle.access.proofs.Dues.{parts}
use Rattle.access.specs.declared.board.Board.{Board}
use Rattle.book.specs.declared.book.Book.{Book}
use Rattle.book.specs.declared.book.Stage.TheVariants.{Fresh as at_fresh}
use Rattle.book.specs.Stages.{same_stage}
use Rattle.numbering.specs.Law.{Searched}
use Rattle.access.proofs.Exits.{err_is}
use Rattle.job.specs.Scan.{Scanned, outcome}
use Rattle.job.specs.declared.Fresh.{Fresh}
use Rattle.job.specs.declared.Numbered.{Numbered}
use Rattle.job.specs.declared.Refused.{Refused}
use Rattle.sheet.specs.Sheet.{at_reset, Comes, Booked, scanned}

-- the exit of a `?`
pub stopped : (text : List ℕ) (r : Result (Unit {0}) Fault) (b : Book) (f : Fault) → IsErrAnd r (λ x. x ≡ f) → Comes text (Err f) → Booked text r b
stopped text r b f e h = subst (λ x. Booked text x b) (sym (err_is r f e)) h

abbrev content : Rack → Content
content k = record { apertures = k.apertures; lose = k.lose; nodes = vec_items k.machine.nodes }

reset : (k : Rack) (b : Board) → New k.machine k.lose b → board_state b ≡ at_reset (content k)
reset k b n =
    parts (vec_items b.machine.nodes) (vec_items k.machine.nodes) b.loss None (due_in b.left) (due_of k.lose) (ap (λ (x : Machine). vec_items x.nodes) n.keeps) n.unlost (ap due_in n.grants)

-- a scan of a lawful machine's board
pub ran : (text : List ℕ) (k : Rack) (b : Board) (book book' : Book) (r : Result Numbered (Refused Fresh)) (s' : State)
    → File text (Ok (content k)) → Tested (vec_items k.machine.nodes) (Ok tt) → New k.machine k.lose b → same_stage book.stage at_fresh ≡ true → Scanned (board_state b) book r s' book' → Comes text (outcome book' r)
ran text k b book book' r s' file t n fresh h =
    scanned (content k) (outcome book' r) s' file t (subst (λ s. Searched s [] (outcome book' r) s') (reset k b n) (h.by_rule fresh))
