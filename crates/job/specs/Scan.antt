-- What the call scan leaves.
use Rattle.std.specs.Prelude.{◌≡◌, true, false, [], length, Ok, Err, Result}
use Rattle.pci.specs.declared.fault.Fault.{Fault}
use Rattle.pci.specs.declared.fault.Fault.TheVariants.{WrongBook}
use Rattle.access.specs.Access.{State}
use Rattle.book.specs.declared.book.Book.{Book}
use Rattle.book.specs.declared.book.Stage.TheVariants.{Fresh as at_fresh, Numbered as at_numbered}
use Rattle.book.specs.Stages.{same_stage}
use Rattle.book.specs.Tables.{rows_of, bars_of}
use Rattle.numbering.specs.Rule.{Rows}
use Rattle.numbering.specs.Law.{Searched}
use Rattle.job.specs.declared.Fresh.{Fresh}
use Rattle.job.specs.declared.Numbered.{Numbered}
use Rattle.job.specs.declared.Refused.{Refused}

-- the rows that were booked, or the refusal
abbrev pub outcome : Book → Result Numbered (Refused Fresh) → Result Rows Fault
outcome b (Ok n) = Ok (rows_of b.functions)
outcome b (Err e) = Err e.fault

-- The access and the book before the call (s, b) and after it (s', b'), and its answer r.
pub record Scanned (s : State) (b : Book) (r : Result Numbered (Refused Fresh)) (s' : State) (b' : Book) : Type 0 where
  -- a book of another stage goes first: no access is made
  pub wrong_book : same_stage b.stage at_fresh ≡ false → (outcome b' r ≡ Err WrongBook) × (s' ≡ s)
  -- else what is booked, refused, read and written goes by the rule of scan; when the access is lost is left open
  pub by_rule : same_stage b.stage at_fresh ≡ true → Searched s [] (outcome b' r) s'
  -- a refusal leaves the book as it was
  pub kept : (e : Refused Fresh) → r ≡ Err e → (b'.stage ≡ b.stage) × (rows_of b'.functions ≡ rows_of b.functions) × (bars_of b'.bars ≡ bars_of b.bars)
  -- granted, the book is numbered, has no register block yet, and the job knows how many functions it has
  pub numbered : (n : Numbered) → r ≡ Ok n → (b'.stage ≡ at_numbered) × (bars_of b'.bars ≡ []) × (n.functions ≡ length (rows_of b'.functions))
