use Rattle.std.proofs.Common.{Ok, Err, refl}
use Rattle.access.specs.Boards.{board_state}
use Rattle.sheet.specs.Sheet.{torn, unlawful}
use Rattle.sheet.proofs.Runs.{stopped, ran}
use Rattle.sheet.proofs.print.number.Goals as goal

pub returns-in_err-lose : goal.returns-in_err-lose
returns-in_err-lose c =
    let f = c.in_err-lose.field-0.0 in
    stopped c.args.text.now c.from_residual.result c.args.book.now f c.from_residual.ensures.1 (torn f c.in_err-lose.ensures)

pub returns-in_err-judge : goal.returns-in_err-judge
returns-in_err-judge c =
    let f = c.in_err-judge.field-0.0 in
    stopped c.args.text.now c.from_residual-in_err-judge.result c.args.book.now f c.from_residual-in_err-judge.ensures.1
    (unlawful _ f c.in_ok-lose.ensures c.in_err-judge.ensures)

pub returns-in_err-scan : goal.returns-in_err-scan
returns-in_err-scan c =
    let e = c.in_err-scan.field-0.0 in
    stopped c.args.text.now c.from_residual-in_err-scan.result c.scan.new.book e.fault c.from_residual-in_err-scan.ensures.1
    (ran c.args.text.now c.in_ok-lose.field-0 c.new-board.result c.args.book.now c.scan.new.book (Err e) (board_state c.scan.new.access)
    c.in_ok-lose.ensures c.in_ok-judge.ensures c.new-board.ensures c.requires c.in_err-scan.ensures.when_lost_left_open)

pub returns : goal.returns
returns c =
    let h = c.in_ok-scan.ensures.when_lost_left_open in (
      ran c.args.text.now c.in_ok-lose.field-0 c.new-board.result c.args.book.now c.scan.new.book (Ok c.in_ok-scan.field-0) (board_state c.scan.new.access)
          c.in_ok-lose.ensures c.in_ok-judge.ensures c.new-board.ensures c.requires h,
      (h.numbered c.in_ok-scan.field-0 refl).0,
    )
