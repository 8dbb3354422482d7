-- A file that is read is the text of lines.
use Rattle.std.proofs.Common.{◌≡◌, ℕ, ◌+◌, ◌≤◌, Bool, true, List, [], ◌∷◌, ◌++◌, length, take, Some, Ok, Result, sym, refl, ap, ◌∙◌, arith}
use Rattle.std.specs.Option.{option_and_then}
use Rattle.std.specs.List.{AllByRecursion, join_with_byte}
use Rattle.std.proofs.lemmas.List.Splits.{join_with_byte-slice_split}
use Rattle.std.proofs.lemmas.List.{take_all}
use Rattle.std.proofs.lemmas.Bool.{leb-true}
use Rattle.pci.specs.declared.fault.Fault.{Fault}
use Rattle.rackfile.specs.Text.{parted}
use Rattle.rackfile.specs.Form.{words, Holds}
use Rattle.rackfile.specs.Reading.{State, Content, Run, ends, short, says, torn, limit}
use Rattle.rackfile.specs.Written.{text, through, ComesFrom}
use Rattle.rackfile.specs.declared.line.Line.{Line}

-- a line from its fields
line_text : (p : List ℕ) (l : Line) → words l ≡ parted 44 p → p ≡ join_with_byte 44 (words l)
line_text p l e = sym (join_with_byte-slice_split 44 p) ∙ ap (join_with_byte 44) (sym e)

-- what a run that ends well has read
record Read (w : Bool) (s : State) (ps : List (List ℕ)) (c : Content) : Type 0 where
  lines : List Line
  last : State
  whole : w ≡ true
  hold : AllByRecursion Holds lines
  order : through lines s ≡ Some last
  apertures : last.apertures ≡ Some c.apertures
  lose : c.lose ≡ last.lose
  nodes : c.nodes ≡ last.nodes
  bytes : join_with_byte 10 ps ≡ text lines

read_run : (w : Bool) (n : ℕ) (s : State) (ps : List (List ℕ)) (r : Result Content Fault) (c : Content) → Run w n s ps r → r ≡ Ok c → Read w s ps c
read_run w n s ps r c (ends a h b) e =
    let p : ◌≡◌ {A = Content} (record { apertures = a; lose = s.lose; nodes = s.nodes }) c = cc in
    record {
      lines = [];
      last = s;
      whole = h;
      hold = tt;
      order = refl;
      apertures = b ∙ ap (λ (x : Content). Some x.apertures) p;
      lose = ap (λ (x : Content). x.lose) (sym p);
      nodes = ap (λ (x : Content). x.nodes) (sym p);
      bytes = refl;
    }
read_run w n s ps r c (short k) e = absurd (let z : ◌≡◌ {A = ℕ} 0 1 = cc in omega arith)
read_run w n s ps r c (says {t = t} {p = p} {q = q} {ps = qs} l y x k) e =
    let i = read_run w (n + 1) t (q ∷ qs) r c k e in
    record {
      lines = l ∷ i.lines;
      last = i.last;
      whole = i.whole;
      hold = (y.0, i.hold);
      order = ap (option_and_then (through i.lines)) x ∙ i.order;
      apertures = i.apertures;
      lose = i.lose;
      nodes = i.nodes;
      bytes = ap (λ (xs : List ℕ). p ++ (10 ∷ xs)) i.bytes ∙ ap (λ (xs : List ℕ). xs ++ (10 ∷ text i.lines)) (line_text p l y.1);
    }
read_run w n s ps r c (torn k) e = absurd (let z : ◌≡◌ {A = ℕ} 0 1 = cc in omega arith)

pub from : ComesFrom
from bytes c f =
    let i = read_run _ _ _ _ _ c f refl in
    let h : length bytes ≤ limit = leb-true (length bytes) limit i.whole in (
      i.lines,
      record { last = i.last; hold = i.hold; order = i.order; apertures = i.apertures; lose = i.lose; nodes = i.nodes },
      sym (take_all limit bytes h) ∙ sym (join_with_byte-slice_split 10 (take limit bytes)) ∙ i.bytes,
      h,
    )
