-- No file prints two things.
use Rattle.std.proofs.Common.{◌≡◌, ℕ, List, [], length, Some, None, Ok, Err, Option, Result, sym, refl, ap, subst, arith}
use Rattle.pci.specs.declared.fault.Fault.{Fault}
use Rattle.pci.specs.declared.fault.Fault.TheVariants.{Narrow}
use Rattle.machine.specs.declared.Node.{Node}
use Rattle.rackfile.specs.Reading.{Content, File}
use Rattle.rackfile.proofs.Runs.{one_reading}
use Rattle.laws.specs.Lawful.{Tested}
use Rattle.laws.proofs.Once.{one_answer}
use Rattle.access.specs.Boards.{due_of}
use Rattle.numbering.specs.Rule.{Rows, tree}
use Rattle.numbering.specs.Law.{Searched}
use Rattle.work.proofs.Once.{Known, ran_once}
use Rattle.listing.specs.Lines.{joined}
use Rattle.listing.specs.Fitting.{fitting}
use Rattle.listing.specs.Numbers.{rows_lines}
use Rattle.sheet.specs.Sheet.{at_reset, Comes, torn, unlawful, scanned, refused, whole, narrow, OneSheet}

-- of a board it is known when it will be lost
known : (o : Option ℕ) → Known (due_of o)
known None = tt
known (Some n) = tt

same_content : (text : List ℕ) (c d : Content) → File text (Ok c) → File text (Ok d) → c ≡ d
same_content text c d h g =
    let e : ◌≡◌ {A = Result Content Fault} (Ok c) (Ok d) = one_reading text (Ok c) (Ok d) h g in
    let q : c ≡ d = cc in q

same_test : (ns ms : List Node) (r q : Result (Unit {0}) Fault) → ns ≡ ms → Tested ns r → Tested ms q → r ≡ q
same_test ns ms r q e h g = one_answer ms r q (subst (λ x. Tested x r) e h) g

pub comes_once : (text : List ℕ) (r q : Result Rows Fault) → Comes text r → Comes text q → r ≡ q
comes_once text r q (torn f h) (torn g k) =
    let e : ◌≡◌ {A = Result Content Fault} (Err f) (Err g) = one_reading text (Err f) (Err g) h k in
    let z : f ≡ g = cc in
    ap (λ (x : Fault). let o : Result Rows Fault = Err x in o) z
comes_once text r q (torn f h) (unlawful d g k t) = absurd (cc (one_reading text (Ok d) (Err f) k h))
comes_once text r q (torn f h) (scanned d p s k t w) = absurd (cc (one_reading text (Ok d) (Err f) k h))
comes_once text r q (unlawful c f h t) (torn g k) = absurd (cc (one_reading text (Ok c) (Err g) h k))
comes_once text r q (unlawful c f h t) (unlawful d g k u) =
    let n : c.nodes ≡ d.nodes = ap (λ (x : Content). x.nodes) (same_content text c d h k) in
    let e : ◌≡◌ {A = Result (Unit {0}) Fault} (Err f) (Err g) = same_test c.nodes d.nodes (Err f) (Err g) n t u in
    let z : f ≡ g = cc in
    ap (λ (x : Fault). let o : Result Rows Fault = Err x in o) z
comes_once text r q (unlawful c f h t) (scanned d p s k u w) =
    let n : d.nodes ≡ c.nodes = ap (λ (x : Content). x.nodes) (same_content text d c k h) in
    absurd (cc (same_test d.nodes c.nodes (Ok tt) (Err f) n u t))
comes_once text r q (scanned c p s h t w) (torn g k) = absurd (cc (one_reading text (Ok c) (Err g) h k))
comes_once text r q (scanned c p s h t w) (unlawful d g k u) =
    let n : c.nodes ≡ d.nodes = ap (λ (x : Content). x.nodes) (same_content text c d h k) in
    absurd (cc (same_test c.nodes d.nodes (Ok tt) (Err g) n t u))
comes_once text r q (scanned c p s h t w) (scanned d p' s' k u w') =
    let e = same_content text c d h k in
    let v : Searched (at_reset c) [] q s' = subst (λ (x : Content). Searched (at_reset x) [] q s') (sym e) w' in
    (ran_once (at_reset c) s s' (tree 255 []) r q (known c.lose) w.by_rule v.by_rule).0

same_rows : (text : List ℕ) (xs ys : Rows) → Comes text (Ok xs) → Comes text (Ok ys) → xs ≡ ys
same_rows text xs ys a b =
    let e : ◌≡◌ {A = Result Rows Fault} (Ok xs) (Ok ys) = comes_once text (Ok xs) (Ok ys) a b in
    let q : xs ≡ ys = cc in q

pub one_sheet : OneSheet
one_sheet text room f g ls ms (refused a h) (refused b k) =
    let e : ◌≡◌ {A = Result Rows Fault} (Err a) (Err b) = comes_once text (Err a) (Err b) h k in
    let z : a ≡ b = cc in
    (ap (λ (x : Fault). let o : Option Fault = Some x in o) z, refl)
one_sheet text room f g ls ms (refused a h) (whole ys k w) = absurd (cc (comes_once text (Ok ys) (Err a) k h))
one_sheet text room f g ls ms (refused a h) (narrow ys k w) = absurd (cc (comes_once text (Ok ys) (Err a) k h))
one_sheet text room f g ls ms (whole xs h v) (refused b k) = absurd (cc (comes_once text (Ok xs) (Err b) h k))
one_sheet text room f g ls ms (whole xs h v) (whole ys k w) = (refl, ap (λ (x : Rows). joined (rows_lines x)) (same_rows text xs ys h k))
one_sheet text room f g ls ms (whole xs h v) (narrow ys k w) =
    let l : length (joined (rows_lines xs)) ≡ length (joined (rows_lines ys)) = ap (λ (x : Rows). length (joined (rows_lines x))) (same_rows text xs ys h k) in
    absurd (omega arith)
one_sheet text room f g ls ms (narrow xs h v) (refused b k) = absurd (cc (comes_once text (Ok xs) (Err b) h k))
one_sheet text room f g ls ms (narrow xs h v) (whole ys k w) =
    let l : length (joined (rows_lines xs)) ≡ length (joined (rows_lines ys)) = ap (λ (x : Rows). length (joined (rows_lines x))) (same_rows text xs ys h k) in
    absurd (omega arith)
one_sheet text room f g ls ms (narrow xs h v) (narrow ys k w) =
    let e : fitting room (rows_lines xs) ≡ fitting room (rows_lines ys) = ap (λ (x : Rows). fitting room (rows_lines x)) (same_rows text xs ys h k) in
    (ap (λ (x : List ℕ). let o : Option Fault = Some (Narrow (length x)) in o) e, e)
