-- What stands is the longest run of whole lines that fits.
use Rattle.std.proofs.Common.{◌≡◌, ℕ, ◌+◌, ◌-◌, ◌<◌, ◌≤◌, List, [], ◌∷◌, ◌++◌, length, Ok, Err, refl, ap, ◌∙◌, zero-add, arith, length-append}
use borrow.Author.Tests.{le-true, lt-false}
use Rattle.pci.specs.declared.fault.Fault.TheVariants.{Narrow}
use Rattle.listing.specs.Lines.{joined, Whole, Cut}
use Rattle.listing.specs.Fitting.{fitting, Printed}

fit_cut :
    (room : ℕ) (done : List (List ℕ)) (next : List ℕ) (rest : List (List ℕ)) → length (joined done) ≤ room → room < length (joined done) + length next →
    fitting room (done ++ (next ∷ rest)) ≡ joined done
fit_cut room [] next rest h n = rw (← lt-false (length next) room (omega arith))
fit_cut room (l ∷ done) next rest h n =
    let e = length-append l (joined done) in
    rw (← le-true (length l) room (omega arith)) (ap (λ t. l ++ t) (fit_cut (room - length l) done next rest (omega arith) (omega arith)))

-- all the lines are more than those before one that does not fit
more_than : (done : List (List ℕ)) (next : List ℕ) (rest : List (List ℕ)) → length (joined done) + length next ≤ length (joined (done ++ (next ∷ rest)))
more_than [] next rest = omega (arith, length-append next (joined rest))
more_than (l ∷ done) next rest =
    omega (arith, more_than done next rest, length-append l (joined done), length-append l (joined (done ++ (next ∷ rest))))

-- all lines stand
pub printed_whole : {buf : List ℕ} {ls : List (List ℕ)} {end : List ℕ} {len : ℕ} → Whole buf 0 ls end len → Printed (Ok len) buf ls end
printed_whole {ls = ls} {end = end} {len = len} w =
    let long : len ≡ length (joined ls) = w.len ∙ zero-add _ in
    (omega (arith, w.room (omega arith)), long, w.bytes)

-- some line does not fit
pub printed_cut : {buf : List ℕ} {ls : List (List ℕ)} {end : List ℕ} {len : ℕ} → Cut buf 0 ls end len → Printed (Err (Narrow len)) buf ls end
printed_cut {buf} {ls} {end} {len} w =
    let long : len ≡ length (joined w.done) = w.len ∙ zero-add _ in
    let room : length (joined w.done) ≤ length buf = omega (arith, w.room (omega arith)) in
    let fits : fitting (length buf) ls ≡ joined w.done =
    ap (fitting (length buf)) w.split ∙ fit_cut (length buf) w.done w.next w.rest room (omega (arith, w.narrow)) in
    let all : length (joined w.done) + length w.next ≤ length (joined ls) = rw w.split (more_than w.done w.next w.rest) in
    rw (fits, ← long) (omega (arith, w.narrow), refl, w.bytes)
