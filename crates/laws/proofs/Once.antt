-- The test of the laws has one answer.
use Rattle.std.proofs.Common.{◌≡◌, ℕ, ◌<◌, List, Ok, Err, sym, refl, ap, ◌∙◌, ⊎_elim}
use Rattle.std.proofs.lemmas.Bool.{both_ways, cases_order}
use Rattle.pci.specs.Faults.{law_number, told}
use Rattle.pci.specs.declared.fault.Fault.{Fault}
use Rattle.pci.specs.declared.fault.Fault.TheVariants.{Unlawful}
use Rattle.pci.proofs.Apart.{told_apart}
use Rattle.machine.specs.declared.Node.{Node}
use Rattle.laws.specs.Lawful.{keeps, Lawful, NamesFirst}
use Rattle.laws.specs.Once.{OneAnswer}

-- numbers of which neither is below the other are one
neither_below : (m n : ℕ) → (m < n → ⊥) → (n < m → ⊥) → m ≡ n
neither_below m n f g = ⊎_elim (λ e. e) (⊎_elim (λ l. absurd (f l)) (λ l. absurd (g l))) (cases_order m n)

module _ (ns : List Node) where
  not_before : (f g : Fault) (a : NamesFirst ns f) (b : NamesFirst ns g) → a.at < b.at → ⊥
  not_before f g a b l = both_ways (keeps ns a.at a.law) a.broken (b.nodes_before a.at l a.law)

  not_earlier : (f g : Fault) (a : NamesFirst ns f) (b : NamesFirst ns g) → a.at ≡ b.at → law_number a.law < law_number b.law → ⊥
  not_earlier f g a b e l =
      both_ways (keeps ns a.at a.law) a.broken (ap (λ i. keeps ns i a.law) e ∙ b.laws_before a.law l)

  -- both tell of one node and one law, so they are one
  same_refusal : (f g : Fault) (a : NamesFirst ns f) (b : NamesFirst ns g) → f ≡ g
  same_refusal f g a b =
      let e : a.at ≡ b.at = neither_below a.at b.at (not_before f g a b) (not_before g f b a) in
      let k : law_number a.law ≡ law_number b.law =
      neither_below (law_number a.law) (law_number b.law) (not_earlier f g a b e) (not_earlier g f b a (sym e)) in
      let t : told (Unlawful a.at a.law) ≡ told (Unlawful b.at b.law) = cc in
      a.is ∙ told_apart _ _ t ∙ sym b.is

  lawful_alone : (f : Fault) → Lawful ns → NamesFirst ns f → ⊥
  lawful_alone f h a = both_ways (keeps ns a.at a.law) a.broken (h a.at a.within a.law)

pub one_answer : OneAnswer
one_answer ns (Ok u) (Ok v) h g = refl
one_answer ns (Ok u) (Err f) h g = absurd (lawful_alone ns f h g)
one_answer ns (Err f) (Ok v) h g = absurd (lawful_alone ns f g h)
one_answer ns (Err f) (Err g) a b = ap Err (same_refusal ns f g a b)
