-- A scan writes the dwords 18h alone.
use Rattle.std.proofs.Common.{◌≡◌, ℕ, List, get_or, map, set, arith, Some, None, Option, refl, ap, ◌∙◌, length-set}
use Rattle.std.proofs.lemmas.List.{get_or-set_other}
use Rattle.pci.specs.declared.Name.{Name}
use Rattle.machine.specs.declared.Node.{Node}
use Rattle.machine.specs.declared.Dword.{Dword}
use Rattle.std.proofs.lemmas.Grind.{common_steps}
use Rattle.machine.specs.Machine.{nowhere, blank, value, dword, put_in, written_dword, write_at}
use Rattle.std.proofs.Math.Seq.{map-set_same}
use Rattle.access.specs.Access.{State, reached, after}
use Rattle.work.specs.Doing.{reads, writes, did}
use Rattle.numbering.specs.Rule.{Rows, tree}
use Rattle.numbering.specs.Law.{Elsewhere, NumbersAlone}
use Rattle.numbering.proofs.Parts.{part_tree}
use Rattle.work.proofs.Holds.{Holds, holds_give, holds_read, holds_write, holds_refuse, holds_decide, holds_bind, holds_ran}

-- what a node's successor at one place has as it had, each place has
kept : {X : Type 0} (F : Node → X) (ms : List Node) (i : ℕ) (m : Node) → F m ≡ F (get_or ms i nowhere) → (j : ℕ) → F (get_or (set ms i m) j nowhere) ≡ F (get_or ms j nowhere)
kept F ms i m e j = grind (arith, common_steps)

elsewhere_put : (ns ms : List Node) (i v : ℕ) → Elsewhere ns ms → Elsewhere ns (set ms i (written_dword (get_or ms i nowhere) 6 v))
elsewhere_put ns ms i v h =
    let n = get_or ms i nowhere in
    let d = put_in (dword n 6) v in
    let m = written_dword n 6 v in
    record {
      count = length-set ms i m ∙ h.count;
      nodes = λ j. record {
        parent = kept (λ x. x.parent) ms i m refl j ∙ (h.nodes j).parent;
        device = kept (λ x. x.device) ms i m refl j ∙ (h.nodes j).device;
        function = kept (λ x. x.function) ms i m refl j ∙ (h.nodes j).function;
        masks = kept (λ x. map (λ (y : Dword). y.mask) x.dwords) ms i m (map-set_same (λ (y : Dword). y.mask) n.dwords 6 d blank refl) j ∙ (h.nodes j).masks;
        values = λ k q. kept (λ x. value x k) ms i m (ap (λ (y : Dword). y.value) (get_or-set_other n.dwords 6 k d blank q)) j ∙ (h.nodes j).values k q;
      };
    }

elsewhere_at : (ns ms : List Node) (o : Option ℕ) (v : ℕ) → Elsewhere ns ms → Elsewhere ns (write_at ms o 6 v)
elsewhere_at ns ms None v h = h
elsewhere_at ns ms (Some i) v h = elsewhere_put ns ms i v h

module _ (ns : List Node) where
  abbrev Same : State → Type 0
  Same s = Elsewhere ns s.machine

  same_did : (at : Name) (v : ℕ) (s : State) → Same s → Same (did s (writes at 0x18 v))
  unfolding did after
  same_did at v s h = elsewhere_at ns s.machine (reached s.last s.machine at 0x18) v h

  same_read : (at : Name) (o : ℕ) (s : State) → Same s → Same (did s (reads at o))
  unfolding did
  same_read at o s h = h

  keeps_tree : (last : ℕ) (rows : Rows) → Holds Same (tree last rows) (Elsewhere ns) (λ _. Same)
  keeps_tree last rows =
      part_tree (λ X m. Holds {X = X} Same m (Elsewhere ns) (λ _. Same)) (λ X x. holds_give Same (Elsewhere ns) (λ _. Same) x (λ s p. p) (λ s p. p))
      (λ at o. holds_read Same (Elsewhere ns) (λ _. Same) at o (λ s p. p) (λ s p v e. same_read at o s p))
      (λ at v. holds_write Same (Elsewhere ns) (λ _. Same) at 0x18 v (λ s p. p) (same_did at v) (same_did at v))
      (λ X d _. holds_refuse Same (Elsewhere ns) (λ _. Same) d (λ s p. p))
      (λ X r _. holds_decide Same (Elsewhere ns) (λ _. Same) r (λ s p. p) (λ s p x e. p))
      (λ X Y m k h g. holds_bind Same (Elsewhere ns) (λ _. Same) (λ _. Same) m k h g) last rows

same_all : (ns : List Node) → Elsewhere ns ns
same_all ns = record { count = refl; nodes = λ i. record { parent = refl; device = refl; function = refl; masks = refl; values = λ k _. refl } }

pub numbers_alone : NumbersAlone
numbers_alone s s' rows r h =
    holds_ran (Same s.machine) (Elsewhere s.machine) (λ _. Same s.machine) s s' (tree s.last rows) r (keeps_tree s.machine s.last rows) (same_all s.machine) h.by_rule
