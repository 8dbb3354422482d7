-- What a name selects, read from the host downwards: the meaning that the search up the parents is held to.
use Rattle.std.specs.Prelude.{◌≡◌, ℕ, ◌+◌, ◌<◌, ◌≤◌, Bool, cond, ◌⊎◌, ◌↔◌, List, [], ◌∷◌, length, Some, None, Option, ◌≢◌}
use Rattle.pci.specs.declared.Name.{Name}
use Rattle.machine.specs.declared.Node.{Node}
use Rattle.machine.specs.Machine.{secondary, subordinate, kind, node, hits, selected}

-- x stands in the list
abbrev pub In : List ℕ → ℕ → Type 0
In [] x = ⊥
In (y ∷ ys) x = (y ≡ x) ⊎ In ys x

-- n is a bridge and passes the bus number b on
pub record Passes (n : Node) (b : ℕ) : Type 0 where
  pub is_bridge : kind n ≡ 1
  pub low : secondary n ≤ b
  pub high : b ≤ subordinate n

-- on the bus that o makes, b is passed on to the bus that the bridge p makes, where it selects
pub data Leads (ns : List Node) (b p : ℕ) : Option ℕ → Type 0 where
  ends : {o : Option ℕ} → (node ns p).parent ≡ o → Passes (node ns p) b → secondary (node ns p) ≡ b → Leads ns b p o
  goes : {o : Option ℕ} (q : ℕ) → (node ns q).parent ≡ o → Passes (node ns q) b → (secondary (node ns q) ≢ b) → Leads ns b p (Some q) → Leads ns b p o

-- b selects on the bus that o makes
pub data OnBus (ns : List Node) (b : ℕ) : Option ℕ → Type 0 where
  at_host : b ≡ 0 → OnBus ns b None
  at_bridge : (p : ℕ) → 0 < b → Leads ns b p None → OnBus ns b (Some p)

-- the name selects the node i
pub record Selects (ns : List Node) (at : Name) (i : ℕ) : Type 0 where
  pub inside : i < length ns
  pub low_device : at.device ≤ 31
  pub low_function : at.function ≤ 7
  pub device : (node ns i).device ≡ at.device
  pub function : (node ns i).function ≡ at.function
  pub bus : OnBus ns at.bus (node ns i).parent

-- the places of all nodes that pass the test, counted from i
abbrev pub all_from : (Node → Bool) → ℕ → List Node → List ℕ
all_from t i [] = []
all_from t i (n ∷ ns) = cond (t n) (i ∷ all_from t (i + 1) ns) (all_from t (i + 1) ns)

-- all nodes that the search finds
abbrev pub all_selected : List Node → Name → List ℕ
all_selected ns at = all_from (hits ns at) 0 ns

-- the first of a list
abbrev pub first : List ℕ → Option ℕ
first [] = None
first (x ∷ xs) = Some x

-- the parent is the host or an earlier bridge
abbrev pub ParentsEarlier : List Node → Type 0
ParentsEarlier ns = (i p : ℕ) → i < length ns → (node ns i).parent ≡ Some p → (p < i) × (kind (node ns p) ≡ 1)

-- no two nodes share parent, device and function
abbrev pub PlacesApart : List Node → Type 0
PlacesApart ns =
    (i j : ℕ) → i < length ns → j < length ns → (node ns i).parent ≡ (node ns j).parent → (node ns i).device ≡ (node ns j).device → (node ns i).function ≡ (node ns j).function → i ≡ j

-- no two bridges on a bus pass the same number on
abbrev pub SiblingsApart : List Node → Type 0
SiblingsApart ns = (b i j : ℕ) → 0 < b → (node ns i).parent ≡ (node ns j).parent → Passes (node ns i) b → Passes (node ns j) b → i ≡ j

-- where each parent is the host or an earlier bridge, the search finds exactly what the reading downwards selects
abbrev pub AllAreSelected : Type 0
AllAreSelected = (ns : List Node) → ParentsEarlier ns → (at : Name) (i : ℕ) → In (all_selected ns at) i ↔ Selects ns at i

-- of those that are selected the lowest acts
abbrev pub LowestActs : Type 0
LowestActs = (ns : List Node) (at : Name) → selected ns at ≡ first (all_selected ns at)

-- where no two nodes share a place and no two bridges of a bus pass the same number on, a name selects one node at most
abbrev pub OneFunctionToAName : Type 0
OneFunctionToAName =
    (ns : List Node) → PlacesApart ns → SiblingsApart ns → (at : Name) →
    ((i j : ℕ) → Selects ns at i → Selects ns at j → i ≡ j) × (length (all_selected ns at) ≤ 1)
