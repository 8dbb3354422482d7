-- What a scan comes to, and what it leaves alone.
use Rattle.std.specs.Prelude.{◌≡◌, ℕ, List, length, map, Some, Err, Result, ◌≢◌, slice_index_or}
use Rattle.pci.specs.declared.Loss.{Loss}
use Rattle.pci.specs.declared.fault.Fault.TheVariants.{Lost}
use Rattle.machine.specs.declared.Dword.{Dword}
use Rattle.machine.specs.declared.Node.{Node}
use Rattle.machine.specs.Machine.{nowhere, value}
use Rattle.access.specs.Access.{State}
use Rattle.pci.specs.declared.fault.Fault.{Fault}
use Rattle.work.specs.Doing.{Ran}
use Rattle.numbering.specs.Rule.{Rows, tree}

-- What comes of a scan that goes by the rule: s and s' are the access before and after it, r its answer.
pub record Searched (s : State) (rows : Rows) (r : Result Rows Fault) (s' : State) : Type 0 where
  -- which rows or which refusal, and which reads and writes; when the access is lost is left open
  pub by_rule : Ran s (tree s.last rows) r s'
  -- a loss is answered exactly where the access is lost afterwards
  pub lost_told : (l : Loss) → s'.loss ≡ Some l → r ≡ Err (Lost l)
  pub told_lost : (l : Loss) → r ≡ Err (Lost l) → s'.loss ≡ Some l

-- two nodes that differ in the dword 18h alone
pub record Alike (n m : Node) : Type 0 where
  pub parent : m.parent ≡ n.parent
  pub device : m.device ≡ n.device
  pub function : m.function ≡ n.function
  pub masks : map (λ (d : Dword). d.mask) m.dwords ≡ map (λ (d : Dword). d.mask) n.dwords
  pub values : (k : ℕ) → (k ≢ 6) → value m k ≡ value n k

-- two machines whose nodes differ in their dwords 18h alone
pub record Elsewhere (ns ms : List Node) : Type 0 where
  pub count : length ms ≡ length ns
  pub nodes : (i : ℕ) → Alike (slice_index_or ns i nowhere) (slice_index_or ms i nowhere)

-- granted, refused or lost: a scan leaves all but the dwords 18h as they were
abbrev pub NumbersAlone : Type 0
NumbersAlone = (s s' : State) (rows : Rows) (r : Result Rows Fault) → Searched s rows r s' → Elsewhere s.machine s'.machine
