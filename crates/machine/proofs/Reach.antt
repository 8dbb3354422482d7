-- A step of the climb to the host's bus.
use Rattle.std.proofs.Common.{◌≡◌, ℕ, zero, suc, ◌-◌, ◌<◌, true, ◌&&◌, List, get_or, Some, ap, ◌∙◌, arith}
use Rattle.machine.specs.declared.Node.{Node}
use Rattle.machine.specs.Machine.{passes, reaches, nowhere}

pub reaches_step : (k : ℕ) (ns : List Node) (b p : ℕ) → 0 < k → passes b (get_or ns p nowhere) ≡ true → reaches k ns b (Some p) ≡ reaches (k - 1) ns b (get_or ns p nowhere).parent
reaches_step zero ns b p l h = absurd (omega arith)
reaches_step (suc k) ns b p l h =
    let e : k ≡ suc k - 1 = omega arith in
    ap (λ x. x && reaches k ns b (get_or ns p nowhere).parent) h ∙ ap (λ j. reaches j ns b (get_or ns p nowhere).parent) e
