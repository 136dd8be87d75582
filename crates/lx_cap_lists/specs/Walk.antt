-- A walk through parts in order.
use Rattle.std.specs.Prelude.{◌≡◌, ℕ, ◌*◌, ◌≤◌, Bool, List, ◌∷◌}
use Rattle.lx_caps.specs.declared.Cap.{Cap}
use Rattle.lx_cap_lists.specs.declared.PartBytes.{PartBytes}
use Rattle.lx_cap_lists.specs.declared.walk.Walk.{Walk}
use Rattle.lx_cap_lists.specs.Parts.{is_among, Rises}
use Rattle.lx_cap_lists.specs.Runs.{AreRangesUpTo}

-- the walk has gone through all bytes before the part at hand, and those behind them are the bytes at hand and of the parts that are left
pub record HasWalked (p : ℕ → Bool) (done : List Cap) (walk : Walk) (left : List PartBytes) : Type 0 where
  pub ranges : AreRangesUpTo p done walk.last (walk.at_hand.part * 64)
  pub others : (b : ℕ) → walk.at_hand.part * 64 ≤ b → p b ≡ is_among b (walk.at_hand ∷ left)
  pub rises : Rises walk.at_hand.part left
