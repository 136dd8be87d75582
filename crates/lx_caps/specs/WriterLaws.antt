-- What it means to be a writer, in the words of moments since the last zero.
use Rattle.std.specs.Prelude.{◌≡◌, ◌↔◌, ◌⊎◌, ℕ, suc, ◌+◌, ◌-◌, ◌<◌, ◌≤◌, true, false, IsTrue, [], ◌∷◌, ◌++◌, length, drop}
use Rattle.lx_caps.specs.declared.Principal.{Principal}
use Rattle.lx_caps.specs.declared.Atom.TheVariants.{Byte}
use Rattle.lx_caps.specs.declared.Act.TheVariants.{Zero}
use Rattle.lx_caps.specs.Regions.{covers}
use Rattle.lx_caps.specs.History.{History, owns}
use Rattle.lx_caps.specs.Writers.{zeroes, is_writer, is_slot_writer}

-- the first so many acts that were made
abbrev pub first_acts : ℕ → History → History
first_acts n h = drop (length h - n) h

-- no act of these zeroes the byte
abbrev pub NoZero : ℕ → History → Type 0
NoZero b [] = Unit {0}
NoZero b (act ∷ h) = (zeroes act b ≡ false) × NoZero b h

-- a zero over the byte, and none after it; it ends the first `z` acts
pub record WasZeroed (h : History) (b z : ℕ) : Type 0 where
  pub later : History
  pub at : ℕ
  pub size : ℕ
  pub earlier : History
  pub stands : h ≡ later ++ Zero at size ∷ earlier
  pub over : covers at size b ≡ true
  pub last : NoZero b later
  pub ends : z ≡ suc (length earlier)

-- the length of the part of the history that ends with the last zero over the byte, or 0 where there is none
abbrev pub IsLastZero : History → ℕ → ℕ → Type 0
IsLastZero h b z = ((z ≡ 0) × NoZero b h) ⊎ WasZeroed h b z

pub record WriterLaws : Type 0 where
  -- there is such a length
  pub last_zero : (h : History) (b : ℕ) → (z : ℕ) × IsLastZero h b z
  -- a writer owned the byte at some moment from the last zero to now, both included
  pub at_a_moment : (h : History) (b z : ℕ) (q : Principal) → IsLastZero h b z → IsTrue (is_writer h b q) ↔ ((n : ℕ) × (z ≤ n) × (n ≤ length h) × IsTrue (owns (first_acts n h) q (Byte b)))
  -- the writers of a slot are those of its eight bytes
  pub of_a_slot : (h : History) (slot : ℕ) (q : Principal) → IsTrue (is_slot_writer h slot q) ↔ ((k : ℕ) × (k < 8) × IsTrue (is_writer h (slot + k) q))
