-- Ranges up to a byte, of which the last one may go on.
use Rattle.std.specs.Prelude.{◌≡◌, ℕ, ◌-◌, ◌<◌, ◌≤◌, Bool, true, false, nat_lt, List, [], ◌∷◌, ◌++◌, if◌then◌else◌}
use Rattle.lx_caps.specs.declared.Cap.{Cap}
use Rattle.lx_caps.specs.declared.Cap.TheVariants as cap
use Rattle.lx_caps.specs.Ranges.{IsRanges}
use Rattle.lx_cap_lists.specs.declared.runs.Span.{Span}

-- the right to write the bytes of a range, if it has any
abbrev pub write_of : Span → List Cap
write_of s = if nat_lt s.from s.end then cap.Write s.from (s.end - s.from) ∷ [] else []

-- all bytes of the range pass the test
abbrev pub IsFull : (ℕ → Bool) → Span → Type 0
IsFull p s = (b : ℕ) → s.from ≤ b → b < s.end → p b ≡ true

-- the bytes below `upto` that pass the test are those of the greatest ranges that are done and of the last one, which may go on
pub record AreRangesUpTo (p : ℕ → Bool) (done : List Cap) (last : Span) (upto : ℕ) : Type 0 where
  pub order : last.from ≤ last.end
  pub within : last.end ≤ upto
  pub full : IsFull p last
  pub gap : (b : ℕ) → last.end ≤ b → b < upto → p b ≡ false
  pub lists : (rest : List Cap) → IsRanges p last.from rest → IsRanges p 0 (done ++ rest)
