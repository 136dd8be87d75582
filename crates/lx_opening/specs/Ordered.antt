-- Globals in the order of their texts.
use Rattle.std.specs.Prelude.{ℕ, ◌+◌, ◌<◌, ◌≤◌, Some, None, List, [], ◌∷◌, length, slice_index_or, ⊤}
use Rattle.lx_model.specs.declared.program.ProgramGlobal.{ProgramGlobal}
use Rattle.lx_model.specs.Program.{Home}

-- the place of a text: the kernel's is the first, and modules follow
abbrev pub rank : Home → ℕ
rank None = 0
rank (Some k) = k + 1

-- globals of texts from this one on, in their order
abbrev pub RiseFrom : ℕ → List ProgramGlobal → Type 0
RiseFrom n [] = ⊤
RiseFrom n (x ∷ xs) = (n ≤ rank x.«module») × RiseFrom (rank x.«module») xs

-- of all texts
unfoldable pub AreOrdered : List ProgramGlobal → Type 0
AreOrdered xs = RiseFrom 0 xs

abbrev pub rank_at : List ProgramGlobal → ℕ → ProgramGlobal → ℕ
rank_at xs k d = rank (slice_index_or xs k d).«module»

-- so many stand in texts before this one, and the others in it or behind it
pub record IsSplit (text : ℕ) (xs : List ProgramGlobal) (count : ℕ) : Type 0 where
  pub before : (k : ℕ) (d : ProgramGlobal) → k < count → rank_at xs k d < text
  pub behind : (k : ℕ) (d : ProgramGlobal) → count ≤ k → k < length xs → text ≤ rank_at xs k d
