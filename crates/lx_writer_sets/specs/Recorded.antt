-- What is kept of a history whose zeros count.
use Rattle.std.specs.Prelude.{ℕ, nat_le, if◌then◌else◌}
use Rattle.lx_caps.specs.History.{History, without_zeros}
use Rattle.lx_caps.specs.Placed.{AllPlaced}
use Rattle.lx_writer_sets.specs.Stands.{StandsForWriters}
use Rattle.lx_writer_sets.specs.declared.sets.WriterSets.{WriterSets}

-- a store and writer sets stand for the history: the store for its grants and strips, and the sets for its writers, and
-- all its ranges lie in memory
pub record IsRecorded {C : Type 0} (stands : C → History → Type 0) (caps : C) (sets : WriterSets) (h : History) : Type 0 where
  pub owned : stands caps (without_zeros h)
  pub written : StandsForWriters sets h
  pub placed : AllPlaced h

-- the lesser of two numbers
abbrev pub lesser : ℕ → ℕ → ℕ
lesser a b = if nat_le a b then a else b
