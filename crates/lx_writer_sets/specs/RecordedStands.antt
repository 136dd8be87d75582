-- A store with its writer sets stands for a history, over what its store of capabilities stands for.
use Rattle.std.specs.Prelude.{ℕ}
use Rattle.lx_caps.specs.History.{History}
use Rattle.lx_writer_sets.specs.Stands as written
use Rattle.lx_writer_sets.specs.declared.recorded.Recorded.{Recorded}
use Rattle.lx_writer_sets.specs.Recorded.{IsRecorded, lesser}

abbrev pub StandsRecorded : {C : Type 0} → (C → History → Type 0) → Recorded C → History → Type 0
StandsRecorded stands r h = IsRecorded stands r.caps r.sets h

-- the room that grants and strips take from
abbrev pub spare_of : {C : Type 0} → (C → ℕ) → Recorded C → ℕ
spare_of spare r = lesser (spare r.caps) (written.spare_of r.sets)
