-- Writer sets stand for a history where they record exactly its writers.
use Rattle.std.specs.Prelude.{ℕ}
use Rattle.lx_caps.specs.History.{History}
use Rattle.lx_writer_sets.specs.declared.sets.WriterSets.{WriterSets}
use Rattle.lx_writer_sets.specs.Sets.{Records}
pub use Rattle.lx_writer_sets.specs.Room.{room_of}

-- the sets record exactly the writers of the history
abbrev pub StandsForWriters : WriterSets → History → Type 0
StandsForWriters sets h = Records sets.parts.lists h

-- the room that was promised, which noting takes from
abbrev pub spare_of : WriterSets → ℕ
spare_of sets = sets.promised
