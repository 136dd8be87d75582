use Rattle.lx_writer_sets.proofs.sets.WriterSets.note.Given as goal

abbrev pub ghosts-note_by : goal.ghosts-note_by
ghosts-note_by a = record { name = a.blank.name; parts = a.blank.parts }
