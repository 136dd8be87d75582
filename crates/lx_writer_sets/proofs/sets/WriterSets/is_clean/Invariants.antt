use Rattle.lx_writer_sets.proofs.sets.WriterSets.is_clean.Given as goal

abbrev pub ghosts-is_clean_by : goal.ghosts-is_clean_by
ghosts-is_clean_by a = record { name = a.blank.name; parts = a.blank.parts }
