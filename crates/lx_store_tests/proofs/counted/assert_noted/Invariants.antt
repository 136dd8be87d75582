use Rattle.lx_store_tests.proofs.counted.assert_noted.Given as goal

abbrev pub ghosts-notes_by : goal.ghosts-notes_by
ghosts-notes_by g a = record { name = a.blank.name; parts = a.blank.parts }
