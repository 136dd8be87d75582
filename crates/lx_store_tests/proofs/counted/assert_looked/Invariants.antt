use Rattle.lx_store_tests.proofs.counted.assert_looked.Given as goal

abbrev pub ghosts-answers_by : goal.ghosts-answers_by
ghosts-answers_by g a = record { name = a.blank.name; parts = a.blank.parts }
