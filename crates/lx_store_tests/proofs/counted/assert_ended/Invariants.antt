use Rattle.lx_store_tests.proofs.counted.assert_ended.Given as goal

abbrev pub ghosts-end_newer_by : goal.ghosts-end_newer_by
ghosts-end_newer_by g a = record { name = a.blank.name; parts = a.blank.parts }

abbrev pub ghosts-end_older_by : goal.ghosts-end_older_by
ghosts-end_older_by g a = record { name = a.blank.name; parts = a.blank.parts }
