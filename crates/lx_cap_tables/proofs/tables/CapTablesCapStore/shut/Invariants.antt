use Rattle.lx_cap_tables.proofs.tables.CapTablesCapStore.shut.Given as goal

abbrev pub ghosts-shut_by : goal.ghosts-shut_by
ghosts-shut_by a = record { name = a.blank.name; parts = a.blank.parts }
