use Rattle.lk_session.proofs.tests.calls_of_a_session.Given as goal

-- the table that was just made
abbrev pub ghosts-one_caller : goal.ghosts-one_caller
ghosts-one_caller g a = record { table = a.opened.table.shared.table_id }
