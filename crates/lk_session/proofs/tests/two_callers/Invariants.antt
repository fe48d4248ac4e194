use Rattle.lk_session.proofs.tests.two_callers.Given as goal

-- the table that was just made
abbrev pub ghosts-both : goal.ghosts-both
ghosts-both g a = record { table = a.opened.table.shared.table_id }
