use Rattle.lk_callers.proofs.report.check_texts.Given as goal

-- the table that was just made
abbrev pub ghosts-check_by : goal.ghosts-check_by
ghosts-check_by g a = record { table = a.opened.table.shared.table_id }
