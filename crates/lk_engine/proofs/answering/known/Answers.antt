use Rattle.lk_engine.proofs.Kept.{entries_fewer, found_true}
use Rattle.lk_engine.proofs.answering.known.Goals as goal

pub returns-in-None-clause-kept : goal.returns-in-None-clause-kept
returns-in-None-clause-kept g c = found_true _ _ _ _ _ _ c.requires.entries c.find.ensures.kept

pub returns-in-None-clause-entries : goal.returns-in-None-clause-entries
returns-in-None-clause-entries g c = entries_fewer _ _ _ _ _ c.requires.entries c.find.ensures.holds c.find.ensures.lasting
    c.find.ensures.staying
