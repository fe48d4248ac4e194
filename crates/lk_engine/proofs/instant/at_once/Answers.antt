use Rattle.lk_engine.proofs.Instants.{core_true, whnf_true, infer_true, same_true}
use Rattle.lk_engine.proofs.instant.at_once.Goals as goal

pub returns-in-Core : goal.returns-in-Core
returns-in-Core g c = rw c.in-Core.is (core_true _ _ _ (rw c.in-Core.is at c.requires) _
    c.as_form.ensures.form c.as_form.ensures.is)

pub returns-in-Whnf : goal.returns-in-Whnf
returns-in-Whnf g c = rw c.in-Whnf.is (whnf_true _ _ _ (rw c.in-Whnf.is at c.requires) _
    c.as_form-in-Whnf.ensures.form c.as_form-in-Whnf.ensures.is)

pub returns-in-Infer : goal.returns-in-Infer
returns-in-Infer g c = rw c.in-Infer.is (infer_true _ _ _ (rw c.in-Infer.is at c.requires) _
    c.type_of_local.ensures)

pub returns-in-Same : goal.returns-in-Same
returns-in-Same g c =
    let known = rw c.in-Same.is at c.requires in
    rw c.in-Same.is (same_true _ _ _ _ known.0 known.1 _ c.as_one.ensures.one c.as_one.ensures.is)
