use Rattle.lk_subst.proofs.LevelValues.{putting-steady, later_put}
use Rattle.lk_subst.proofs.by_parts.put_by_parts.Goals as goal

pub made_of-requires-clause-made : goal.made_of-requires-clause-made
made_of-requires-clause-made g c =
    let steady = putting-steady _ _ c.in_ok-made.ensures.keeps c.args.params.now c.args.values.now c.requires.params_in c.requires.values_in in
    rw (steady, c.deref.ensures.value) c.in_ok-made.ensures.ok

pub returns-clause-ok : goal.returns-clause-ok
returns-clause-ok g c =
    later_put _ _ c.args.params.now c.args.values.now c.in_ok-made.ensures.keeps c.requires.params_in c.requires.values_in
    _ _ _ c.requires.level_in c.in_ok-r.ensures
