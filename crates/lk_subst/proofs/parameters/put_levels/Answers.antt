use Rattle.lk_subst.proofs.LevelValues.{later_put_all}
use Rattle.lk_subst.proofs.parameters.put_levels.Goals as goal

pub returns-clause-ok : goal.returns-clause-ok
returns-clause-ok g c =
    later_put_all _ _ c.args.params.now c.args.values.now c.put_few.ensures.keeps c.requires.params_in c.requires.values_in
    _ _ _ c.requires.levels_in c.in_ok-r-2.ensures.ok
