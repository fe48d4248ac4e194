use Rattle.lk_subst.proofs.LevelValues.{later_put}
use Rattle.lk_subst.proofs.parameters.put_in_level.Goals as goal

pub returns-clause-ok : goal.returns-clause-ok
returns-clause-ok g c =
    later_put _ _ c.args.params.now c.args.values.now c.put_layers.ensures.keeps c.requires.params_in c.requires.values_in
    _ _ _ c.requires.level_in c.in_ok-r-2.ensures.ok
