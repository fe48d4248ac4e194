use Rattle.std.proofs.Common.{rules}
use Rattle.lk_store.proofs.Extending.{Extends-trans}
use Rattle.lk_subst.proofs.LevelValues.{first_put}
use Rattle.lk_subst.proofs.small.+put_few.Goals as goal

pub returns-in_ok-r-in-Cons : goal.returns-in_ok-r-in-Cons
returns-in_ok-r-in-Cons g t c =
    let x = c.put_few.ensures.keeps in
    let y = c.put_layers.ensures.keeps in
    record {
      keeps = Extends-trans _ _ _ (Extends-trans _ _ _ x y) c.in_ok-r-in-Cons.ensures.keeps;
      stays = search rules;
      ok = rw (← c.in-Cons.ensures.list) (first_put _ _ c.args.params.now c.args.values.now x c.requires.params_in c.requires.values_in
          _ _ _ _ _ _ _ y c.in-Cons.ensures.known.0 (search rules) (search rules) c.in_ok-r-in-Cons.ensures.ok);
    }
