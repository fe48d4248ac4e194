use Rattle.std.proofs.Common.{rules, arith}
use Rattle.lk_tree.specs.Tree.{max_level, imax_level}
use Rattle.lk_tree.specs.Levels.{put_in_level}
use Rattle.lk_store.proofs.Extending.{Extends-trans}
use Rattle.lk_subst.specs.Parameters.{IsPut}
use Rattle.lk_subst.proofs.LevelValues.{both_put}
use Rattle.lk_subst.proofs.small.+layers.Goals as goal

pub put_parts-returns-in-Some-3 : goal.put_parts-returns-in-Some-3
unfolding put_in_level
put_parts-returns-in-Some-3 g t c =
    let x = c.put_layers-in-Max.ensures.keeps in
    let y = c.put_layers-in-Max-2.ensures.keeps in
    let longer = y.levels.longer in
    let in_both = rw c.in-Max.is at c.requires.node_in in
    let first : IsPut (g.T.Terms.contents c.args.terms.now) c.args.params.now c.args.values.now c.in-Max.a (g.T.Terms.contents c.put_layers-in-Max.new.terms) c.in-Some-2.x = search rules in
    let second : IsPut (g.T.Terms.contents c.put_layers-in-Max.new.terms) c.args.params.now c.args.values.now c.in-Max.b (g.T.Terms.contents c.put_layers-in-Max-2.new.terms) c.in-Some-3.y = search rules in
    let left = first.known in
    record {
      keeps = Extends-trans _ _ _ x y;
      stays = search rules;
      known = (omega arith, second.known);
      ok = rw c.in-Max.is (both_put _ _ c.args.params.now c.args.values.now x c.requires.params_in c.requires.values_in
          _ max_level _ _ _ _ y in_both.1 first second);
    }

pub put_parts-returns-in-Some-5 : goal.put_parts-returns-in-Some-5
unfolding put_in_level
put_parts-returns-in-Some-5 g t c =
    let x = c.put_layers-in-IMax.ensures.keeps in
    let y = c.put_layers-in-IMax-2.ensures.keeps in
    let longer = y.levels.longer in
    let in_both = rw c.in-IMax.is at c.requires.node_in in
    let first : IsPut (g.T.Terms.contents c.args.terms.now) c.args.params.now c.args.values.now c.in-IMax.a (g.T.Terms.contents c.put_layers-in-IMax.new.terms) c.in-Some-4.x = search rules in
    let second : IsPut (g.T.Terms.contents c.put_layers-in-IMax.new.terms) c.args.params.now c.args.values.now c.in-IMax.b (g.T.Terms.contents c.put_layers-in-IMax-2.new.terms) c.in-Some-5.y = search rules in
    let left = first.known in
    record {
      keeps = Extends-trans _ _ _ x y;
      stays = search rules;
      known = (omega arith, second.known);
      ok = rw c.in-IMax.is (both_put _ _ c.args.params.now c.args.values.now x c.requires.params_in c.requires.values_in
          _ imax_level _ _ _ _ y in_both.1 first second);
    }
