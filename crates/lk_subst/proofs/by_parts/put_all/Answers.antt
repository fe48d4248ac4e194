use Rattle.std.proofs.Common.{rules, ◌≡◌, ◌++◌, ◌∷◌, [], arith}
use Rattle.std.proofs.lemmas.Grind.{common_steps}
use Rattle.lk_store.specs.Contents.{level_at, IsLevel}
use Rattle.lk_store.proofs.Extending.{Extends-trans}
use Rattle.lk_subst.specs.Parameters.{putting}
use Rattle.lk_subst.proofs.LevelValues.{putting-steady, names-known, levels-known, met-known, ArePut-push}
use Rattle.lk_subst.proofs.by_parts.put_all.Goals as goal

pub put_one-requires-clause-level_in : goal.put_one-requires-clause-level_in
put_one-requires-clause-level_in g c =
    let c0 = g.T.Terms.contents c.args.terms.now in
    let c1 = g.T.Terms.contents c.each.terms in
    let here = met-known c0 c1 c.each.invariant.grown c.args.met.now c.requires.met_in c.each.i c.get.result.now (let l = c.each-test.true in let e = c.len-i-end.ensures.len in omega arith) in
    rw (← c.get.ensures c.get.result.now) at here

pub put_one-requires-clause-params_in : goal.put_one-requires-clause-params_in
put_one-requires-clause-params_in g c = names-known _ _ c.each.invariant.grown c.args.params.now c.requires.params_in

pub put_one-requires-clause-values_in : goal.put_one-requires-clause-values_in
put_one-requires-clause-values_in g c = levels-known _ _ c.each.invariant.grown c.args.values.now c.requires.values_in

pub put_one-requires-clause-made : goal.put_one-requires-clause-made
put_one-requires-clause-made g c =
    let c0 = g.T.Terms.contents c.args.terms.now in
    let c1 = g.T.Terms.contents c.each.terms in
    let steady = putting-steady c0 c1 c.each.invariant.grown c.args.params.now c.args.values.now c.requires.params_in c.requires.values_in in
    rw (steady, c.deref.ensures.value) c.each.invariant.puts

pub each-preserved : goal.each-preserved
each-preserved g c =
    let c0 = g.T.Terms.contents c.args.terms.now in
    let c1 = g.T.Terms.contents c.each.terms in
    let c2 = g.T.Terms.contents c.put_one.new.terms in
    let was = c.each.invariant in
    let x = c.in_ok-r.ensures.keeps in
    let f = putting c0 c.args.params.now c.args.values.now in
    let steady : putting c1 c.args.params.now c.args.values.now ≡ f = putting-steady c0 c1 was.grown c.args.params.now c.args.values.now c.requires.params_in c.requires.values_in in
    let pushed : c.push.new.self.items ≡ c.each.made.items ++ c.in_ok-r.r ∷ [] = search rules in
    let met = met-known c0 c1 was.grown c.args.met.now c.requires.met_in in
    let new : IsLevel c2 c.in_ok-r.r (f (level_at c1 c.get.result.now.level)) = rw steady at c.in_ok-r.ensures.ok in
    record {
      grown = Extends-trans c0 c1 c2 was.grown x;
      rest = search rules;
      count = let e = was.count in rw pushed (grind (arith, common_steps));
      puts = rw pushed (ArePut-push c1 c2 x f c.args.met.now c.each.made.items c.in_ok-r.r c.get.result.now met was.puts (let e = was.count in let l = c.each-test.true in let n = c.len-i-end.ensures.len in omega arith) (rw was.count (c.get.ensures c.get.result.now)) new);
    }
