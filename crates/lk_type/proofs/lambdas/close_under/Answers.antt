use Rattle.std.proofs.Common.{rules, ◌≡◌, ◌≤◌, refl, sym}
use Rattle.lk_tree.specs.Bind.{bound}
use Rattle.lk_store.specs.Contents.{tree_at}
use Rattle.lk_subst.proofs.Closed.{close_runs_at-low}
use Rattle.lk_type.proofs.ClosedRuns.{under_is}
use Rattle.lk_type.proofs.lambdas.close_under.Goals as goal

pub returns : goal.returns
returns g c =
    let t = tree_at (g.L.Terms.contents c.args.looks.now) in
    let first : c.in-Ok.first ≡ bound (t c.args.ty) = search rules in
    record {
      keeps = c.close_runs.ensures.keeps;
      stays = c.close_runs.ensures.rest;
      ok = rw (under_is c.args.outer.first c.args.outer.count c.in-Ok.first c.args.count (t c.args.ty) first) at c.close_runs.ensures.ok;
    }

pub returns-then-bound-from : goal.returns-then-bound-from
returns-then-bound-from g c =
    let t = tree_at (g.L.Terms.contents c.args.looks.now) in
    let low : bound (t c.args.ty) ≤ c.args.outer.first = search rules in
    record {
      keeps = search rules;
      stays = refl;
      ok = record {
        known = c.requires;
        is = sym (close_runs_at-low c.args.count c.args.outer.first 0 c.args.outer.first c.args.outer.count (t c.args.ty) low low);
      };
    }
