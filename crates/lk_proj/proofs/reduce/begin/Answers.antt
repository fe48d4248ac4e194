use Rattle.std.proofs.Common.{rules}
use Rattle.lk_store.specs.Contents.{tree_at}
use Rattle.lk_proj.proofs.Reducing.{core_asked}
use Rattle.lk_proj.proofs.reduce.begin.Goals as goal

pub returns : goal.returns
returns g c S i h =
    let before = g.L.Terms.contents c.args.looks.now in
    let sight = g.L.Looks.sight (g.L.Terms.rest c.args.looks.now) in
    record {
      keeps = search rules;
      stays = search rules;
      known = search rules;
      steps = core_asked sight.basis.place sight.last (tree_at before c.args.e) S i
          (tree_at before c.args.subject) h;
    }
