use Rattle.std.proofs.Common.{rules, sym}
use Rattle.lk_store.specs.Contents.{tree_at}
use Rattle.lk_chain.proofs.Arguments.{local_at_once, constant_typed}
use Rattle.lk_chain.proofs.spines.type_of.Goals as goal

pub returns-in-Local : goal.returns-in-Local
returns-in-Local g c = record {
  keeps = search rules;
  stays = search rules;
  ok = record {
    known = search rules;
    meant = tt;
    has = rw (← c.in-Local.ensures.tree) (local_at_once (g.L.Looks.sight (g.L.Terms.rest
        c.args.looks.now)).basis.place c.in-Local.field-0
        (tree_at (g.L.Terms.contents c.args.looks.now) c.in-Local.ty));
  };
}

pub returns-in-Some : goal.returns-in-Some
returns-in-Some g c =
    let basis = (g.L.Looks.sight (g.L.Terms.rest c.args.looks.now)).basis in
    record {
      keeps = search rules;
      stays = search rules;
      ok = constant_typed basis.library basis.place c.in-Const.name c.in-Const.levels c.args.e
          c.in-Some.ty c.in-Ok.entry c.at_levels.ensures.keeps c.means.ensures.over
          (search rules) (sym c.in-Const.ensures.tree) c.in-Ok.ensures.known c.in-Ok.ensures.answer
          (search rules)
          (λ entry is. rw c.in-Some.is at (c.in_ok-ty-in-Ok.ensures.ok entry is));
    }
