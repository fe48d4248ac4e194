use Rattle.std.proofs.Common.{◌+◌, rules, arith, ap, ◌∙◌}
use Rattle.lk_tree.specs.Bind.{opened}
use Rattle.lk_store.specs.Contents.{name_at, tree_at}
use Rattle.lk_ask.proofs.Sheets.{grown}
use Rattle.lk_proj.proofs.FieldPis.{waiting, next_asked}
use Rattle.lk_proj.proofs.fields.next_field.Goals as goal

pub returns : goal.returns
returns g c =
    let before = g.L.Terms.contents c.args.looks.now in
    let made = g.L.Terms.contents c.make.new.self in
    let after = g.L.Terms.contents c.open_with.new.terms in
    let w = (g.L.Looks.sight (g.L.Terms.rest c.args.looks.now)).basis.place in
    let p = c.args.p in
    let grows = c.make.ensures.keeps in
    let whole = c.open_with.ensures.keeps.trees.same p.whole (grown grows p.whole
    c.requires.p_in.whole_in)
    ∙ grows.trees.same p.whole c.requires.p_in.whole_in ∙ c.requires.p_in.is in
    let rest = c.in_ok-rest.ensures.ok.is
    ∙ ap (λ t. opened t (tree_at made c.in_ok-value.value)) (grows.trees.same c.args.body
    c.requires.body_in)
    ∙ ap (opened (tree_at before c.args.body)) c.in_ok-value.ensures.ok.is in
    record {
      keeps = search rules;
      stays = search rules;
      known = search rules;
      steps = ap (λ r. waiting w (g.L.Looks.sight r).last (tree_at after p.whole)
          (c.args.number + 1) c.args.prop
          (tree_at after c.in_ok-rest.rest)) (c.open_with.ensures.rest ∙ c.make.ensures.rest)
          ∙ next_asked w (g.L.Looks.sight (g.L.Terms.rest c.args.looks.now)).last
          (tree_at after p.whole)
          (name_at before p.structure) p.field (tree_at before p.subject) whole c.args.prop
          c.args.number
          (tree_at before c.args.domain) (tree_at before c.args.body)
          (tree_at after c.in_ok-rest.rest)
          (omega arith) rest;
    }
