use Rattle.std.proofs.Common.{rules, ap, sym, ◌∙◌}
use Rattle.lk_store.specs.Contents.{name_at, tree_at}
use Rattle.lk_proj.proofs.FieldPis.{fields_begin}
use Rattle.lk_proj.proofs.fields.begin_fields.Goals as goal

pub returns-in-Some : goal.returns-in-Some
returns-in-Some g c =
    let before = g.L.Terms.contents c.args.looks.now in
    let sight = g.L.Looks.sight (g.L.Terms.rest c.args.looks.now) in
    let p = c.in-Some.field-0 in
    record {
      keeps = search rules;
      stays = search rules;
      known = search rules;
      steps = fields_begin sight.basis.place sight.last (tree_at before c.args.e)
          (name_at before p.structure) p.field
          (tree_at before p.subject) (ap (tree_at before) (sym c.in-Some.ensures.whole)
          ∙ c.in-Some.ensures.is.is) c.args.prop
          (tree_at before c.args.ty);
    }
