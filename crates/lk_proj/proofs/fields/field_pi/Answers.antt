use Rattle.std.proofs.Common.{rules, ap, sym, ◌∙◌}
use Rattle.lk_store.specs.Contents.{name_at, tree_at}
use Rattle.lk_proj.proofs.FieldPis.{waiting_sort, sort_asked}
use Rattle.lk_proj.proofs.fields.field_pi.Goals as goal

pub returns-then-branch : goal.returns-then-branch
returns-then-branch g c =
    let before = g.L.Terms.contents c.args.looks.now in
    let after = g.L.Terms.contents c.must_be_prop.new.looks in
    let sight = g.L.Looks.sight (g.L.Terms.rest c.args.looks.now) in
    let w = sight.basis.place in
    let p = c.args.p in
    let j = c.args.number in
    let same = c.must_be_prop.ensures.made.keeps.trees.same in
    let e = tree_at after p.whole in
    let A = tree_at before c.args.domain in
    let B = tree_at before c.args.body in
    record {
      keeps = search rules;
      stays = search rules;
      known = search rules;
      steps = ap (λ r. waiting_sort w (g.L.Looks.sight r).last e j (tree_at after c.args.domain)
          (tree_at after c.args.body)) c.must_be_prop.ensures.made.stays
          ∙ ap (λ t. waiting_sort w sight.last e j t (tree_at after c.args.body))
          (same c.args.domain c.requires.domain_in)
          ∙ ap (λ t. waiting_sort w sight.last e j A t) (same c.args.body c.requires.body_in)
          ∙ sort_asked w sight.last e (name_at before p.structure) p.field
          (tree_at before p.subject) (same p.whole c.requires.p_in.whole_in ∙ c.requires.p_in.is)
          c.args.prop j A B (sym c.in_ok-must_be_prop.ensures.ok ∙ c.if-branch.true);
    }
