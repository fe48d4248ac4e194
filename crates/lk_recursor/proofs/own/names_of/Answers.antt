use Rattle.std.proofs.Common.{◌<◌, ◌∷◌, ◌++◌, [], length, ap, sym, subst, ◌∙◌}
use Rattle.std.proofs.lemmas.List.Elements.{All-same, All-push}
use Rattle.lk_inductive.specs.Recursors.{Restoring, rec_name}
use Rattle.lk_store.specs.Contents.{name_at}
use Rattle.lk_store.proofs.Extending.{Extends-trans}
use Rattle.lk_block.specs.Shapes.{shape_at, IsTypeShapeIn}
use Rattle.lk_lists.proofs.Lists.{rest_have, first_has}
use Rattle.lk_env.proofs.Stays.{names_in_stay}
use Rattle.lk_restore.specs.Originals.{read_name}
use Rattle.lk_restore.specs.Steady.{restoring-steady}
use Rattle.lk_recursor.specs.Fronts.{read_by}
use Rattle.lk_recursor.specs.Comparisons.{AreNames}
use Rattle.lk_recursor.proofs.Steady.{read_by-steady}
use Rattle.lk_recursor.proofs.Compared.{own_names_more, own_names_end}
use Rattle.lk_recursor.proofs.own.names_of.Goals as goal

pub types-preserved : goal.types-preserved
types-preserved g c =
    let before = g.T.Terms.contents c.args.terms.now in
    let now = g.T.Terms.contents c.types.terms in
    let after = g.T.Terms.contents c.own_name.new.terms in
    let w = read_by before c.args.shape.now c.args.front.now in
    let os = c.args.front.now.originals.now in
    let inv = c.types.invariant in
    let split = c.in-Some.ensures.cases.0 in
    let made = c.in_ok-name.ensures in
    let pushed = c.in_ok-push.ensures.items in
    let known = first_has (IsTypeShapeIn before) c.types.rest.now c.in-Some.of.now c.in-Some.more.now split inv.rest_in in
    record {
      keeps = Extends-trans before now after inv.keeps made.keeps;
      same_rest = made.rest ∙ inv.same_rest;
      rest_in = rest_have (IsTypeShapeIn before) c.types.rest.now c.in-Some.of.now c.in-Some.more.now split inv.rest_in;
      names_in = All-same (λ n. n < length after.names) c.push.new.self.items (c.types.names.items ++ c.in_ok-name.name ∷ []) pushed
          (All-push (λ n. n < length after.names) c.types.names.items c.in_ok-name.name (names_in_stay now after made.keeps c.types.names.items inv.names_in) made.ok.known);
      so_far = own_names_more w before now after c.types.names.items c.push.new.self.items c.in_ok-name.name c.types.rest.now c.in-Some.more.now c.in-Some.of.now made.keeps inv.names_in pushed split
          (made.ok.is ∙ ap (λ n. read_name now os (rec_name n)) (inv.keeps.names.same c.in-Some.of.now.name known.name_in) ∙ ap (λ (v : Restoring). v.named (rec_name (name_at before c.in-Some.of.now.name))) (restoring-steady before now inv.keeps (shape_at before c.args.shape.now) os c.requires.front_is.originals_are))
          ∙ inv.so_far;
    }

pub returns-clause-ok : goal.returns-clause-ok
returns-clause-ok g c =
    let before = g.T.Terms.contents c.args.terms.now in
    let after = g.T.Terms.contents c.types.terms in
    let shape = c.args.shape.now in
    let front = c.args.front.now in
    let inv = c.types.invariant in
    subst (λ (w : Restoring). AreNames after w c.types.names.items shape.types.items) (sym (read_by-steady before after inv.keeps shape front c.requires.shape_in c.requires.front_is))
    (own_names_end (read_by before shape front) before after inv.keeps c.types.names.items c.types.rest.now shape.types.items c.requires.shape_in.types_in c.in_default.ensures.cases inv.names_in inv.so_far)
