use Rattle.std.proofs.Common.{◌≡◌, ◌++◌, ◌∷◌, [], map, ap, ◌∙◌}
use Rattle.std.proofs.lemmas.List.Elements.{All-rest}
use Rattle.lk_store.specs.Contents.{tree_at}
use Rattle.lk_store.proofs.Extending.{Extends-trans}
use Rattle.lk_inductive.specs.Block as plain
use Rattle.lk_block.specs.Shapes.{field_at, shape_at, IsFieldIn}
use Rattle.lk_lists.proofs.Lists.{first_has}
use Rattle.lk_block.proofs.Shaping.{shape-steady, field-steady, field-known}
use Rattle.lk_recursor.specs.Recursive.{terms_of}
use Rattle.lk_recursor.proofs.Steady.{heading-steady}
use Rattle.lk_recursor.proofs.FieldLists.{terms-cons, added_more}
use Rattle.lk_recursor.proofs.recursive.recursive_terms.Goals as goal

pub add_recursive_term-requires-clause-heading_is : goal.add_recursive_term-requires-clause-heading_is
add_recursive_term-requires-clause-heading_is g c =
    heading-steady (g.T.Terms.contents c.args.terms.now) (g.T.Terms.contents c.fields.terms) c.fields.invariant.keeps c.args.shape.now c.args.heading.now c.requires.shape_in c.requires.heading_is

pub add_recursive_term-requires-clause-field_in : goal.add_recursive_term-requires-clause-field_in
add_recursive_term-requires-clause-field_in g c =
    let before = g.T.Terms.contents c.args.terms.now in
    let was = c.fields.invariant in
    field-known before (g.T.Terms.contents c.fields.terms) was.keeps c.in-Some.field.now (first_has (IsFieldIn before) c.fields.left.now c.in-Some.field.now c.in-Some.others.now c.in-Some.ensures.cases.0 was.left_in)

pub fields-preserved : goal.fields-preserved
fields-preserved g c =
    let before = g.T.Terms.contents c.args.terms.now in
    let now = g.T.Terms.contents c.fields.terms in
    let after = g.T.Terms.contents c.add_recursive_term.new.terms in
    let was = c.fields.invariant in
    let s = c.args.shape.now in
    let x = c.in-Some.field.now in
    let p = shape_at before s in
    let h = c.args.heading.now in
    let others = map (field_at before) c.in-Some.others.now in
    let split = c.in-Some.ensures.cases.0 in
    let known = first_has (IsFieldIn before) c.fields.left.now x c.in-Some.others.now split was.left_in in
    let made = c.in_ok-add_recursive_term.ensures in
    let found = map (tree_at now) c.fields.found.items in
    let is : map (tree_at after) c.add_recursive_term.new.found.items ≡ found ++ terms_of h p (field_at before x ∷ []) =
    made.ok
    ∙ ap (λ (q : plain.Shape). found ++ terms_of h q (field_at now x ∷ [])) (shape-steady before now was.keeps s c.requires.shape_in)
    ∙ ap (λ (f : plain.Field). found ++ terms_of h p (f ∷ [])) (field-steady before now was.keeps x known) in
    record {
      keeps = Extends-trans before now after was.keeps made.keeps;
      same_rest = made.rest ∙ was.same_rest;
      left_in = All-rest (IsFieldIn before) x c.in-Some.others.now c.fields.left.now split was.left_in;
      found_in = made.known;
      leads =
          added_more found (map (tree_at after) c.add_recursive_term.new.found.items) (terms_of h p (field_at before x ∷ [])) (terms_of h p others) (terms_of h p (map (field_at before) c.fields.left.now)) (terms_of h p (map (field_at before) c.args.fields.now))
          was.leads (ap (λ ys. terms_of h p (map (field_at before) ys)) split ∙ terms-cons h p (field_at before x) others) is;
    }
