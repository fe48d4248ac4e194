use Rattle.std.proofs.Common.{rules, ◌≡◌, ◌++◌, ◌∷◌, [], map, ap, sym, ◌∙◌}
use Rattle.std.proofs.lemmas.List.{map-append}
use Rattle.lk_tree.specs.Tree.{Tree}
use Rattle.lk_store.specs.Contents.{name_at, tree_at}
use Rattle.lk_subst.specs.Numbers.{trees-steady}
use Rattle.lk_block.specs.Shapes.{field_at, kind_at, shape_at}
use Rattle.lk_recursor.specs.Recursive.{term_of}
use Rattle.lk_recursor.proofs.FieldLists.{terms-none, terms-one}
use Rattle.lk_recursor.proofs.recursive.add_recursive_term.Goals as goal

pub returns-in_ok-push-in-Recursive-clause-ok : goal.returns-in_ok-push-in-Recursive-clause-ok
returns-in_ok-push-in-Recursive-clause-ok g c =
    let before = g.T.Terms.contents c.args.terms.now in
    let after = g.T.Terms.contents c.recursive_term.new.terms in
    let p = shape_at before c.args.shape.now in
    let h = c.args.heading.now in
    let f = c.args.field.now in
    let x = tree_at before f.variable in
    let recursion = c.in-Recursive.recursion in
    let ys = map (tree_at before) recursion.arguments.items in
    let is = map (tree_at before) recursion.indices.items in
    let T = name_at before recursion.name in
    let old = c.args.found.now.items in
    let made = c.in_ok-made-in-Recursive.ensures in
    let r = c.in_ok-made-in-Recursive.made in
    let pushed : c.push.new.self.items ≡ old ++ r ∷ [] = search rules in
    let r_is : tree_at after r ≡ term_of h p x ys T is = made.ok.is in
    ap (map (tree_at after)) pushed
    ∙ map-append (tree_at after) old (r ∷ [])
    ∙ ap (λ ts. ts ++ tree_at after r ∷ []) (trees-steady before after old made.keeps c.requires.found_in)
    ∙ ap (λ (t : Tree). map (tree_at before) old ++ t ∷ []) r_is
    ∙ ap (λ ts. map (tree_at before) old ++ ts)
    (sym (terms-one h p (field_at before f) ys T is (ap (kind_at before) c.in-Recursive.is)))

pub returns-in-Plain-clause-ok : goal.returns-in-Plain-clause-ok
returns-in-Plain-clause-ok g c =
    let before = g.T.Terms.contents c.args.terms.now in
    terms-none c.args.heading.now (shape_at before c.args.shape.now) (field_at before c.args.field.now)
    (map (tree_at before) c.args.found.now.items) (ap (kind_at before) c.in-Plain.is)
