use Rattle.std.proofs.Common.{◌≡◌, Option, Some, None, sym, subst, ap, ◌∙◌, arith}
use Rattle.std.specs.Prelude.{ℕ, option_map}
use Rattle.lk_tree.specs.Tree.{Tree, Name}
use Rattle.lk_rulebook.specs.Place.{Place}
use Rattle.lk_rulebook.specs.WellStated.{WellStated}
use Rattle.lk_store.specs.Contents.{Contents, name_at, tree_at}
use Rattle.lk_derive_quot.specs.Quotients.{reduct_at, AtForm}
use Rattle.lk_derive_quot.proofs.QuotientRows.{major_within, at_form, form_stays, form_moved}
use Rattle.lk_derive_quot.proofs.rows.major_row.Goals as goal

pub ask_form-requires-clause-answered : goal.ask_form-requires-clause-answered
ask_form-requires-clause-answered g c =
    let d : Contents = g.D.Terms.contents c.args.derives.now in
    let w : Place = (g.D.Looks.sight (g.D.Terms.rest c.args.derives.now)).basis.place in
    major_within w c.args.enough (name_at d c.args.name) (tree_at d c.args.e) (tree_at d c.args.major) c.requires.at

pub element_row-requires-clause-stated : goal.element_row-requires-clause-stated
element_row-requires-clause-stated g c = subst WellStated (sym (c.reduct_of.ensures.leaves.place ∙ c.ask_form.ensures.leaves.place)) c.requires.stated

pub element_row-requires-clause-at : goal.element_row-requires-clause-at
element_row-requires-clause-at g c =
    let old : Contents = g.D.Terms.contents c.args.derives.now in
    let m : Contents = g.D.Terms.contents c.ask_form.new.derives in
    let d : Contents = g.D.Terms.contents c.reduct_of.new.derives in
    let w : Place = (g.D.Looks.sight (g.D.Terms.rest c.args.derives.now)).basis.place in
    let w2 : Place = (g.D.Looks.sight (g.D.Terms.rest c.reduct_of.new.derives)).basis.place in
    let last : Option ℕ = (g.D.Looks.sight (g.D.Terms.rest c.ask_form.new.derives)).last in
    let f : Name = name_at old c.args.name in
    let e : Tree = tree_at old c.args.e in
    let s : Tree = tree_at old c.args.major in
    let W : Tree = tree_at m c.in_ok-form.form in
    let asked = c.ask_form.ensures.leaves.keeps in
    let made = c.reduct_of.ensures.leaves.keeps in
    let e1 : tree_at m c.args.e ≡ e = asked.trees.same c.args.e c.requires.e_in in
    let s1 : tree_at m c.args.major ≡ s = asked.trees.same c.args.major c.requires.major_in in
    let f1 : name_at m c.args.name ≡ f = asked.names.same c.args.name c.requires.name_in in
    let longer = asked.trees.longer in
    let more = asked.names.longer in
    let e_in = c.requires.e_in in
    let s_in = c.requires.major_in in
    let f_in = c.requires.name_in in
    let a : AtForm w d c.ask_form.new.row c.args.enough f e s W (reduct_at w last e W) =
    at_form w c.args.enough f old m d c.args.row.now c.ask_form.new.row e s W last c.requires.stated c.requires.empty c.requires.at c.in_ok-form.ensures.asks made in
    let found : Some (tree_at d c.in-Some.next) ≡ reduct_at w last e W =
    ap (option_map (tree_at d)) (sym c.in-Some.is) ∙ c.in_ok-next.ensures.is ∙ ap (λ z. reduct_at z last (tree_at m c.args.e) W) c.ask_form.ensures.leaves.place ∙ ap (λ z. reduct_at w last z W) e1 in
    form_moved w w2 d c.ask_form.new.row c.args.enough f (name_at d c.args.name) e (tree_at d c.args.e) s (tree_at d c.args.major) W (tree_at d c.in_ok-form.form) (reduct_at w last e W) (Some (tree_at d c.in-Some.next))
    (c.reduct_of.ensures.leaves.place ∙ c.ask_form.ensures.leaves.place) (made.names.same c.args.name (omega arith) ∙ f1) (made.trees.same c.args.e (omega arith) ∙ e1) (made.trees.same c.args.major (omega arith) ∙ s1)
    (made.trees.same c.in_ok-form.form c.in_ok-form.ensures.known) found a

pub returns-in-None-clause-whole : goal.returns-in-None-clause-whole
returns-in-None-clause-whole g c =
    let old : Contents = g.D.Terms.contents c.args.derives.now in
    let m : Contents = g.D.Terms.contents c.ask_form.new.derives in
    let d : Contents = g.D.Terms.contents c.reduct_of.new.derives in
    let w : Place = (g.D.Looks.sight (g.D.Terms.rest c.args.derives.now)).basis.place in
    let last : Option ℕ = (g.D.Looks.sight (g.D.Terms.rest c.ask_form.new.derives)).last in
    let f : Name = name_at old c.args.name in
    let e : Tree = tree_at old c.args.e in
    let s : Tree = tree_at old c.args.major in
    let W : Tree = tree_at m c.in_ok-form.form in
    let e1 : tree_at m c.args.e ≡ e = c.ask_form.ensures.leaves.keeps.trees.same c.args.e c.requires.e_in in
    let a : AtForm w d c.ask_form.new.row c.args.enough f e s W (reduct_at w last e W) =
    at_form w c.args.enough f old m d c.args.row.now c.ask_form.new.row e s W last c.requires.stated c.requires.empty c.requires.at c.in_ok-form.ensures.asks c.reduct_of.ensures.leaves.keeps in
    let none : None ≡ reduct_at w last e W =
    ap (option_map (tree_at d)) (sym c.in-None.is) ∙ c.in_ok-next.ensures.is ∙ ap (λ z. reduct_at z last (tree_at m c.args.e) W) c.ask_form.ensures.leaves.place ∙ ap (λ z. reduct_at w last z W) e1 in
    form_stays w d c.ask_form.new.row c.args.enough f e s W (subst (λ o. AtForm w d c.ask_form.new.row c.args.enough f e s W o) (sym none) a)
