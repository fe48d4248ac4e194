use Rattle.std.proofs.Common.{◌≡◌, Option, Some, None, sym, subst, ap, ◌∙◌, arith}
use Rattle.std.specs.Prelude.{ℕ, option_map}
use Rattle.lk_tree.specs.Tree.{Tree}
use Rattle.lk_rulebook.specs.Place.{Place}
use Rattle.lk_rulebook.specs.WellStated.{WellStated}
use Rattle.lk_store.specs.Contents.{Contents, tree_at}
use Rattle.lk_derive_reduce.specs.Projections.{field_at, AtSubject}
use Rattle.lk_derive_reduce.proofs.ProjectionRuns.{subject_within, at_subject, subject_at, projection_stays, whole_at}
use Rattle.lk_derive_reduce.proofs.projections.projection_row.Goals as goal

pub ask_form-requires-clause-answered : goal.ask_form-requires-clause-answered
ask_form-requires-clause-answered g c =
    let t = tree_at (g.D.Terms.contents c.args.derives.now) in
    let w : Place = (g.D.Looks.sight (g.D.Terms.rest c.args.derives.now)).basis.place in
    subject_within w c.args.enough (t c.args.e) (t c.args.subject) c.requires.is c.requires.claimed

pub take_field-requires-clause-stated : goal.take_field-requires-clause-stated
take_field-requires-clause-stated g c = subst WellStated (sym (c.field_of.ensures.leaves.place ∙ c.ask_form.ensures.leaves.place)) c.requires.stated

pub take_field-requires-clause-at : goal.take_field-requires-clause-at
take_field-requires-clause-at g c =
    let old : Contents = g.D.Terms.contents c.args.derives.now in
    let m : Contents = g.D.Terms.contents c.ask_form.new.derives in
    let d : Contents = g.D.Terms.contents c.field_of.new.derives in
    let w : Place = (g.D.Looks.sight (g.D.Terms.rest c.args.derives.now)).basis.place in
    let w1 : Place = (g.D.Looks.sight (g.D.Terms.rest c.ask_form.new.derives)).basis.place in
    let w2 : Place = (g.D.Looks.sight (g.D.Terms.rest c.field_of.new.derives)).basis.place in
    let last : Option ℕ = (g.D.Looks.sight (g.D.Terms.rest c.ask_form.new.derives)).last in
    let e : Tree = tree_at old c.args.e in
    let s : Tree = tree_at old c.args.subject in
    let W : Tree = tree_at m c.in_ok-form.form in
    let e1 : tree_at m c.args.e ≡ e = c.ask_form.ensures.leaves.keeps.trees.same c.args.e c.requires.e_in in
    let s1 : tree_at m c.args.subject ≡ s = c.ask_form.ensures.leaves.keeps.trees.same c.args.subject c.requires.subject_in in
    let kept = c.field_of.ensures.leaves.keeps.trees in
    let longer = c.ask_form.ensures.leaves.keeps.trees.longer in
    let e_in = c.requires.e_in in
    let s_in = c.requires.subject_in in
    let a : AtSubject w d c.ask_form.new.row c.args.enough e s W (field_at w last e W) =
    at_subject w c.args.enough old m d c.args.row.now c.ask_form.new.row e s W last c.requires.stated c.requires.empty c.requires.is c.requires.claimed c.in_ok-form.ensures.asks c.field_of.ensures.leaves.keeps in
    let found : Some (tree_at d c.in-Some.field) ≡ field_at w last e W =
    ap (option_map (tree_at d)) (sym c.in-Some.is) ∙ c.in_ok-field.ensures.is ∙ ap (λ z. field_at z last (tree_at m c.args.e) W) c.ask_form.ensures.leaves.place ∙ ap (λ z. field_at w last z W) e1 in
    subject_at w w2 d c.ask_form.new.row c.args.enough e (tree_at d c.args.e) s (tree_at d c.args.subject) W (tree_at d c.in_ok-form.form) (field_at w last e W) (Some (tree_at d c.in-Some.field))
    (c.field_of.ensures.leaves.place ∙ c.ask_form.ensures.leaves.place) (kept.same c.args.e (omega arith) ∙ e1) (kept.same c.args.subject (omega arith) ∙ s1) (kept.same c.in_ok-form.form c.in_ok-form.ensures.known) found a

pub returns-in-Some-clause-whole : goal.returns-in-Some-clause-whole
returns-in-Some-clause-whole g c =
    let old : Contents = g.D.Terms.contents c.args.derives.now in
    let m : Contents = g.D.Terms.contents c.ask_form.new.derives in
    let d : Contents = g.D.Terms.contents c.field_of.new.derives in
    let d2 : Contents = g.D.Terms.contents c.take_field.new.derives in
    let w : Place = (g.D.Looks.sight (g.D.Terms.rest c.args.derives.now)).basis.place in
    let w2 : Place = (g.D.Looks.sight (g.D.Terms.rest c.field_of.new.derives)).basis.place in
    let longer = c.ask_form.ensures.leaves.keeps.trees.longer in
    let e_in = c.requires.e_in in
    let same : tree_at d c.args.e ≡ tree_at old c.args.e = c.field_of.ensures.leaves.keeps.trees.same c.args.e (omega arith) ∙ c.ask_form.ensures.leaves.keeps.trees.same c.args.e c.requires.e_in in
    whole_at w w2 d2 c.take_field.new.row c.take_field.result (tree_at old c.args.e) (tree_at d c.args.e) (c.field_of.ensures.leaves.place ∙ c.ask_form.ensures.leaves.place) same c.take_field.ensures.whole

pub returns-in-None-clause-whole : goal.returns-in-None-clause-whole
returns-in-None-clause-whole g c =
    let old : Contents = g.D.Terms.contents c.args.derives.now in
    let m : Contents = g.D.Terms.contents c.ask_form.new.derives in
    let d : Contents = g.D.Terms.contents c.field_of.new.derives in
    let w : Place = (g.D.Looks.sight (g.D.Terms.rest c.args.derives.now)).basis.place in
    let last : Option ℕ = (g.D.Looks.sight (g.D.Terms.rest c.ask_form.new.derives)).last in
    let e : Tree = tree_at old c.args.e in
    let s : Tree = tree_at old c.args.subject in
    let W : Tree = tree_at m c.in_ok-form.form in
    let e1 : tree_at m c.args.e ≡ e = c.ask_form.ensures.leaves.keeps.trees.same c.args.e c.requires.e_in in
    let a : AtSubject w d c.ask_form.new.row c.args.enough e s W (field_at w last e W) =
    at_subject w c.args.enough old m d c.args.row.now c.ask_form.new.row e s W last c.requires.stated c.requires.empty c.requires.is c.requires.claimed c.in_ok-form.ensures.asks c.field_of.ensures.leaves.keeps in
    let none : None ≡ field_at w last e W =
    ap (option_map (tree_at d)) (sym c.in-None.is) ∙ c.in_ok-field.ensures.is ∙ ap (λ z. field_at z last (tree_at m c.args.e) W) c.ask_form.ensures.leaves.place ∙ ap (λ z. field_at w last z W) e1 in
    projection_stays w d c.ask_form.new.row c.args.enough e s W (subst (λ o. AtSubject w d c.ask_form.new.row c.args.enough e s W o) (sym none) a)
