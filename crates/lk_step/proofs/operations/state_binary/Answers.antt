use Rattle.std.proofs.Common.{◌≡◌, sym, subst, ap, ◌∙◌}
use Rattle.std.specs.Prelude.{[], ◌∷◌}
use Rattle.lk_tree.specs.Tree.{Tree}
use Rattle.lk_rulebook.specs.Place.{Place}
use Rattle.lk_rulebook.specs.Claims.{reduces}
use Rattle.lk_questions.specs.Query.{whnf}
use Rattle.lk_store.specs.Contents.{Contents, tree_at}
use Rattle.lk_step.specs.Parts.{AsksForm}
use Rattle.lk_step.specs.Told.{IsAnsweredWithin}
use Rattle.lk_step.proofs.Moving.{tree_stays, tree_in}
use Rattle.lk_step.proofs.Stating.{first_within, second_within, binary_states}
use Rattle.lk_step.proofs.operations.state_binary.Goals as goal

pub ask_form-requires-clause-answered : goal.ask_form-requires-clause-answered
ask_form-requires-clause-answered g c =
    let t = tree_at (g.D.Terms.contents c.args.derives.now) in
    let w : Place = (g.D.Looks.sight (g.D.Terms.rest c.args.derives.now)).basis.place in
    first_within w (t c.args.e) (t c.args.value) c.args.enough c.requires.comes (t c.args.first) (t c.args.second ∷ []) c.requires.arguments

pub ask_form-requires-2-clause-answered : goal.ask_form-requires-2-clause-answered
ask_form-requires-2-clause-answered g c =
    let t = tree_at (g.D.Terms.contents c.args.derives.now) in
    let w : Place = (g.D.Looks.sight (g.D.Terms.rest c.args.derives.now)).basis.place in
    let m : Contents = g.D.Terms.contents c.ask_form.new.derives in
    let x = c.ask_form.ensures.leaves in
    let within : IsAnsweredWithin w (whnf (t c.args.second)) c.args.enough = second_within w (t c.args.e) (t c.args.value) c.args.enough c.requires.comes (t c.args.first) (t c.args.second) [] c.requires.arguments in
    subst (λ z. IsAnsweredWithin z (whnf (tree_at m c.args.second)) c.args.enough) (sym x.place)
    (subst (λ z. IsAnsweredWithin w (whnf z) c.args.enough) (sym (x.keeps.trees.same c.args.second c.requires.second_in)) within)

pub returns-clause-asks : goal.returns-clause-asks
returns-clause-asks g c =
    let old : Contents = g.D.Terms.contents c.args.derives.now in
    let t = tree_at old in
    let m : Contents = g.D.Terms.contents c.ask_form.new.derives in
    let d : Contents = g.D.Terms.contents c.ask_form-2.new.derives in
    let w : Place = (g.D.Looks.sight (g.D.Terms.rest c.args.derives.now)).basis.place in
    let w1 : Place = (g.D.Looks.sight (g.D.Terms.rest c.ask_form.new.derives)).basis.place in
    let x = c.ask_form.ensures.leaves in
    let y = c.ask_form-2.ensures.leaves in
    let u = tree_at m c.in_ok-a.a in
    let z = tree_at d c.in_ok-b.b in
    let e1 : tree_at d c.args.e ≡ t c.args.e = tree_stays y c.args.e (tree_in x c.args.e c.requires.e_in) ∙ tree_stays x c.args.e c.requires.e_in in
    let v1 : tree_at d c.args.value ≡ t c.args.value = tree_stays y c.args.value (tree_in x c.args.value c.requires.value_in) ∙ tree_stays x c.args.value c.requires.value_in in
    let a1 : tree_at d c.args.first ≡ t c.args.first = tree_stays y c.args.first (tree_in x c.args.first c.requires.first_in) ∙ tree_stays x c.args.first c.requires.first_in in
    let b1 : tree_at d c.args.second ≡ t c.args.second = tree_stays y c.args.second (tree_in x c.args.second c.requires.second_in) ∙ tree_stays x c.args.second c.requires.second_in in
    let u1 : tree_at d c.in_ok-a.a ≡ u = tree_stays y c.in_ok-a.a c.in_ok-a.ensures.known in
    let second : AsksForm w m d c.ask_form.new.row c.ask_form-2.new.row (t c.args.second) z =
    subst (λ p. AsksForm p m d c.ask_form.new.row c.ask_form-2.new.row (t c.args.second) z) x.place
    (subst (λ (q : Tree). AsksForm w1 m d c.ask_form.new.row c.ask_form-2.new.row q z) (tree_stays x c.args.second c.requires.second_in) c.in_ok-b.ensures.asks) in
    binary_states w old m d c.args.row.now c.ask_form.new.row c.ask_form-2.new.row c.add_step.new.row (t c.args.e) (t c.args.value) (t c.args.first) u (t c.args.second) z c.requires.fine c.requires.arguments c.in_ok-a.ensures.asks second
    (λ holds. c.in_ok-add_step.ensures w (t c.args.e) (t c.args.value) (reduces (t c.args.first) u ∷ reduces (t c.args.second) z ∷ []) e1 v1
    (c.in_ok-premises.ensures.are d ∙ ap (λ p. reduces p (tree_at d c.in_ok-a.a) ∷ reduces (tree_at d c.args.second) z ∷ []) a1
    ∙ ap (λ p. reduces (t c.args.first) p ∷ reduces (tree_at d c.args.second) z ∷ []) u1 ∙ ap (λ p. reduces (t c.args.first) u ∷ reduces p z ∷ []) b1) holds)
