use Rattle.std.proofs.Common.{◌≡◌, refl, ap, sym, subst, ◌∙◌}
use Rattle.lk_tree.specs.Tree.{Tree}
use Rattle.lk_rulebook.specs.Place.{Place}
use Rattle.lk_questions.specs.Query.{whnf}
use Rattle.lk_questions.specs.Settled.{settle, fails, comes}
use Rattle.lk_questions.specs.Strings.{literal_to_ctor}
use Rattle.lk_ask.specs.Settles.{settled_as}
use Rattle.lk_store.specs.Contents.{Contents, tree_at}
use Rattle.lk_store.proofs.Extending.{Extends-trans}
use Rattle.lk_step.specs.Parts.{AsksForm}
use Rattle.lk_step.specs.Rows.{IsAnswered}
use Rattle.lk_derive_iota.specs.Stages.{HasRead}
use Rattle.lk_derive_iota.proofs.Growing.{within_at}
use Rattle.lk_derive_iota.proofs.MajorRuns.{major_within, has_read, read_not}
use Rattle.lk_derive_iota.proofs.majors.read_major.Goals as goal

pub ask_form-requires-clause-answered : goal.ask_form-requires-clause-answered
ask_form-requires-clause-answered g c =
    let w : Place = (g.D.Looks.sight (g.D.Terms.rest c.args.derives.now)).basis.place in
    within_at {w = w} {w' = w} refl (ap whnf c.requires.at.redex.major_is.is) (major_within c.requires.at)

pub unreachable-requires : goal.unreachable-requires
unreachable-requires g c =
    let h = c.requires.at in
    let w : Place = (g.D.Looks.sight (g.D.Terms.rest c.args.derives.now)).basis.place in
    let m : Contents = g.D.Terms.contents c.ask_form.new.derives in
    let d : Contents = g.D.Terms.contents c.literal_to_ctor.new.looks in
    let W : Tree = tree_at m c.in_ok-form.form in
    let a = c.in_ok-form.ensures.asks in
    let last = (g.D.Looks.sight (g.D.Terms.rest c.ask_form.new.derives)).last in
    let after = (g.D.Looks.sight (g.D.Terms.rest c.literal_to_ctor.new.looks)).last in
    let e = c.in_ok-read.ensures.settles.comes_to ∙ ap (settled_as (tree_at d) after) c.in-Err.is in
    read_not h W a.cost (subst (λ z. IsAnswered w (whnf z) W a.cost) h.redex.major_is.is a.answered) last c.in-Err.field-0
    (subst (λ z. settle z last (literal_to_ctor W) ≡ fails c.in-Err.field-0) c.ask_form.ensures.leaves.place e)

pub returns-clause-reads : goal.returns-clause-reads
returns-clause-reads g c =
    let h = c.requires.at in
    let w : Place = (g.D.Looks.sight (g.D.Terms.rest c.args.derives.now)).basis.place in
    let l = (g.D.Looks.sight (g.D.Terms.rest c.args.derives.now)).basis.library in
    let old : Contents = g.D.Terms.contents c.args.derives.now in
    let m : Contents = g.D.Terms.contents c.ask_form.new.derives in
    let d : Contents = g.D.Terms.contents c.literal_to_ctor.new.looks in
    let W : Tree = tree_at m c.in_ok-form.form in
    let n : Tree = tree_at d c.in-Ok.read in
    let last = (g.D.Looks.sight (g.D.Terms.rest c.ask_form.new.derives)).last in
    let after = (g.D.Looks.sight (g.D.Terms.rest c.literal_to_ctor.new.looks)).last in
    let e = c.in_ok-read.ensures.settles.comes_to ∙ ap (settled_as (tree_at d) after) c.in-Ok.is in
    let keeps = c.in_ok-read.ensures.settles.keeps in
    let same : tree_at d c.in_ok-form.form ≡ W = keeps.trees.same c.in_ok-form.form c.in_ok-form.ensures.known in
    let a : AsksForm w old m c.args.row.now c.ask_form.new.row h.first W = subst (λ z. AsksForm w old m c.args.row.now c.ask_form.new.row z W) h.redex.major_is.is c.in_ok-form.ensures.asks in
    subst (λ z. HasRead w l d c.ask_form.new.row c.args.enough c.args.redex.now z n) (sym same)
    (has_read d c.ask_form.new.row h c.requires.stated m (Extends-trans _ _ _ c.ask_form.ensures.leaves.keeps keeps) keeps W n a last after
    (subst (λ z. settle z last (literal_to_ctor W) ≡ comes after n) c.ask_form.ensures.leaves.place e))
