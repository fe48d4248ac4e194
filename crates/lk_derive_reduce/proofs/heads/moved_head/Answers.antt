use Rattle.std.proofs.Common.{◌≡◌, [], ◌∷◌, ap, ◌∙◌}
use Rattle.lk_tree.specs.Tree.{Tree}
use Rattle.lk_tree.specs.Spine.{head, args, apply}
use Rattle.lk_rulebook.specs.Place.{Place}
use Rattle.lk_rulebook.specs.Claims.{reduces}
use Rattle.lk_store.specs.Contents.{Contents, tree_at}
use Rattle.lk_premises.specs.Claims.{claims_at}
use Rattle.lk_step.proofs.PartsIn.{part_stays}
use Rattle.lk_derive_reduce.proofs.CoreRows.{answered_at, follows_at, head_goes}
use Rattle.lk_derive_reduce.proofs.heads.moved_head.Goals as goal

pub then_core-requires-clause-answered : goal.then_core-requires-clause-answered
then_core-requires-clause-answered g c =
    let t = tree_at (g.D.Terms.contents c.args.derives.now) in
    let w : Place = (g.D.Looks.sight (g.D.Terms.rest c.args.derives.now)).basis.place in
    let w' : Place = (g.D.Looks.sight (g.D.Terms.rest c.with_head.new.terms)).basis.place in
    answered_at w w' c.args.enough (apply (t c.args.form) (args (t c.args.e))) (tree_at (g.D.Terms.contents c.with_head.new.terms) c.in_ok-next.next)
    (ap (λ z. (g.D.Looks.sight z).basis.place) c.with_head.ensures.rest) c.in_ok-next.ensures.ok.is c.requires.answered

pub returns-clause-goes : goal.returns-clause-goes
returns-clause-goes g c =
    let old : Contents = g.D.Terms.contents c.args.derives.now in
    let m : Contents = g.D.Terms.contents c.with_head.new.terms in
    let d : Contents = g.D.Terms.contents c.then_core.new.derives in
    let t = tree_at old in
    let w : Place = (g.D.Looks.sight (g.D.Terms.rest c.args.derives.now)).basis.place in
    let w' : Place = (g.D.Looks.sight (g.D.Terms.rest c.with_head.new.terms)).basis.place in
    let e : Tree = t c.args.e in
    let f : Tree = t c.args.form in
    let r : Tree = apply f (args e) in
    let kept = c.with_head.ensures.keeps.trees.same in
    let at_e : tree_at m c.args.e ≡ e = kept c.args.e c.requires.e_in in
    let at_h : tree_at m c.args.front ≡ head e = kept c.args.front c.requires.front_in ∙ c.requires.front_is in
    let at_f : tree_at m c.args.form ≡ f = kept c.args.form c.requires.form_in in
    let claims : claims_at m c.in_ok-premises.premises.items ≡ reduces (head e) f ∷ [] =
    c.in_ok-premises.ensures.are m ∙ ap (λ (z : Tree). reduces z (tree_at m c.args.form) ∷ []) at_h ∙ ap (λ (z : Tree). reduces (head e) z ∷ []) at_f in
    head_goes w old m d c.args.row.now c.add_step.new.row c.then_core.new.row e f
    (λ xs n p. part_stays w old m c.with_head.ensures.keeps c.args.row.now xs n p)
    (λ holds. c.in_ok-add_step.ensures w e r (reduces (head e) f ∷ []) at_e c.in_ok-next.ensures.ok.is claims holds)
    (follows_at w w' m d c.add_step.new.row c.then_core.new.row e (tree_at m c.args.e) r (tree_at m c.in_ok-next.next)
    (ap (λ z. (g.D.Looks.sight z).basis.place) c.with_head.ensures.rest) at_e c.in_ok-next.ensures.ok.is c.in_ok-then_core.ensures.follows)
