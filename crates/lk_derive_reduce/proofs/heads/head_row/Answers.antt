use Rattle.std.proofs.Common.{◌≡◌, true, false, sym, subst, ap, ◌∙◌}
use Rattle.lk_tree.specs.Tree.{Tree}
use Rattle.lk_tree.specs.Spine.{head, args, apply}
use Rattle.lk_rulebook.specs.Place.{Place}
use Rattle.lk_questions.specs.Steps.{is_same_tree}
use Rattle.lk_store.specs.Contents.{Contents, tree_at}
use Rattle.lk_step.specs.Parts.{AsksCore}
use Rattle.lk_derive_reduce.specs.Forms.{HeadRun}
use Rattle.lk_derive_reduce.proofs.CoreRuns.{head_run}
use Rattle.lk_derive_reduce.proofs.CoreRows.{answered_at, head_within, head_asks, head_stays_whole, head_moves_whole, asks_of, heads_at}
use Rattle.lk_derive_reduce.proofs.heads.head_row.Goals as goal

pub ask_core-requires-clause-answered : goal.ask_core-requires-clause-answered
ask_core-requires-clause-answered g c =
    let t = tree_at (g.D.Terms.contents c.args.derives.now) in
    let w : Place = (g.D.Looks.sight (g.D.Terms.rest c.args.derives.now)).basis.place in
    let h : HeadRun w c.args.enough (t c.args.e) = head_run w c.args.enough (t c.args.e) c.requires.applied c.requires.stuck c.requires.claimed in
    head_within w c.args.enough (t c.args.e) (t c.head-front.result) c.head-front.ensures.is h

pub returns-then-same_tree-clause-whole : goal.returns-then-same_tree-clause-whole
returns-then-same_tree-clause-whole g c =
    let old : Contents = g.D.Terms.contents c.args.derives.now in
    let m : Contents = g.D.Terms.contents c.ask_core.new.derives in
    let t = tree_at old in
    let w : Place = (g.D.Looks.sight (g.D.Terms.rest c.args.derives.now)).basis.place in
    let f : Tree = tree_at m c.in_ok-form.form in
    let h : HeadRun w c.args.enough (t c.args.e) = head_run w c.args.enough (t c.args.e) c.requires.applied c.requires.stuck c.requires.claimed in
    let a : AsksCore w old m c.args.row.now c.ask_core.new.row (head (t c.args.e)) f = asks_of w old m c.args.row.now c.ask_core.new.row (head (t c.args.e)) (t c.head-front.result) f c.head-front.ensures.is c.in_ok-form.ensures.asks in
    let at_h : tree_at m c.head-front.result ≡ head (t c.args.e) = c.ask_core.ensures.leaves.keeps.trees.same c.head-front.result c.head-front.ensures.known ∙ c.head-front.ensures.is in
    let same : is_same_tree f (tree_at m c.head-front.result) ≡ true = sym c.same_tree.ensures ∙ c.if-same_tree.true in
    head_stays_whole w c.args.enough old m c.args.row.now c.ask_core.new.row (t c.args.e) f c.requires.empty c.requires.claimed h a (subst (λ z. is_same_tree f z ≡ true) at_h same)

pub moved_head-requires-clause-answered : goal.moved_head-requires-clause-answered
moved_head-requires-clause-answered g c =
    let old : Contents = g.D.Terms.contents c.args.derives.now in
    let m : Contents = g.D.Terms.contents c.ask_core.new.derives in
    let t = tree_at old in
    let w : Place = (g.D.Looks.sight (g.D.Terms.rest c.args.derives.now)).basis.place in
    let w' : Place = (g.D.Looks.sight (g.D.Terms.rest c.ask_core.new.derives)).basis.place in
    let f : Tree = tree_at m c.in_ok-form.form in
    let e : Tree = t c.args.e in
    let h : HeadRun w c.args.enough e = head_run w c.args.enough e c.requires.applied c.requires.stuck c.requires.claimed in
    let a : AsksCore w old m c.args.row.now c.ask_core.new.row (head e) f = asks_of w old m c.args.row.now c.ask_core.new.row (head e) (t c.head-front.result) f c.head-front.ensures.is c.in_ok-form.ensures.asks in
    let kept = c.ask_core.ensures.leaves.keeps.trees.same in
    let at_h : tree_at m c.head-front.result ≡ head e = kept c.head-front.result c.head-front.ensures.known ∙ c.head-front.ensures.is in
    let at_e : tree_at m c.args.e ≡ e = kept c.args.e c.requires.e_in in
    let other : is_same_tree f (tree_at m c.head-front.result) ≡ false = sym c.same_tree.ensures ∙ c.if-same_tree.false in
    answered_at w w' c.args.enough (apply f (args e)) (apply f (args (tree_at m c.args.e))) c.ask_core.ensures.leaves.place (ap (λ z. apply f (args z)) at_e)
    (head_asks w c.args.enough old m c.args.row.now c.ask_core.new.row e f h a (subst (λ z. is_same_tree f z ≡ false) at_h other))

pub returns-clause-whole : goal.returns-clause-whole
returns-clause-whole g c =
    let old : Contents = g.D.Terms.contents c.args.derives.now in
    let m : Contents = g.D.Terms.contents c.ask_core.new.derives in
    let d : Contents = g.D.Terms.contents c.moved_head.new.derives in
    let t = tree_at old in
    let w : Place = (g.D.Looks.sight (g.D.Terms.rest c.args.derives.now)).basis.place in
    let w' : Place = (g.D.Looks.sight (g.D.Terms.rest c.ask_core.new.derives)).basis.place in
    let f : Tree = tree_at m c.in_ok-form.form in
    let e : Tree = t c.args.e in
    let h : HeadRun w c.args.enough e = head_run w c.args.enough e c.requires.applied c.requires.stuck c.requires.claimed in
    let a : AsksCore w old m c.args.row.now c.ask_core.new.row (head e) f = asks_of w old m c.args.row.now c.ask_core.new.row (head e) (t c.head-front.result) f c.head-front.ensures.is c.in_ok-form.ensures.asks in
    let kept = c.ask_core.ensures.leaves.keeps.trees.same in
    let at_h : tree_at m c.head-front.result ≡ head e = kept c.head-front.result c.head-front.ensures.known ∙ c.head-front.ensures.is in
    let at_e : tree_at m c.args.e ≡ e = kept c.args.e c.requires.e_in in
    let other : is_same_tree f (tree_at m c.head-front.result) ≡ false = sym c.same_tree.ensures ∙ c.if-same_tree.false in
    head_moves_whole w c.args.enough old m d c.args.row.now c.ask_core.new.row c.moved_head.new.row e f c.requires.stated c.requires.empty c.requires.applied c.requires.claimed h a (subst (λ z. is_same_tree f z ≡ false) at_h other)
    (heads_at w w' m d c.ask_core.new.row c.moved_head.new.row e (tree_at m c.args.e) f c.ask_core.ensures.leaves.place at_e c.in_ok-moved_head.ensures.goes)
