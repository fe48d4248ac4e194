use Rattle.std.proofs.Common.{refl, ap, sym, ◌∙◌, map}
use Rattle.lk_tree.specs.Spine.{apply}
use Rattle.lk_store.specs.Contents.{Contents, tree_at}
use Rattle.lk_subst.specs.Numbers.{trees-steady}
use Rattle.lk_derive_iota.proofs.Growing.{reduced_on, stated_at, whole_at, follows_at}
use Rattle.lk_derive_iota.proofs.RuleRuns.{before_whole}
use Rattle.lk_derive_iota.proofs.ctors.go_behind.Goals as goal

pub state_head-requires-clause-reduced : goal.state_head-requires-clause-reduced
state_head-requires-clause-reduced g c =
    reduced_on (ap (λ r. (g.D.Looks.sight r).basis.place) c.apply.ensures.rest) c.apply.ensures.keeps (c.apply.ensures.keeps.trees.same c.args.made c.requires.made_in) c.requires.reduced

pub state_head-requires-clause-next_is : goal.state_head-requires-clause-next_is
state_head-requires-clause-next_is g c =
    let old : Contents = g.D.Terms.contents c.args.derives.now in
    let d : Contents = g.D.Terms.contents c.apply.new.terms in
    let keeps = c.apply.ensures.keeps in
    let items = c.args.redex.now.behind.items in
    record {
      is = c.in_ok-next.ensures.ok.is ∙ ap (λ ns. apply (tree_at old c.args.made) (map (tree_at old) ns)) c.deref.ensures.value
          ∙ ap (apply (tree_at old c.args.made)) (sym (trees-steady old d items keeps c.requires.reduced.behind_are.known))
          ∙ ap (λ z. apply z (map (tree_at d) items)) (sym (keeps.trees.same c.args.made c.requires.made_in));
    }

pub returns-clause-whole : goal.returns-clause-whole
returns-clause-whole g c =
    let m : Contents = g.D.Terms.contents c.apply.new.terms in
    let d : Contents = g.D.Terms.contents c.then_core.new.derives in
    let place = ap (λ r. (g.D.Looks.sight r).basis.place) c.apply.ensures.rest in
    let h = c.in_ok-state_head.ensures in
    let u = c.args.redex.now in
    let app = c.apply.ensures.keeps.trees.same u.application c.requires.reduced.application_is.known in
    whole_at (sym place) (sym app ∙ h.application_is.is) (before_whole d c.then_core.new.row h (stated_at place c.requires.stated) (follows_at refl (sym h.application_is.is) refl c.in_ok-then_core.ensures.follows))
