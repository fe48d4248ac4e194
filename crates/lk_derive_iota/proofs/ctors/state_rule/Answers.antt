use Rattle.std.proofs.Common.{◌≡◌, [], ap, ◌∙◌}
use Rattle.lk_tree.specs.Tree.{Tree, app}
use Rattle.lk_rulebook.specs.Place.{Place}
use Rattle.lk_rulebook.specs.Structures.{on_major}
use Rattle.lk_store.specs.Contents.{Contents, tree_at}
use Rattle.lk_premises.specs.Claims.{claims_at}
use Rattle.lk_derive_iota.proofs.Growing.{chains_at}
use Rattle.lk_derive_iota.proofs.RuleRuns.{rule_reduced}
use Rattle.lk_derive_iota.proofs.ctors.state_rule.Goals as goal

pub returns-clause-reduced : goal.returns-clause-reduced
returns-clause-reduced g c =
    let w : Place = (g.D.Looks.sight (g.D.Terms.rest c.args.derives.now)).basis.place in
    let old : Contents = g.D.Terms.contents c.args.derives.now in
    let d : Contents = g.D.Terms.contents c.make.new.self in
    let keeps = c.make.ensures.keeps in
    let u = c.args.redex.now in
    let x : Tree = tree_at old c.args.x in
    let v : Tree = tree_at old c.args.made in
    let made : tree_at d c.args.made ≡ v = keeps.trees.same c.args.made c.requires.made_in in
    rule_reduced d c.state_step.new.row c.chain.new.row c.requires.at keeps (λ R f r_at f_at holds.
    let next : tree_at d c.in_ok-next.next ≡ on_major R x = c.in_ok-next.ensures.ok.is ∙ ap (λ z. app z x) f_at.is in (
      c.in_ok-state_step.ensures w (on_major R x) v [] next made (ap (claims_at d) c.no_premise.ensures) holds,
      chains_at (keeps.trees.same u.reached r_at.known ∙ r_at.is) next made c.in_ok-chain.ensures,
    ))
