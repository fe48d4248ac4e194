use Rattle.std.proofs.Common.{◌≡◌, None, refl, sym, subst}
use Rattle.std.specs.Prelude.{OnOk}
use Rattle.lk_questions.specs.Query.{core}
use Rattle.lk_store.specs.Contents.{Contents, tree_at}
use Rattle.lk_step.specs.Parts.{IsWhole}
use Rattle.lk_derive_iota.proofs.Growing.{stated_at, whole_at}
use Rattle.lk_derive_iota.proofs.Expansions.{expanded_there}
use Rattle.lk_derive_iota.proofs.RuleRuns.{none_stays}
use Rattle.lk_derive_iota.proofs.recursors.at_structure.Goals as goal

pub go_expanded-requires-clause-stated : goal.go_expanded-requires-clause-stated
go_expanded-requires-clause-stated g c = stated_at c.expansion_of.ensures.leaves.place c.requires.stated

pub go_expanded-requires-clause-x_in : goal.go_expanded-requires-clause-x_in
go_expanded-requires-clause-x_in g c = (rw c.in-Some.is at c.in_ok-expansion.ensures.is).0

pub go_expanded-requires-clause-expanded : goal.go_expanded-requires-clause-expanded
go_expanded-requires-clause-expanded g c =
    let leaves = c.expansion_of.ensures.leaves in
    expanded_there leaves.place leaves.library (rw c.in-Some.is at c.in_ok-expansion.ensures.is).1

pub returns-in-Some-clause-whole : goal.returns-in-Some-clause-whole
returns-in-Some-clause-whole g c =
    let old : Contents = g.D.Terms.contents c.args.derives.now in
    let m : Contents = g.D.Terms.contents c.expansion_of.new.derives in
    let d : Contents = g.D.Terms.contents c.go_expanded.new.derives in
    let w = (g.D.Looks.sight (g.D.Terms.rest c.args.derives.now)).basis.place in
    let w1 = (g.D.Looks.sight (g.D.Terms.rest c.expansion_of.new.derives)).basis.place in
    let leaves = c.expansion_of.ensures.leaves in
    let app = c.args.redex.now.application in
    let same : tree_at m app ≡ tree_at old app = leaves.keeps.trees.same app c.requires.at.redex.application_is.known in
    subst (λ z. OnOk c.go_expanded.result (IsWhole w d (core z) c.go_expanded.new.row)) same (subst (λ z. OnOk c.go_expanded.result (IsWhole z d (core (tree_at m app)) c.go_expanded.new.row)) leaves.place c.go_expanded.ensures.whole)

pub returns-in-None-clause-whole : goal.returns-in-None-clause-whole
returns-in-None-clause-whole g c =
    let leaves = c.expansion_of.ensures.leaves in
    let app = c.args.redex.now.application in
    whole_at refl (sym (leaves.keeps.trees.same app c.requires.at.redex.application_is.known)) (none_stays None refl (rw c.in-None.is at c.in_ok-expansion.ensures.is))
