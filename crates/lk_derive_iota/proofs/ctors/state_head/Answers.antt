use Rattle.std.proofs.Common.{◌≡◌, refl, ap, sym, subst, ◌∙◌, length, arith}
use Rattle.std.proofs.lemmas.Bool.Decides.{nat_tests}
use Rattle.std.specs.Prelude.{true, false, [], ◌∷◌}
use Rattle.lk_tree.specs.Tree.{Tree}
use Rattle.lk_tree.specs.Spine.{apply}
use Rattle.lk_rulebook.specs.Place.{Place}
use Rattle.lk_rulebook.specs.Claims.{reduces}
use Rattle.lk_questions.specs.Steps.{is_same_tree}
use Rattle.lk_store.specs.Contents.{Contents, tree_at}
use Rattle.lk_derive_iota.proofs.Growing.{before_at, none_listed}
use Rattle.lk_derive_iota.proofs.RuleRuns.{before_none, before_one, before_stated}
use Rattle.lk_derive_iota.proofs.ctors.state_head.Goals as goal

pub returns-then-is_empty : goal.returns-then-is_empty
returns-then-is_empty g c =
    let h = c.requires.reduced in
    let d : Contents = g.D.Terms.contents c.args.derives.now in
    let v : Tree = tree_at d c.args.made in
    let next : tree_at d c.args.next ≡ apply v h.rest = c.requires.next_is.is ∙ ap (apply v) h.behind_are.are in
    let e = c.if-is_empty.true in
    let f = c.is_empty.ensures in
    let ok = c.args.redex.now.behind.ok.0 in
    let none : length c.args.redex.now.behind.items ≡ 0 = grind (arith, nat_tests) in
    before_at refl next (before_none h (none_listed c.args.redex.now.behind.items none))

pub returns-then-same_tree : goal.returns-then-same_tree
returns-then-same_tree g c =
    let h = c.requires.reduced in
    let d : Contents = g.D.Terms.contents c.args.derives.now in
    let v : Tree = tree_at d c.args.made in
    let next : tree_at d c.args.next ≡ apply v h.rest = c.requires.next_is.is ∙ ap (apply v) h.behind_are.are in
    let test : is_same_tree (tree_at d c.args.redex.now.application) (tree_at d c.args.next) ≡ true = sym c.same_tree.ensures ∙ c.if-same_tree.true in
    before_at refl next (before_one h (subst (λ z. is_same_tree h.e z ≡ true) next (subst (λ z. is_same_tree z (tree_at d c.args.next) ≡ true) h.application_is.is test)))

pub returns : goal.returns
returns g c =
    let h = c.requires.reduced in
    let w : Place = (g.D.Looks.sight (g.D.Terms.rest c.args.derives.now)).basis.place in
    let d : Contents = g.D.Terms.contents c.args.derives.now in
    let v : Tree = tree_at d c.args.made in
    let next : tree_at d c.args.next ≡ apply v h.rest = c.requires.next_is.is ∙ ap (apply v) h.behind_are.are in
    let test : is_same_tree (tree_at d c.args.redex.now.application) (tree_at d c.args.next) ≡ false = sym c.same_tree.ensures ∙ c.if-same_tree.false in
    let e = c.if-is_empty.false in
    let f = c.is_empty.ensures in
    let ok = c.args.redex.now.behind.ok.0 in
    let some : length c.args.redex.now.behind.items ≡ 0 → ⊥ = λ z. let no : ⊥ = grind (arith, nat_tests) in no in
    before_at refl next (before_stated c.add_step.new.row h (λ z. some (ap length z))
    (subst (λ z. is_same_tree h.e z ≡ false) next (subst (λ z. is_same_tree z (tree_at d c.args.next) ≡ false) h.application_is.is test))
    (λ holds. c.in_ok-add_step.ensures w h.e (apply v h.rest) (reduces h.from v ∷ []) h.application_is.is next
    (c.in_ok-premises.ensures.are d ∙ ap (λ z. reduces z v ∷ []) h.reached_is.is) holds))
