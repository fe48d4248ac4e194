use Rattle.std.proofs.Common.{◌≡◌, subst}
use Rattle.std.specs.Prelude.{length, nat_eq, map, false}
use Rattle.lk_tree.specs.Tree.{Tree}
use Rattle.lk_store.specs.Contents.{Contents, tree_at, list_at}
use Rattle.lk_store.proofs.Extending.{Extends-trans}
use Rattle.lk_env.specs.Units.{rule_at}
use Rattle.lk_derive_iota.proofs.Growing.{under_way_grows}
use Rattle.lk_derive_iota.proofs.RuleRuns.{levels_fit, right_made, ruled, made_by}
use Rattle.lk_derive_iota.proofs.ctors.right_side.Goals as goal

pub unreachable-requires : goal.unreachable-requires
unreachable-requires g c =
    let h = c.requires.at in
    let R = h.under.R in
    let e = rw c.in-None.is at c.in_ok-front.ensures.ok R.entry h.under.redex.entry_is in
    levels_fit h (subst (λ ls. nat_eq (length ls) (length R.entry.levels) ≡ false) h.under.redex.levels_are e)

pub returns-clause-at : goal.returns-clause-at
returns-clause-at g c =
    let h = c.requires.at in
    let k = h.under.redex in
    let R = h.under.R in
    let old : Contents = g.D.Terms.contents c.args.derives.now in
    let d0 : Contents = g.D.Terms.contents c.at_levels.new.self in
    let d1 : Contents = g.D.Terms.contents c.apply.new.terms in
    let d2 : Contents = g.D.Terms.contents c.apply-2.new.terms in
    let rule = rule_at old c.args.placed.rule in
    let fields = c.args.fields.now in
    let v : Tree = tree_at d2 c.in_ok-made.made in
    let x0 = c.at_levels.ensures.keeps in
    let x1 = Extends-trans _ _ _ x0 c.apply.ensures.keeps in
    let x2 = Extends-trans _ _ _ x1 c.apply-2.ensures.keeps in
    let front = (rw c.in-Some.is at c.in_ok-front.ensures.ok R.entry k.entry_is).1.is in
    let is : v ≡ made_by R rule (map (tree_at old) fields) =
    right_made R rule old d0 d1 x0 x1 (list_at old c.args.redex.now.levels) k.levels_are (tree_at d0 c.in-Some.front) (tree_at d1 c.in_ok-shared.shared) v c.args.redex.now.shared.items c.deref.result.now fields
    front c.deref.ensures.value k.shared_are c.requires.fields_in c.in_ok-shared.ensures.ok.is c.in_ok-made.ensures.ok.is in
    under_way_grows x2 (ruled h c.requires.stated v is)
