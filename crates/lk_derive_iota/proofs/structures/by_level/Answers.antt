use Rattle.std.proofs.Common.{◌≡◌, true, nat_eq, length, sym, subst, ◌∙◌}
use Rattle.lk_tree.specs.Spine.{args}
use Rattle.lk_store.specs.Contents.{Contents, level_at, list_at, tree_at}
use Rattle.lk_derive_iota.proofs.SRuns.{s_zero, s_expanded, expansion_is, expanded_on}
use Rattle.lk_derive_iota.proofs.structures.by_level.Goals as goal

pub returns-then-zero-clause-is : goal.returns-then-zero-clause-is
returns-then-zero-clause-is g c =
    let d : Contents = g.D.Terms.contents c.args.derives.now in
    let h = c.requires.at in
    let T = tree_at d c.args.ty in
    let yes : nat_eq (length (args T)) h.b.ctor.parameters ≡ true = subst (λ p. nat_eq (length (args T)) p ≡ true) h.is.parameters_are c.requires.count in
    s_zero c.args.constructor T (list_at d c.args.levels) h yes (level_at d c.args.level) c.requires.sorted (sym c.level_is_zero-zero.ensures ∙ c.if-zero.true)

pub returns-clause-is : goal.returns-clause-is
returns-clause-is g c =
    let d : Contents = g.D.Terms.contents c.args.derives.now in
    let n : Contents = g.D.Terms.contents c.expand.new.looks in
    let h = c.requires.at in
    let keeps = c.expand.ensures.leaves.keeps in
    let T = tree_at d c.args.ty in
    let m = tree_at d c.args.m in
    let x = tree_at n c.in_ok-x.x in
    let ks = list_at d c.args.levels in
    let yes : nat_eq (length (args T)) h.b.ctor.parameters ≡ true = subst (λ p. nat_eq (length (args T)) p ≡ true) h.is.parameters_are c.requires.count in
    let e = s_expanded c.requires.stated c.args.constructor T ks h yes (level_at d c.args.level) c.requires.sorted (sym c.level_is_zero-zero.ensures ∙ c.if-zero.false) x (expansion_is ks m T x h.is c.in_ok-x.ensures.is.is) in
    (c.in_ok-x.ensures.is.known, expanded_on keeps (keeps.trees.same c.args.m c.requires.m_in) e)
