use Rattle.std.proofs.Common.{◌≡◌, Some, None, ap, sym, subst, ◌∙◌, nat_eq, length, true}
use Rattle.std.specs.Prelude.{option_map}
use Rattle.lk_tree.specs.Spine.{args}
use Rattle.lk_store.specs.Contents.{Contents, level_at, list_at, tree_at}
use Rattle.lk_derive_iota.specs.Expanding.{sort_level}
use Rattle.lk_derive_iota.proofs.Growing.{stated_at}
use Rattle.lk_derive_iota.proofs.KRuns.{constructor_on}
use Rattle.lk_derive_iota.proofs.SRuns.{sort_within, sort_there, parent_on, has_on, sort_is, expanded_at}
use Rattle.lk_derive_iota.proofs.structures.by_sort.Goals as goal

pub typed_form-requires-clause-typed : goal.typed_form-requires-clause-typed
typed_form-requires-clause-typed g c =
    let d : Contents = g.D.Terms.contents c.args.derives.now in
    let h = c.requires.at in
    let T = tree_at d c.args.ty in
    sort_within c.args.constructor T (list_at d c.args.levels) h (subst (λ p. nat_eq (length (args T)) p ≡ true) h.is.parameters_are c.requires.count)

pub by_level-requires-clause-stated : goal.by_level-requires-clause-stated
by_level-requires-clause-stated g c = stated_at c.typed_form.ensures.leaves.place c.requires.stated

pub by_level-requires-clause-constructor_in : goal.by_level-requires-clause-constructor_in
by_level-requires-clause-constructor_in g c = constructor_on c.typed_form.ensures.leaves.keeps c.requires.constructor_in

pub by_level-requires-clause-at : goal.by_level-requires-clause-at
by_level-requires-clause-at g c =
    let leaves = c.typed_form.ensures.leaves in
    parent_on leaves.place leaves.library leaves.keeps (leaves.keeps.trees.same c.args.m c.requires.m_in) (leaves.keeps.trees.same c.args.ty c.requires.ty_in) (leaves.keeps.lists.same c.args.levels c.requires.levels_in) c.requires.constructor_in c.requires.at

pub by_level-requires-clause-count : goal.by_level-requires-clause-count
by_level-requires-clause-count g c =
    subst (λ T. nat_eq (length (args T)) c.args.constructor.parameters ≡ true) (sym (c.typed_form.ensures.leaves.keeps.trees.same c.args.ty c.requires.ty_in)) c.requires.count

pub by_level-requires-clause-sorted : goal.by_level-requires-clause-sorted
by_level-requires-clause-sorted g c =
    let m : Contents = g.D.Terms.contents c.typed_form.new.derives in
    let leaves = c.typed_form.ensures.leaves in
    let level : sort_level (tree_at m c.in_ok-sort.sort) ≡ Some (level_at m c.in-Some.level) = c.level_of-level.ensures.is ∙ ap (option_map (level_at m)) c.in-Some.is in
    has_on leaves.place (leaves.keeps.trees.same c.args.ty c.requires.ty_in) (sym (sort_is (tree_at m c.in_ok-sort.sort) (level_at m c.in-Some.level) level)) c.in_ok-sort.ensures.told

pub unreachable-requires : goal.unreachable-requires
unreachable-requires g c =
    let d : Contents = g.D.Terms.contents c.args.derives.now in
    let m : Contents = g.D.Terms.contents c.typed_form.new.derives in
    let h = c.requires.at in
    let T = tree_at d c.args.ty in
    let none : sort_level (tree_at m c.in_ok-sort.sort) ≡ None = c.level_of-level.ensures.is ∙ ap (option_map (level_at m)) c.in-None.is in
    sort_there c.args.constructor T (list_at d c.args.levels) h (subst (λ p. nat_eq (length (args T)) p ≡ true) h.is.parameters_are c.requires.count) (tree_at m c.in_ok-sort.sort) c.in_ok-sort.ensures.told none

pub returns-clause-is : goal.returns-clause-is
returns-clause-is g c =
    let leaves = c.typed_form.ensures.leaves in
    let d = g.D.Terms.contents c.by_level.new.derives in
    expanded_at d c.args.row.now c.args.enough c.args.redex.now (tree_at d c.args.m) (tree_at d) c.by_level.result leaves.place leaves.library c.by_level.ensures.is
