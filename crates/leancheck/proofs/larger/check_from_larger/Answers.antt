use Rattle.std.proofs.Common.{map, ap, sym, subst, ◌<◌, ◌∙◌}
use Rattle.lk_tree.specs.Tree.{param}
use Rattle.lk_store.specs.Contents.{IsList}
use Rattle.lk_subst.specs.Numbers.{trees-steady}
use Rattle.lk_env.specs.Units.{type_at}
use Rattle.lk_env.proofs.Stays.{types_stay, types_in_stay, recursors_stay, recursors_in_stay}
use Rattle.lk_inductive.specs.Block.{levels_of, AreLocals}
use Rattle.lk_mentions.proofs.TypeNames.{numbers_of}
use Rattle.lk_block.specs.Wholes.{block_of}
use Rattle.leancheck.proofs.PartsStay.{parts_stay, parts_in_stay}
use Rattle.leancheck.proofs.StageMoves.{larger_moved}
use Rattle.leancheck.proofs.Staging.{same_table, same_basis}
use Rattle.leancheck.proofs.larger.check_from_larger.Goals as goal

pub check_with_levels-requires-clause-types_in : goal.check_with_levels-requires-clause-types_in
check_with_levels-requires-clause-types_in g c = types_in_stay _ _ c.in_ok-levels.ensures.keeps c.args.block.now.types.items c.requires.types_in

pub check_with_levels-requires-clause-stated_in : goal.check_with_levels-requires-clause-stated_in
check_with_levels-requires-clause-stated_in g c = recursors_in_stay _ _ c.in_ok-levels.ensures.keeps c.args.block.now.recursors.value.items c.requires.stated_in

pub check_with_levels-requires-clause-parts_in : goal.check_with_levels-requires-clause-parts_in
check_with_levels-requires-clause-parts_in g c = parts_in_stay _ _ c.in_ok-levels.ensures.keeps c.args.parts c.requires.parts_in

pub check_with_levels-requires-clause-locals : goal.check_with_levels-requires-clause-locals
check_with_levels-requires-clause-locals g c =
    subst AreLocals (sym (trees-steady _ _ c.args.parts.parameters.items c.in_ok-levels.ensures.keeps c.requires.parts_in.parameters_in)) c.requires.locals

pub check_with_levels-requires-clause-names_are : goal.check_with_levels-requires-clause-names_are
check_with_levels-requires-clause-names_are g c = c.in_ok-names.ensures ∙ ap numbers_of c.deref.ensures.value

pub check_with_levels-requires-clause-own_levels_are : goal.check_with_levels-requires-clause-own_levels_are
check_with_levels-requires-clause-own_levels_are g c =
    let at = g.F.Terms.contents c.args.asks.now in
    let grown = g.F.Terms.contents c.own_levels.new.asks in
    subst (λ us. IsList grown c.in_ok-levels.levels (map param (levels_of (block_of us))))
    (ap (map (type_at at)) c.deref-2.ensures.value ∙ sym (types_stay at grown c.in_ok-levels.ensures.keeps c.args.block.now.types.items c.requires.types_in)) c.in_ok-levels.ensures.ok

pub returns-clause-outcome : goal.returns-clause-outcome
returns-clause-outcome g c fuel enough =
    let at = g.F.Terms.contents c.args.asks.now in
    let grown = g.F.Terms.contents c.own_levels.new.asks in
    let x = c.in_ok-levels.ensures.keeps in
    let stays = c.in_ok-levels.ensures.stays in
    larger_moved fuel c.check_with_levels.result (same_table stays) (ap (g.F.Asks.places) (same_basis stays))
    (ap block_of (types_stay at grown x c.args.block.now.types.items c.requires.types_in))
    (recursors_stay at grown x c.args.block.now.recursors.value.items c.requires.stated_in)
    (parts_stay at grown x c.args.parts c.requires.parts_in) c.in_ok-levels.ensures.left
    (c.check_with_levels.ensures.outcome fuel (subst (λ n. n < fuel) (sym c.in_ok-levels.ensures.left) enough))
