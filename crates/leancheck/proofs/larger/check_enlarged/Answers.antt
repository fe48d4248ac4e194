use Rattle.std.proofs.Common.{map, ap, sym, subst, ◌<◌, ◌∙◌, []}
use Rattle.lk_store.specs.Contents.{tree_at, level_at}
use Rattle.lk_subst.specs.Numbers.{trees-steady}
use Rattle.lk_env.specs.Units.{block_at, type_at, recursor_at}
use Rattle.lk_env.specs.declared.entry.Partial.TheVariants.{Types}
use Rattle.lk_env.proofs.Stays.{types_stay, types_in_stay, recursors_stay}
use Rattle.lk_inductive.specs.Block.{levels_of, AreLocals}
use Rattle.lk_inductive.specs.Enlarged.{setting_of, larger_block}
use Rattle.lk_inductive.specs.Nested.{aux_sorts}
use Rattle.lk_inductive.specs.Restore.{first_name as plain_first, all_stand}
use Rattle.lk_auxiliary.specs.Auxiliaries.{auxs_at}
use Rattle.lk_auxiliary.specs.Settings.{setting_at}
use Rattle.lk_auxiliary.proofs.Others.{auxs_stay, auxs_known}
use Rattle.lk_declaration.specs.Checked.{IsCheckOutcome}
use Rattle.lk_enlarge.specs.Larger.{larger_at}
use Rattle.lk_restore.specs.Originals.{originals_at, AreStanding}
use Rattle.lk_block.specs.Parts.{parts_at}
use Rattle.lk_block.specs.Stages.{stage, shape_stage}
use Rattle.lk_block.specs.Wholes.{block_of}
use Rattle.leancheck.proofs.PartsStay.{parts_stay}
use Rattle.leancheck.proofs.StageMoves.{shape_moved, larger_stays, stand_aside}
use Rattle.leancheck.proofs.Staging.{same_table, same_basis}
use Rattle.leancheck.proofs.larger.check_enlarged.Goals as goal

pub check_with-requires-clause-locals : goal.check_with-requires-clause-locals
check_with-requires-clause-locals g c =
    subst AreLocals (sym (trees-steady _ _ c.args.parts.parameters.items c.in_ok-originals.ensures.keeps c.requires.parts_in.parameters_in)) c.requires.locals

pub check_with-requires-clause-larger_in : goal.check_with-requires-clause-larger_in
check_with-requires-clause-larger_in g c =
    let x = c.in_ok-originals.ensures.keeps in
    record {
      own_in = types_in_stay _ _ x c.args.larger.own.items c.requires.larger_in.own_in;
      auxiliary_in = types_in_stay _ _ x c.args.larger.auxiliary.items c.requires.larger_in.auxiliary_in;
      stand_in = auxs_known _ _ x c.args.larger.stand.items c.requires.larger_in.stand_in;
    }

pub check_with-requires-clause-standing : goal.check_with-requires-clause-standing
check_with-requires-clause-standing g c =
    let at = g.A.Terms.contents c.args.asks.now in
    let grown = g.A.Terms.contents c.originals_between.new.asks in
    let x = c.in_ok-originals.ensures.keeps in
    let params = c.args.parts.parameters.items in
    let there = setting_of (block_at grown c.args.block.now) (map (tree_at grown) params) in
    subst (AreStanding grown there) (sym c.deref-4.ensures.value)
    (stand_aside grown (setting_at at c.setting_with-setting.result) there
    (c.setting_with-setting.ensures.levels at ∙ sym (ap (λ us. levels_of (block_of us)) (types_stay at grown x c.args.block.now.types.items c.requires.types_in)))
    (ap (map (tree_at at)) (c.setting_with-setting.ensures.parameters ∙ c.deref-2.ensures.value) ∙ sym (trees-steady at grown params x c.requires.parts_in.parameters_in))
    c.in_ok-originals.originals.items c.in_ok-originals.ensures.standing)

pub check_with-requires-clause-levels : goal.check_with-requires-clause-levels
check_with-requires-clause-levels g c =
    let at = g.A.Terms.contents c.args.asks.now in
    let grown = g.A.Terms.contents c.originals_between.new.asks in
    let x = c.in_ok-originals.ensures.keeps in
    ap (λ lg. levels_of (larger_block lg)) (larger_stays at grown x c.args.larger c.requires.larger_in) ∙ c.requires.levels
    ∙ sym (ap (λ us. levels_of (block_of us)) (types_stay at grown x c.args.block.now.types.items c.requires.types_in))

pub check_with-requires-clause-originals_are : goal.check_with-requires-clause-originals_are
check_with-requires-clause-originals_are g c =
    let at = g.A.Terms.contents c.args.asks.now in
    let grown = g.A.Terms.contents c.originals_between.new.asks in
    let x = c.in_ok-originals.ensures.keeps in
    let types = c.args.block.now.types.items in
    let stand = c.args.larger.stand.items in
    ap (originals_at grown) c.deref-4.ensures.value ∙ c.in_ok-originals.ensures.are
    ∙ ap (λ as_. all_stand (plain_first (map (type_at at) types)) 0 (auxs_at at as_)) c.deref-3.ensures.value
    ∙ sym (ap (λ us. all_stand (plain_first us) 0 (auxs_at grown stand)) (types_stay at grown x types c.requires.types_in)
    ∙ ap (all_stand (plain_first (map (type_at at) types)) 0) (auxs_stay at grown x stand c.requires.larger_in.stand_in))

pub returns-clause-outcome : goal.returns-clause-outcome
returns-clause-outcome g c fuel enough =
    let at = g.A.Terms.contents c.args.asks.now in
    let grown = g.A.Terms.contents c.originals_between.new.asks in
    let x = c.in_ok-originals.ensures.keeps in
    let stays = c.in_ok-originals.ensures.stays in
    let left = g.A.Asks.left c.args.asks.now in
    let s = g.A.Asks.standing c.args.asks.now in
    let places = g.A.Asks.places s.basis in
    let sorts = sym (ap (λ as_. aux_sorts (level_at at c.args.parts.sort) (auxs_at at as_)) c.deref.ensures.value) ∙ c.in_ok-check_sorts.ensures in
    subst (λ p. IsCheckOutcome (stage s.table places Types [] p left
    (λ y rest. shape_stage s.table places fuel (block_at at c.args.block.now) (map (recursor_at at) c.args.block.now.recursors.value.items) (parts_at at c.args.parts) (larger_at at c.args.larger) rest)) c.check_with.result) (sym sorts)
    (shape_moved fuel c.check_with.result (same_table stays) (ap (g.A.Asks.places) (same_basis stays))
    (ap block_of (types_stay at grown x c.args.block.now.types.items c.requires.types_in))
    (recursors_stay at grown x c.args.block.now.recursors.value.items c.requires.stated_in)
    (parts_stay at grown x c.args.parts c.requires.parts_in)
    (larger_stays at grown x c.args.larger c.requires.larger_in) c.in_ok-originals.ensures.left
    (c.check_with.ensures.outcome fuel (subst (λ n. n < fuel) (sym c.in_ok-originals.ensures.left) enough)))
