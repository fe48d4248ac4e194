use Rattle.std.proofs.Common.{◌≡◌, [], map, ap, sym, subst, refl, ◌<◌, ◌∙◌, arith}
use Rattle.std.specs.Prelude.{IfSome}
use Rattle.std.proofs.lemmas.Result.{err_from_is_err_and}
use Rattle.lk_tree.specs.Tree.{param}
use Rattle.lk_store.specs.Contents.{tree_at}
use Rattle.lk_subst.specs.Numbers.{trees-steady}
use Rattle.lk_env.specs.Units.{block_at, type_at, recursor_at}
use Rattle.lk_env.specs.declared.entry.Partial.TheVariants.{Types}
use Rattle.lk_env.proofs.Stays.{types_stay, recursors_stay}
use Rattle.lk_inductive.specs.Block.{levels_of, AreLocals}
use Rattle.lk_inductive.specs.Enlarged.{setting_of, larger_block}
use Rattle.lk_inductive.specs.Nested.{enlarge}
use Rattle.lk_inductive.proofs.NothingNested.{nothing_added}
use Rattle.lk_mentions.proofs.TypeNames.{names_grown}
use Rattle.lk_enlarge.specs.Larger.{larger_at, larger_or}
use Rattle.lk_block.specs.Parts.{parts_at}
use Rattle.lk_block.specs.Stages.{auxiliary_stage}
use Rattle.lk_block.specs.Wholes.{block_of}
use Rattle.lk_declaration.specs.Courses.{Goes}
use Rattle.leancheck.proofs.PartsStay.{parts_stay}
use Rattle.leancheck.proofs.StageMoves.{auxiliary_moved}
use Rattle.leancheck.proofs.Staging.{stage_on, stage_stop, same_table, same_basis}
use Rattle.leancheck.proofs.larger.check_with_levels.Goals as goal

pub returns-in_err-find_larger-clause-outcome : goal.returns-in_err-find_larger-clause-outcome
returns-in_err-find_larger-clause-outcome g c fuel enough =
    let at = g.F.Terms.contents c.args.asks.now in
    let s = g.F.Asks.standing c.args.asks.now in
    let places = g.F.Asks.places s.basis in
    let b = block_at at c.args.block.now in
    let types = map (type_at at) c.args.block.now.types.items in
    let p = err_from_is_err_and c.from_residual.result c.from_residual.ensures.1 in
    rw (p.1, p.2) (stage_stop s.table s places Types [] (enlarge (setting_of b (map (tree_at at) c.args.parts.parameters.items)) types) _ _ _ refl c.requires.place
    (ap (λ ps. enlarge (setting_of b (map (tree_at at) ps)) types) c.deref.ensures.value) refl
    (auxiliary_stage s.table places fuel b (map (recursor_at at) c.args.block.now.recursors.value.items) (parts_at at c.args.parts)) c.in_err-find_larger.field-0.0 c.in_err-find_larger.ensures.outcome)

pub check_enlarged-requires-clause-locals : goal.check_enlarged-requires-clause-locals
check_enlarged-requires-clause-locals g c =
    subst AreLocals (sym (trees-steady _ _ c.args.parts.parameters.items c.in_ok-find_larger.ensures.keeps c.requires.parts_in.parameters_in)) c.requires.locals

pub check_enlarged-requires-clause-names_in : goal.check_enlarged-requires-clause-names_in
check_enlarged-requires-clause-names_in g c = names_grown _ _ c.in_ok-find_larger.ensures.keeps c.args.block.now.types.items c.requires.types_in c.args.names.now c.requires.names_are

pub check_enlarged-requires-clause-own_levels_are : goal.check_enlarged-requires-clause-own_levels_are
check_enlarged-requires-clause-own_levels_are g c =
    let x = c.in_ok-find_larger.ensures.keeps in
    record {
      known = (let l = c.requires.own_levels_are.known in let longer = x.lists.longer in omega arith);
      is = x.lists.same c.args.own_levels c.requires.own_levels_are.known ∙ c.requires.own_levels_are.is
          ∙ sym (ap (λ us. map param (levels_of (block_of us))) (types_stay _ _ x c.args.block.now.types.items c.requires.types_in));
    }

pub check_enlarged-requires-clause-levels : goal.check_enlarged-requires-clause-levels
check_enlarged-requires-clause-levels g c =
    let at = g.F.Terms.contents c.args.asks.now in
    let grown = g.F.Terms.contents c.find_larger.new.asks in
    let x = c.in_ok-find_larger.ensures.keeps in
    subst (λ o. IfSome o (λ l. levels_of (larger_block (larger_at grown l)) ≡ levels_of (block_at at c.args.block.now))) c.in-Some.is c.in_ok-find_larger.ensures.levels
    ∙ sym (ap (λ us. levels_of (block_of us)) (types_stay at grown x c.args.block.now.types.items c.requires.types_in))

pub returns-in-None-clause-outcome : goal.returns-in-None-clause-outcome
returns-in-None-clause-outcome g c fuel enough =
    let at = g.F.Terms.contents c.args.asks.now in
    let grown = g.F.Terms.contents c.find_larger.new.asks in
    let x = c.in_ok-find_larger.ensures.keeps in
    let stays = c.in_ok-find_larger.ensures.stays in
    let s = g.F.Asks.standing c.args.asks.now in
    let left = g.F.Asks.left c.args.asks.now in
    let places = g.F.Asks.places s.basis in
    let b = block_at at c.args.block.now in
    let types = map (type_at at) c.args.block.now.types.items in
    let same = types_stay at grown x c.args.block.now.types.items c.requires.types_in in
    let goes = subst (λ o. Goes s (enlarge (setting_of b (map (tree_at at) c.deref.result.now)) types) left (larger_or grown types o) left) c.in-None.is c.in_ok-find_larger.ensures.outcome in
    stage_on s.table s places Types [] (enlarge (setting_of b (map (tree_at at) c.args.parts.parameters.items)) types) _ _ _ refl c.requires.place
    (ap (λ ps. enlarge (setting_of b (map (tree_at at) ps)) types) c.deref.ensures.value) refl
    (auxiliary_stage s.table places fuel b (map (recursor_at at) c.args.block.now.recursors.value.items) (parts_at at c.args.parts)) (nothing_added types) left c.check_itself.result goes
    (auxiliary_moved fuel c.check_itself.result (same_table stays) (ap (g.F.Asks.places) (same_basis stays)) (ap block_of same)
    (recursors_stay at grown x c.args.block.now.recursors.value.items c.requires.stated_in) (parts_stay at grown x c.args.parts c.requires.parts_in) (ap nothing_added same) c.in_ok-find_larger.ensures.left
    (c.check_itself.ensures.outcome fuel (subst (λ n. n < fuel) (sym c.in_ok-find_larger.ensures.left) enough)))

pub returns-in-Some-clause-outcome : goal.returns-in-Some-clause-outcome
returns-in-Some-clause-outcome g c fuel enough =
    let at = g.F.Terms.contents c.args.asks.now in
    let grown = g.F.Terms.contents c.find_larger.new.asks in
    let x = c.in_ok-find_larger.ensures.keeps in
    let stays = c.in_ok-find_larger.ensures.stays in
    let s = g.F.Asks.standing c.args.asks.now in
    let left = g.F.Asks.left c.args.asks.now in
    let places = g.F.Asks.places s.basis in
    let b = block_at at c.args.block.now in
    let types = map (type_at at) c.args.block.now.types.items in
    let found : larger_at grown c.in-Some.larger ≡ larger_at grown c.in-Some.larger = refl in
    let goes = subst (λ o. Goes s (enlarge (setting_of b (map (tree_at at) c.deref.result.now)) types) left (larger_or grown types o) left) c.in-Some.is c.in_ok-find_larger.ensures.outcome in
    stage_on s.table s places Types [] (enlarge (setting_of b (map (tree_at at) c.args.parts.parameters.items)) types) _ _ _ refl c.requires.place
    (ap (λ ps. enlarge (setting_of b (map (tree_at at) ps)) types) c.deref.ensures.value) refl
    (auxiliary_stage s.table places fuel b (map (recursor_at at) c.args.block.now.recursors.value.items) (parts_at at c.args.parts)) (larger_at grown c.in-Some.larger) left c.check_enlarged.result goes
    (auxiliary_moved fuel c.check_enlarged.result (same_table stays) (ap (g.F.Asks.places) (same_basis stays)) (ap block_of (types_stay at grown x c.args.block.now.types.items c.requires.types_in))
    (recursors_stay at grown x c.args.block.now.recursors.value.items c.requires.stated_in) (parts_stay at grown x c.args.parts c.requires.parts_in) found c.in_ok-find_larger.ensures.left
    (c.check_enlarged.ensures.outcome fuel (subst (λ n. n < fuel) (sym c.in_ok-find_larger.ensures.left) enough)))
