use Rattle.std.proofs.Common.{[], map, refl, ap, sym, subst, ◌∙◌, arith}
use Rattle.std.specs.Prelude.{All}
use Rattle.std.proofs.lemmas.Result.{err_from_is_err_and}
use Rattle.lk_env.specs.Units.{block_at, type_at, recursor_at, IsTypeIn}
use Rattle.lk_env.specs.declared.entry.Partial.TheVariants.{Nothing}
use Rattle.lk_inductive.specs.Block.{parameters_of}
use Rattle.lk_inductive.specs.BlockSteps.{types_steps}
use Rattle.lk_declaration.specs.Courses.{Goes}
use Rattle.lk_declaration.specs.Checked.{IsCheckOutcome}
use Rattle.lk_block.specs.Parts.{parts_at}
use Rattle.lk_block.specs.Stages.{sorts_stage}
use Rattle.lk_env.proofs.Stays.{types_stay, types_in_stay, recursors_stay, recursors_in_stay}
use Rattle.lk_declaration.proofs.Within.{goes_within}
use Rattle.lk_block.specs.Wholes.{block_of}
use Rattle.leancheck.proofs.Staging.{stage_stop, stage_on, moved_four, same_table, same_basis}
use Rattle.leancheck.proofs.blocks.check_from_types.Goals as goal

pub check_types-requires : goal.check_types-requires
check_types-requires g c = subst (All (IsTypeIn (g.A.Terms.contents c.args.asks.now))) (sym c.deref-2.ensures.value) c.requires.types_in

pub returns-in_err-parts-clause-outcome : goal.returns-in_err-parts-clause-outcome
returns-in_err-parts-clause-outcome g c fuel enough =
    let at = g.A.Terms.contents c.args.asks.now in
    let s = g.A.Asks.standing c.args.asks.now in
    let t = s.table in
    let places = g.A.Asks.places s.basis in
    let types = map (type_at at) c.args.block.now.types.items in
    let p = err_from_is_err_and c.from_residual.result c.from_residual.ensures.1 in
    rw (p.1, p.2) (stage_stop t s places Nothing []
    (types_steps (parameters_of (block_of types)) types) _ _ _ refl c.requires.place
    (ap (λ n. types_steps n (map (type_at at) c.deref-2.result.now)) (c.stated_parameters-parameters.ensures at) ∙ ap (λ ts. types_steps (parameters_of (block_of (map (type_at at) ts))) (map (type_at at) c.deref-2.result.now)) c.deref.ensures.value
    ∙ ap (λ ts. types_steps (parameters_of (block_of types)) (map (type_at at) ts)) c.deref-2.ensures.value) refl
    (sorts_stage t places fuel (block_at at c.args.block.now) (map (recursor_at at) c.args.block.now.recursors.value.items)) c.in_err-parts.field-0.0 c.in_err-parts.ensures.outcome)

pub give_types-requires-clause-types_in : goal.give_types-requires-clause-types_in
give_types-requires-clause-types_in g c = types_in_stay _ _ c.in_ok-parts.ensures.keeps c.args.block.now.types.items c.requires.types_in

pub give_types-requires-clause-stated_in : goal.give_types-requires-clause-stated_in
give_types-requires-clause-stated_in g c = recursors_in_stay _ _ c.in_ok-parts.ensures.keeps c.args.block.now.recursors.value.items c.requires.stated_in

pub returns-clause-outcome : goal.returns-clause-outcome
returns-clause-outcome g c fuel enough =
    let at = g.A.Terms.contents c.args.asks.now in
    let grown = g.A.Terms.contents c.check_types.new.asks in
    let s = g.A.Asks.standing c.args.asks.now in
    let t = s.table in
    let before = g.A.Asks.left c.args.asks.now in
    let left = g.A.Asks.left c.check_types.new.asks in
    let places = g.A.Asks.places s.basis in
    let types = map (type_at at) c.args.block.now.types.items in
    let form = types_steps (parameters_of (block_of types)) types in
    let same = ap (λ n. types_steps n (map (type_at at) c.deref-2.result.now)) (c.stated_parameters-parameters.ensures at) ∙ ap (λ ts. types_steps (parameters_of (block_of (map (type_at at) ts))) (map (type_at at) c.deref-2.result.now)) c.deref.ensures.value
    ∙ ap (λ ts. types_steps (parameters_of (block_of types)) (map (type_at at) ts)) c.deref-2.ensures.value in
    let goes = subst (λ p. Goes s p before (parts_at grown c.in_ok-parts.parts) left) same c.in_ok-parts.ensures.outcome in
    let less = goes_within s form before (parts_at grown c.in_ok-parts.parts) left goes in
    stage_on t s places Nothing [] form form _ _ refl c.requires.place refl refl
    (sorts_stage t places fuel (block_at at c.args.block.now) (map (recursor_at at) c.args.block.now.recursors.value.items)) (parts_at grown c.in_ok-parts.parts) left c.give_types.result goes
    (moved_four (λ u ps b rs. IsCheckOutcome (sorts_stage u ps fuel b rs (parts_at grown c.in_ok-parts.parts) left) c.give_types.result) (same_table c.in_ok-parts.ensures.stays) (ap (g.A.Asks.places) (same_basis c.in_ok-parts.ensures.stays))
    (ap block_of (types_stay at grown c.in_ok-parts.ensures.keeps c.args.block.now.types.items c.requires.types_in))
    (recursors_stay at grown c.in_ok-parts.ensures.keeps c.args.block.now.recursors.value.items c.requires.stated_in)
    (c.give_types.ensures.outcome fuel (omega arith)))
