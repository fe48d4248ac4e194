use Rattle.std.proofs.Common.{Err, [], map, refl, ap, sym, subst, arith}
use Rattle.std.specs.Prelude.{All}
use Rattle.std.proofs.lemmas.Result.{err_from_is_err_and}
use Rattle.lk_questions.specs.Declarations.{checked}
use Rattle.lk_env.specs.Units.{block_at, type_at, recursor_at, IsTypeIn}
use Rattle.lk_env.specs.declared.entry.Partial.TheVariants.{Types}
use Rattle.lk_inductive.specs.Block.{AreLocals}
use Rattle.lk_subst.specs.Numbers.{trees-steady}
use Rattle.lk_block.specs.Parts.{parts_at}
use Rattle.lk_declaration.specs.Courses.{Goes}
use Rattle.lk_declaration.specs.Checked.{IsCheckOutcome}
use Rattle.lk_block.specs.Stages.{larger_stage}
use Rattle.lk_env.proofs.Stays.{types_stay, types_in_stay, recursors_stay, recursors_in_stay}
use Rattle.lk_declaration.proofs.Within.{goes_within}
use Rattle.lk_block.specs.Wholes.{block_of}
use Rattle.lk_block.specs.Sorts.{sorts_form}
use Rattle.leancheck.proofs.PartsStay.{parts_stay, parts_in_stay}
use Rattle.leancheck.proofs.Staging.{stage_stop, stage_on, moved_five, levels_forgotten, same_table, same_basis}
use Rattle.leancheck.proofs.blocks.check_from_sorts.Goals as goal

pub check_sorts-requires : goal.check_sorts-requires
check_sorts-requires g c = subst (All (IsTypeIn (g.A.Terms.contents c.args.asks.now))) (sym c.deref.ensures.value) c.requires.types_in

pub returns-in_err-check_sorts-clause-outcome : goal.returns-in_err-check_sorts-clause-outcome
returns-in_err-check_sorts-clause-outcome g c fuel enough =
    let at = g.A.Terms.contents c.args.asks.now in
    let s = g.A.Asks.standing c.args.asks.now in
    let t = s.table in
    let places = g.A.Asks.places s.basis in
    let why = err_from_is_err_and c.from_residual.result c.from_residual.ensures.1 in
    rw (why.1, why.2) (levels_forgotten t places Types [] (map (type_at at) c.args.block.now.types.items) (g.A.Asks.left c.args.asks.now)
    (λ rest. larger_stage t places fuel (block_at at c.args.block.now) (map (recursor_at at) c.args.block.now.recursors.value.items) (parts_at at c.args.parts) rest) (Err c.in_err-check_sorts.field-0.0)
    (stage_stop t s places Types []
    (sorts_form (map (type_at at) c.args.block.now.types.items)) _ _ _ refl c.requires.place
    (ap (λ ts. sorts_form (map (type_at at) ts)) c.deref.ensures.value) refl
    (λ y rest. larger_stage t places fuel (block_at at c.args.block.now) (map (recursor_at at) c.args.block.now.recursors.value.items) (parts_at at c.args.parts) rest) c.in_err-check_sorts.field-0.0 c.in_err-check_sorts.ensures.outcome))

pub check_from_larger-requires-clause-types_in : goal.check_from_larger-requires-clause-types_in
check_from_larger-requires-clause-types_in g c = types_in_stay _ _ c.in_ok-check_sorts.ensures.keeps c.args.block.now.types.items c.requires.types_in

pub check_from_larger-requires-clause-stated_in : goal.check_from_larger-requires-clause-stated_in
check_from_larger-requires-clause-stated_in g c = recursors_in_stay _ _ c.in_ok-check_sorts.ensures.keeps c.args.block.now.recursors.value.items c.requires.stated_in

pub check_from_larger-requires-clause-parts_in : goal.check_from_larger-requires-clause-parts_in
check_from_larger-requires-clause-parts_in g c = parts_in_stay _ _ c.in_ok-check_sorts.ensures.keeps c.args.parts c.requires.parts_in

pub check_from_larger-requires-clause-locals : goal.check_from_larger-requires-clause-locals
check_from_larger-requires-clause-locals g c =
    subst AreLocals (sym (trees-steady _ _ c.args.parts.parameters.items c.in_ok-check_sorts.ensures.keeps c.requires.parts_in.parameters_in)) c.requires.locals

pub returns-clause-outcome : goal.returns-clause-outcome
returns-clause-outcome g c fuel enough =
    let at = g.A.Terms.contents c.args.asks.now in
    let grown = g.A.Terms.contents c.check_sorts.new.asks in
    let s = g.A.Asks.standing c.args.asks.now in
    let t = s.table in
    let left = g.A.Asks.left c.check_sorts.new.asks in
    let places = g.A.Asks.places s.basis in
    let form = sorts_form (map (type_at at) c.args.block.now.types.items) in
    let same = ap (λ ts. sorts_form (map (type_at at) ts)) c.deref.ensures.value in
    let goes = subst (λ p. Goes s p (g.A.Asks.left c.args.asks.now) checked left) same c.in_ok-check_sorts.ensures.outcome in
    let less = goes_within s form (g.A.Asks.left c.args.asks.now) checked left goes in
    levels_forgotten t places Types [] (map (type_at at) c.args.block.now.types.items) (g.A.Asks.left c.args.asks.now)
    (λ rest. larger_stage t places fuel (block_at at c.args.block.now) (map (recursor_at at) c.args.block.now.recursors.value.items) (parts_at at c.args.parts) rest) c.check_from_larger.result
    (stage_on t s places Types [] form form _ _ refl c.requires.place refl refl
    (λ y rest. larger_stage t places fuel (block_at at c.args.block.now) (map (recursor_at at) c.args.block.now.recursors.value.items) (parts_at at c.args.parts) rest) checked left c.check_from_larger.result goes
    (moved_five (λ u ps b rs q. IsCheckOutcome (larger_stage u ps fuel b rs q left) c.check_from_larger.result) (same_table c.in_ok-check_sorts.ensures.stays) (ap (g.A.Asks.places) (same_basis c.in_ok-check_sorts.ensures.stays))
    (ap block_of (types_stay at grown c.in_ok-check_sorts.ensures.keeps c.args.block.now.types.items c.requires.types_in))
    (recursors_stay at grown c.in_ok-check_sorts.ensures.keeps c.args.block.now.recursors.value.items c.requires.stated_in)
    (parts_stay at grown c.in_ok-check_sorts.ensures.keeps c.args.parts c.requires.parts_in)
    (c.check_from_larger.ensures.outcome fuel (omega arith))))
