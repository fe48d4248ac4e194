use Rattle.std.proofs.Common.{suc, map, refl, ap, ◌∙◌, arith}
use Rattle.std.proofs.lemmas.Result.{err_from_is_err_and}
use Rattle.lk_env.specs.Scopes.{alone_members}
use Rattle.lk_env.specs.Units.{type_at, recursor_at}
use Rattle.lk_env.specs.declared.entry.Partial.TheVariants.{Types, Members}
use Rattle.lk_inductive.specs.Block.{levels_of}
use Rattle.lk_inductive.specs.BlockSteps.{TypeParts, shape_steps}
use Rattle.lk_inductive.specs.Compare.{compare_steps}
use Rattle.lk_inductive.specs.Enlarged.{setting_of, larger_block, bare_entries}
use Rattle.lk_inductive.specs.Recursors.{recursors_by}
use Rattle.lk_inductive.specs.Restore.{first_name, all_stand}
use Rattle.lk_env.proofs.Stays.{types_stay, recursors_stay, recursors_in_stay, types_in_stay}
use Rattle.lk_declaration.specs.Checked.{IsCheckOutcome}
use Rattle.lk_block.specs.Parts.{parts_at}
use Rattle.lk_block.specs.Shapes.{shape_at}
use Rattle.lk_block.specs.Stages.{stage, ends, larger_parts, recursors_stage}
use Rattle.lk_block.specs.Wholes.{block_of}
use Rattle.lk_restore.specs.Steady.{originals-steady}
use Rattle.lk_restore.proofs.Aside.{reads_as}
use Rattle.leancheck.proofs.Besides.{alone_are}
use Rattle.leancheck.proofs.GivenShape.{shape_levels, shape_params, read_in_shape}
use Rattle.leancheck.proofs.Staging.{stage_stop, stage_on, moved_five, same_table, same_basis}
use Rattle.leancheck.proofs.larger.check_from_shape.Goals as goal

pub returns-in_err-shape-clause-outcome : goal.returns-in_err-shape-clause-outcome
returns-in_err-shape-clause-outcome g c fuel b ts lg enough e =
    let at = g.A.Terms.contents c.args.asks.now in
    let s = g.A.Asks.standing c.args.asks.now in
    let t = s.table in
    let places = g.A.Asks.places s.basis in
    let p = err_from_is_err_and c.from_residual.result c.from_residual.ensures.1 in
    rw (p.1, p.2) (stage_stop t s places Types (bare_entries lg.aux)
    (shape_steps fuel (larger_block lg) (larger_parts ts lg)) _ _ _ refl
    (c.requires.place ∙ ap (places Types) (alone_are (map (type_at at) c.args.aux.now) ∙ ap bare_entries e.auxiliary))
    (ap (λ us. shape_steps fuel (block_of us) (parts_at at c.args.parts)) e.types ∙ ap (shape_steps fuel (larger_block lg)) e.parts) refl
    (recursors_stage t places b (map (recursor_at at) c.args.stated.now) ts lg) c.in_err-shape.field-0.0 (c.in_err-shape.ensures.outcome fuel enough))

pub check_recursors-requires-clause-aux_in : goal.check_recursors-requires-clause-aux_in
check_recursors-requires-clause-aux_in g c = types_in_stay _ _ c.in_ok-shape.ensures.keeps c.args.aux.now c.requires.aux_in

pub check_recursors-requires-clause-stated_in : goal.check_recursors-requires-clause-stated_in
check_recursors-requires-clause-stated_in g c = recursors_in_stay _ _ c.in_ok-shape.ensures.keeps c.args.stated.now c.requires.stated_in

pub check_recursors-requires-clause-originals_are : goal.check_recursors-requires-clause-originals_are
check_recursors-requires-clause-originals_are g c =
    let at = g.A.Terms.contents c.args.asks.now in
    let grown = g.A.Terms.contents c.check_shape.new.asks in
    let s = g.A.Asks.standing c.args.asks.now in
    let left = g.A.Asks.left c.args.asks.now in
    let rest = g.A.Asks.left c.check_shape.new.asks in
    let block = block_of (map (type_at at) c.args.types.now) in
    let parts = parts_at at c.args.parts in
    let shape = shape_at grown c.in_ok-shape.shape in
    let goes = c.in_ok-shape.ensures.outcome (suc left) (omega arith) in
    read_in_shape at grown c.in_ok-shape.ensures.keeps c.args.types.now c.args.parts.parameters.items c.args.originals.now shape c.requires.originals_are
    (shape_levels s (suc left) block parts left shape rest goes) (shape_params s (suc left) block parts left shape rest goes)

pub returns-clause-outcome : goal.returns-clause-outcome
returns-clause-outcome g c fuel b ts lg enough e =
    let at = g.A.Terms.contents c.args.asks.now in
    let grown = g.A.Terms.contents c.check_shape.new.asks in
    let s = g.A.Asks.standing c.args.asks.now in
    let t = s.table in
    let places = g.A.Asks.places s.basis in
    let left = g.A.Asks.left c.args.asks.now in
    let rest = g.A.Asks.left c.check_shape.new.asks in
    let types = map (type_at at) c.args.types.now in
    let parts = parts_at at c.args.parts in
    let shape = shape_at grown c.in_ok-shape.shape in
    let stated = map (recursor_at at) c.args.stated.now in
    let goes = c.in_ok-shape.ensures.outcome fuel enough in
    let given = alone_are (map (type_at at) c.args.aux.now) ∙ ap bare_entries e.auxiliary in
    let levels = shape_levels s fuel (block_of types) parts left shape rest goes ∙ ap (λ us. levels_of (block_of us)) e.types ∙ e.levels in
    let params = shape_params s fuel (block_of types) parts left shape rest goes ∙ ap (λ (p : TypeParts). p.params) e.parts in
    let back = reads_as grown c.args.originals.now shape (all_stand (first_name b.types) 0 lg.auxs) (setting_of b ts.params) (originals-steady at grown c.in_ok-shape.ensures.keeps c.args.originals.now c.requires.originals_are.known ∙ e.originals) levels params in
    stage_on t s places Types (bare_entries lg.aux)
    (shape_steps fuel (larger_block lg) (larger_parts ts lg)) _ _ _ refl
    (c.requires.place ∙ ap (places Types) given)
    (ap (λ us. shape_steps fuel (block_of us) parts) e.types ∙ ap (shape_steps fuel (larger_block lg)) e.parts) refl
    (recursors_stage t places b stated ts lg) shape rest c.check_recursors.result goes
    (moved_five (λ u ps ms rs st. IsCheckOutcome (stage u ps Members ms (compare_steps (recursors_by rs shape) st) rest ends) c.check_recursors.result)
    (same_table c.in_ok-shape.ensures.stays) (ap (g.A.Asks.places) (same_basis c.in_ok-shape.ensures.stays))
    (ap alone_members (types_stay at grown c.in_ok-shape.ensures.keeps c.args.aux.now c.requires.aux_in) ∙ given) back
    (recursors_stay at grown c.in_ok-shape.ensures.keeps c.args.stated.now c.requires.stated_in) c.check_recursors.ensures.outcome)
