use Rattle.std.proofs.Common.{◌≡◌, map, refl, subst, ◌∙◌, arith}
use Rattle.std.proofs.lemmas.Result.{err_from_is_err_and}
use Rattle.lk_tree.specs.Tree.{Level}
use Rattle.lk_questions.specs.Program.{done}
use Rattle.lk_store.specs.Contents.{level_at, tree_at}
use Rattle.lk_store.proofs.Extending.{Extends-trans}
use Rattle.lk_subst.specs.Numbers.{trees-steady, trees-known}
use Rattle.lk_env.specs.Units.{type_at}
use Rattle.lk_inductive.specs.BlockSteps.{large_steps}
use Rattle.lk_declaration.specs.Courses.{Goes, Halts}
use Rattle.lk_block.specs.Parts.{lists_at}
use Rattle.lk_block.specs.Shapes.{type_shape_at, shape_at}
use Rattle.lk_block.specs.Wholes.{shapes_form, shape_with, large_form}
use Rattle.lk_declaration.proofs.Running.{goes_on, ends_at, halts_first, halts_later}
use Rattle.lk_block.proofs.Shaping.{types-steady, types-known}
use Rattle.lk_env.proofs.Stays.{types_stay, types_in_stay}
use Rattle.lk_block.proofs.block.check_shape.Goals as goal

pub returns-in_err-shapes-clause-outcome : goal.returns-in_err-shapes-clause-outcome
returns-in_err-shapes-clause-outcome g c fuel enough =
    let before = g.A.Terms.contents c.args.asks.now in
    let types = map (type_at before) c.args.types.now in
    let ps = map (tree_at before) c.args.parts.parameters.items in
    let l = level_at before c.args.parts.sort in
    let p = err_from_is_err_and c.from_residual.result c.from_residual.ensures.1 in
    rw (p.1, p.2) (halts_first (g.A.Asks.standing c.args.asks.now) (shapes_form fuel types ps l (lists_at before c.args.parts.indices.items)) (large_form types ps l) (g.A.Asks.left c.args.asks.now) c.in_err-shapes.field-0.0
    (subst (λ xs. Halts (g.A.Asks.standing c.args.asks.now) (shapes_form fuel types (map (tree_at before) xs) l (lists_at before c.args.parts.indices.items)) (g.A.Asks.left c.args.asks.now) c.in_err-shapes.field-0.0) c.deref.ensures.value (c.in_err-shapes.ensures.outcome fuel enough)))

pub returns-in_err-large-clause-outcome : goal.returns-in_err-large-clause-outcome
returns-in_err-large-clause-outcome g c fuel enough =
    let before = g.A.Terms.contents c.args.asks.now in
    let between = g.A.Terms.contents c.types_of.new.asks in
    let types = map (type_at before) c.args.types.now in
    let ps = map (tree_at before) c.args.parts.parameters.items in
    let l = level_at before c.args.parts.sort in
    let shapes = map (type_shape_at between) c.in_ok-shapes.shapes.items in
    let t = g.A.Asks.standing c.types_of.new.asks in
    let left = g.A.Asks.left c.types_of.new.asks in
    let p = err_from_is_err_and c.from_residual-in_err-large.result c.from_residual-in_err-large.ensures.1 in
    rw (p.1, p.2) (halts_later (g.A.Asks.standing c.args.asks.now) t c.in_ok-shapes.ensures.stays
    (shapes_form fuel types ps l (lists_at before c.args.parts.indices.items)) (large_form types ps l) (g.A.Asks.left c.args.asks.now) left shapes c.in_err-large.field-0.0 (subst (λ xs. Goes (g.A.Asks.standing c.args.asks.now) (shapes_form fuel types (map (tree_at before) xs) l (lists_at before c.args.parts.indices.items)) (g.A.Asks.left c.args.asks.now) shapes left) c.deref.ensures.value (c.in_ok-shapes.ensures.outcome fuel enough))
    (halts_first t (large_steps l shapes) (λ large. done (shape_with types ps l shapes large)) left c.in_err-large.field-0.0
    (subst (λ (m : Level). Halts t (large_steps m shapes) left c.in_err-large.field-0.0) (c.in_ok-shapes.ensures.keeps.levels.same c.args.parts.sort c.requires.parts_in.sort_in) (subst (λ ss. Halts t (large_steps (level_at between c.args.parts.sort) (map (type_shape_at between) ss)) left c.in_err-large.field-0.0) c.deref-2.ensures.value c.in_err-large.ensures.outcome))))

pub returns-clause-known : goal.returns-clause-known
returns-clause-known g c =
    let before = g.A.Terms.contents c.args.asks.now in
    let between = g.A.Terms.contents c.types_of.new.asks in
    let after = g.A.Terms.contents c.may_be_large.new.asks in
    let grown = Extends-trans before between after c.in_ok-shapes.ensures.keeps c.in_ok-large.ensures.keeps in
    c.in_ok-shape_of.ensures.known after (types_in_stay before after grown c.args.types.now c.requires.types_in) (trees-known before after c.args.parts.parameters.items grown c.requires.parts_in.parameters_in)
    (let longer = grown.levels.longer in let small = c.requires.parts_in.sort_in in omega arith)
    (types-known between after c.in_ok-large.ensures.keeps c.in_ok-shapes.shapes.items c.in_ok-shapes.ensures.known)

pub returns-clause-outcome : goal.returns-clause-outcome
returns-clause-outcome g c fuel enough =
    let before = g.A.Terms.contents c.args.asks.now in
    let between = g.A.Terms.contents c.types_of.new.asks in
    let after = g.A.Terms.contents c.may_be_large.new.asks in
    let grown = Extends-trans before between after c.in_ok-shapes.ensures.keeps c.in_ok-large.ensures.keeps in
    let types = map (type_at before) c.args.types.now in
    let ps = map (tree_at before) c.args.parts.parameters.items in
    let l = level_at before c.args.parts.sort in
    let shapes = map (type_shape_at between) c.in_ok-shapes.shapes.items in
    let large = c.in_ok-large.large in
    let t = g.A.Asks.standing c.types_of.new.asks in
    let left = g.A.Asks.left c.types_of.new.asks in
    let rest = g.A.Asks.left c.may_be_large.new.asks in
    let made : shape_at after c.in_ok-shape_of.field-0 ≡ shape_with types ps l shapes large =
    c.in_ok-shape_of.ensures.shape after
    ∙ rw (
      types_stay before after grown c.args.types.now c.requires.types_in,
      trees-steady before after c.args.parts.parameters.items grown c.requires.parts_in.parameters_in,
      grown.levels.same c.args.parts.sort c.requires.parts_in.sort_in,
      types-steady between after c.in_ok-large.ensures.keeps c.in_ok-shapes.shapes.items c.in_ok-shapes.ensures.known,
    ) refl in
    goes_on (g.A.Asks.standing c.args.asks.now) t c.in_ok-shapes.ensures.stays
    (shapes_form fuel types ps l (lists_at before c.args.parts.indices.items)) (large_form types ps l) (g.A.Asks.left c.args.asks.now) left rest shapes (shape_at after c.in_ok-shape_of.field-0) (subst (λ xs. Goes (g.A.Asks.standing c.args.asks.now) (shapes_form fuel types (map (tree_at before) xs) l (lists_at before c.args.parts.indices.items)) (g.A.Asks.left c.args.asks.now) shapes left) c.deref.ensures.value (c.in_ok-shapes.ensures.outcome fuel enough))
    (ends_at t (large_steps l shapes) (λ large. done (shape_with types ps l shapes large)) left rest rest large (shape_with types ps l shapes large) (shape_at after c.in_ok-shape_of.field-0)
    (subst (λ (m : Level). Goes t (large_steps m shapes) left large rest) (c.in_ok-shapes.ensures.keeps.levels.same c.args.parts.sort c.requires.parts_in.sort_in) (subst (λ ss. Goes t (large_steps (level_at between c.args.parts.sort) (map (type_shape_at between) ss)) left large rest) c.deref-2.ensures.value c.in_ok-large.ensures.outcome)) refl made refl)
