use Rattle.std.proofs.Common.{List, map, refl, ap, subst}
use Rattle.std.proofs.lemmas.Result.{err_from_is_err_and}
use Rattle.lk_questions.specs.Program.{done}
use Rattle.lk_rulebook.specs.Place.{Ctor}
use Rattle.lk_inductive.specs.Block.{CtorShape, TypeShape}
use Rattle.lk_inductive.specs.BlockSteps.{ctors_steps}
use Rattle.lk_store.specs.Contents.{name_at, tree_at}
use Rattle.lk_subst.specs.Numbers.{trees-steady}
use Rattle.lk_env.specs.Units.{constructor_at}
use Rattle.lk_declaration.specs.Courses.{Goes, Halts}
use Rattle.lk_block.specs.Frames.{frame_at}
use Rattle.lk_block.specs.Shapes.{constructor_shape_at, type_shape_at}
use Rattle.lk_declaration.proofs.Running.{halts_first, ends_at}
use Rattle.lk_block.proofs.EachConstructor.{type_is}
use Rattle.lk_block.proofs.constructors.type_of.Goals as goal

pub returns-clause-outcome : goal.returns-clause-outcome
returns-clause-outcome g c fuel enough =
    let before = g.A.Terms.contents c.args.asks.now in
    let after = g.A.Terms.contents c.constructors_of.new.asks in
    let F = frame_at before c.args.frame.now in
    let T = name_at before c.args.stated.now.name in
    let cs = map (constructor_at before) c.args.stated.now.constructors.items in
    let is = map (tree_at before) c.args.indices.items in
    let ss = map (constructor_shape_at after) c.in_ok-constructors.constructors.items in
    let start = g.A.Asks.left c.args.asks.now in
    let end = g.A.Asks.left c.constructors_of.new.asks in
    ends_at (g.A.Asks.standing c.args.asks.now) (ctors_steps fuel F T cs) (λ (ss : List CtorShape). done (let s : TypeShape = record { name = T; indices = is; ctors = ss } in s)) start end end ss
    (record { name = T; indices = is; ctors = ss }) (type_shape_at after (record { name = c.args.stated.now.name; indices = c.args.indices; constructors = c.in_ok-constructors.constructors }))
    (subst (λ (xs : List Ctor). Goes (g.A.Asks.standing c.args.asks.now) (ctors_steps fuel F T xs) start ss end) (ap (map (constructor_at before)) c.deref.ensures.value) (c.in_ok-constructors.ensures.outcome fuel enough))
    refl (type_is (name_at after c.args.stated.now.name) T (map (tree_at after) c.args.indices.items) is ss (c.in_ok-constructors.ensures.keeps.names.same c.args.stated.now.name c.requires.stated_in.stated.name_in) (trees-steady before after c.args.indices.items c.in_ok-constructors.ensures.keeps c.requires.indices_in)) refl

pub returns-in_err-constructors-clause-outcome : goal.returns-in_err-constructors-clause-outcome
returns-in_err-constructors-clause-outcome g c fuel enough =
    let before = g.A.Terms.contents c.args.asks.now in
    let F = frame_at before c.args.frame.now in
    let T = name_at before c.args.stated.now.name in
    let cs = map (constructor_at before) c.args.stated.now.constructors.items in
    let p = err_from_is_err_and c.from_residual.result c.from_residual.ensures.1 in
    rw (p.1, p.2) (halts_first (g.A.Asks.standing c.args.asks.now) (ctors_steps fuel F T cs) (λ (ss : List CtorShape). done (let s : TypeShape = record { name = T; indices = map (tree_at before) c.args.indices.items; ctors = ss } in s)) (g.A.Asks.left c.args.asks.now) c.in_err-constructors.field-0.0
    (subst (λ (xs : List Ctor). Halts (g.A.Asks.standing c.args.asks.now) (ctors_steps fuel F T xs) (g.A.Asks.left c.args.asks.now) c.in_err-constructors.field-0.0) (ap (map (constructor_at before)) c.deref.ensures.value) (c.in_err-constructors.ensures.outcome fuel enough)))
