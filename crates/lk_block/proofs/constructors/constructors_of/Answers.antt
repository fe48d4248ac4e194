use Rattle.std.proofs.Common.{ℕ, suc, ◌∷◌, ◌++◌, [], map, refl, sym, ap, ◌∙◌, rules, arith}
use Rattle.std.proofs.lemmas.List.{append-nil}
use Rattle.std.proofs.lemmas.List.Elements.{All-nil, All-same, All-push}
use Rattle.std.proofs.lemmas.Result.{err_from_is_err_and}
use Rattle.lk_questions.specs.Program.{Program, done}
use Rattle.lk_inductive.specs.Block.{CtorShape}
use Rattle.lk_inductive.specs.BlockSteps.{ctors_steps}
use Rattle.lk_store.specs.Contents.{name_at, tree_at}
use Rattle.lk_store.proofs.Extending.{Extends-trans}
use Rattle.lk_env.specs.Units.{constructor_at, IsConstructorIn}
use Rattle.lk_block.specs.Frames.{frame_at}
use Rattle.lk_block.specs.Shapes.{constructor_shape_at, IsConstructorShapeIn}
use Rattle.lk_block.specs.Constructors.{constructor_form, constructors_form}
use Rattle.lk_lists.proofs.Lists.{rest_have, first_has, none_left}
use Rattle.lk_block.proofs.Frames.{frame-steady}
use Rattle.lk_declaration.proofs.Leading.{leads_here, leads_on, leads_stop, leads_end}
use Rattle.lk_block.proofs.Shaping.{constructor-steady, constructors-known, each-push}
use Rattle.lk_declaration.proofs.Within.{goes_within}
use Rattle.lk_block.proofs.EachConstructor.{constructor_kept, constructors_split, goes_bare, halts_bare}
use Rattle.lk_block.proofs.constructors.constructors_of.Goals as goal

pub constructors-init : goal.constructors-init
constructors-init g c =
    let before = g.A.Terms.contents c.args.asks.now in
    record {
      keeps = search rules;
      same_standing = refl;
      less = omega arith;
      rest_in = c.requires.constructors_in;
      shapes_in = All-same (IsConstructorShapeIn before) c.new-shapes.result.items [] c.new-shapes.ensures.items (All-nil (IsConstructorShapeIn before));
      leads = λ fuel enough. rw c.new-shapes.ensures.items (leads_here (g.A.Asks.standing c.args.asks.now)
          (constructors_form [] fuel (frame_at before c.args.frame.now) (name_at before c.args.parent) (map (constructor_at before) c.args.constructors.now)) (g.A.Asks.left c.args.asks.now));
    }

pub returns-in_err-shape-clause-outcome : goal.returns-in_err-shape-clause-outcome
returns-in_err-shape-clause-outcome g c fuel enough =
    let before = g.A.Terms.contents c.args.asks.now in
    let now = g.A.Terms.contents c.constructors.asks in
    let F = frame_at before c.args.frame.now in
    let T = name_at before c.args.parent in
    let first = c.in-Some.stated.now in
    let more = map (constructor_at before) c.in-Some.more.now in
    let was = c.constructors.invariant in
    let known = first_has (IsConstructorIn before) c.constructors.rest.now first c.in-Some.more.now c.in-Some.ensures.cases.0 was.rest_in in
    let ss = map (constructor_shape_at now) c.constructors.shapes.items in
    let p = constructor_form fuel (frame_at now c.args.frame.now) (name_at now c.args.parent) (name_at now first.name) first.fields (tree_at now first.ty) in
    let all = map (constructor_at before) c.args.constructors.now in
    let rest = map (constructor_at before) c.constructors.rest.now in
    let less = was.less in
    let same = constructor_kept fuel (frame_at now c.args.frame.now) F (name_at now c.args.parent) T (name_at now first.name) (name_at before first.name) first.fields (tree_at now first.ty) (tree_at before first.ty)
    (frame-steady before now c.args.frame.now was.keeps c.requires.frame_in) (was.keeps.names.same c.args.parent c.requires.parent_in) (was.keeps.names.same first.name known.stated.name_in) (was.keeps.trees.same first.ty known.stated.ty_in) in
    let why = err_from_is_err_and c.from_residual.result c.from_residual.ensures.1 in
    rw (why.1, why.2) (halts_bare (g.A.Asks.standing c.args.asks.now) (ctors_steps fuel F T all) (g.A.Asks.left c.args.asks.now) c.in_err-shape.field-0.0
    (leads_stop (g.A.Asks.standing c.args.asks.now) (g.A.Asks.standing c.constructors.asks) was.same_standing
    (constructors_form [] fuel F T all) (g.A.Asks.left c.args.asks.now) (constructors_form ss fuel F T rest) (g.A.Asks.left c.constructors.asks) (was.leads fuel enough)
    p (λ (s : CtorShape). constructors_form (ss ++ s ∷ []) fuel F T more)
    (constructors_split ss fuel F T rest (constructor_at before first) more p (ap (map (constructor_at before)) c.in-Some.ensures.cases.0) same)
    c.in_err-shape.field-0.0 (c.in_err-shape.ensures.outcome fuel (omega arith))))

pub constructors-preserved : goal.constructors-preserved
constructors-preserved g c =
    let before = g.A.Terms.contents c.args.asks.now in
    let now = g.A.Terms.contents c.constructors.asks in
    let after = g.A.Terms.contents c.constructor_of.new.asks in
    let F = frame_at before c.args.frame.now in
    let T = name_at before c.args.parent in
    let first = c.in-Some.stated.now in
    let more = map (constructor_at before) c.in-Some.more.now in
    let was = c.constructors.invariant in
    let known = first_has (IsConstructorIn before) c.constructors.rest.now first c.in-Some.more.now c.in-Some.ensures.cases.0 was.rest_in in
    let ss = map (constructor_shape_at now) c.constructors.shapes.items in
    let p : ℕ → Program CtorShape = λ fuel. constructor_form fuel (frame_at now c.args.frame.now) (name_at now c.args.parent) (name_at now first.name) first.fields (tree_at now first.ty) in
    let all = map (constructor_at before) c.args.constructors.now in
    let rest = map (constructor_at before) c.constructors.rest.now in
    let grown = c.in_ok-shape.ensures.keeps in
    let pushed = c.in-Ok.ensures.items in
    let start = g.A.Asks.left c.constructors.asks in
    let end = g.A.Asks.left c.constructor_of.new.asks in
    let shape = constructor_shape_at after c.in_ok-shape.shape in
    let before_less = was.less in
    let here_less = goes_within (g.A.Asks.standing c.constructors.asks) (p (suc start)) start shape end (c.in_ok-shape.ensures.outcome (suc start) (omega arith)) in
    record {
      keeps = Extends-trans before now after was.keeps grown;
      same_standing = c.in_ok-shape.ensures.stays ∙ was.same_standing;
      less = omega arith;
      rest_in = rest_have (IsConstructorIn before) c.constructors.rest.now first c.in-Some.more.now c.in-Some.ensures.cases.0 was.rest_in;
      shapes_in = All-same (IsConstructorShapeIn after) c.push.new.self.items (c.constructors.shapes.items ++ c.in_ok-shape.shape ∷ []) pushed
          (All-push (IsConstructorShapeIn after) c.constructors.shapes.items c.in_ok-shape.shape (constructors-known now after grown c.constructors.shapes.items was.shapes_in) c.in_ok-shape.ensures.known);
      leads = λ fuel enough.
          leads_on (g.A.Asks.standing c.args.asks.now) (g.A.Asks.standing c.constructors.asks) was.same_standing
          (constructors_form [] fuel F T all) (g.A.Asks.left c.args.asks.now) (constructors_form ss fuel F T rest) start (was.leads fuel enough)
          (p fuel) (λ (s : CtorShape). constructors_form (ss ++ s ∷ []) fuel F T more)
          (constructors_split ss fuel F T rest (constructor_at before first) more (p fuel) (ap (map (constructor_at before)) c.in-Some.ensures.cases.0)
          (constructor_kept fuel (frame_at now c.args.frame.now) F (name_at now c.args.parent) T (name_at now first.name) (name_at before first.name) first.fields (tree_at now first.ty) (tree_at before first.ty)
          (frame-steady before now c.args.frame.now was.keeps c.requires.frame_in) (was.keeps.names.same c.args.parent c.requires.parent_in) (was.keeps.names.same first.name known.stated.name_in) (was.keeps.trees.same first.ty known.stated.ty_in)))
          shape end (constructors_form (map (constructor_shape_at after) c.push.new.self.items) fuel F T more) (c.in_ok-shape.ensures.outcome fuel (omega arith))
          (ap (λ xs. constructors_form xs fuel F T more) (sym (ap (map (constructor_shape_at after)) pushed
          ∙ each-push (IsConstructorShapeIn now) (constructor_shape_at after) (constructor_shape_at now) c.constructors.shapes.items c.in_ok-shape.shape (constructor-steady now after grown) was.shapes_in)));
    }

pub returns-clause-outcome : goal.returns-clause-outcome
returns-clause-outcome g c fuel enough =
    let before = g.A.Terms.contents c.args.asks.now in
    let now = g.A.Terms.contents c.constructors.asks in
    let F = frame_at before c.args.frame.now in
    let T = name_at before c.args.parent in
    let all = map (constructor_at before) c.args.constructors.now in
    let rest = map (constructor_at before) c.constructors.rest.now in
    let ss = map (constructor_shape_at now) c.constructors.shapes.items in
    goes_bare (g.A.Asks.standing c.args.asks.now) (ctors_steps fuel F T all) (g.A.Asks.left c.args.asks.now) (g.A.Asks.left c.constructors.asks) ss
    (leads_end (g.A.Asks.standing c.args.asks.now) (constructors_form [] fuel F T all) (g.A.Asks.left c.args.asks.now) (constructors_form ss fuel F T rest) (g.A.Asks.left c.constructors.asks) ss
    (c.constructors.invariant.leads fuel enough) (ap (constructors_form ss fuel F T) (none_left (constructor_at before) c.constructors.rest.now c.in_default.ensures.cases) ∙ ap done (append-nil ss)))
