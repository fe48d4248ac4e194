use Rattle.std.proofs.Common.{◌≡◌, ◌<◌, ℕ, suc, List, ◌∷◌, ◌++◌, [], length, map, All, sym, ap, ◌∙◌, rules, arith}
use Rattle.std.specs.Prelude.{Vec, reverse}
use Rattle.std.specs.declared.alloc.Global.{Global}
use Rattle.std.proofs.lemmas.List.{append-nil}
use Rattle.std.proofs.lemmas.List.Elements.{All-same, All-push}
use Rattle.std.proofs.lemmas.Result.{err_from_is_err_and}
use Rattle.lk_questions.specs.Program.{Program, done}
use Rattle.lk_inductive.specs.Block.{TypeShape}
use Rattle.lk_inductive.specs.BlockSteps.{shapes_steps}
use Rattle.lk_store.specs.Contents.{name_at, tree_at}
use Rattle.lk_store.proofs.Extending.{Extends-trans}
use Rattle.lk_subst.specs.Numbers.{trees-steady, trees-known}
use Rattle.lk_env.specs.Units.{constructor_at, type_at, IsTypeIn}
use Rattle.lk_tree.specs.declared.rule.Rule.TheVariants.{BlockShape}
use Rattle.lk_ask.specs.declared.stop.Stop.TheVariants.{No}
use Rattle.lk_block.specs.Frames.{frame_at}
use Rattle.lk_block.specs.Parts.{lists_at}
use Rattle.lk_block.specs.Shapes.{type_shape_at, IsTypeShapeIn}
use Rattle.lk_block.specs.Constructors.{type_form, shapes_form}
use Rattle.lk_lists.proofs.Lists.{rest_have, first_has, none_left}
use Rattle.lk_env.proofs.Stays.{type_in_stays, constructors_stay}
use Rattle.lk_block.proofs.Frames.{frame-steady}
use Rattle.lk_declaration.proofs.Leading.{leads_on, leads_stop, leads_end}
use Rattle.lk_block.proofs.Shaping.{type-steady, types-known, each-push}
use Rattle.lk_declaration.proofs.Within.{goes_within}
use Rattle.lk_block.proofs.EachConstructor.{type_kept, shapes_split, shapes_missing, goes_bare, halts_bare, turned}
use Rattle.lk_block.proofs.constructors.check_constructors.Goals as goal

pub returns-in-None-clause-outcome : goal.returns-in-None-clause-outcome
returns-in-None-clause-outcome g c fuel enough =
    let before = g.A.Terms.contents c.args.asks.now in
    let now = g.A.Terms.contents c.types.asks in
    let F = frame_at before c.args.frame.now in
    let ts = map (type_at before) c.args.types.now in
    let xs = lists_at before c.args.indices.items in
    let was = c.types.invariant in
    let empty : c.types.waiting.items ≡ [] = search rules in
    halts_bare (g.A.Asks.standing c.args.asks.now) (shapes_steps fuel F ts xs) (g.A.Asks.left c.args.asks.now) (No BlockShape)
    (shapes_missing (g.A.Asks.standing c.args.asks.now) (shapes_form [] fuel F ts xs) (g.A.Asks.left c.args.asks.now) (map (type_shape_at now) c.types.shapes.items) fuel F (map (type_at before) c.types.rest.now) (type_at before c.in-Some.stated.now) (map (type_at before) c.in-Some.more.now)
    (lists_at before (reverse c.types.waiting.items)) (g.A.Asks.left c.types.asks) (was.leads fuel enough) (ap (map (type_at before)) c.in-Some.ensures.cases.0) (ap (λ (ys : List (Vec ℕ Global)). lists_at before (reverse ys)) empty))

pub type_of-requires-clause-stated_in : goal.type_of-requires-clause-stated_in
type_of-requires-clause-stated_in g c =
    let before = g.A.Terms.contents c.args.asks.now in
    let now = g.A.Terms.contents c.types.asks in
    type_in_stays before now c.types.invariant.keeps c.in-Some.stated.now (first_has (IsTypeIn before) c.types.rest.now c.in-Some.stated.now c.in-Some.more.now c.in-Some.ensures.cases.0 c.types.invariant.rest_in)

pub type_of-requires-clause-indices_in : goal.type_of-requires-clause-indices_in
type_of-requires-clause-indices_in g c =
    let before = g.A.Terms.contents c.args.asks.now in
    let now = g.A.Terms.contents c.types.asks in
    let cut : c.types.waiting.items ≡ c.pop.new.self.items ++ c.in-Some-pop.own ∷ [] = search rules in
    trees-known before now c.in-Some-pop.own.items c.types.invariant.keeps
    (first_has (λ (ys : Vec ℕ Global). All (λ x. x < length before.trees) ys.items) (reverse c.types.waiting.items) c.in-Some-pop.own (reverse c.pop.new.self.items) (turned c.types.waiting.items c.pop.new.self.items c.in-Some-pop.own cut) c.types.invariant.waiting_in)

pub returns-in_err-shape-clause-outcome : goal.returns-in_err-shape-clause-outcome
returns-in_err-shape-clause-outcome g c fuel enough =
    let before = g.A.Terms.contents c.args.asks.now in
    let now = g.A.Terms.contents c.types.asks in
    let F = frame_at before c.args.frame.now in
    let first = c.in-Some.stated.now in
    let own = c.in-Some-pop.own in
    let more = map (type_at before) c.in-Some.more.now in
    let was = c.types.invariant in
    let known = first_has (IsTypeIn before) c.types.rest.now first c.in-Some.more.now c.in-Some.ensures.cases.0 was.rest_in in
    let cut : c.types.waiting.items ≡ c.pop.new.self.items ++ own ∷ [] = search rules in
    let around = turned c.types.waiting.items c.pop.new.self.items own cut in
    let own_known = first_has (λ (ys : Vec ℕ Global). All (λ x. x < length before.trees) ys.items) (reverse c.types.waiting.items) own (reverse c.pop.new.self.items) around was.waiting_in in
    let ss = map (type_shape_at now) c.types.shapes.items in
    let p = type_form fuel (frame_at now c.args.frame.now) (name_at now first.name) (map (constructor_at now) first.constructors.items) (map (tree_at now) own.items) in
    let ts = map (type_at before) c.args.types.now in
    let xs = lists_at before c.args.indices.items in
    let rest = map (type_at before) c.types.rest.now in
    let waiting = lists_at before (reverse c.types.waiting.items) in
    let left = lists_at before (reverse c.pop.new.self.items) in
    let less = was.less in
    let same = type_kept fuel (frame_at now c.args.frame.now) F (name_at now first.name) (name_at before first.name) (map (constructor_at now) first.constructors.items) (map (constructor_at before) first.constructors.items) (map (tree_at now) own.items) (map (tree_at before) own.items)
    (frame-steady before now c.args.frame.now was.keeps c.requires.frame_in) (was.keeps.names.same first.name known.stated.name_in) (constructors_stay before now was.keeps first.constructors.items known.constructors_in) (trees-steady before now own.items was.keeps own_known) in
    let why = err_from_is_err_and c.from_residual.result c.from_residual.ensures.1 in
    rw (why.1, why.2) (halts_bare (g.A.Asks.standing c.args.asks.now) (shapes_steps fuel F ts xs) (g.A.Asks.left c.args.asks.now) c.in_err-shape.field-0.0
    (leads_stop (g.A.Asks.standing c.args.asks.now) (g.A.Asks.standing c.types.asks) was.same_standing
    (shapes_form [] fuel F ts xs) (g.A.Asks.left c.args.asks.now) (shapes_form ss fuel F rest waiting) (g.A.Asks.left c.types.asks) (was.leads fuel enough)
    p (λ (s : TypeShape). shapes_form (ss ++ s ∷ []) fuel F more left)
    (shapes_split ss fuel F rest (type_at before first) more waiting (map (tree_at before) own.items) left p (ap (map (type_at before)) c.in-Some.ensures.cases.0) (ap (lists_at before) around) same)
    c.in_err-shape.field-0.0 (c.in_err-shape.ensures.outcome fuel (omega arith))))

pub types-preserved : goal.types-preserved
types-preserved g c =
    let before = g.A.Terms.contents c.args.asks.now in
    let now = g.A.Terms.contents c.types.asks in
    let after = g.A.Terms.contents c.type_of.new.asks in
    let F = frame_at before c.args.frame.now in
    let first = c.in-Some.stated.now in
    let own = c.in-Some-pop.own in
    let more = map (type_at before) c.in-Some.more.now in
    let was = c.types.invariant in
    let known = first_has (IsTypeIn before) c.types.rest.now first c.in-Some.more.now c.in-Some.ensures.cases.0 was.rest_in in
    let cut : c.types.waiting.items ≡ c.pop.new.self.items ++ own ∷ [] = search rules in
    let around = turned c.types.waiting.items c.pop.new.self.items own cut in
    let own_known = first_has (λ (ys : Vec ℕ Global). All (λ x. x < length before.trees) ys.items) (reverse c.types.waiting.items) own (reverse c.pop.new.self.items) around was.waiting_in in
    let ss = map (type_shape_at now) c.types.shapes.items in
    let p : ℕ → Program TypeShape = λ fuel. type_form fuel (frame_at now c.args.frame.now) (name_at now first.name) (map (constructor_at now) first.constructors.items) (map (tree_at now) own.items) in
    let ts = map (type_at before) c.args.types.now in
    let xs = lists_at before c.args.indices.items in
    let rest = map (type_at before) c.types.rest.now in
    let waiting = lists_at before (reverse c.types.waiting.items) in
    let left = lists_at before (reverse c.pop.new.self.items) in
    let grown = c.in_ok-shape.ensures.keeps in
    let pushed = c.in-Ok.ensures.items in
    let start = g.A.Asks.left c.types.asks in
    let end = g.A.Asks.left c.type_of.new.asks in
    let shape = type_shape_at after c.in_ok-shape.shape in
    let before_less = was.less in
    let here_less = goes_within (g.A.Asks.standing c.types.asks) (p (suc start)) start shape end (c.in_ok-shape.ensures.outcome (suc start) (omega arith)) in
    record {
      keeps = Extends-trans before now after was.keeps grown;
      same_standing = c.in_ok-shape.ensures.stays ∙ was.same_standing;
      less = omega arith;
      rest_in = rest_have (IsTypeIn before) c.types.rest.now first c.in-Some.more.now c.in-Some.ensures.cases.0 was.rest_in;
      waiting_in = rest_have (λ (ys : Vec ℕ Global). All (λ x. x < length before.trees) ys.items) (reverse c.types.waiting.items) own (reverse c.pop.new.self.items) around was.waiting_in;
      shapes_in = All-same (IsTypeShapeIn after) c.push.new.self.items (c.types.shapes.items ++ c.in_ok-shape.shape ∷ []) pushed
          (All-push (IsTypeShapeIn after) c.types.shapes.items c.in_ok-shape.shape (types-known now after grown c.types.shapes.items was.shapes_in) c.in_ok-shape.ensures.known);
      leads = λ fuel enough.
          leads_on (g.A.Asks.standing c.args.asks.now) (g.A.Asks.standing c.types.asks) was.same_standing
          (shapes_form [] fuel F ts xs) (g.A.Asks.left c.args.asks.now) (shapes_form ss fuel F rest waiting) start (was.leads fuel enough)
          (p fuel) (λ (s : TypeShape). shapes_form (ss ++ s ∷ []) fuel F more left)
          (shapes_split ss fuel F rest (type_at before first) more waiting (map (tree_at before) own.items) left (p fuel) (ap (map (type_at before)) c.in-Some.ensures.cases.0) (ap (lists_at before) around)
          (type_kept fuel (frame_at now c.args.frame.now) F (name_at now first.name) (name_at before first.name) (map (constructor_at now) first.constructors.items) (map (constructor_at before) first.constructors.items) (map (tree_at now) own.items) (map (tree_at before) own.items)
          (frame-steady before now c.args.frame.now was.keeps c.requires.frame_in) (was.keeps.names.same first.name known.stated.name_in) (constructors_stay before now was.keeps first.constructors.items known.constructors_in) (trees-steady before now own.items was.keeps own_known)))
          shape end (shapes_form (map (type_shape_at after) c.push.new.self.items) fuel F more left) (c.in_ok-shape.ensures.outcome fuel (omega arith))
          (ap (λ ys. shapes_form ys fuel F more left) (sym (ap (map (type_shape_at after)) pushed
          ∙ each-push (IsTypeShapeIn now) (type_shape_at after) (type_shape_at now) c.types.shapes.items c.in_ok-shape.shape (type-steady now after grown) was.shapes_in)));
    }

pub returns-clause-outcome : goal.returns-clause-outcome
returns-clause-outcome g c fuel enough =
    let before = g.A.Terms.contents c.args.asks.now in
    let now = g.A.Terms.contents c.types.asks in
    let F = frame_at before c.args.frame.now in
    let ts = map (type_at before) c.args.types.now in
    let xs = lists_at before c.args.indices.items in
    let rest = map (type_at before) c.types.rest.now in
    let waiting = lists_at before (reverse c.types.waiting.items) in
    let ss = map (type_shape_at now) c.types.shapes.items in
    goes_bare (g.A.Asks.standing c.args.asks.now) (shapes_steps fuel F ts xs) (g.A.Asks.left c.args.asks.now) (g.A.Asks.left c.types.asks) ss
    (leads_end (g.A.Asks.standing c.args.asks.now) (shapes_form [] fuel F ts xs) (g.A.Asks.left c.args.asks.now) (shapes_form ss fuel F rest waiting) (g.A.Asks.left c.types.asks) ss
    (c.types.invariant.leads fuel enough) (ap (λ ys. shapes_form ss fuel F ys waiting) (none_left (type_at before) c.types.rest.now c.in_default.ensures.cases) ∙ ap done (append-nil ss)))
