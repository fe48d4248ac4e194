use Rattle.std.proofs.Common.{List, length, map, sym, subst}
use Rattle.std.proofs.lemmas.List.{length-map}
use Rattle.std.proofs.lemmas.Result.{err_from_is_err_and}
use Rattle.lk_tree.specs.Tree.{Tree}
use Rattle.lk_questions.specs.Program.{done, ◌>>=◌}
use Rattle.lk_inductive.specs.Block.{Field, CtorShape}
use Rattle.lk_inductive.specs.BlockSteps.{fields_steps}
use Rattle.lk_store.specs.Contents.{name_at, tree_at}
use Rattle.lk_store.proofs.Extending.{Extends-trans}
use Rattle.lk_declaration.specs.Courses.{Goes, Halts}
use Rattle.lk_block.specs.Frames.{frame_at}
use Rattle.lk_block.specs.Shapes.{field_at, constructor_shape_at}
use Rattle.lk_block.specs.Constructors.{result_form}
use Rattle.lk_declaration.proofs.Running.{halts_first}
use Rattle.lk_block.proofs.Frames.{frame-steady}
use Rattle.lk_block.proofs.Shaping.{fields-steady}
use Rattle.lk_block.proofs.EachConstructor.{result_kept, rest_goes, rest_halts, shape_is}
use Rattle.lk_block.proofs.constructors.rest_of.Goals as goal

pub returns-in_err-opened-clause-outcome : goal.returns-in_err-opened-clause-outcome
returns-in_err-opened-clause-outcome g c fuel enough =
    let before = g.A.Terms.contents c.args.asks.now in
    let F = frame_at before c.args.frame.now in
    let T = name_at before c.args.parent in
    let r = tree_at before c.args.e in
    let count = sym (length-map c.args.frame.now.parameters.now (tree_at before)) in
    let p = err_from_is_err_and c.from_residual.result c.from_residual.ensures.1 in
    rw (p.1, p.2) (halts_first (g.A.Asks.standing c.args.asks.now) (fields_steps fuel F (length F.params) c.args.stated.now.fields r) (λ (fs : List Field × Tree). result_form F T fs.1 >>= λ is. done (let s : CtorShape = record { name = name_at before c.args.stated.now.name; fields = fs.0; indices = is } in s))
    (g.A.Asks.left c.args.asks.now) c.in_err-opened.field-0.0
    (subst (λ n. Halts (g.A.Asks.standing c.args.asks.now) (fields_steps fuel F n c.args.stated.now.fields r) (g.A.Asks.left c.args.asks.now) c.in_err-opened.field-0.0) count (c.in_err-opened.ensures.outcome fuel enough)))

pub returns-clause-outcome : goal.returns-clause-outcome
returns-clause-outcome g c fuel enough =
    let before = g.A.Terms.contents c.args.asks.now in
    let between = g.A.Terms.contents c.fields.new.asks in
    let after = g.A.Terms.contents c.result_of.new.asks in
    let F = frame_at before c.args.frame.now in
    let T = name_at before c.args.parent in
    let r = tree_at before c.args.e in
    let fs = map (field_at between) c.in_ok-opened.opened.0.items in
    let e = tree_at between c.in_ok-opened.opened.1 in
    let is = map (tree_at after) c.in_ok-indices.indices.items in
    let start = g.A.Asks.left c.args.asks.now in
    let middle = g.A.Asks.left c.fields.new.asks in
    let end = g.A.Asks.left c.result_of.new.asks in
    let count = sym (length-map c.args.frame.now.parameters.now (tree_at before)) in
    let all = Extends-trans before between after c.in_ok-opened.ensures.keeps c.in_ok-indices.ensures.keeps in
    rest_goes (g.A.Asks.standing c.args.asks.now) (g.A.Asks.standing c.fields.new.asks) c.in_ok-opened.ensures.stays
    fuel F T (name_at before c.args.stated.now.name) c.args.stated.now.fields r start middle fs e
    (subst (λ n. Goes (g.A.Asks.standing c.args.asks.now) (fields_steps fuel F n c.args.stated.now.fields r) start (fs, e) middle) count (c.in_ok-opened.ensures.outcome fuel enough))
    is (constructor_shape_at after (record { name = c.args.stated.now.name; fields = c.in_ok-opened.opened.0; indices = c.in_ok-indices.indices })) end
    (subst (λ p. Goes (g.A.Asks.standing c.fields.new.asks) p middle is end)
    (result_kept (frame_at between c.args.frame.now) F (name_at between c.args.parent) T e (frame-steady before between c.args.frame.now c.in_ok-opened.ensures.keeps c.requires.frame_in) (c.in_ok-opened.ensures.keeps.names.same c.args.parent c.requires.parent_in))
    c.in_ok-indices.ensures.outcome)
    (shape_is (name_at after c.args.stated.now.name) (name_at before c.args.stated.now.name) (map (field_at after) c.in_ok-opened.opened.0.items) fs is (all.names.same c.args.stated.now.name c.requires.name_in) (fields-steady between after c.in_ok-indices.ensures.keeps c.in_ok-opened.opened.0.items c.in_ok-opened.ensures.fields_known))

pub returns-in_err-indices-clause-outcome : goal.returns-in_err-indices-clause-outcome
returns-in_err-indices-clause-outcome g c fuel enough =
    let before = g.A.Terms.contents c.args.asks.now in
    let between = g.A.Terms.contents c.fields.new.asks in
    let F = frame_at before c.args.frame.now in
    let T = name_at before c.args.parent in
    let r = tree_at before c.args.e in
    let fs = map (field_at between) c.in_ok-opened.opened.0.items in
    let e = tree_at between c.in_ok-opened.opened.1 in
    let start = g.A.Asks.left c.args.asks.now in
    let middle = g.A.Asks.left c.fields.new.asks in
    let count = sym (length-map c.args.frame.now.parameters.now (tree_at before)) in
    let p = err_from_is_err_and c.from_residual-in_err-indices.result c.from_residual-in_err-indices.ensures.1 in
    rw (p.1, p.2) (rest_halts (g.A.Asks.standing c.args.asks.now) (g.A.Asks.standing c.fields.new.asks) c.in_ok-opened.ensures.stays
    fuel F T (name_at before c.args.stated.now.name) c.args.stated.now.fields r start middle fs e
    (subst (λ n. Goes (g.A.Asks.standing c.args.asks.now) (fields_steps fuel F n c.args.stated.now.fields r) start (fs, e) middle) count (c.in_ok-opened.ensures.outcome fuel enough))
    c.in_err-indices.field-0.0
    (subst (λ p. Halts (g.A.Asks.standing c.fields.new.asks) p middle c.in_err-indices.field-0.0)
    (result_kept (frame_at between c.args.frame.now) F (name_at between c.args.parent) T e (frame-steady before between c.args.frame.now c.in_ok-opened.ensures.keeps c.requires.frame_in) (c.in_ok-opened.ensures.keeps.names.same c.args.parent c.requires.parent_in))
    c.in_err-indices.ensures.outcome))
