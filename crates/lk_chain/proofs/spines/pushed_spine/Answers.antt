use Rattle.std.proofs.Common.{rules, ◌≡◌, ap, ◌∙◌}
use Rattle.lk_tree.specs.Loose.{loose}
use Rattle.lk_questions.specs.Answer.{later}
use Rattle.lk_questions.specs.Erased.{a_tree, erased, run_steps, out_of}
use Rattle.lk_questions.specs.Infer.{infer_steps}
use Rattle.lk_questions.specs.Table.{steps}
use Rattle.lk_store.specs.Contents.{tree_at}
use Rattle.lk_store.proofs.Extending.{Extends-trans}
use Rattle.lk_chain.specs.Spines.{unit_of, IsTypeOf}
use Rattle.lk_chain.proofs.Arguments.{arguments_closed, unit_steady, spine_runs}
use Rattle.lk_chain.proofs.spines.pushed_spine.Goals as goal

pub pushed_type-requires-clause-arguments_in : goal.pushed_type-requires-clause-arguments_in
pushed_type-requires-clause-arguments_in g c =
    let one = g.L.Terms.contents c.type_of.new.looks in
    let closed : loose (tree_at one c.args.e) ≡ 0 =
    ap loose (c.type_of.ensures.keeps.trees.same c.args.e c.requires.e_in)
    ∙ c.requires.closed in
    rw c.deref.ensures.value (arguments_closed one (tree_at one c.args.e)
    c.in_ok-arguments.arguments.items closed c.in_ok-arguments.ensures)

pub returns : goal.returns
returns g c =
    let contents = g.L.Terms.contents in
    let rest = g.L.Terms.rest in
    let sight = g.L.Looks.sight in
    let w = (sight (rest c.args.looks.now)).basis.place in
    let before = (sight (rest c.args.looks.now)).last in
    let one = contents c.type_of.new.looks in
    let two = contents c.pushed_type.new.looks in
    let three = contents c.make.new.self in
    let four = contents c.apply.new.terms in
    let unit = c.in-Some.found.1 in
    let spine = c.in_ok-spine.spine in
    let typed : IsTypeOf w one (tree_at (contents c.args.looks.now) c.head-function.result)
    c.in-Some.found = rw c.in-Some.is at c.in_ok-found.ensures.ok in
    let none : loose (tree_at one c.in-Some.found.0) ≡ 0 = search rules in
    let grows = Extends-trans one two four c.pushed_type.ensures.keeps (Extends-trans two three four
    c.make.ensures.keeps c.apply.ensures.keeps) in
    let stays : rest c.apply.new.terms ≡ rest c.args.looks.now =
    c.apply.ensures.rest
    ∙ (c.make.ensures.rest ∙ (c.pushed_type.ensures.stays ∙ c.type_of.ensures.stays)) in
    let noted : (sight (rest c.note.new.looks)).last ≡ later before (unit_of w one unit) =
    c.note.ensures.last ∙ (ap (λ q. later (sight q).last (unit_of (sight q).basis.place four unit))
    stays ∙ ap (later before) (unit_steady w grows unit typed.meant)) in
    let same : tree_at (contents c.note.new.looks) spine ≡ tree_at four spine =
    ap (λ k. tree_at k spine) c.note.ensures.contents in
    record {
      keeps = rw c.note.ensures.contents (Extends-trans _ one four c.type_of.ensures.keeps grows);
      stays = c.note.ensures.stays ∙ ap (λ q. (sight q).basis) stays;
      runs = (
        search rules,
        λ b. ap (λ u. run_steps (out_of steps w) (erased w a_tree u
            (infer_steps (tree_at (contents c.note.new.looks) spine))) b) noted
            ∙ (ap (λ t. run_steps (out_of steps w) (erased w a_tree (later before (unit_of w one
            unit)) (infer_steps t)) b) same
            ∙ spine_runs w c.args.e c.head-function.result c.in-Some.found.0 c.in_ok-pushed.pushed
            c.in_ok-local.local spine unit c.in_ok-arguments.arguments.items before
            c.requires.e_in c.requires.closed c.type_of.ensures.keeps c.pushed_type.ensures.keeps
            c.make.ensures.keeps c.head-function.ensures typed none
            c.in_ok-arguments.ensures (rw c.deref.ensures.value at c.in_ok-pushed.ensures.ok)
            c.in_ok-local.ensures.ok (rw c.deref-2.ensures.value at c.in_ok-spine.ensures.ok)
            b),
      );
    }
