use Rattle.std.proofs.Common.{◌≡◌, map, take, drop, sym, ap, ◌∙◌}
use Rattle.std.proofs.lemmas.List.{take-map, drop-map}
use Rattle.lk_tree.specs.Spine.{apply, args}
use Rattle.lk_questions.specs.Steps.{is_same_tree}
use Rattle.lk_store.specs.Contents.{tree_at}
use Rattle.lk_replay_iota.proofs.Applying.{front_tests, front_fails}
use Rattle.lk_replay_iota.proofs.rules.is_made.Goals as goal

pub returns-in-Some : goal.returns-in-Some
returns-in-Some g c =
    let t = tree_at (g.L.Terms.contents c.args.looks.now) in
    let front = c.in_ok-front.front.items in
    let values = c.in_ok-values.values.items in
    let h = t c.in-Some.rest in
    let v = t c.args.value in
    let shared : map t c.first_arguments.result.now ≡ take c.args.shared (args (t c.args.f)) =
    ap (map t) (c.first_arguments.ensures ∙ ap (take c.args.shared) c.deref-in-Some.ensures.value)
    ∙ sym (take-map t c.args.shared front) ∙ ap (take c.args.shared) c.in_ok-front.ensures.are in
    let fields : map t c.other_arguments.result.now ≡ drop c.args.parameters (args (t c.args.e)) =
    ap (map t) (c.other_arguments.ensures ∙ ap (drop c.args.parameters) c.deref.ensures.value)
    ∙ sym (drop-map t c.args.parameters values) ∙ ap (drop c.args.parameters) c.in_ok-values.ensures.are in
    c.is_applied_to.ensures
    ∙ ap (λ ys. is_same_tree h (apply v ys)) shared
    ∙ front_tests (t c.args.b) h (apply v (take c.args.shared (args (t c.args.f)))) (drop c.args.parameters (args (t c.args.e)))
    (c.in-Some.ensures.1 ∙ ap (apply h) fields)

pub returns : goal.returns
returns g c =
    let t = tree_at (g.L.Terms.contents c.args.looks.now) in
    let values = c.in_ok-values.values.items in
    let v = t c.args.value in
    let fields : map t c.other_arguments.result.now ≡ drop c.args.parameters (args (t c.args.e)) =
    ap (map t) (c.other_arguments.ensures ∙ ap (drop c.args.parameters) c.deref.ensures.value)
    ∙ sym (drop-map t c.args.parameters values) ∙ ap (drop c.args.parameters) c.in_ok-values.ensures.are in
    front_fails (t c.args.b) (apply v (take c.args.shared (args (t c.args.f)))) (drop c.args.parameters (args (t c.args.e)))
    (λ h e. c.in-None.ensures h (e ∙ ap (apply h) (sym fields)))
