use Rattle.std.proofs.Common.{◌≡◌, ◌≤◌, true, ◌&&◌, nat_le, length, map, take, sym, ap, ◌∙◌, arith}
use Rattle.std.proofs.lemmas.List.{length-map, take-map}
use Rattle.lk_tree.specs.Spine.{apply, args}
use Rattle.lk_questions.specs.Steps.{is_same_tree}
use Rattle.lk_store.specs.Contents.{tree_at}
use Rattle.lk_replay_iota.proofs.Applying.{at_least}
use Rattle.lk_replay_iota.proofs.candidates.is_at_parameters.Goals as goal

pub returns : goal.returns
returns g c =
    let t = tree_at (g.L.Terms.contents c.args.looks.now) in
    let items = c.in_ok-arguments.arguments.items in
    let p = c.args.parameters in
    let ty = t c.args.ty in
    let shared : map t c.first_arguments-shared.result.now ≡ take p (args ty) =
    ap (map t) (c.first_arguments-shared.ensures ∙ ap (λ n. take n c.deref.result.now) c.from-2.ensures ∙ ap (take p) c.deref.ensures.value)
    ∙ sym (take-map t p items) ∙ ap (take p) c.in_ok-arguments.ensures.are in
    let many : length (args ty) ≡ length items = sym (ap length c.in_ok-arguments.ensures.are) ∙ length-map items t in
    let less = c.if-from-len.false in
    let enough : p ≤ length (args ty) = omega arith in
    c.is_applied_to.ensures
    ∙ ap (λ ys. is_same_tree (t c.args.d) (apply (t c.args.front) ys)) shared
    ∙ sym (ap (λ z. z && is_same_tree (t c.args.d) (apply (t c.args.front) (take p (args ty)))) (at_least p (length (args ty)) enough))
