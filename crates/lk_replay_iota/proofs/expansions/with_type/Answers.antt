use Rattle.std.proofs.Common.{rules, ap, sym, ◌∙◌}
use Rattle.lk_tree.specs.Spine.{head}
use Rattle.lk_questions.specs.Iota.{levels_at}
use Rattle.lk_store.specs.Contents.{tree_at}
use Rattle.lk_replay_iota.proofs.expansions.with_type.Goals as goal

pub returns-in-Some : goal.returns-in-Some
returns-in-Some g c k h =
    let ty = tree_at (g.L.Terms.contents c.args.looks.now) c.args.ty in
    rw (ap (λ n. levels_at n (head ty)) (sym h.inductive_is) ∙ rw c.in-Some.is at c.levels_of_type.ensures.is) (c.with_levels.ensures k h)

pub returns-in-None : goal.returns-in-None
returns-in-None g c k h =
    let ty = tree_at (g.L.Terms.contents c.args.looks.now) c.args.ty in
    rw (ap (λ n. levels_at n (head ty)) (sym h.inductive_is) ∙ rw c.in-None.is at c.levels_of_type.ensures.is)
    (record { keeps = search rules; stays = search rules; ok = search rules })
