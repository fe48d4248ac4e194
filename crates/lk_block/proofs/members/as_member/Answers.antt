use Rattle.std.proofs.Common.{◌≡◌, IfOk, Some, sym, ap, subst, ◌∙◌}
use Rattle.lk_tree.specs.Spine.{head, args}
use Rattle.lk_inductive.specs.Block.{Frame}
use Rattle.lk_inductive.specs.BlockSteps.{after_params, plain_indices}
use Rattle.lk_store.specs.Contents.{name_at, tree_at}
use Rattle.lk_block.specs.Frames.{frame_at}
use Rattle.lk_lists.specs.Names.{named_at}
use Rattle.lk_block.specs.Members.{own_name, member_at}
use Rattle.lk_block.proofs.Frames.{frame-steady}
use Rattle.lk_block.proofs.Arguments.{member_named}
use Rattle.lk_block.proofs.members.as_member.Goals as goal

pub returns-clause-member : goal.returns-clause-member
returns-clause-member g c =
    let before = g.A.Terms.contents c.args.asks.now in
    let after = g.A.Terms.contents c.own_name.new.asks in
    let F = frame_at before c.args.frame.now in
    let T = name_at after c.in-Some.name in
    let e = tree_at before c.args.e in
    let named : Some T ≡ own_name F.levels (head e) = sym (ap (named_at after) c.in-Some.is) ∙ c.in_ok-own_name.ensures.name ∙ ap (own_name F.levels) c.head-start.ensures.is in
    subst (λ y. IfOk c.member_in.result (λ o. member_at after o ≡ y))
    (ap (λ (G : Frame). plain_indices G T (after_params G.params (args (tree_at after c.args.e)))) (frame-steady before after c.args.frame.now c.in_ok-own_name.ensures.keeps c.requires.frame_in)
    ∙ ap (λ t. plain_indices F T (after_params F.params (args t))) (c.in_ok-own_name.ensures.keeps.trees.same c.args.e c.requires.e_in) ∙ sym (member_named F (head e) (args e) T named)) c.member_in.ensures.member
