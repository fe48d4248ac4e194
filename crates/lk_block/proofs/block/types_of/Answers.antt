use Rattle.std.proofs.Common.{◌<◌, map, refl, sym, subst}
use Rattle.lk_store.specs.Contents.{tree_at, level_at}
use Rattle.lk_env.specs.Units.{type_at}
use Rattle.lk_inductive.specs.BlockSteps.{shapes_steps}
use Rattle.lk_block.specs.Frames.{frame_at}
use Rattle.lk_block.specs.Parts.{lists_at}
use Rattle.lk_block.specs.Wholes.{shapes_form}
use Rattle.lk_block.proofs.Firsts.{lists-steady}
use Rattle.lk_declaration.proofs.Moves.{gives_moved}
use Rattle.lk_env.proofs.Stays.{types_stay}
use Rattle.lk_block.proofs.block.types_of.Goals as goal

pub returns-clause-outcome : goal.returns-clause-outcome
returns-clause-outcome g c fuel enough =
    let before = g.A.Terms.contents c.args.asks.now in
    let after = g.A.Terms.contents c.frame_of.new.asks in
    let grown = c.in_ok-frame.ensures.keeps in
    gives_moved (g.A.Asks.standing c.args.asks.now) (g.A.Asks.standing c.frame_of.new.asks) c.in_ok-frame.ensures.stays
    (shapes_form fuel (map (type_at before) c.args.types.now) (map (tree_at before) c.args.parameters.now) (level_at before c.args.sort) (lists_at before c.args.indices.items))
    (shapes_steps fuel (frame_at after c.in_ok-frame.frame) (map (type_at after) c.args.types.now) (lists_at after c.args.indices.items))
    (rw (c.in_ok-frame.ensures.frame, types_stay before after grown c.args.types.now c.requires.types_in, lists-steady before after c.args.indices.items grown c.requires.indices_in) refl)
    (g.A.Asks.left c.args.asks.now) (g.A.Asks.left c.frame_of.new.asks) c.in_ok-frame.ensures.left
    _ (g.A.Asks.left c.check_constructors.new.asks) c.check_constructors.result (c.check_constructors.ensures.outcome fuel (subst (λ n. n < fuel) (sym c.in_ok-frame.ensures.left) enough))
