use Rattle.std.proofs.Common.{◌<◌, length, map, All, ap, sym, subst, ◌∙◌, arith}
use Rattle.lk_rulebook.specs.Place.{type_names}
use Rattle.lk_store.specs.Contents.{name_at}
use Rattle.lk_subst.specs.Numbers.{trees-steady, trees-known}
use Rattle.lk_inductive.specs.Block.{counts_of}
use Rattle.lk_mentions.proofs.TypeNames.{names_are, names_known}
use Rattle.lk_block.proofs.Frames.{frame_same}
use Rattle.lk_env.proofs.Stays.{types_stay, types_in_stay}
use Rattle.lk_block.proofs.block.frame_of.Goals as goal

pub returns-clause-known : goal.returns-clause-known
returns-clause-known g c =
    let before = g.A.Terms.contents c.args.asks.now in
    let after = g.A.Terms.contents c.own_levels.new.asks in
    let grown = c.in_ok-levels.ensures.keeps in
    record {
      levels_in = c.in_ok-levels.ensures.ok.known;
      parameters_in = trees-known before after c.args.parameters.now grown c.requires.parameters_in;
      sort_in = let longer = grown.levels.longer in let small = c.requires.sort_in in omega arith;
      names_in = subst (All (λ n. n < length after.names)) (sym c.in_ok-names.ensures) (names_known after c.args.types.now (types_in_stay before after grown c.args.types.now c.requires.types_in));
      types_in = types_in_stay before after grown c.args.types.now c.requires.types_in;
    }

pub returns-clause-frame : goal.returns-clause-frame
returns-clause-frame g c =
    let before = g.A.Terms.contents c.args.asks.now in
    let after = g.A.Terms.contents c.own_levels.new.asks in
    let grown = c.in_ok-levels.ensures.keeps in
    let types = types_stay before after grown c.args.types.now c.requires.types_in in
    frame_same _ _ _ _ _ _ _ _ _ _ c.in_ok-levels.ensures.ok.is (trees-steady before after c.args.parameters.now grown c.requires.parameters_in) (grown.levels.same c.args.sort c.requires.sort_in)
    (ap (map (name_at after)) c.in_ok-names.ensures ∙ names_are after c.args.types.now ∙ ap type_names types) (ap counts_of types)
