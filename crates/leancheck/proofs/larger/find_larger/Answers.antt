use Rattle.std.proofs.Common.{map, ap, sym, subst, ◌<◌, length, All, ◌∙◌}
use Rattle.lk_env.specs.Units.{block_at, type_at}
use Rattle.lk_store.specs.Contents.{tree_at}
use Rattle.lk_inductive.specs.Enlarged.{setting_of}
use Rattle.lk_inductive.specs.Nested.{enlarge as enlarged}
use Rattle.lk_mentions.proofs.TypeNames.{names_known}
use Rattle.lk_nested.proofs.Findings.{finds_gives}
use Rattle.lk_enlarge.specs.Larger.{larger_or}
use Rattle.leancheck.proofs.Enlarging.{larger_levels, finds_moved}
use Rattle.leancheck.proofs.Settings.{setting_is, setting_known}
use Rattle.leancheck.proofs.larger.find_larger.Goals as goal

pub enlarge-requires-clause-setting_in : goal.enlarge-requires-clause-setting_in
enlarge-requires-clause-setting_in g c =
    let at = g.F.Terms.contents c.args.asks.now in
    let types = c.args.block.now.types.items in
    setting_known at c.args.block.now c.setting_with-setting.result (c.setting_with-setting.ensures.levels at) c.args.names.now c.args.parameters.now c.args.own_levels
    c.setting_with-setting.ensures.names c.setting_with-setting.ensures.parameters c.setting_with-setting.ensures.own_levels
    (subst (All (λ n. n < length at.names)) (sym c.requires.names_are) (names_known at types c.requires.types_in)) (c.setting_with-setting.ensures.known at c.requires.types_in) c.requires.parameters_in c.requires.own_levels_are

pub returns-clause-left : goal.returns-clause-left
returns-clause-left g c = (g.met.F.Asks.decided c.enlarge.new.asks c.args.asks.now c.enlarge.ensures.rest).1

pub returns-clause-levels : goal.returns-clause-levels
returns-clause-levels g c =
    let at = g.F.Terms.contents c.args.asks.now in
    let grown = g.F.Terms.contents c.enlarge.new.asks in
    let place = (g.F.Asks.standing c.args.asks.now).place in
    let types = c.args.block.now.types.items in
    let is = setting_is at c.args.block.now c.setting_with-setting.result (c.setting_with-setting.ensures.levels at) c.args.parameters.now (c.setting_with-setting.ensures.names ∙ c.requires.names_are) c.setting_with-setting.ensures.parameters in
    larger_levels place (setting_of (block_at at c.args.block.now) (map (tree_at at) c.args.parameters.now)) (map (type_at at) types) grown c.enlarge.result
    (finds_moved place grown c.enlarge.result is (ap (map (type_at at)) c.deref.ensures.value) c.enlarge.ensures.enlarges)

pub returns-clause-outcome : goal.returns-clause-outcome
returns-clause-outcome g c =
    let at = g.F.Terms.contents c.args.asks.now in
    let grown = g.F.Terms.contents c.enlarge.new.asks in
    let s = g.F.Asks.standing c.args.asks.now in
    let types = map (type_at at) c.args.block.now.types.items in
    let is = setting_is at c.args.block.now c.setting_with-setting.result (c.setting_with-setting.ensures.levels at) c.args.parameters.now (c.setting_with-setting.ensures.names ∙ c.requires.names_are) c.setting_with-setting.ensures.parameters in
    finds_gives s (enlarged (setting_of (block_at at c.args.block.now) (map (tree_at at) c.args.parameters.now)) types) (g.F.Asks.left c.args.asks.now) (larger_or grown types) c.enlarge.result
    (finds_moved s.place grown c.enlarge.result is (ap (map (type_at at)) c.deref.ensures.value) c.enlarge.ensures.enlarges)
