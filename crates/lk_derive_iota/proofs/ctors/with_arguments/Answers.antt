use Rattle.std.proofs.Common.{◌≡◌, ap, sym, ◌∙◌, length, drop, map}
use Rattle.std.proofs.lemmas.List.{length-map, drop-map}
use Rattle.lk_tree.specs.Spine.{args}
use Rattle.lk_store.specs.Contents.{Contents, tree_at}
use Rattle.lk_derive_iota.proofs.Fitting.{none_fits, one_fits}
use Rattle.lk_derive_iota.proofs.ctors.with_arguments.Goals as goal

pub by_rule-requires-clause-at : goal.by_rule-requires-clause-at
by_rule-requires-clause-at g c =
    let d : Contents = g.D.Terms.contents c.args.derives.now in
    let t = tree_at d in
    let h = c.requires.at in
    let items = c.args.arguments.now in
    let are = c.rules_of-rules.ensures.value h.R.entry h.R.recursor h.redex.entry_is h.R.kind in
    let many : length items ≡ length (args (t c.args.x)) = sym (length-map items t) ∙ ap length c.requires.arguments_are.are in
    let fields : map t c.split_at.result.1.now ≡ drop c.args.constructor.parameters (args (t c.args.x)) =
    ap (map t) c.split_at.ensures.back ∙ sym (drop-map t c.args.constructor.parameters items) ∙ ap (drop c.args.constructor.parameters) c.requires.arguments_are.are in
    one_fits (t c.args.x) h c.args.constructor c.requires.constructor_is c.rules_of-rules.result.now are (length items) many c.in-Some.placed.place c.in-Some.placed.rule c.split_at.result.1.now c.in-Some.ensures.place c.in-Some.ensures.is fields

pub returns-in-None-clause-whole : goal.returns-in-None-clause-whole
returns-in-None-clause-whole g c =
    let d : Contents = g.D.Terms.contents c.args.derives.now in
    let t = tree_at d in
    let h = c.requires.at in
    let items = c.args.arguments.now in
    let are = c.rules_of-rules.ensures.value h.R.entry h.R.recursor h.redex.entry_is h.R.kind in
    let many : length items ≡ length (args (t c.args.x)) = sym (length-map items t) ∙ ap length c.requires.arguments_are.are in
    none_fits (t c.args.x) h c.args.constructor c.requires.constructor_is c.rules_of-rules.result.now are (length items) many c.in-None.ensures.is
