use Rattle.std.proofs.Common.{refl}
use Rattle.lk_store.specs.Store.{contents_of}
use Rattle.lk_store.specs.Layers.{layers_contents}
use Rattle.lk_spell.proofs.Beginning.{base_known, spelling_begun, wide_begun}
use Rattle.lk_spell.proofs.Ending.{plain_spelled, plain_tree, whole_spelled, whole_tree}
use Rattle.std.proofs.lemmas.Result.{err_from_is_err_and}
use Rattle.lk_spell.specs.declared.part.Part.TheVariants as part
use Rattle.lk_spell.proofs.walk.spell.Goals as goal

pub returns-then-e-sizes-clause-spelled : goal.returns-then-e-sizes-clause-spelled
returns-then-e-sizes-clause-spelled c =
    let now = c.args.terms.now in
    let all = layers_contents now in
    plain_spelled (contents_of now.base) all (record { own = c.new.result; root = c.args.e }) c.args.e c.new.ensures.items refl
    (base_known now.base all c.base_sizes-sizes.result c.base_sizes-sizes.ensures c.args.e c.if-e-sizes.true)

pub returns-then-e-sizes-clause-tree : goal.returns-then-e-sizes-clause-tree
returns-then-e-sizes-clause-tree c =
    let now = c.args.terms.now in
    let all = layers_contents now in
    plain_tree (contents_of now.base) all (record { own = c.new.result; root = c.args.e }) c.args.e c.new.ensures.items refl
    (base_known now.base all c.base_sizes-sizes.result c.base_sizes-sizes.ensures c.args.e c.if-e-sizes.true) c.requires.over

pub returns-clause-spelled : goal.returns-clause-spelled
returns-clause-spelled c =
    let now = c.args.terms.now in
    let all = layers_contents now in
    let new = c.new-speller.ensures in
    let begun = spelling_begun now.base all c.base_sizes-sizes.result c.base_sizes-sizes.ensures c.new-speller.result new.base new.none new.own new.sizes new.counted c.requires.over in
    whole_spelled (contents_of now.base) all c.finish.result c.args.e c.walk.new.speller (c.in_ok-walk.ensures.spells (contents_of now.base) begun) c.in_ok-walk.ensures.done
    c.finish.ensures.own c.finish.ensures.root

pub returns-clause-tree : goal.returns-clause-tree
returns-clause-tree c =
    let now = c.args.terms.now in
    let all = layers_contents now in
    let new = c.new-speller.ensures in
    let begun = spelling_begun now.base all c.base_sizes-sizes.result c.base_sizes-sizes.ensures c.new-speller.result new.base new.none new.own new.sizes new.counted c.requires.over in
    whole_tree (contents_of now.base) all c.finish.result c.args.e c.walk.new.speller (c.in_ok-walk.ensures.spells (contents_of now.base) begun) c.in_ok-walk.ensures.done
    c.finish.ensures.own c.finish.ensures.root

pub returns-in_err-walk-clause-wide : goal.returns-in_err-walk-clause-wide
returns-in_err-walk-clause-wide c =
    let now = c.args.terms.now in
    let all = layers_contents now in
    let new = c.new-speller.ensures in
    let p = err_from_is_err_and c.from_residual.result c.from_residual.ensures.1 in
    rw (p.1, p.2) (c.in_err-walk.ensures.wide (contents_of now.base)
    (wide_begun now.base all c.base_sizes-sizes.result c.base_sizes-sizes.ensures c.new-speller.result (part.Term c.args.e) new.base new.counted))
