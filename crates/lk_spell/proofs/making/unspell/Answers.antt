use Rattle.std.proofs.Common.{rules, refl, ◌∙◌, subst}
use Rattle.std.proofs.lemmas.List.{nil_from_length}
use Rattle.lk_store.specs.Store.{contents_of}
use Rattle.lk_store.proofs.Extending.{Extends-trans}
use Rattle.lk_store.specs.Layers.{layers_contents}
use Rattle.lk_spell.proofs.Beginning.{making_begun}
use Rattle.lk_spell.proofs.Growing.{Extends-self}
use Rattle.lk_spell.proofs.InTurn.{IsMaking, makes_known, makes, made_all}
use Rattle.lk_spell.proofs.making.unspell.Goals as goal

pub make-init : goal.make-init
make-init c =
    let now = c.args.terms.now in
    let all = layers_contents now in
    record {
      base = refl;
      keeps = Extends-self all;
      making = rw c.as_slice-rest.ensures.value
          (making_begun now.base all c.base_sizes-sizes.result c.base_sizes-sizes.ensures c.new-numbers.result c.args.spelled.now.own.items c.new-numbers.ensures.base c.new-numbers.ensures.own c.requires.spelled.own c.requires.over);
    }

pub make_own-requires-clause-known : goal.make_own-requires-clause-known
make_own-requires-clause-known c =
    makes_known (contents_of c.args.terms.now.base) (layers_contents c.make.terms) c.args.spelled.now.own.items c.make.rest.now c.make.sizes c.make.numbers
    c.in-Some.node.now c.in-Some.more.now (search rules) c.make.invariant.making

pub make-preserved : goal.make-preserved
make-preserved c =
    let first = layers_contents c.args.terms.now in
    let d = layers_contents c.make.terms in
    let new = c.make_own.new.terms in
    let d' = layers_contents new in
    record {
      base = c.in_ok-number.ensures.base ∙ c.make.invariant.base;
      keeps = Extends-trans first d d' c.make.invariant.keeps c.in_ok-number.ensures.keeps;
      making = makes (contents_of c.args.terms.now.base) d c.args.spelled.now.own.items c.make.rest.now c.make.sizes c.make.numbers c.in-Some.node.now c.in-Some.more.now (search rules) c.make.invariant.making
          d' c.number_next.new.sizes c.add.new.self c.in_ok-part.part c.in_ok-number.number c.in_ok-number.ensures.keeps c.in_ok-number.ensures.made c.in_ok-part.ensures (search rules);
    }

pub returns-clause-tree : goal.returns-clause-tree
returns-clause-tree c =
    let b = contents_of c.args.terms.now.base in
    let d = layers_contents c.make.terms in
    let all = c.args.spelled.now.own.items in
    let made = subst (λ rest. IsMaking b d all rest c.make.sizes c.make.numbers) (nil_from_length c.make.rest.now c.in_default.ensures.cases) c.make.invariant.making in
    rw c.get.ensures (made_all b d c.args.spelled.now c.make.sizes c.make.numbers made c.requires.spelled).1
