use Rattle.std.specs.Prelude.{◌≡◌, length}
use Rattle.lk_store.specs.Contents.{Extends}
use Rattle.lk_store.specs.Store.{contents_of}
use Rattle.lk_store.specs.Layers.{layers_contents}
use Rattle.lk_spell.proofs.InTurn.{IsMaking}
use Rattle.lk_spell.proofs.making.unspell.Given as goal

abbrev pub invariant-make : goal.invariant-make
invariant-make l =
    let d = layers_contents l.terms in
    record {
      base : l.terms.base ≡ l.initial.terms.base;
      keeps : Extends (layers_contents l.initial.terms) d;
      making : IsMaking (contents_of l.initial.terms.base) d l.fn.spelled.own.items l.rest l.sizes l.numbers;
    }

abbrev pub decreases-make : goal.decreases-make
decreases-make l = length l.rest
