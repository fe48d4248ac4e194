use Rattle.std.specs.Prelude.{◌≡◌, ◌<◌, length}
use Rattle.lk_store.specs.Contents.{Extends}
use Rattle.lk_store.specs.Layers.{layers_contents}
use Rattle.store_bench.proofs.tests.spelling.doubled.Given as goal

abbrev pub invariant-doublings : goal.invariant-doublings
invariant-doublings l =
    let d = layers_contents l.terms in
    record {
      base : l.terms.base ≡ l.fn.terms.base;
      keeps : Extends (layers_contents l.fn.terms) d;
      known : l.body < length d.trees;
    }
