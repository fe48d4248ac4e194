use Rattle.std.specs.Prelude.{◌≤◌, All}
use Rattle.lk_store.specs.Contents.{Contents}
use Rattle.lk_store.specs.Layers.{layers_contents}
use Rattle.lk_spell.specs.Spelling.{IsSpeller}
use Rattle.lk_spell.specs.Waiting.{turns}
use Rattle.lk_spell.specs.Wide.{IsPartOf, IsCounting}
use Rattle.lk_spell.proofs.Waiting.{IsUnderWay}
use Rattle.lk_spell.proofs.Counting.{visit_part}
use Rattle.lk_spell.proofs.walk.walk.Given as goal

abbrev pub invariant-walk : goal.invariant-walk
invariant-walk l =
    let c = layers_contents l.terms in
    record {
      few : l.speller.counted ≤ 4096;
      under_way : IsUnderWay c l.speller.numbers l.fn.root l.stack.items;
      of : All (λ v. IsPartOf c l.fn.root (visit_part v)) l.stack.items;
      counting : (b : Contents) → IsCounting b c l.fn.root l.initial.speller → IsCounting b c l.fn.root l.speller;
      spells : (b : Contents) → IsSpeller b c l.initial.speller → IsSpeller b c l.speller;
    }

abbrev pub decreases-walk : goal.decreases-walk
decreases-walk l = turns (layers_contents l.terms) l.stack.items
