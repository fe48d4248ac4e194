use Rattle.leancheck.proofs.Needed.{closure_below, needed_result}
use Rattle.leancheck.proofs.trimming.needed.Goals as goal

pub canonical-requires : goal.canonical-requires
canonical-requires c = record {
  below = rw c.deref.ensures.value (closure_below c.args.library.now c.args.unit c.in_ok-numbers.numbers.items c.in_ok-numbers.ensures c.requires);
}

pub returns : goal.returns
returns c = λ bytes reads.
    needed_result (λ v. v.items) c.args.library.now bytes c.args.unit c.in_ok-numbers.numbers.items c.deref.result.now c.canonical.result reads c.requires c.in_ok-numbers.ensures c.deref.ensures.value c.canonical.ensures
