use Rattle.std.proofs.Common.{refl}
use Rattle.std.proofs.lemmas.List.Elements.{All-rest}
use Rattle.lk_env.specs.Units.{constructor_at, IsConstructorIn}
use Rattle.lk_trim.specs.Units.{write_ctor, write_ctors}
use Rattle.lk_trim.specs.Stored.{file_at}
use Rattle.lk_trim.proofs.Chains.{each_more, first_known}
use Rattle.lk_trim.proofs.blocks.write_constructors.Goals as goal

pub loop-k-preserved : goal.loop-k-preserved
loop-k-preserved g c =
    let s = g.T.Terms.contents c.args.store.now in
    record {
      numbers = c.in_ok-write_constructor.ensures.numbers;
      known = All-rest (IsConstructorIn s) c.in-Some.k.now c.in-Some.more.now c.loop-k.rest.now c.in-Some.ensures.cases.0 c.loop-k.invariant.known;
      leads = each_more (constructor_at s) write_ctor write_ctors (λ y ys f. refl) c.in-Some.k.now c.loop-k.rest.now c.in-Some.more.now (file_at s c.loop-k.writer) (file_at s c.write_constructor.new.writer) _
          c.in-Some.ensures.cases.0 c.in_ok-write_constructor.ensures.file c.loop-k.invariant.leads;
    }

pub write_constructor-requires-clause-constructor_in : goal.write_constructor-requires-clause-constructor_in
write_constructor-requires-clause-constructor_in g c =
    first_known (IsConstructorIn (g.T.Terms.contents c.args.store.now)) c.in-Some.k.now c.in-Some.more.now c.loop-k.rest.now c.in-Some.ensures.cases.0 c.loop-k.invariant.known
