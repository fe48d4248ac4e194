use Rattle.std.proofs.Common.{refl}
use Rattle.std.proofs.lemmas.List.Elements.{All-rest}
use Rattle.lk_rulebook.specs.Place.{BlockType}
use Rattle.lk_env.specs.Units.{type_at, IsTypeIn}
use Rattle.lk_trim.specs.Units.{write_all_ctors, write_ctors}
use Rattle.lk_trim.specs.Stored.{file_at}
use Rattle.lk_trim.proofs.Chains.{each_more, first_known}
use Rattle.lk_trim.proofs.blocks.write_all_constructors.Goals as goal

pub loop-t-preserved : goal.loop-t-preserved
loop-t-preserved g c =
    let s = g.T.Terms.contents c.args.store.now in
    record {
      numbers = c.in_ok-write_constructors.ensures.numbers;
      known = All-rest (IsTypeIn s) c.in-Some.t.now c.in-Some.more.now c.loop-t.rest.now c.in-Some.ensures.cases.0 c.loop-t.invariant.known;
      leads = each_more (type_at s) (λ (t : BlockType). write_ctors t.ctors) write_all_ctors (λ y ys f. refl) c.in-Some.t.now c.loop-t.rest.now c.in-Some.more.now (file_at s c.loop-t.writer) (file_at s c.write_constructors.new.writer) _
          c.in-Some.ensures.cases.0 (rw c.deref.ensures.value at c.in_ok-write_constructors.ensures.file) c.loop-t.invariant.leads;
    }

pub write_constructors-requires-clause-constructors_in : goal.write_constructors-requires-clause-constructors_in
write_constructors-requires-clause-constructors_in g c =
    let known = first_known (IsTypeIn (g.T.Terms.contents c.args.store.now)) c.in-Some.t.now c.in-Some.more.now c.loop-t.rest.now c.in-Some.ensures.cases.0 c.loop-t.invariant.known in
    rw c.deref.ensures.value known.constructors_in
