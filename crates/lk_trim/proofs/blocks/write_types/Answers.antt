use Rattle.std.proofs.Common.{map, refl}
use Rattle.std.proofs.lemmas.List.Elements.{All-rest}
use Rattle.lk_store.specs.Contents.{name_at}
use Rattle.lk_env.specs.Units.{type_at, IsTypeIn}
use Rattle.lk_trim.specs.Units.{write_type, write_types}
use Rattle.lk_trim.specs.Stored.{file_at}
use Rattle.lk_trim.proofs.Chains.{each_more, first_known}
use Rattle.lk_trim.proofs.blocks.write_types.Goals as goal

pub loop-t-preserved : goal.loop-t-preserved
loop-t-preserved g c =
    let s = g.T.Terms.contents c.args.store.now in
    record {
      numbers = c.in_ok-write_type.ensures.numbers;
      known = All-rest (IsTypeIn s) c.in-Some.t.now c.in-Some.more.now c.loop-t.rest.now c.in-Some.ensures.cases.0 c.loop-t.invariant.known;
      leads = each_more (type_at s) (write_type (map (name_at s) c.args.family.now)) (write_types (map (name_at s) c.args.family.now)) (λ y ys f. refl) c.in-Some.t.now c.loop-t.rest.now c.in-Some.more.now (file_at s c.loop-t.writer) (file_at s c.write_type.new.writer) _
          c.in-Some.ensures.cases.0 c.in_ok-write_type.ensures.file c.loop-t.invariant.leads;
    }

pub write_type-requires-clause-type_in : goal.write_type-requires-clause-type_in
write_type-requires-clause-type_in g c =
    first_known (IsTypeIn (g.T.Terms.contents c.args.store.now)) c.in-Some.t.now c.in-Some.more.now c.loop-t.rest.now c.in-Some.ensures.cases.0 c.loop-t.invariant.known
