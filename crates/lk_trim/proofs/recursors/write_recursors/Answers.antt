use Rattle.std.proofs.Common.{map, refl}
use Rattle.std.proofs.lemmas.List.Elements.{All-rest}
use Rattle.lk_store.specs.Contents.{name_at}
use Rattle.lk_env.specs.Units.{recursor_at, IsRecursorIn}
use Rattle.lk_trim.specs.Units.{write_rec, write_recs}
use Rattle.lk_trim.specs.Stored.{file_at}
use Rattle.lk_trim.proofs.Chains.{each_more, first_known}
use Rattle.lk_trim.proofs.recursors.write_recursors.Goals as goal

pub loop-r-preserved : goal.loop-r-preserved
loop-r-preserved g c =
    let s = g.T.Terms.contents c.args.store.now in
    record {
      numbers = c.in_ok-write_recursor.ensures.numbers;
      known = All-rest (IsRecursorIn s) c.in-Some.r.now c.in-Some.more.now c.loop-r.rest.now c.in-Some.ensures.cases.0 c.loop-r.invariant.known;
      leads = each_more (recursor_at s) (write_rec (map (name_at s) c.args.family.now)) (write_recs (map (name_at s) c.args.family.now)) (λ y ys f. refl) c.in-Some.r.now c.loop-r.rest.now c.in-Some.more.now (file_at s c.loop-r.writer) (file_at s c.write_recursor.new.writer) _
          c.in-Some.ensures.cases.0 c.in_ok-write_recursor.ensures.file c.loop-r.invariant.leads;
    }

pub write_recursor-requires-clause-recursor_in : goal.write_recursor-requires-clause-recursor_in
write_recursor-requires-clause-recursor_in g c =
    first_known (IsRecursorIn (g.T.Terms.contents c.args.store.now)) c.in-Some.r.now c.in-Some.more.now c.loop-r.rest.now c.in-Some.ensures.cases.0 c.loop-r.invariant.known
