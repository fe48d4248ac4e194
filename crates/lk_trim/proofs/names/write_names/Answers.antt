use Rattle.std.proofs.Common.{◌<◌, ℕ, length, refl}
use Rattle.std.proofs.lemmas.List.Elements.{All-rest}
use Rattle.lk_store.specs.Contents.{name_at}
use Rattle.lk_trim.specs.Names.{write_name, write_names}
use Rattle.lk_trim.specs.Stored.{file_at}
use Rattle.lk_trim.proofs.Chains.{each_more}
use Rattle.lk_trim.proofs.names.write_names.Goals as goal

pub loop-name-preserved : goal.loop-name-preserved
loop-name-preserved g c =
    let s = g.T.Terms.contents c.args.store.now in
    record {
      numbers = c.in_ok-write_name.ensures.numbers;
      known = All-rest (λ (n : ℕ). n < length s.names) c.in-Some.name.now c.in-Some.more.now c.loop-name.rest.now c.in-Some.ensures.cases.0 c.loop-name.invariant.known;
      leads = each_more (name_at s) write_name write_names (λ y ys f. refl) c.in-Some.name.now c.loop-name.rest.now c.in-Some.more.now (file_at s c.loop-name.writer) (file_at s c.write_name.new.writer) _
          c.in-Some.ensures.cases.0 c.in_ok-write_name.ensures.file c.loop-name.invariant.leads;
    }
