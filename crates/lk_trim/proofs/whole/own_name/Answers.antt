use Rattle.std.proofs.Common.{◌<◌, ℕ, length, map, ap, sym, ◌∙◌}
use Rattle.std.proofs.lemmas.Bool.{cond-false}
use Rattle.std.proofs.lemmas.List.Elements.{All-rest}
use Rattle.lk_store.specs.Contents.{name_at}
use Rattle.lk_store.specs.Store.{contents_of}
use Rattle.lk_env.specs.Units.{library_of}
use Rattle.lk_trim.specs.Whole.{own_name}
use Rattle.lk_trim.proofs.whole.own_name.Goals as goal

pub loop-name-preserved : goal.loop-name-preserved
loop-name-preserved c =
    let s = contents_of c.args.library.now.tables in
    record {
      known = All-rest (λ (n : ℕ). n < length s.names) c.in-Some.name.now c.in-Some.more.now c.loop-name.rest.now c.in-Some.ensures.cases.0 c.loop-name.invariant.known;
      leads =
          sym (cond-false _ _ _ (sym c.is_given_by.ensures ∙ c.if-is_given_by.false))
          ∙ ap (λ l. own_name (library_of c.args.library.now) c.args.unit (map (name_at s) l)) (sym c.in-Some.ensures.cases.0) ∙ c.loop-name.invariant.leads;
    }
