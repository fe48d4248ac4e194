use Rattle.std.proofs.Common.{◌<◌, ℕ, [], ◌∷◌, ◌++◌, length, map, ap, ◌∙◌}
use Rattle.std.proofs.lemmas.List.Elements.{All-rest}
use Rattle.lk_store.specs.Contents.{name_at}
use Rattle.lk_trim.specs.Written.{fields}
use Rattle.lk_trim.specs.Names.{name_number, name_numbers}
use Rattle.lk_trim.specs.Stored.{written_at}
use Rattle.lk_trim.proofs.Appending.{more, fields_one}
use Rattle.lk_trim.proofs.names.add_names.Goals as goal

pub loop-name-preserved : goal.loop-name-preserved
loop-name-preserved g c =
    let s = g.T.Terms.contents c.args.store.now in
    let w = written_at s c.args.numbers.now in
    record {
      known = All-rest (λ (n : ℕ). n < length s.names) c.in-Some.name.now c.in-Some.more.now c.loop-name.rest.now c.in-Some.ensures.cases.0 c.loop-name.invariant.known;
      text = more fields fields_one c.loop-name.out.items c.add_field.new.out.items _ (name_number w (name_at s c.in-Some.name.now)) (name_numbers w (map (name_at s) c.loop-name.rest.now)) (name_numbers w (map (name_at s) c.in-Some.more.now))
          (ap (λ l. name_numbers w (map (name_at s) l)) c.in-Some.ensures.cases.0) (c.in_ok-add_field.ensures ∙ ap (λ n. c.loop-name.out.items ++ fields (n ∷ [])) c.name_number.ensures) c.loop-name.invariant.text;
    }
