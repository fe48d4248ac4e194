use Rattle.std.proofs.Common.{◌<◌, ◌∙◌, length, map, sym, ap}
use Rattle.std.proofs.lemmas.List.Elements.{All-rest}
use Rattle.std.specs.List.{list_any}
use Rattle.lk_store.specs.Contents.{name_at}
use Rattle.lk_store.specs.Store.{contents_of}
use Rattle.lk_text.specs.Named.{prints_as}
use Rattle.lk_text.proofs.Printed.{any_behind}
use Rattle.lk_text.proofs.named.any_prints_as.Goals as goal

pub loop-name-preserved : goal.loop-name-preserved
loop-name-preserved c =
    let at = contents_of c.args.library.now.tables in
    record {
      left =
          let p = prints_as c.args.text.now in
          let f = name_at at in
          sym (any_behind p (f c.in-Some.name.now) (map f c.in-Some.more.now) (sym c.in_ok-prints_as.ensures ∙ c.if-branch.false))
          ∙ ap (λ r. list_any p (map f r)) (sym c.in-Some.ensures.cases.0) ∙ c.loop-name.invariant.left;
      known = All-rest (λ n. n < length at.names) c.in-Some.name.now c.in-Some.more.now c.loop-name.rest.now c.in-Some.ensures.cases.0 c.loop-name.invariant.known;
    }
