use Rattle.std.proofs.Common.{ap, ◌∙◌}
use Rattle.std.proofs.lemmas.List.{get_or-append-add}
use Rattle.lk_rows.proofs.layers.find.Goals as goal

pub returns-in-Some-find_hashed-clause-present : goal.returns-in-Some-find_hashed-clause-present
returns-in-Some-find_hashed-clause-present g c d =
    let base = c.args.base.now in
    let own = c.args.own.now in
    rw c.len-first.ensures.len (ap g.R.Row.key (get_or-append-add base own c.in-Some-find_hashed.i d) ∙ c.in-Some-find_hashed.ensures.present d)
