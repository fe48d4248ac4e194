use Rattle.std.proofs.Common.{[], Some, None}
use Rattle.lk_store.specs.Contents.{tree_at}
use Rattle.lk_constructor.proofs.Applied.{some_applied, none_applied}
use Rattle.lk_iota.specs.OnlyRule.{only_at}
use Rattle.lk_iota.proofs.Looking.{found_once, refused_on}
use Rattle.lk_iota.proofs.Going.{with_only, major_asked}
use Rattle.lk_iota.proofs.start.with_k.Goals as goal

pub returns-in-Err : goal.returns-in-Err
returns-in-Err g c p at is =
    let e = tree_at (g.L.Terms.contents c.args.looks.now) c.args.e in
    refused_on (with_only e p) c.in-Err.rule
    (c.in-Err.ensures.finds p.entry p.recursor is.entry_is is.kind_is)

pub returns-in-Some : goal.returns-in-Some
returns-in-Some g c p at is =
    let basis = (g.L.Looks.sight (g.L.Terms.rest c.args.looks.now)).basis in
    let last = (g.L.Looks.sight (g.L.Terms.rest c.look_only.new.looks)).last in
    let d = g.L.Terms.contents c.args.looks.now in
    let e = tree_at d c.args.e in
    let finds = c.in-Ok.ensures.finds p.entry p.recursor is.entry_is is.kind_is in
    let b = some_applied d basis.library [] c.in-Some.field-0 (only_at basis.place p.recursor.rules)
    (rw c.in-Some.is at finds.is) in
    found_once (with_only e p) _ (Some b.0) finds b.1 c.look_only.ensures.contents
    (c.requires.redex_in.major_in, c.requires.e_in)
    (major_asked basis.place last e p b.0 (tree_at d c.args.redex.now.major) b.1 at is.major_is)

pub returns-in-None : goal.returns-in-None
returns-in-None g c p at is =
    let basis = (g.L.Looks.sight (g.L.Terms.rest c.args.looks.now)).basis in
    let last = (g.L.Looks.sight (g.L.Terms.rest c.look_only.new.looks)).last in
    let d = g.L.Terms.contents c.args.looks.now in
    let e = tree_at d c.args.e in
    let finds = c.in-Ok.ensures.finds p.entry p.recursor is.entry_is is.kind_is in
    let none = none_applied d basis.library [] (only_at basis.place p.recursor.rules)
    (rw c.in-None.is at finds.is) in
    found_once (with_only e p) _ None finds none c.look_only.ensures.contents
    (c.ask_major.ensures.known _ c.requires.redex_in.major_in c.requires.e_in)
    (c.ask_major.ensures.steps basis.place d basis.library last p at is)
