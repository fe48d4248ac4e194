use Rattle.std.proofs.Common.{arith}
use Rattle.std.proofs.lemmas.Option.{IfSome_then}
use Rattle.lk_store.specs.Store.{contents_of}
use Rattle.lk_recheck.proofs.Places.{pushed}
use Rattle.lk_recheck.proofs.splicing.push_unit.Goals as goal

pub note-requires : goal.note-requires
note-requires c =
    IfSome_then c.name_of-name.result (c.name_of-name.ensures.known (contents_of c.args.base.now) c.requires.unit_in)
    (λ n l. rw c.requires.places.one_each l)

pub returns : goal.returns
returns c =
    rw c.in_ok-push.ensures.items
    (pushed (contents_of c.args.base.now) c.args.units.now.items c.args.unit c.requires.units_in c.requires.unit_in
    c.name_of-name.result c.in-Ok.number c.args.places.now.items c.note.new.places.items
    c.count_names-names.ensures.apart (omega (arith, c.in-Ok.ensures, c.len.ensures, c.args.units.now.ok.0))
    (c.name_of-name.ensures.name (contents_of c.args.base.now))
    (c.name_of-name.ensures.known (contents_of c.args.base.now) c.requires.unit_in)
    c.requires.places c.note.ensures c.requires.new)
