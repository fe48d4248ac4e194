use Rattle.std.proofs.Common.{◌≡◌, ◌∙◌, sym, Some, arith}
use Rattle.std.proofs.lemmas.Option.{IfSome_then}
use Rattle.lk_store.specs.Store.{contents_of}
use Rattle.lk_env.specs.Units.{library_at, unit_at}
use Rattle.lk_recheck.specs.Spliced.{unit_name}
use Rattle.lk_recheck.specs.Places.{place_of}
use Rattle.lk_recheck.proofs.Places.{place_found, place_within, replaced}
use Rattle.lk_recheck.proofs.splicing.put.Goals as goal

pub place_at-requires : goal.place_at-requires
place_at-requires c =
    rw c.deref.ensures.value (IfSome_then c.name_of.result (c.name_of.ensures.known (contents_of c.args.base.now) c.requires.unit_in)
    (λ n l. rw c.requires.places.one_each l))

pub index_mut-requires : goal.index_mut-requires
index_mut-requires c =
    let at = contents_of c.args.base.now in
    let us = c.args.units.now.items in
    let found = place_found at us (unit_at at c.args.unit) c.name_of.result c.args.places.now.items
    (c.name_of.ensures.name at) (c.name_of.ensures.known at c.requires.unit_in) c.requires.places in
    let place : place_of (library_at at us) (unit_name (unit_at at c.args.unit)) ≡ Some c.in-Some.place =
    sym found ∙ sym (rw c.deref.ensures.value at c.in-Some.ensures) in
    omega (arith, place_within at us (unit_at at c.args.unit) c.in-Some.place place, c.args.units.now.ok.0)

pub push_unit-requires-clause-new : goal.push_unit-requires-clause-new
push_unit-requires-clause-new c =
    let at = contents_of c.args.base.now in
    sym (place_found at c.args.units.now.items (unit_at at c.args.unit) c.name_of.result c.args.places.now.items
    (c.name_of.ensures.name at) (c.name_of.ensures.known at c.requires.unit_in) c.requires.places)
    ∙ sym (rw c.deref.ensures.value at c.in-None.ensures)

pub returns-in-Some : goal.returns-in-Some
returns-in-Some c =
    let at = contents_of c.args.base.now in
    let us = c.args.units.now.items in
    let found = place_found at us (unit_at at c.args.unit) c.name_of.result c.args.places.now.items
    (c.name_of.ensures.name at) (c.name_of.ensures.known at c.requires.unit_in) c.requires.places in
    replaced at us c.args.unit c.requires.units_in c.requires.unit_in c.in-Some.place c.args.places.now.items c.requires.places
    (sym found ∙ sym (rw c.deref.ensures.value at c.in-Some.ensures))
