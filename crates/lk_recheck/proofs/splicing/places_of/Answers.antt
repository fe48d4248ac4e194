use Rattle.std.proofs.Common.{◌≡◌, length, take, subst, arith}
use Rattle.std.proofs.lemmas.List.{take_all, take_more, length-take}
use Rattle.std.proofs.lemmas.List.Elements.{All-get_or}
use Rattle.std.proofs.lemmas.Option.{IfSome_then}
use Rattle.lk_store.specs.Store.{contents_of}
use Rattle.lk_env.specs.Units.{IsUnitIn}
use Rattle.lk_recheck.specs.Places.{ArePlaces}
use Rattle.lk_recheck.proofs.Places.{nothing_noted, one_more}
use Rattle.lk_recheck.proofs.splicing.places_of.Goals as goal

pub loop-i-init : goal.loop-i-init
loop-i-init c =
    nothing_noted (contents_of c.args.base.now) c.in_ok-places.places.items c.count_names.result c.count_names.ensures.count
    c.in_ok-places.ensures.one_each c.in_ok-places.ensures.none

pub note-requires : goal.note-requires
note-requires c =
    let at = contents_of c.args.base.now in
    let u_in : IsUnitIn at c.index-units-i.result = rw c.index-units-i.is (All-get_or (IsUnitIn at) c.args.units.now c.loop-i.i c.index-units-i.result c.loop-i-test.true c.requires) in
    IfSome_then c.name_of.result (c.name_of.ensures.known at u_in) (λ n l. rw c.loop-i.invariant.one_each l)

pub loop-i-preserved : goal.loop-i-preserved
loop-i-preserved c =
    let at = contents_of c.args.base.now in
    let us = c.args.units.now in
    let u_in : IsUnitIn at c.index-units-i.result = rw c.index-units-i.is (All-get_or (IsUnitIn at) us c.loop-i.i c.index-units-i.result c.loop-i-test.true c.requires) in
    let count : c.loop-i.i ≡ length (take c.loop-i.i us) = omega (arith, length-take c.loop-i.i us) in
    rw (take_more us c.loop-i.i c.index-units-i.result c.loop-i-test.true, ← c.index-units-i.is)
    (one_more at (take c.loop-i.i us) c.index-units-i.result c.name_of.result c.loop-i.i c.loop-i.places.items c.note.new.places.items
    c.count_names.ensures.apart count (c.name_of.ensures.name at) (c.name_of.ensures.known at u_in) c.loop-i.invariant c.note.ensures)

pub returns : goal.returns
returns c = subst (λ us. ArePlaces (contents_of c.args.base.now) us c.loop-i.places.items) (take_all c.loop-i.i c.args.units.now c.loop-i-test.false) c.loop-i.invariant
