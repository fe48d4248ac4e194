use Rattle.std.proofs.Common.{◌≡◌, length, map, refl, sym, ap, subst, ◌∙◌}
use Rattle.std.specs.Prelude.{IfOk, slice_get, option_map}
use Rattle.std.proofs.lemmas.Option.{slice_get-map, slice_get_read}
use Rattle.lk_store.specs.Store.{contents_of}
use Rattle.lk_env.specs.Units.{unit_at, library_of}
use Rattle.lk_trace.specs.Files.{section_at, sections_of}
use Rattle.lk_trace.specs.Outcomes.{outcome_at}
use Rattle.lk_written.specs.Outcomes.{section_for}
use Rattle.lk_replay.specs.Outcomes.{outcome_by}
use Rattle.lk_replay.proofs.Found.{declared, blocked}
use Rattle.lk_replay.proofs.unit.replay_at.Goals as goal

pub returns-in-Block : goal.returns-in-Block
returns-in-Block c =
    let t = c.args.traced.now in
    let x = contents_of t.library.tables in
    let n = c.args.number in
    let units = c.units.result.now in
    let unit = c.in-Some.unit.now in
    let there = slice_get-map (unit_at x) t.library.units n
    ∙ ap (λ zs. option_map (unit_at x) (slice_get zs n)) (sym c.units.ensures.value)
    ∙ ap (option_map (unit_at x)) (slice_get_read units (length units) n unit refl c.in-Some.ensures.lookup.3.0 c.in-Some.ensures.lookup.1) in
    sym (blocked (library_of t.library) (sections_of t) n (unit_at x unit) there _ _ (ap (unit_at x) c.in-Block.is))

pub returns-in-Declaration : goal.returns-in-Declaration
returns-in-Declaration c =
    let t = c.args.traced.now in
    let x = contents_of t.library.tables in
    let n = c.args.number in
    let us = library_of t.library in
    let units = c.units.result.now in
    let unit = c.in-Some.unit.now in
    let u = unit_at x unit in
    let there = slice_get-map (unit_at x) t.library.units n
    ∙ ap (λ zs. option_map (unit_at x) (slice_get zs n)) (sym c.units.ensures.value)
    ∙ ap (option_map (unit_at x)) (slice_get_read units (length units) n unit refl c.in-Some.ensures.lookup.3.0 c.in-Some.ensures.lookup.1) in
    let own = ap (λ zs. section_for n (map (section_at x) zs)) (sym c.deref.ensures.value) ∙ c.section_for-written.ensures.is x in
    subst (λ z. IfOk c.replay_if_written.result (λ o. outcome_at o ≡ z))
    (ap (outcome_by us n u) (sym own) ∙ sym (declared us (sections_of t) n u there _ (ap (unit_at x) c.in-Declaration.is)))
    c.replay_if_written.ensures
