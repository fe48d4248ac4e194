use Rattle.std.proofs.Common.{[], ap, subst, ◌∙◌}
use Rattle.lk_store.specs.Store.{contents_of}
use Rattle.lk_env.specs.Units.{unit_at, library_of}
use Rattle.lk_env.specs.Places.{place_beside}
use Rattle.lk_env.specs.Scopes.{auxiliary_members}
use Rattle.leancheck.specs.Rows.{row_verdict}
use Rattle.leancheck.specs.Held.{IsPlain}
use Rattle.leancheck.proofs.Started.{all_partial}
use Rattle.leancheck.proofs.InOrder.{unit_known, unit_stands, judged_right}
use Rattle.leancheck.proofs.checking.begin_and_judge.Goals as goal

pub judge-requires-clause-place : goal.judge-requires-clause-place
judge-requires-clause-place g c =
    let new = c.start.new.self in
    ap (λ us. place_beside new.scope.library new.site (auxiliary_members (contents_of new.scope.tables) us)) c.start.ensures.auxiliary
    ∙ ap (λ p. place_beside new.scope.library (record { unit = new.site.unit; partial = p }) []) c.start.ensures.partial

pub judge-requires-clause-places : goal.judge-requires-clause-places
judge-requires-clause-places g c fresh p aux =
    let base = contents_of c.args.library.now.tables in
    let u = c.index-units-number.result in
    all_partial c.start.new.self.scope.library c.args.library.now c.start.new.self.site.unit c.args.number p aux (unit_at base u) (c.start.ensures.library ∙ c.requires.library) c.start.ensures.unit
    (unit_stands base c.units.result.now c.args.library.now.units c.args.number u c.requires.number c.units.ensures.value c.index-units-number.is) fresh

pub judge-requires-clause-known : goal.judge-requires-clause-known
judge-requires-clause-known g c =
    unit_known (contents_of c.args.library.now.tables) c.units.result.now c.args.library.now.units c.args.number c.index-units-number.result c.requires.number c.units.ensures.value c.index-units-number.is c.units.ensures.known

pub returns-clause-right : goal.returns-clause-right
returns-clause-right g c =
    let base = contents_of c.args.library.now.tables in
    let u = c.index-units-number.result in
    judged_right c.args.library.now c.args.steps c.args.number u c.judge.result
    (unit_stands base c.units.result.now c.args.library.now.units c.args.number u c.requires.number c.units.ensures.value c.index-units-number.is)
    (subst (λ b. IsPlain (row_verdict (library_of c.args.library.now) b c.args.number (unit_at base u)) c.judge.result) c.start.ensures.left c.judge.ensures.verdict)
