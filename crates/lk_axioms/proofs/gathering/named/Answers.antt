use Rattle.std.proofs.Common.{◌≡◌, get_or, subst, sym, arith}
use Rattle.std.proofs.lemmas.List.{get_or_read}
use Rattle.lk_store.specs.Contents.{name_at}
use Rattle.lk_store.specs.Store.{contents_of}
use Rattle.lk_env.specs.Units.{library_of}
use Rattle.lk_axioms.specs.Gives.{IsSetOfUnit}
use Rattle.lk_axioms.proofs.Names.{by_nobody, by_later, by_earlier}
use Rattle.lk_axioms.proofs.gathering.named.Goals as goal

pub returns-in-None-clause-finding : goal.returns-in-None-clause-finding
returns-in-None-clause-finding c =
    by_nobody (library_of c.args.library.now) (name_at (contents_of c.args.library.now.tables) c.args.name) c.args.unit c.args.gathering.now.sets 4294967295
    c.requires.right.has_empty.empty_in c.requires.right.has_empty.empty c.in-None.ensures

pub returns-in-Some-clause-finding : goal.returns-in-Some-clause-finding
returns-in-Some-clause-finding c =
    let right = c.requires.right in
    let set : c.index.result.now ≡ get_or c.args.gathering.now.units.items c.in-Some.p.unit 0 =
    get_or_read c.args.gathering.now.units.items c.in-Some.p.unit c.index.result.now (omega (arith, c.if-p-unit.true, right.count)) c.index.ensures 0 in
    by_earlier (library_of c.args.library.now) (name_at (contents_of c.args.library.now.tables) c.args.name) c.in-Some.p.unit c.in-Some.p.member c.in-Some.ensures
    c.args.unit c.args.gathering.now.sets c.index.result.now 4294967295 c.if-p-unit.true
    (subst (IsSetOfUnit (library_of c.args.library.now) c.args.gathering.now.sets c.in-Some.p.unit) (sym set) (right.units c.in-Some.p.unit c.if-p-unit.true))

pub returns-in-Some-2-clause-finding : goal.returns-in-Some-2-clause-finding
returns-in-Some-2-clause-finding c =
    by_later (library_of c.args.library.now) (name_at (contents_of c.args.library.now.tables) c.args.name) c.in-Some.p.unit c.in-Some.p.member c.in-Some.ensures
    c.args.unit c.args.gathering.now.sets c.saturating_add.result (omega (arith, c.saturating_add.ensures)) c.requires.right.has_empty.empty_in c.requires.right.has_empty.empty
