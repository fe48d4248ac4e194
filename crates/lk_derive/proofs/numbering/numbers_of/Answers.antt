use Rattle.lk_derive.specs.Notes.{stated_at}
use Rattle.lk_derive.proofs.Named.{next_there, naming_more, naming_done}
use Rattle.lk_derive.proofs.numbering.numbers_of.Goals as goal

pub number_of-number-requires-clause-there : goal.number_of-number-requires-clause-there
number_of-number-requires-clause-there g c =
    let t = g.T.Terms.contents c.args.terms.now in
    next_there t (stated_at t c.args.notes.now) c.args.claims.now c.claims.rest.now c.claims.numbers.items c.claims.invariant c.in-Some.claim.now c.in-Some.more.now c.in-Some.ensures.cases.0

pub claims-preserved : goal.claims-preserved
claims-preserved g c =
    let t = g.T.Terms.contents c.args.terms.now in
    naming_more t (stated_at t c.args.notes.now) c.args.claims.now c.claims.rest.now c.claims.numbers.items c.claims.invariant c.in-Some.claim.now c.in-Some.more.now c.in-Some.ensures.cases.0
    c.number_of-number.result c.push_any.new.numbers.items c.number_of-number.ensures c.in_ok-push_any.ensures

pub returns : goal.returns
returns g c =
    let t = g.T.Terms.contents c.args.terms.now in
    naming_done t (stated_at t c.args.notes.now) c.args.claims.now c.claims.rest.now c.claims.numbers.items c.claims.invariant c.in_default.ensures.cases
