use Rattle.std.proofs.Common.{subst}
use Rattle.lk_store.specs.Store.{contents_of}
use Rattle.lk_store.specs.Contents.{name_at}
use Rattle.lk_env.specs.StoredScope.{lent_by}
use Rattle.lk_env.specs.Entries.{IsAnswer}
use Rattle.lk_env.specs.Scopes.{place_in}
use Rattle.lk_ask.proofs.Looking.{found_is}
use Rattle.lk_ask.proofs.constants.look_up.Goals as goal

pub returns-in-Ok-clause-found : goal.returns-in-Ok-clause-found
returns-in-Ok-clause-found g c =
    let l = lent_by c.args.scope.now in
    let w = place_in c.args.scope.now c.args.site.now in
    found_is l w _ c.args.meter.now.last c.note.new.self.last c.in-Ok.entry
    (subst (IsAnswer (contents_of l.tables) l.units w (name_at (g.T.Terms.contents c.args.terms.now) c.args.name))
    c.in-Ok.is c.means.ensures.answer) c.note.ensures.last

pub returns-in-Err-clause-refused : goal.returns-in-Err-clause-refused
returns-in-Err-clause-refused g c =
    let l = lent_by c.args.scope.now in
    let w = place_in c.args.scope.now c.args.site.now in
    let x = name_at (g.T.Terms.contents c.args.terms.now) c.args.name in
    c.refusal.ensures w x (subst (IsAnswer (contents_of l.tables) l.units w x) c.in-Err.is c.means.ensures.answer)
