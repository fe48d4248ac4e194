use Rattle.std.proofs.Common.{sym, ◌∙◌}
use Rattle.lk_store.specs.Store.{contents_of}
use Rattle.lk_env.specs.Units.{declaration_at, library_of}
use Rattle.lk_premises.specs.Claims.{claims_at}
use Rattle.lk_replay.proofs.Declared.{declaration_known, declaration_same}
use Rattle.lk_replay.proofs.Ends.{parts_decide}
use Rattle.lk_replay.proofs.section.end_holds.Goals as goal

pub test_parts-requires-clause-declaration_in : goal.test_parts-requires-clause-declaration_in
test_parts-requires-clause-declaration_in g c =
    declaration_known (contents_of c.args.library.now.tables) (g.L.Terms.contents c.args.looks.now) c.requires.over c.in-Declaration.declaration
    (rw c.in-Declaration.is at c.requires.unit_in)

pub returns-else-not-branch : goal.returns-else-not-branch
returns-else-not-branch g c =
    let library = contents_of c.args.library.now.tables in
    let start = g.L.Terms.contents c.args.looks.now in
    let own = c.in-Declaration.declaration in
    let unit_in = rw c.in-Declaration.is at c.requires.unit_in in
    let scanned = rw c.in-Declaration.is at c.in_ok-is_scanned-in-Declaration.ensures in
    rw c.in-Declaration.is
    (parts_decide (library_of c.args.library.now) c.args.number (declaration_at library own) (claims_at start c.args.claims.now) c.args.parts.now
    (g.L.Looks.sight (g.L.Terms.rest c.args.looks.now)).basis.place (declaration_at start own) c.requires.place
    (declaration_same library start c.requires.over own unit_in) (sym scanned ∙ c.if-not-branch.false) c.test_parts.result c.test_parts.ensures.ok)
