use Rattle.std.proofs.Common.{true, false, sym, ◌∙◌, rules}
use Rattle.lk_store.specs.Store.{contents_of}
use Rattle.lk_store.specs.Contents.{name_at}
use Rattle.lk_laws.proofs.LookUps.{def_tested}
use Rattle.lk_laws.proofs.given.given_by_definition.Goals as goal

pub returns-then-is_definition : goal.returns-then-is_definition
returns-then-is_definition g c =
    let b = (g.L.Looks.sight (g.L.Terms.rest c.args.looks.now)).basis in
    let x = name_at (g.L.Terms.contents c.args.looks.now) c.args.name in
    let h = c.in_ok-entry.ensures.found in
    let kind = c.is_definition.ensures (contents_of b.library.tables) b.library.units h.entry h.is in
    record {
      keeps = search rules;
      stays = search rules;
      comes_to = def_tested b.place x b.library _ _ c.in_ok-entry.entry h true
          (sym kind ∙ c.if-is_definition.true);
    }

pub returns-else-is_definition : goal.returns-else-is_definition
returns-else-is_definition g c =
    let b = (g.L.Looks.sight (g.L.Terms.rest c.args.looks.now)).basis in
    let x = name_at (g.L.Terms.contents c.args.looks.now) c.args.name in
    let h = c.in_ok-entry.ensures.found in
    let kind = c.is_definition.ensures (contents_of b.library.tables) b.library.units h.entry h.is in
    record {
      keeps = search rules;
      stays = search rules;
      comes_to = def_tested b.place x b.library _ _ c.in_ok-entry.entry h false
          (sym kind ∙ c.if-is_definition.false);
    }
