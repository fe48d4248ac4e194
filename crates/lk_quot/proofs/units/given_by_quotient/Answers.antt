use Rattle.std.proofs.Common.{true, false, refl, sym, ◌∙◌, rules}
use Rattle.lk_questions.specs.Quotients.{by_quot}
use Rattle.lk_store.specs.Store.{contents_of}
use Rattle.lk_store.specs.Contents.{name_at}
use Rattle.lk_quot.proofs.Testing.{tested}
use Rattle.lk_quot.proofs.units.given_by_quotient.Goals as goal

pub returns-then-is_quotient : goal.returns-then-is_quotient
returns-then-is_quotient g c =
    let b = (g.L.Looks.sight (g.L.Terms.rest c.args.looks.now)).basis in
    let x = name_at (g.L.Terms.contents c.args.looks.now) c.args.name in
    let h = c.in_ok-entry.ensures.found in
    let kind = c.is_quotient.ensures (contents_of b.library.tables) b.library.units h.entry h.is in
    record {
      keeps = search rules;
      stays = search rules;
      comes_to = tested b.place x x b.library _ _ c.in_ok-entry.entry h refl
          (λ e. by_quot e.kind) true (sym kind ∙ c.if-is_quotient.true);
    }

pub returns-else-is_quotient : goal.returns-else-is_quotient
returns-else-is_quotient g c =
    let b = (g.L.Looks.sight (g.L.Terms.rest c.args.looks.now)).basis in
    let x = name_at (g.L.Terms.contents c.args.looks.now) c.args.name in
    let h = c.in_ok-entry.ensures.found in
    let kind = c.is_quotient.ensures (contents_of b.library.tables) b.library.units h.entry h.is in
    record {
      keeps = search rules;
      stays = search rules;
      comes_to = tested b.place x x b.library _ _ c.in_ok-entry.entry h refl
          (λ e. by_quot e.kind) false (sym kind ∙ c.if-is_quotient.false);
    }
