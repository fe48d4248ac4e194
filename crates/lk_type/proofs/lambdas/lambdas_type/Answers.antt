use Rattle.std.proofs.Common.{rules, sym, ◌∙◌}
use Rattle.lk_store.specs.Contents.{tree_at, IsTree}
use Rattle.lk_store.proofs.Extending.{Extends-trans}
use Rattle.lk_type.specs.Telescopes.{closed_with}
use Rattle.lk_type.specs.Lambdas.{AreGathered}
use Rattle.lk_type.proofs.Beginning.{ok_on}
use Rattle.lk_type.proofs.ClosedRuns.{type_is}
use Rattle.lk_type.proofs.lambdas.lambdas_type.Goals as goal

pub returns-in_ok-closed-in-App : goal.returns-in_ok-closed-in-App
returns-in_ok-closed-in-App g c =
    let contents = g.L.Terms.contents in
    let began = contents c.args.looks.now in
    let found = c.in_ok-domains-in-App in
    let gathered : AreGathered began c.in-App.e c.in-App.locals found.domains.items found.numbers.items = search rules in
    let closed = c.in_ok-closed-in-App.ensures in
    let inside : IsTree (contents c.close_all.new.looks) c.in_ok-closed-in-App.closed (closed_with found.numbers.items (tree_at began c.args.ty)) =
    rw c.deref.ensures.value at closed.ok in
    record {
      keeps = Extends-trans _ _ _ closed.keeps c.pis.ensures.keeps;
      stays = c.pis.ensures.stays ∙ closed.stays;
      ok = ok_on c.pis.result (λ r made. type_is closed.keeps c.args.opened c.in-App.e c.in-App.locals c.args.ty c.in_ok-closed-in-App.closed r
          found.domains.items found.numbers.items (sym c.in-App.ensures.tree) gathered inside made) (rw c.deref-in-App.ensures.value at c.pis.ensures.ok);
    }
