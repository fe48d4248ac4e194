use Rattle.std.proofs.Common.{◌∙◌, List, ℕ, ap, sym, subst}
use Rattle.lk_store.specs.Store.{contents_of}
use Rattle.lk_env.specs.Units.{library_at, library_of}
use Rattle.lk_axioms.specs.Lists.{axiom_lists, KeepsAxioms}
use Rattle.lk_recheck.specs.Rounds.{Kept}
use Rattle.leancheck.proofs.Changes.{both_ok, keeps_axioms, tells_more}
use Rattle.leancheck.proofs.rounds.Telling.tell_part.Goals as goal

pub renew_axioms-requires : goal.renew_axioms-requires
renew_axioms-requires g c =
    let us = library_of c.args.self.now.recheck.library in
    let vs = library_of c.round.new.self.library in
    let stale = c.round.new.self.stale in
    subst (λ (known : List (List ℕ)). KeepsAxioms vs known stale) (sym c.requires.telling.axioms) (keeps_axioms us vs stale c.in_ok-count.ensures.stale)

pub add_report-requires : goal.add_report-requires
add_report-requires g c = c.in_ok-renew_axioms.ensures.axioms ∙ ap (λ (k : Kept). axiom_lists (library_of k.library)) (sym c.in_ok-renew_axioms.ensures.recheck)

pub returns : goal.returns
returns g c =
    let e = c.in_ok-count.ensures in
    let part = library_at (contents_of c.args.self.now.recheck.library.tables) c.args.part.items in
    both_ok c.add_report.result
    (tells_more (g.C.Checks.budget_of c.args.checks.now) part c.args.self.now c.renew_axioms.new.self c.add_report.new.self c.round.new.self c.requires.telling c.in_ok-count.count e.budget e.begun e.base e.list e.count e.kept
    c.in_ok-renew_axioms.ensures.recheck c.in_ok-renew_axioms.ensures.text c.in_ok-renew_axioms.ensures.axioms c.add_report.ensures.recheck c.add_report.ensures.axioms)
    c.add_report.ensures.kept c.add_report.ensures.text
