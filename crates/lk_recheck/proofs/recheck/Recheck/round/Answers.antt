use Rattle.std.proofs.Common.{◌≡◌, ◌<◌, ◌∙◌, true, map, length, ap, sym, subst}
use Rattle.std.specs.Prelude.{All}
use Rattle.std.proofs.lemmas.List.{length-map}
use Rattle.lk_rulebook.specs.Spelled.{library_spelled}
use Rattle.lk_store.specs.Store.{contents_of}
use Rattle.lk_env.specs.StoredLibrary.{StoredLibrary}
use Rattle.lk_env.specs.Units.{library_at, library_of, unit_at}
use Rattle.lk_verdict.specs.Held.{verdict}
use Rattle.lk_recheck.specs.Built.{AreLinksOf}
use Rattle.lk_recheck.specs.Rounds.{Kept, ArePlain}
use Rattle.lk_recheck.specs.Plans.{IsPlan, IsAnswered}
use Rattle.lk_recheck.specs.Stale.{MarksStale}
use Rattle.lk_recheck.specs.Spliced.{next_list}
use Rattle.lk_recheck.proofs.Plans.{numbers_in, plain_next, handed_on, verdicts_kept}
use Rattle.lk_recheck.proofs.Spelling.{next_spelled}
use Rattle.lk_recheck.proofs.recheck.Recheck.round.Goals as goal

pub invariant_of-self-2 : goal.invariant_of-self-2
invariant_of-self-2 g c =
    let l = c.self.inside.library in
    let at = contents_of l.tables in
    let us = library_of l in
    let vs = library_at at c.in_ok-units.units.items in
    let before = map verdict c.self.inside.verdicts.items in
    let numbers = c.in_ok-stale.field-0.plan.numbers.items in
    let verdicts = map verdict c.in_ok-stale.field-0.plan.verdicts.items in
    let part = library_at at c.args.part.items in
    let list : vs ≡ next_list c.self.inside.begun us part =
    subst (λ (k : Kept). library_at (contents_of k.library.tables) c.in_ok-units.units.items ≡ next_list k.begun (library_of k.library) (library_at (contents_of k.library.tables) c.args.part.items))
    (sym c.self.view_is) c.in_ok-units.ensures.list in
    let part_spelled : library_spelled part ≡ true =
    subst (λ (k : Kept). library_spelled (library_at (contents_of k.library.tables) c.args.part.items) ≡ true) (sym c.self.view_is) c.requires.spelled in
    let spelled : library_spelled vs ≡ true = ap library_spelled list ∙ next_spelled c.self.inside.begun us part c.self.invariant.0.spelled part_spelled in
    let planned : IsPlan us vs before numbers verdicts =
    subst (λ xs. IsPlan us (library_at at xs) before numbers verdicts) c.deref.ensures.value
    (subst (λ (k : Kept). IsPlan (library_of k.library) (library_at (contents_of k.library.tables) c.deref.result.now) k.verdicts numbers verdicts) (sym c.self.view_is) c.in_ok-stale.ensures.plan) in
    let plain : ArePlain vs c.self.inside.budget verdicts = plain_next us vs c.self.inside.budget before numbers verdicts c.self.invariant.0.spelled spelled c.self.invariant.0.plain planned in
    let exchanged = c.in_ok-replace_units.ensures.ok in (
      record {
        spelled = ap (λ (x : StoredLibrary). library_spelled (library_of x)) exchanged ∙ spelled;
        plain = subst (λ (x : StoredLibrary). ArePlain (library_of x) c.self.inside.budget verdicts) (sym exchanged) plain;
      },
      subst (λ (x : StoredLibrary). AreLinksOf x.tables c.self.inside.links) (sym exchanged) c.self.invariant.1,
    )

pub check-requires-clause-numbers : goal.check-requires-clause-numbers
check-requires-clause-numbers g c =
    let numbers = c.in_ok-stale.field-0.plan.numbers.items in
    let all = numbers_in _ _ _ numbers _ c.in_ok-stale.ensures.plan in
    let as_many = length-map c.deref.result.now (unit_at (contents_of c.args.self.now.library.tables)) ∙ ap length c.deref.ensures.value
    ∙ sym (ap (λ (x : StoredLibrary). length x.units) c.in_ok-replace_units.ensures.ok) in
    subst (All (λ n. n < length c.replace_units.new.self.units)) (sym c.deref-2.ensures.value)
    (subst (λ m. All (λ n. n < m) numbers) as_many all)

pub returns-clause-stale : goal.returns-clause-stale
returns-clause-stale g c =
    let stale = c.in_ok-stale.field-0.stale.items in
    let us = library_of c.args.self.now.library in
    let marks : MarksStale us (library_at (contents_of c.args.self.now.library.tables) c.in_ok-units.units.items) stale =
    subst (λ xs. MarksStale us (library_at (contents_of c.args.self.now.library.tables) xs) stale) c.deref.ensures.value c.in_ok-stale.ensures.stale in
    let moved : MarksStale us (library_at (contents_of c.self.inside.library.tables) c.in_ok-units.units.items) stale =
    subst (λ (k : Kept). MarksStale us (library_at (contents_of k.library.tables) c.in_ok-units.units.items) stale) (sym c.self.view_is) marks in
    let exchanged : MarksStale us (library_of c.replace_units.new.self) stale =
    subst (λ (x : StoredLibrary). MarksStale us (library_of x) stale) (sym c.in_ok-replace_units.ensures.ok) moved in
    subst (λ xs. MarksStale us (library_of c.check.new.self.library) xs) (sym c.check.ensures.stale)
    (subst (λ (x : StoredLibrary). MarksStale us (library_of x) stale) (sym c.check.ensures.library) exchanged)

pub returns-clause-handed_on : goal.returns-clause-handed_on
returns-clause-handed_on g c =
    let us = library_of c.args.self.now.library in
    let before = c.args.self.now.verdicts in
    let units = c.in_ok-units.units.items in
    let numbers = c.in_ok-stale.field-0.plan.numbers.items in
    let planned = map verdict c.in_ok-stale.field-0.plan.verdicts.items in
    let plan : IsPlan us (library_at (contents_of c.args.self.now.library.tables) units) before numbers planned =
    subst (λ xs. IsPlan us (library_at (contents_of c.args.self.now.library.tables) xs) before numbers planned) c.deref.ensures.value c.in_ok-stale.ensures.plan in
    let moved : IsPlan us (library_at (contents_of c.self.inside.library.tables) units) before numbers planned =
    subst (λ (k : Kept). IsPlan us (library_at (contents_of k.library.tables) units) before numbers planned) (sym c.self.view_is) plan in
    let exchanged : IsPlan us (library_of c.replace_units.new.self) before numbers planned =
    subst (λ (x : StoredLibrary). IsPlan us (library_of x) before numbers planned) (sym c.in_ok-replace_units.ensures.ok) moved in
    let whole : IsPlan us (library_of c.check.new.self.library) before numbers planned =
    subst (λ (x : StoredLibrary). IsPlan us (library_of x) before numbers planned) (sym c.check.ensures.library) exchanged in
    let answered : IsAnswered (g.C.Checks.may_answer c.args.checks.now c.check.new.self.library) numbers planned c.check.new.self.verdicts =
    subst (λ (x : StoredLibrary). IsAnswered (g.C.Checks.may_answer c.args.checks.now x) numbers planned c.check.new.self.verdicts) (sym c.check.ensures.library)
    (subst (λ ns. IsAnswered (g.C.Checks.may_answer c.args.checks.now c.replace_units.new.self) ns planned c.check.new.self.verdicts) c.deref-2.ensures.value c.check.ensures.answered) in
    handed_on us (library_of c.check.new.self.library) before numbers planned c.check.new.self.verdicts whole (g.C.Checks.may_answer c.args.checks.now c.check.new.self.library) answered

pub returns-clause-kept : goal.returns-clause-kept
returns-clause-kept g c =
    let us = library_of c.args.self.now.library in
    let before = c.args.self.now.verdicts in
    let units = c.in_ok-units.units.items in
    let numbers = c.in_ok-stale.field-0.plan.numbers.items in
    let planned = map verdict c.in_ok-stale.field-0.plan.verdicts.items in
    let plan : IsPlan us (library_at (contents_of c.args.self.now.library.tables) units) before numbers planned =
    subst (λ xs. IsPlan us (library_at (contents_of c.args.self.now.library.tables) xs) before numbers planned) c.deref.ensures.value c.in_ok-stale.ensures.plan in
    let moved : IsPlan us (library_at (contents_of c.self.inside.library.tables) units) before numbers planned =
    subst (λ (k : Kept). IsPlan us (library_at (contents_of k.library.tables) units) before numbers planned) (sym c.self.view_is) plan in
    let exchanged : IsPlan us (library_of c.replace_units.new.self) before numbers planned =
    subst (λ (x : StoredLibrary). IsPlan us (library_of x) before numbers planned) (sym c.in_ok-replace_units.ensures.ok) moved in
    let whole : IsPlan us (library_of c.check.new.self.library) before numbers planned =
    subst (λ (x : StoredLibrary). IsPlan us (library_of x) before numbers planned) (sym c.check.ensures.library) exchanged in
    let answered : IsAnswered (g.C.Checks.may_answer c.args.checks.now c.check.new.self.library) numbers planned c.check.new.self.verdicts =
    subst (λ (x : StoredLibrary). IsAnswered (g.C.Checks.may_answer c.args.checks.now x) numbers planned c.check.new.self.verdicts) (sym c.check.ensures.library)
    (subst (λ ns. IsAnswered (g.C.Checks.may_answer c.args.checks.now c.replace_units.new.self) ns planned c.check.new.self.verdicts) c.deref-2.ensures.value c.check.ensures.answered) in
    verdicts_kept us (library_of c.check.new.self.library) before numbers planned c.check.new.self.verdicts whole (g.C.Checks.may_answer c.args.checks.now c.check.new.self.library) answered
