use Rattle.std.proofs.Common.{◌≡◌, ◌+◌, ◌<◌, ◌≤◌, ◌∙◌, ℕ, List, All, Ok, Err, Result, length, map, sym, subst, ap, arith}
use Rattle.std.specs.Prelude.{IfOk, Vec}
use Rattle.std.specs.declared.alloc.Global.{Global}
use Rattle.std.proofs.lemmas.List.{length-map}
use Rattle.std.proofs.lemmas.List.FromFn.{length-range_with_len}
use Rattle.lk_store.specs.Store.{contents_of}
use Rattle.lk_store.specs.declared.memory.NoMemory.{NoMemory}
use Rattle.lk_env.specs.Units.{library_of, unit_at}
use Rattle.lk_verdict.specs.Held.{verdict}
use Rattle.lk_verdict.specs.Checked.{AreChecked}
use Rattle.lk_verdict.specs.declared.verdict.Verdict.{Verdict as HeldVerdict}
use Rattle.lk_session.specs.Answers.{AreFrom}
use Rattle.lk_session.proofs.Verdicts.{checked_from, range_below}
use Rattle.lk_session.proofs.checking.check_together.Goals as goal

pub check_some-requires : goal.check_some-requires
check_some-requires g c =
    let l = c.args.library.now in
    let size : length (library_of l) ≡ length l.units = length-map l.units (unit_at (contents_of l.tables)) in
    let most : c.args.first + c.args.count ≤ length l.units = omega (arith, c.requires.within, size) in
    subst (λ (ns : List ℕ). All (λ m. m < length l.units) ns) (sym (c.deref.ensures.value ∙ c.in_ok-numbers.ensures)) (range_below c.args.first c.args.count (length l.units) most)

if_then : {A E : Type 0} (P Q : A → Type 0) (r : Result A E) → ((a : A) → P a → Q a) → IfOk r P → IfOk r Q
if_then P Q (Ok a) f h = f a h
if_then P Q (Err e) f h = tt

pub returns-clause-count : goal.returns-clause-count
returns-clause-count g c = if_then _ (λ (vs : Vec HeldVerdict Global). length vs.items ≡ c.args.count) c.check_some.result
    (λ vs checked. sym (length-map vs.items verdict) ∙ (checked.as_many ∙ (ap (λ (ns : List ℕ). length ns) (c.deref.ensures.value ∙ c.in_ok-numbers.ensures) ∙ length-range_with_len c.args.first c.args.count)))
    c.check_some.ensures.checked

pub returns-clause-each : goal.returns-clause-each
returns-clause-each g c =
    let us = library_of c.args.library.now in
    let budget = g.C.Checks.budget_of c.args.checks.now in
    if_then _ (λ (vs : Vec HeldVerdict Global). AreFrom us budget c.args.first (map verdict vs.items)) c.check_some.result
    (λ vs checked. checked_from us budget c.args.first c.args.count (map verdict vs.items) (subst (λ (ns : List ℕ). AreChecked us budget ns (map verdict vs.items)) (c.deref.ensures.value ∙ c.in_ok-numbers.ensures) checked))
    c.check_some.ensures.checked
