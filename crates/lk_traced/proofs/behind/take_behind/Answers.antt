use Rattle.std.proofs.Common.{ℕ, refl, subst}
use Rattle.lk_lines.specs.declared.line.DerivationLine.{DerivationLine}
use Rattle.lk_lines.specs.FileNumbers.{wide}
use Rattle.lk_lines.specs.Views.{derivation_values}
use Rattle.lk_traced.specs.Begun.{FollowsSections}
use Rattle.lk_traced.specs.Placed.{Both, derivation_taken}
use Rattle.lk_units.specs.State.{take_item}
use Rattle.lk_units.proofs.Lines.{fails_then}
use Rattle.lk_traced.proofs.Refusing.{follows_misplaced, on_ok, on_any}
use Rattle.lk_traced.proofs.Growing.{grown_sections, grown_known}
use Rattle.lk_traced.proofs.Followed.{both_state, both_behind}
use Rattle.lk_traced.proofs.behind.take_behind.Goals as goal

pub returns-in-Budget-clause-follows : goal.returns-in-Budget-clause-follows
unfolding take_item
returns-in-Budget-clause-follows g c = λ s b h hs.
    let store = g.T.Terms.contents c.args.store.now in
    rw c.in-Budget.is (follows_misplaced Both c.take_budget.new.self store c.take_budget.result _ c.misplaced.result (c.take_budget.ensures.follows store c.args.number s h) c.misplaced.ensures.ok c.misplaced.ensures.err)

pub returns-in-Entry-clause-follows : goal.returns-in-Entry-clause-follows
returns-in-Entry-clause-follows g c = λ s b h hs.
    let old = g.T.Terms.contents c.args.store.now in
    let new = g.T.Terms.contents c.entry_line.new.store in
    rw c.in-Entry.is (both_state c.entry_line.new.assembler c.args.sections.now new b c.entry_line.result _ (grown_sections old new c.entry_line.ensures.keeps c.args.sections.now b c.requires.sections hs) (c.entry_line.ensures.follows s h))

pub returns-in-Local-clause-follows : goal.returns-in-Local-clause-follows
returns-in-Local-clause-follows g c = λ s b h hs.
    let old = g.T.Terms.contents c.args.store.now in
    let new = g.T.Terms.contents c.local_line.new.store in
    rw c.in-Local.is (both_state c.local_line.new.assembler c.args.sections.now new b c.local_line.result _ (grown_sections old new c.local_line.ensures.keeps c.args.sections.now b c.requires.sections hs) (c.local_line.ensures.follows s h))

pub returns-in-Declaration-clause-follows : goal.returns-in-Declaration-clause-follows
returns-in-Declaration-clause-follows g c = λ s b h hs. rw c.in-Declaration.is (fails_then c.refused.result _ _ (c.refused.ensures s h))

pub returns-in-Section-clause-follows : goal.returns-in-Section-clause-follows
returns-in-Section-clause-follows g c = λ s b h hs.
    rw c.in-Section.is (both_behind c.args.assembler.now c.begin.new.self (g.T.Terms.contents c.args.store.now) s c.begin.result _ h (c.begin.ensures.follows (g.T.Terms.contents c.args.store.now) b hs))

pub returns-in-Derivation-clause-follows : goal.returns-in-Derivation-clause-follows
returns-in-Derivation-clause-follows g c = λ s b h hs.
    let store = g.T.Terms.contents c.args.store.now in
    let P : DerivationLine ℕ → Type 0 = λ l. FollowsSections c.derivation.new.self store c.derivation.result (derivation_taken c.args.number s b c.in-Derivation.own (derivation_values wide l)) in
    let follows : P c.in-Derivation.line.value = subst P c.deref.ensures (c.derivation.ensures.follows store s b h.trees c.requires.sections hs) in
    rw c.in-Derivation.is (both_behind c.args.assembler.now c.derivation.new.self store s c.derivation.result _ h follows)

pub returns-in-Parts-clause-follows : goal.returns-in-Parts-clause-follows
returns-in-Parts-clause-follows g c = λ s b h hs.
    let store = g.T.Terms.contents c.args.store.now in
    rw c.in-Parts.is (both_behind c.args.assembler.now c.end.new.self store s c.end.result _ h (rw c.deref-in-Parts.ensures.value at c.end.ensures.follows store b hs))

pub returns-in-Blank-clause-follows : goal.returns-in-Blank-clause-follows
returns-in-Blank-clause-follows g c = λ s b h hs. rw c.in-Blank.is (record { state = s; behind = b }, refl, h, hs)

pub returns-in-Version-clause-follows : goal.returns-in-Version-clause-follows
returns-in-Version-clause-follows g c = λ s b h hs. rw c.in-Version.is (record { state = s; behind = b }, refl, h, hs)

pub returns-in-Go-clause-follows : goal.returns-in-Go-clause-follows
returns-in-Go-clause-follows g c = λ s b h hs. rw c.in-Go.is refl

pub returns-in-Trace-clause-follows : goal.returns-in-Trace-clause-follows
returns-in-Trace-clause-follows g c = λ s b h hs. rw c.in-Trace.is refl

pub returns-in-Entry-clause-sections : goal.returns-in-Entry-clause-sections
returns-in-Entry-clause-sections g c =
    on_any c.entry_line.result _ (grown_known (g.T.Terms.contents c.args.store.now) (g.T.Terms.contents c.entry_line.new.store) c.entry_line.ensures.keeps c.args.sections.now c.requires.sections)

pub returns-in-Local-clause-sections : goal.returns-in-Local-clause-sections
returns-in-Local-clause-sections g c =
    on_any c.local_line.result _ (grown_known (g.T.Terms.contents c.args.store.now) (g.T.Terms.contents c.local_line.new.store) c.local_line.ensures.keeps c.args.sections.now c.requires.sections)

pub returns-in-Section-clause-sections : goal.returns-in-Section-clause-sections
returns-in-Section-clause-sections g c = on_ok c.begin.result _ _ (λ f. f (g.T.Terms.contents c.args.store.now) c.requires.sections) c.begin.ensures.known

pub returns-in-Derivation-clause-sections : goal.returns-in-Derivation-clause-sections
returns-in-Derivation-clause-sections g c =
    on_ok c.derivation.result _ _ (λ f. f (g.T.Terms.contents c.args.store.now) c.requires.known.trees_below c.requires.sections) c.derivation.ensures.known

pub returns-in-Parts-clause-sections : goal.returns-in-Parts-clause-sections
returns-in-Parts-clause-sections g c = on_ok c.end.result _ _ (λ f. f (g.T.Terms.contents c.args.store.now) c.requires.sections) c.end.ensures.known

pub returns-in-Section-clause-known : goal.returns-in-Section-clause-known
returns-in-Section-clause-known g c = on_any c.begin.result _ c.requires.known

pub returns-in-Derivation-clause-known : goal.returns-in-Derivation-clause-known
returns-in-Derivation-clause-known g c = on_any c.derivation.result _ c.requires.known

pub returns-in-Parts-clause-known : goal.returns-in-Parts-clause-known
returns-in-Parts-clause-known g c = on_any c.end.result _ c.requires.known
