use Rattle.std.proofs.Common.{ℕ, None, ◌∙◌, refl, subst}
use Rattle.lk_lines.specs.declared.line.DerivationLine.{DerivationLine}
use Rattle.lk_lines.specs.FileNumbers.{narrow}
use Rattle.lk_lines.specs.Views.{derivation_values}
use Rattle.lk_units.specs.State.{State}
use Rattle.lk_units.specs.Held.{Fails}
use Rattle.lk_traced.specs.Derived.{line_said}
use Rattle.lk_traced.specs.Placed.{misplaced}
use Rattle.lk_traced.proofs.Followed.{item_fails}
use Rattle.lk_traced.proofs.before.take_before.Goals as goal

pub returns-in-Blank-clause-follows : goal.returns-in-Blank-clause-follows
returns-in-Blank-clause-follows g c = λ d h. rw c.in-Blank.is (c.take_library.ensures.follows d h)

pub returns-in-Version-clause-follows : goal.returns-in-Version-clause-follows
returns-in-Version-clause-follows g c = λ d h. rw c.in-Version.is (c.take_library-in-Version.ensures.follows d h)

pub returns-in-Entry-clause-follows : goal.returns-in-Entry-clause-follows
returns-in-Entry-clause-follows g c = λ d h. rw c.in-Entry.is (c.take_library-in-Entry.ensures.follows d h)

pub returns-in-Declaration-clause-follows : goal.returns-in-Declaration-clause-follows
returns-in-Declaration-clause-follows g c = λ d h. rw c.in-Declaration.is (c.take_library-in-Declaration.ensures.follows d h)

pub returns-in-Budget-clause-follows : goal.returns-in-Budget-clause-follows
returns-in-Budget-clause-follows g c = λ d h. rw c.in-Budget.is (c.take_library-in-Budget.ensures.follows d h)

pub returns-in-Go-clause-follows : goal.returns-in-Go-clause-follows
returns-in-Go-clause-follows g c = λ d h. rw c.in-Go.is (c.take_library-in-Go.ensures.follows d h)

pub returns-in-Trace-clause-follows : goal.returns-in-Trace-clause-follows
returns-in-Trace-clause-follows g c = λ d h. rw c.in-Trace.is (c.begin_behind.ensures.follows d h)

pub returns-in-Local-clause-follows : goal.returns-in-Local-clause-follows
returns-in-Local-clause-follows g c = λ d h.
    rw (c.in-Local.is, c.at_line.ensures) (item_fails d.number c.args.number c.misplaced_local.result _ _ (c.requires.number ∙ h.number) (c.misplaced_local.ensures.fails d.state h.holds))

pub returns-in-Derivation-clause-follows : goal.returns-in-Derivation-clause-follows
returns-in-Derivation-clause-follows g c = λ d h.
    let P : DerivationLine ℕ → Type 0 = λ l. Fails c.misplaced_derivation.result (misplaced {B = State} (line_said d.state (λ j. None) (derivation_values narrow l))) in
    let refused : P c.in-Derivation.line.value = subst P c.deref.ensures (c.misplaced_derivation.ensures (g.T.Terms.contents c.args.store.now) d.state h.holds) in
    rw (c.in-Derivation.is, c.at_line-in-Derivation.ensures) (item_fails d.number c.args.number c.misplaced_derivation.result _ _ (c.requires.number ∙ h.number) refused)

pub returns-in-Parts-clause-follows : goal.returns-in-Parts-clause-follows
returns-in-Parts-clause-follows g c = λ d h.
    rw (c.in-Parts.is, c.at_line-in-Parts.ensures) (item_fails d.number c.args.number c.misplaced_parts.result _ _ (c.requires.number ∙ h.number) (rw c.deref-in-Parts.ensures.value at c.misplaced_parts.ensures))

pub returns-in-Section-clause-follows : goal.returns-in-Section-clause-follows
returns-in-Section-clause-follows g c = λ d h. rw (c.in-Section.is, c.at_line-in-Section.ensures, c.requires.number ∙ h.number) refl
