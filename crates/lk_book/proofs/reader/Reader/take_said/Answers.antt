use Rattle.std.proofs.Common.{refl, ◌∙◌}
use Rattle.std.specs.Prelude.{false}
use Rattle.lk_book.proofs.Steps.{item_goes, item_stops}
use Rattle.lk_book.proofs.reader.Reader.take_said.Goals as goal

pub returns-in-Version-clause-follows : goal.returns-in-Version-clause-follows
returns-in-Version-clause-follows g c = λ d h. rw c.in-Version.is (record d { first = false }, refl, record { dialect = h.dialect; first = refl; number = h.number; before = h.before; holds = h.holds })

pub returns-in-Ok-clause-follows : goal.returns-in-Ok-clause-follows
returns-in-Ok-clause-follows g c = λ d h. rw c.in-Entry.is (item_goes c.args.self.now c.take_entry.new.self _ _ d c.args.number _ h (c.in-Ok.ensures.follows d.number d.state h.holds))

pub returns-in-Ok-take_declaration-clause-follows : goal.returns-in-Ok-take_declaration-clause-follows
returns-in-Ok-take_declaration-clause-follows g c = λ d h. rw c.in-Declaration.is (item_goes c.args.self.now c.take_declaration.new.self _ _ d c.args.number _ h (rw (c.requires.number ∙ h.number) at c.in-Ok-take_declaration.ensures.follows d.state h.holds))

pub returns-in-Ok-take_budget-clause-follows : goal.returns-in-Ok-take_budget-clause-follows
returns-in-Ok-take_budget-clause-follows g c = λ d h. rw c.in-Budget.is (item_goes c.args.self.now c.take_budget.new.self _ _ d c.args.number _ h (c.in-Ok-take_budget.ensures.follows _ d.number d.state h.holds))

pub returns-in-Err-take_budget-clause-follows : goal.returns-in-Err-take_budget-clause-follows
returns-in-Err-take_budget-clause-follows g c = λ d h.
    rw (c.in-Budget.is, c.at_line-in-Err-take_budget.ensures) (item_stops c.args.self.now c.take_budget.new.self (g.T.Terms.contents c.args.store.now) d c.args.number _ c.in-Err-take_budget.error (c.in-Err-take_budget.ensures.follows _ d.number d.state h.holds))

pub returns-in-Ok-part-clause-follows : goal.returns-in-Ok-part-clause-follows
returns-in-Ok-part-clause-follows g c = λ d h. rw c.in-Go.is (item_goes c.args.self.now c.part.new.self _ _ d c.args.number _ h (c.in-Ok-part.ensures.follows _ d.number d.state h.holds))

pub returns-in-Err-part-clause-follows : goal.returns-in-Err-part-clause-follows
returns-in-Err-part-clause-follows g c = λ d h.
    rw (c.in-Go.is, c.at_line-in-Err-part.ensures) (item_stops c.args.self.now c.part.new.self (g.T.Terms.contents c.args.store.now) d c.args.number _ c.in-Err-part.error (c.in-Err-part.ensures.follows _ d.number d.state h.holds))
