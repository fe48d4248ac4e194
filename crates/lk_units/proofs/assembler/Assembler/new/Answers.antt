use Rattle.std.proofs.Common.{rules, ap, ◌∙◌, ◌==◌, length, [], Some}
use Rattle.std.specs.Prelude.{if◌then◌else◌}
use Rattle.lk_tree.specs.Tree.{zero_level}
use Rattle.lk_store.specs.Contents.{name_at, level_at}
use Rattle.lk_store.proofs.Extending.{Extends-trans}
use Rattle.lk_units.proofs.Holding.{first_below, first_numbered}
use Rattle.lk_units.proofs.assembler.Assembler.new.Goals as goal

pub returns-clause-known : goal.returns-clause-known
returns-clause-known g c =
    let store = g.T.Terms.contents c.make_level.new.self in
    c.over.ensures.known store
    (first_below c.add.new.self (length store.names) c.in_ok-anonymous.anonymous (search rules)
    (λ q. c.in_ok-add.ensures.ok q ∙ ap (λ o. if q == 0 then Some c.in_ok-anonymous.anonymous else o) (c.new-by_name.ensures q)))
    (first_below c.add-2.new.self (length store.levels) c.in_ok-zero.zero (search rules)
    (λ q. c.in_ok-add-2.ensures.ok q ∙ ap (λ o. if q == 0 then Some c.in_ok-zero.zero else o) (c.new-by_level.ensures q)))

pub returns-clause-holds : goal.returns-clause-holds
returns-clause-holds g c =
    let store = g.T.Terms.contents c.make_level.new.self in
    c.over.ensures.holds store
    (first_numbered c.add.new.self (name_at store) c.in_ok-anonymous.anonymous [] (search rules)
    (λ q. c.in_ok-add.ensures.ok q ∙ ap (λ o. if q == 0 then Some c.in_ok-anonymous.anonymous else o) (c.new-by_name.ensures q)))
    (first_numbered c.add-2.new.self (level_at store) c.in_ok-zero.zero zero_level (search rules)
    (λ q. c.in_ok-add-2.ensures.ok q ∙ ap (λ o. if q == 0 then Some c.in_ok-zero.zero else o) (c.new-by_level.ensures q)))

pub returns-clause-keeps : goal.returns-clause-keeps
returns-clause-keeps g c = Extends-trans _ _ _ c.in_ok-anonymous.ensures.keeps c.in_ok-zero.ensures.keeps
