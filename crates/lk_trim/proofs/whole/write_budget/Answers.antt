use Rattle.std.proofs.Common.{map, ap, ◌∙◌}
use Rattle.std.specs.Prelude.{option_map}
use Rattle.lk_store.specs.Contents.{name_at}
use Rattle.lk_store.specs.Store.{contents_of}
use Rattle.lk_env.specs.Units.{library_of}
use Rattle.lk_env.specs.Budgets.{own_budget, budgets_of}
use Rattle.lk_env.proofs.Members.{member_names_are, members_known}
use Rattle.lk_trim.specs.Whole.{write_budget, budget_by, own_name}
use Rattle.lk_trim.proofs.Chains.{writes_as}
use Rattle.lk_trim.proofs.whole.write_budget.Goals as goal

pub own_name-name-requires : goal.own_name-name-requires
own_name-name-requires c =
    rw (c.deref.ensures.value, c.in_ok-names.ensures) (members_known (contents_of c.args.library.now.tables) c.args.unit.now c.requires.unit_in)

pub returns : goal.returns
returns c =
    let s = contents_of c.args.library.now.tables in
    let us = library_of c.args.library.now in
    let found = c.own_name-name.ensures.name ∙ ap (own_name us c.args.n) (ap (map (name_at s)) (c.deref.ensures.value ∙ c.in_ok-names.ensures) ∙ member_names_are s c.args.unit.now) in
    writes_as (ap (λ o. write_budget (budget_by o (option_map (name_at s) c.own_name-name.result))) c.in-Some.ensures ∙ ap (λ o. write_budget (budget_by (own_budget us (budgets_of c.args.library.now) c.args.n) o)) found) (rw c.base.ensures at c.in_ok-write_if_named.ensures)
