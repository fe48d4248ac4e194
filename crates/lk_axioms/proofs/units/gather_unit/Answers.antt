use Rattle.std.proofs.Common.{ℕ, ◌≡◌, ◌∙◌, List, subst, sym, refl}
use Rattle.std.specs.Prelude.{All}
use Rattle.lk_store.specs.Store.{contents_of}
use Rattle.lk_env.specs.Units.{library_of}
use Rattle.lk_axioms.specs.Gathered.{AreGathered, HasItself}
use Rattle.lk_axioms.specs.Stated.{stated_numbers}
use Rattle.lk_axioms.proofs.Numbers.{IsTree, stated_in}
use Rattle.lk_axioms.proofs.Parts.{if_ok}
use Rattle.lk_axioms.proofs.OfUnit.{without_itself, with_itself}
use Rattle.lk_axioms.proofs.units.gather_unit.Goals as goal

pub gather_trees-requires-clause-trees_in : goal.gather_trees-requires-clause-trees_in
gather_trees-requires-clause-trees_in c =
    let is : c.deref.result.now ≡ stated_numbers c.args.stated.now = c.deref.ensures.value ∙ c.in_ok-list_trees.ensures in
    subst (All (IsTree (contents_of c.args.library.now.tables))) (sym is) (stated_in (contents_of c.args.library.now.tables) c.args.stated.now c.requires.stated_in)

pub returns-then-is_axiom : goal.returns-then-is_axiom
returns-then-is_axiom c =
    let d = contents_of c.args.library.now.tables in
    let us = library_of c.args.library.now in
    let is : c.deref.result.now ≡ stated_numbers c.args.stated.now = c.deref.ensures.value ∙ c.in_ok-list_trees.ensures in
    let a : AreGathered d us c.args.unit (stated_numbers c.args.stated.now) c.args.gathering.now c.gather_trees.new.gathering c.in_ok-used.used =
    subst (λ (es : List ℕ). AreGathered d us c.args.unit es c.args.gathering.now c.gather_trees.new.gathering c.in_ok-used.used) is c.in_ok-used.ensures in
    if_ok (HasItself c.gather_trees.new.gathering.sets c.add_itself.new.sets c.args.unit c.in_ok-used.used) _ c.add_itself.result
    (λ r h. with_itself d us c.args.unit c.args.stated.now c.requires.stands c.args.gathering.now c.gather_trees.new.gathering _ c.in_ok-used.used r (sym (c.if-is_axiom.ensures d)) a h refl refl) c.add_itself.ensures

pub returns-else-is_axiom : goal.returns-else-is_axiom
returns-else-is_axiom c =
    let d = contents_of c.args.library.now.tables in
    let us = library_of c.args.library.now in
    let is : c.deref.result.now ≡ stated_numbers c.args.stated.now = c.deref.ensures.value ∙ c.in_ok-list_trees.ensures in
    let a : AreGathered d us c.args.unit (stated_numbers c.args.stated.now) c.args.gathering.now c.gather_trees.new.gathering c.in_ok-used.used =
    subst (λ (es : List ℕ). AreGathered d us c.args.unit es c.args.gathering.now c.gather_trees.new.gathering c.in_ok-used.used) is c.in_ok-used.ensures in
    without_itself d us c.args.unit c.args.stated.now c.requires.stands c.args.gathering.now c.gather_trees.new.gathering c.in_ok-used.used (sym (c.if-is_axiom.ensures d)) a
