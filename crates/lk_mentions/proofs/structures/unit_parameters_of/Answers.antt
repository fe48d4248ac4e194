use Rattle.std.proofs.Common.{◌≡◌, ◌∷◌, [], length, sym, ◌∙◌, subst}
use Rattle.std.specs.Prelude.{Result, Ok, Err, IfOk, All}
use Rattle.std.proofs.lemmas.List.Elements.{All-head}
use Rattle.lk_store.specs.Store.{contents_of}
use Rattle.lk_env.specs.Units.{block_at, type_at, IsConstructorIn}
use Rattle.lk_mentions.proofs.Plainly.{unit_of_type, no_type, not_one, one_only}
use Rattle.lk_mentions.proofs.structures.unit_parameters_of.Goals as goal

if_same : {A E : Type 0} (x y : A) (r : Result A E) → x ≡ y → IfOk r (λ a. a ≡ x) → IfOk r (λ a. a ≡ y)
if_same x y (Ok a) e h = h ∙ e
if_same x y (Err n) e h = tt

pub unit_by-requires-clause-constructor_in : goal.unit_by-requires-clause-constructor_in
unit_by-requires-clause-constructor_in g c =
    let base = contents_of (g.L.Lends.lent c.args.library.now).tables in
    let is : c.in-Some.ty.now.constructors.items ≡ c.in-Some-only.constructor.now ∷ [] = rw c.deref.ensures.value at c.in-Some-only.ensures in
    All-head (IsConstructorIn base) c.in-Some-only.constructor.now [] (subst (All (IsConstructorIn base)) is c.in-Some.ensures.known.type_in.constructors_in)

pub returns-in-Some-only : goal.returns-in-Some-only
returns-in-Some-only g c e h =
    let base = contents_of (g.L.Lends.lent c.args.library.now).tables in
    let t = c.in-Some.ty.now in
    let b = block_at base c.in-Some.block.now in
    let is : t.constructors.items ≡ c.in-Some-only.constructor.now ∷ [] = rw c.deref.ensures.value at c.in-Some-only.ensures in
    if_same _ _ c.unit_by.result (one_only base b t c.in-Some-only.constructor.now is ∙ sym (unit_of_type e.kind b (type_at base t) (c.in-Some.ensures.value e h))) c.unit_by.ensures

pub returns-in-None-only : goal.returns-in-None-only
returns-in-None-only g c e h =
    let base = contents_of (g.L.Lends.lent c.args.library.now).tables in
    let t = c.in-Some.ty.now in
    let b = block_at base c.in-Some.block.now in
    let none : length t.constructors.items ≡ 1 → ⊥ = rw c.deref.ensures.value at c.in-None-only.ensures in
    sym (unit_of_type e.kind b (type_at base t) (c.in-Some.ensures.value e h) ∙ not_one base b t none)

pub returns-in-None : goal.returns-in-None
returns-in-None g c e h = sym (no_type e.kind (c.in-None.ensures.value e h))
