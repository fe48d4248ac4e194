use Rattle.std.proofs.Common.{refl, sym, ap, subst, ◌∙◌}
use Rattle.std.specs.Prelude.{slice_get}
use Rattle.lk_store.specs.Contents.{name_at}
use Rattle.lk_env.specs.declared.unit.Unit.TheVariants as unit
use Rattle.lk_env.specs.Units.{IsUnitIn}
use Rattle.lk_env.proofs.Scoped.{alone_has, alone_lacks, alone_name, one_type, no_type, no_declaration}
use Rattle.lk_env.proofs.scope.alone_named.Goals as goal

pub returns-in-Declaration-clause-answer : goal.returns-in-Declaration-clause-answer
returns-in-Declaration-clause-answer g c d over known = absurd (no_declaration c.args.unit.now c.in-Declaration.field-0 c.requires.alone c.in-Declaration.is)

pub returns-in-None-clause-answer : goal.returns-in-None-clause-answer
returns-in-None-clause-answer g c d over known = absurd (no_type c.args.unit.now c.in-Block.block c.requires.alone c.in-Block.is (c.in-None.ensures.value ∙ ap (λ ts. slice_get ts 0) c.deref.ensures.value))

pub returns-then-not-same_name-clause-answer : goal.returns-then-not-same_name-clause-answer
returns-then-not-same_name-clause-answer g c d over known =
    let types = one_type c.args.unit.now c.in-Block.block c.requires.alone c.in-Block.is c.in-Some.ty.now (c.in-Some.ensures.value ∙ ap (λ ts. slice_get ts 0) c.deref.ensures.value) in
    let in_block : IsUnitIn d (unit.Block c.in-Block.block) = subst (IsUnitIn d) c.in-Block.is known in
    rw c.in-Block.is (alone_lacks d (name_at (g.T.Terms.contents c.args.terms.now) c.args.name) c.in-Block.block c.in-Some.ty.now types
    (λ e. let no = c.if-not-same_name.ensures.1 (alone_name d (g.T.Terms.contents c.args.terms.now) over c.in-Block.block c.in-Some.ty.now types in_block ∙ e) in absurd cc))

pub returns-else-not-same_name-clause-answer : goal.returns-else-not-same_name-clause-answer
returns-else-not-same_name-clause-answer g c d over known =
    let types = one_type c.args.unit.now c.in-Block.block c.requires.alone c.in-Block.is c.in-Some.ty.now (c.in-Some.ensures.value ∙ ap (λ ts. slice_get ts 0) c.deref.ensures.value) in
    let in_block : IsUnitIn d (unit.Block c.in-Block.block) = subst (IsUnitIn d) c.in-Block.is known in
    rw c.in-Block.is (alone_has d (name_at (g.T.Terms.contents c.args.terms.now) c.args.name) c.in-Block.block c.in-Some.ty.now _ types
    (sym (alone_name d (g.T.Terms.contents c.args.terms.now) over c.in-Block.block c.in-Some.ty.now types in_block) ∙ c.if-not-same_name.ensures.0 refl) refl refl in_block)
