use Rattle.std.proofs.Common.{Ok, ◌≡◌, ◌+◌, suc, ap, subst, ◌∙◌, arith}
use Rattle.std.specs.Prelude.{Result, Err, IfOk}
use Rattle.lk_rulebook.specs.Place.{Place}
use Rattle.lk_store.specs.Contents.{Contents}
use Rattle.lk_derive_types.specs.Projections.{IsFieldAt}
use Rattle.lk_derive_types.proofs.FieldsOn.{next_function, next_sorted, next_field}
use Rattle.lk_derive_types.proofs.fields.past_field.Goals as goal

pub pi_of-requires-clause-function : goal.pi_of-requires-clause-function
pi_of-requires-clause-function g c =
    next_function (g.D.Looks.sight (g.D.Terms.rest c.args.derives.now)).basis.place c.requires.stated (g.D.Terms.contents c.args.derives.now) c.args.p c.args.enough c.args.number c.args.at c.args.asked.now c.requires.field c.requires.before

pub note_prop-requires-clause-sorted : goal.note_prop-requires-clause-sorted
note_prop-requires-clause-sorted g c = λ e.
    let w : Place = (g.D.Looks.sight (g.D.Terms.rest c.args.derives.now)).basis.place in
    let u : Place = (g.D.Looks.sight (g.D.Terms.rest c.is_due.new.looks)).basis.place in
    let place : u ≡ w = ap (λ r. (g.D.Looks.sight r).basis.place) c.is_due.ensures.made.stays ∙ c.pi_of.ensures.leaves.place in
    next_sorted w c.requires.stated (g.D.Terms.contents c.args.derives.now) c.args.p c.args.enough c.args.number c.args.at c.args.asked.now c.requires.field c.requires.before
    (g.D.Terms.contents c.pi_of.new.derives) (g.D.Terms.contents c.is_due.new.looks) u c.in_ok-function.function c.in_ok-due.due c.is_due.ensures.made.keeps place c.in_ok-function.ensures.function c.in_ok-due.ensures.ok e

mapped : {A E : Type 0} (r : Result A E) (P Q : A → Type 0) → ((v : A) → P v → Q v) → IfOk r P → IfOk r Q
mapped (Ok v) P Q f h = f v h
mapped (Err e) P Q f h = tt

pub returns-clause-field : goal.returns-clause-field
returns-clause-field g c =
    let w : Place = (g.D.Looks.sight (g.D.Terms.rest c.args.derives.now)).basis.place in
    let u : Place = (g.D.Looks.sight (g.D.Terms.rest c.is_due.new.looks)).basis.place in
    let place : u ≡ w = ap (λ r. (g.D.Looks.sight r).basis.place) c.is_due.ensures.made.stays ∙ c.pi_of.ensures.leaves.place in
    let c₀ : Contents = g.D.Terms.contents c.args.derives.now in
    let c₁ : Contents = g.D.Terms.contents c.pi_of.new.derives in
    let c₂ : Contents = g.D.Terms.contents c.is_due.new.looks in
    let c₃ : Contents = g.D.Terms.contents c.note_prop.new.derives in
    let c₄ : Contents = g.D.Terms.contents c.with_field.new.looks in
    let n : suc c.args.number ≡ c.args.number + 1 = omega arith in
    mapped c.with_field.result _ _
    (λ t h. subst (λ m. IsFieldAt w c₄ c.args.p c.args.enough m t c.note_prop.new.asked) n
    (next_field w c.requires.stated c₀ c.args.p c.args.enough c.args.number c.args.at c.args.asked.now c.requires.field c.requires.before
    c₁ c₂ c₃ c₄ u c.note_form.new.self c.note_prop.new.asked c.in_ok-function.function c.in_ok-due.due t c.pi_of.ensures.leaves.keeps c.is_due.ensures.made.keeps c.note_prop.ensures.leaves.keeps c.with_field.ensures.keeps
    place c.in_ok-function.ensures.function c.in_ok-note_form.ensures c.in_ok-due.ensures.ok c.in_ok-note_prop.ensures.noted h)) c.with_field.ensures.ok
