use Rattle.std.proofs.Common.{ap, subst, ◌∙◌}
use Rattle.lk_tree.specs.Bind.{opened}
use Rattle.lk_questions.specs.Query.{infer}
use Rattle.lk_store.specs.Contents.{tree_at}
use Rattle.lk_store.proofs.Extending.{Extends-trans}
use Rattle.lk_step.specs.Told.{IsAnsweredWithin}
use Rattle.lk_derive_types.proofs.Leaving.{leaves_made, leaves_then}
use Rattle.lk_derive_types.proofs.LetRows.{let_stated, let_value, let_inside}
use Rattle.lk_derive_types.proofs.BinderSteps.{answered_at, let_at}
use Rattle.lk_derive_types.proofs.lets.let_row.Goals as goal

pub sort_of-requires-clause-sorted : goal.sort_of-requires-clause-sorted
sort_of-requires-clause-sorted g c =
    let w = (g.D.Looks.sight (g.D.Terms.rest c.args.derives.now)).basis.place in
    let at = tree_at (g.D.Terms.contents c.args.derives.now) in
    let_stated w (at c.args.stated) (at c.args.value) (at c.args.body) c.args.enough (subst (λ z. IsAnsweredWithin w (infer z) c.args.enough) c.requires.e_is c.requires.answered)

pub type_of-requires-clause-answered : goal.type_of-requires-clause-answered
type_of-requires-clause-answered g c =
    let w = (g.D.Looks.sight (g.D.Terms.rest c.args.derives.now)).basis.place in
    let u = (g.D.Looks.sight (g.D.Terms.rest c.sort_of.new.derives)).basis.place in
    let at = tree_at (g.D.Terms.contents c.args.derives.now) in
    answered_at w u (tree_at (g.D.Terms.contents c.sort_of.new.derives) c.args.value) (at c.args.value) c.args.enough c.sort_of.ensures.leaves.place (c.sort_of.ensures.leaves.keeps.trees.same c.args.value c.requires.value_in)
    (let_value w (at c.args.stated) (at c.args.value) (at c.args.body) c.args.enough (subst (λ z. IsAnsweredWithin w (infer z) c.args.enough) c.requires.e_is c.requires.answered))

pub type_of-requires-2-clause-answered : goal.type_of-requires-2-clause-answered
type_of-requires-2-clause-answered g c =
    let w = (g.D.Looks.sight (g.D.Terms.rest c.args.derives.now)).basis.place in
    let v = (g.D.Looks.sight (g.D.Terms.rest c.open_with.new.terms)).basis.place in
    let c₀ = g.D.Terms.contents c.args.derives.now in
    let c₁ = g.D.Terms.contents c.sort_of.new.derives in
    let c₂ = g.D.Terms.contents c.type_of.new.derives in
    let x = Extends-trans c₀ c₁ c₂ c.sort_of.ensures.leaves.keeps c.type_of.ensures.leaves.keeps in
    let a = tree_at c₀ c.args.value in
    let b = tree_at c₀ c.args.body in
    let is = c.in_ok-inner.ensures.ok.is ∙ (ap (λ z. opened z (tree_at c₂ c.args.value)) (x.trees.same c.args.body c.requires.body_in) ∙ ap (opened b) (x.trees.same c.args.value c.requires.value_in)) in
    let place = ap (λ r. (g.D.Looks.sight r).basis.place) c.open_with.ensures.rest ∙ (c.type_of.ensures.leaves.place ∙ c.sort_of.ensures.leaves.place) in
    answered_at w v (tree_at (g.D.Terms.contents c.open_with.new.terms) c.in_ok-inner.inner) (opened b a) c.args.enough place is
    (let_inside w (tree_at c₀ c.args.stated) a b c.args.enough (subst (λ z. IsAnsweredWithin w (infer z) c.args.enough) c.requires.e_is c.requires.answered))

pub returns : goal.returns
returns g c =
    let w = (g.D.Looks.sight (g.D.Terms.rest c.args.derives.now)).basis.place in
    let u = (g.D.Looks.sight (g.D.Terms.rest c.sort_of.new.derives)).basis.place in
    let v = (g.D.Looks.sight (g.D.Terms.rest c.open_with.new.terms)).basis.place in
    let c₀ = g.D.Terms.contents c.args.derives.now in
    let c₁ = g.D.Terms.contents c.sort_of.new.derives in
    let c₂ = g.D.Terms.contents c.type_of.new.derives in
    let c₃ = g.D.Terms.contents c.open_with.new.terms in
    let c₄ = g.D.Terms.contents c.type_of-2.new.derives in
    let place = ap (λ r. (g.D.Looks.sight r).basis.place) c.open_with.ensures.rest ∙ (c.type_of.ensures.leaves.place ∙ c.sort_of.ensures.leaves.place) in
    let l₃ = leaves_made g.D.Terms.contents g.D.Terms.rest g.D.Looks.sight c.type_of.new.derives c.open_with.new.terms c.open_with.ensures.keeps c.open_with.ensures.rest in
    record {
      leaves = leaves_then g.D.Terms.contents g.D.Terms.rest g.D.Looks.sight c.args.derives.now c.sort_of.new.derives c.type_of-2.new.derives c.sort_of.ensures.leaves
          (leaves_then g.D.Terms.contents g.D.Terms.rest g.D.Looks.sight c.sort_of.new.derives c.type_of.new.derives c.type_of-2.new.derives c.type_of.ensures.leaves
          (leaves_then g.D.Terms.contents g.D.Terms.rest g.D.Looks.sight c.type_of.new.derives c.open_with.new.terms c.type_of-2.new.derives l₃ c.type_of-2.ensures.leaves));
      row = c.let_step.ensures w c₄ (tree_at c₀ c.args.e) (let_at w u v c₀ c₁ c₂ c₃ c₄ c.args.e c.args.stated c.args.value c.args.body c.in_ok-sorted.sorted c.in_ok-value_type.value_type c.in_ok-inner.inner c.in_ok-ty.ty c.args.enough c.requires.well_stated
          c.sort_of.ensures.leaves.keeps c.type_of.ensures.leaves.keeps c.open_with.ensures.keeps c.type_of-2.ensures.leaves.keeps c.requires.e_in c.requires.stated_in c.requires.value_in c.requires.body_in c.requires.e_is c.requires.askable c.requires.answered
          c.in_ok-sorted.ensures.sorted c.sort_of.ensures.leaves.place c.in_ok-value_type.ensures.told c.in_ok-value_type.ensures.known c.in_ok-inner.ensures.ok place c.in_ok-ty.ensures.told c.in_ok-ty.ensures.known);
    }
