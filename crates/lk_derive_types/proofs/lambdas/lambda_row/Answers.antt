use Rattle.std.proofs.Common.{ap, subst, ◌∙◌}
use Rattle.lk_tree.specs.Tree.{lam}
use Rattle.lk_tree.specs.Bind.{opened, bound}
use Rattle.lk_questions.specs.Query.{infer}
use Rattle.lk_store.specs.Contents.{tree_at}
use Rattle.lk_step.specs.Told.{IsAnsweredWithin}
use Rattle.lk_derive_types.proofs.Leaving.{leaves_made, leaves_then}
use Rattle.lk_derive_types.proofs.LambdaRows.{lam_local, lam_domain, lam_inside}
use Rattle.lk_derive_types.proofs.BinderSteps.{answered_at, inside_is, lam_number, lambda_at}
use Rattle.lk_derive_types.proofs.lambdas.lambda_row.Goals as goal

pub sort_of-requires-clause-sorted : goal.sort_of-requires-clause-sorted
sort_of-requires-clause-sorted g c =
    let w = (g.D.Looks.sight (g.D.Terms.rest c.args.derives.now)).basis.place in
    let at = tree_at (g.D.Terms.contents c.args.derives.now) in
    lam_domain w (at c.args.domain) (at c.args.body) c.args.enough (subst (λ z. IsAnsweredWithin w (infer z) c.args.enough) c.requires.e_is c.requires.answered)

pub type_of-requires-clause-answered : goal.type_of-requires-clause-answered
type_of-requires-clause-answered g c =
    let w = (g.D.Looks.sight (g.D.Terms.rest c.args.derives.now)).basis.place in
    let u = (g.D.Looks.sight (g.D.Terms.rest c.open_fresh.new.looks)).basis.place in
    let c₀ = g.D.Terms.contents c.args.derives.now in
    let c₁ = g.D.Terms.contents c.sort_of.new.derives in
    let c₂ = g.D.Terms.contents c.open_fresh.new.looks in
    let i = c.in_ok-inside.inside in
    let x = c.sort_of.ensures.leaves.keeps in
    let h = c.in_ok-inside.ensures in
    let A = tree_at c₀ c.args.domain in
    let b = tree_at c₀ c.args.body in
    let n = inside_is c₀ c₁ c₂ c.args.domain c.args.body i (bound (lam A b)) x c.requires.domain_in c.requires.body_in (lam_number c₀ c₁ c.args.domain c.args.body i.number x c.requires.domain_in c.requires.body_in h.lam) h.local h.body in
    let place = ap (λ r. (g.D.Looks.sight r).basis.place) c.open_fresh.ensures.stays ∙ c.sort_of.ensures.leaves.place in
    answered_at w u (tree_at c₂ i.body) (opened b (lam_local A b)) c.args.enough place n.body_is.is (lam_inside w A b c.args.enough (subst (λ z. IsAnsweredWithin w (infer z) c.args.enough) c.requires.e_is c.requires.answered))

pub returns : goal.returns
returns g c =
    let w = (g.D.Looks.sight (g.D.Terms.rest c.args.derives.now)).basis.place in
    let u = (g.D.Looks.sight (g.D.Terms.rest c.open_fresh.new.looks)).basis.place in
    let c₀ = g.D.Terms.contents c.args.derives.now in
    let c₁ = g.D.Terms.contents c.sort_of.new.derives in
    let c₂ = g.D.Terms.contents c.open_fresh.new.looks in
    let c₃ = g.D.Terms.contents c.type_of.new.derives in
    let c₄ = g.D.Terms.contents c.function_type.new.looks in
    let i = c.in_ok-inside.inside in
    let x = c.sort_of.ensures.leaves.keeps in
    let h = c.in_ok-inside.ensures in
    let A = tree_at c₀ c.args.domain in
    let b = tree_at c₀ c.args.body in
    let n = inside_is c₀ c₁ c₂ c.args.domain c.args.body i (bound (lam A b)) x c.requires.domain_in c.requires.body_in (lam_number c₀ c₁ c.args.domain c.args.body i.number x c.requires.domain_in c.requires.body_in h.lam) h.local h.body in
    let place = ap (λ r. (g.D.Looks.sight r).basis.place) c.open_fresh.ensures.stays ∙ c.sort_of.ensures.leaves.place in
    let l₂ = leaves_made g.D.Terms.contents g.D.Terms.rest g.D.Looks.sight c.sort_of.new.derives c.open_fresh.new.looks c.open_fresh.ensures.keeps c.open_fresh.ensures.stays in
    let l₄ = leaves_made g.D.Terms.contents g.D.Terms.rest g.D.Looks.sight c.type_of.new.derives c.function_type.new.looks c.function_type.ensures.keeps c.function_type.ensures.stays in
    record {
      leaves = leaves_then g.D.Terms.contents g.D.Terms.rest g.D.Looks.sight c.args.derives.now c.sort_of.new.derives c.function_type.new.looks c.sort_of.ensures.leaves
          (leaves_then g.D.Terms.contents g.D.Terms.rest g.D.Looks.sight c.sort_of.new.derives c.open_fresh.new.looks c.function_type.new.looks l₂
          (leaves_then g.D.Terms.contents g.D.Terms.rest g.D.Looks.sight c.open_fresh.new.looks c.type_of.new.derives c.function_type.new.looks c.type_of.ensures.leaves l₄));
      row = c.lambda_step.ensures w c₄ (tree_at c₀ c.args.e) (lambda_at w u c₀ c₁ c₂ c₃ c₄ c.args.e c.args.domain c.args.body c.in_ok-sorted.sorted i c.in_ok-inner.inner c.in_ok-ty.ty c.args.enough c.requires.stated
          x c.open_fresh.ensures.keeps c.type_of.ensures.leaves.keeps c.function_type.ensures.keeps c.requires.e_in c.requires.domain_in c.requires.e_is c.requires.askable c.requires.answered
          c.in_ok-sorted.ensures.sorted n place c.in_ok-inner.ensures.told c.in_ok-inner.ensures.known c.in_ok-ty.ensures.ok);
    }
