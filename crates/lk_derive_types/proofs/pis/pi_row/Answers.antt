use Rattle.std.proofs.Common.{rules, ap, subst, ◌∙◌}
use Rattle.lk_tree.specs.Bind.{opened, bound}
use Rattle.lk_tree.specs.Tree.{pi}
use Rattle.lk_questions.specs.Query.{infer}
use Rattle.lk_store.specs.Contents.{tree_at}
use Rattle.lk_step.specs.Told.{IsAnsweredWithin}
use Rattle.lk_derive_types.proofs.Leaving.{leaves_made, leaves_then}
use Rattle.lk_derive_types.proofs.PiRows.{pi_local, pi_domain, pi_inside}
use Rattle.lk_derive_types.proofs.BinderSteps.{sorted_at, inside_is, pi_number, pi_at}
use Rattle.lk_derive_types.proofs.pis.pi_row.Goals as goal

pub sort_of-requires-clause-sorted : goal.sort_of-requires-clause-sorted
sort_of-requires-clause-sorted g c =
    let w = (g.D.Looks.sight (g.D.Terms.rest c.args.derives.now)).basis.place in
    let at = tree_at (g.D.Terms.contents c.args.derives.now) in
    pi_domain w (at c.args.domain) (at c.args.body) c.args.enough (subst (λ z. IsAnsweredWithin w (infer z) c.args.enough) c.requires.e_is c.requires.answered)

pub sort_of-requires-2-clause-sorted : goal.sort_of-requires-2-clause-sorted
sort_of-requires-2-clause-sorted g c =
    let w = (g.D.Looks.sight (g.D.Terms.rest c.args.derives.now)).basis.place in
    let u = (g.D.Looks.sight (g.D.Terms.rest c.open_fresh.new.looks)).basis.place in
    let c₀ = g.D.Terms.contents c.args.derives.now in
    let c₁ = g.D.Terms.contents c.sort_of.new.derives in
    let c₂ = g.D.Terms.contents c.open_fresh.new.looks in
    let i = c.in_ok-inside.inside in
    let x = c.sort_of.ensures.leaves.keeps in
    let h = c.in_ok-inside.ensures in
    let A = tree_at c₀ c.args.domain in
    let b = tree_at c₀ c.args.body in
    let n = inside_is c₀ c₁ c₂ c.args.domain c.args.body i (bound (pi A b)) x c.requires.domain_in c.requires.body_in (pi_number c₀ c₁ c.args.domain c.args.body i.number x c.requires.domain_in c.requires.body_in h.pi) h.local h.body in
    let place = ap (λ r. (g.D.Looks.sight r).basis.place) c.open_fresh.ensures.stays ∙ c.sort_of.ensures.leaves.place in
    sorted_at w u (tree_at c₂ i.body) (opened b (pi_local A b)) c.args.enough place n.body_is.is (pi_inside w A b c.args.enough (subst (λ z. IsAnsweredWithin w (infer z) c.args.enough) c.requires.e_is c.requires.answered))

pub returns-in_err-ty : goal.returns-in_err-ty
returns-in_err-ty g c =
    let l₂ = leaves_made g.D.Terms.contents g.D.Terms.rest g.D.Looks.sight c.sort_of.new.derives c.open_fresh.new.looks c.open_fresh.ensures.keeps c.open_fresh.ensures.stays in
    let l₄ = leaves_made g.D.Terms.contents g.D.Terms.rest g.D.Looks.sight c.sort_of-2.new.derives c.function_sort.new.looks c.function_sort.ensures.keeps c.function_sort.ensures.stays in
    record {
      leaves = leaves_then g.D.Terms.contents g.D.Terms.rest g.D.Looks.sight c.args.derives.now c.sort_of.new.derives c.function_sort.new.looks c.sort_of.ensures.leaves
          (leaves_then g.D.Terms.contents g.D.Terms.rest g.D.Looks.sight c.sort_of.new.derives c.open_fresh.new.looks c.function_sort.new.looks l₂
          (leaves_then g.D.Terms.contents g.D.Terms.rest g.D.Looks.sight c.open_fresh.new.looks c.sort_of-2.new.derives c.function_sort.new.looks c.sort_of-2.ensures.leaves l₄));
      row = search rules;
    }

pub returns : goal.returns
returns g c =
    let w = (g.D.Looks.sight (g.D.Terms.rest c.args.derives.now)).basis.place in
    let u = (g.D.Looks.sight (g.D.Terms.rest c.open_fresh.new.looks)).basis.place in
    let c₀ = g.D.Terms.contents c.args.derives.now in
    let c₁ = g.D.Terms.contents c.sort_of.new.derives in
    let c₂ = g.D.Terms.contents c.open_fresh.new.looks in
    let c₃ = g.D.Terms.contents c.sort_of-2.new.derives in
    let c₄ = g.D.Terms.contents c.function_sort.new.looks in
    let i = c.in_ok-inside.inside in
    let x = c.sort_of.ensures.leaves.keeps in
    let h = c.in_ok-inside.ensures in
    let A = tree_at c₀ c.args.domain in
    let b = tree_at c₀ c.args.body in
    let n = inside_is c₀ c₁ c₂ c.args.domain c.args.body i (bound (pi A b)) x c.requires.domain_in c.requires.body_in (pi_number c₀ c₁ c.args.domain c.args.body i.number x c.requires.domain_in c.requires.body_in h.pi) h.local h.body in
    let place = ap (λ r. (g.D.Looks.sight r).basis.place) c.open_fresh.ensures.stays ∙ c.sort_of.ensures.leaves.place in
    let l₂ = leaves_made g.D.Terms.contents g.D.Terms.rest g.D.Looks.sight c.sort_of.new.derives c.open_fresh.new.looks c.open_fresh.ensures.keeps c.open_fresh.ensures.stays in
    let l₄ = leaves_made g.D.Terms.contents g.D.Terms.rest g.D.Looks.sight c.sort_of-2.new.derives c.function_sort.new.looks c.function_sort.ensures.keeps c.function_sort.ensures.stays in
    record {
      leaves = leaves_then g.D.Terms.contents g.D.Terms.rest g.D.Looks.sight c.args.derives.now c.sort_of.new.derives c.function_sort.new.looks c.sort_of.ensures.leaves
          (leaves_then g.D.Terms.contents g.D.Terms.rest g.D.Looks.sight c.sort_of.new.derives c.open_fresh.new.looks c.function_sort.new.looks l₂
          (leaves_then g.D.Terms.contents g.D.Terms.rest g.D.Looks.sight c.open_fresh.new.looks c.sort_of-2.new.derives c.function_sort.new.looks c.sort_of-2.ensures.leaves l₄));
      row = c.pi_step.ensures w c₄ (tree_at c₀ c.args.e) (pi_at w u c₀ c₁ c₂ c₃ c₄ c.args.e c.args.domain c.args.body c.in_ok-sorted.sorted i c.in_ok-inner.inner c.in_ok-ty.ty c.args.enough c.requires.stated
          x c.open_fresh.ensures.keeps c.sort_of-2.ensures.leaves.keeps c.function_sort.ensures.keeps c.requires.e_in c.requires.domain_in c.requires.e_is c.requires.askable c.requires.answered
          c.in_ok-sorted.ensures.sorted n place c.in_ok-inner.ensures.sorted c.in_ok-ty.ensures.ok);
    }
