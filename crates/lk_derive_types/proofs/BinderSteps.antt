-- What was asked and made for a row under a binder, while the store grew.
use Rattle.std.proofs.Common.{ℕ, ◌≡◌, ◌<◌, length, refl, sym, subst, ap, ◌∙◌}
use Rattle.lk_tree.specs.Tree.{imax_level, Tree, sort, lam, pi, let_in, local}
use Rattle.lk_tree.specs.Bind.{opened, close, bound}
use Rattle.lk_tree.specs.WellFormed.{IsWellFormed}
use Rattle.lk_rulebook.specs.Place.{Place}
use Rattle.lk_rulebook.specs.WellStated.{WellStated}
use Rattle.lk_questions.specs.Query.{infer}
use Rattle.lk_store.specs.Contents.{Contents, tree_at, level_at, Extends, IsTree}
use Rattle.lk_store.proofs.Extending.{Extends-trans}
use Rattle.lk_step.specs.Told.{IsAnsweredWithin, IsType}
use Rattle.lk_derive_types.specs.declared.parts.Sorted.{Sorted}
use Rattle.lk_derive_types.specs.declared.binders.Inside.{Inside}
use Rattle.lk_derive_types.specs.Parts.{IsSortedWithin, IsSortRead}
use Rattle.lk_derive_types.specs.Binders.{IsLambdaAt, IsPiAt, IsLetAt}
use Rattle.lk_derive_types.proofs.AskedSoFar.{there}
use Rattle.lk_derive_types.proofs.LambdaRows.{lam_local, lam_typed}
use Rattle.lk_derive_types.proofs.PiRows.{pi_local, pi_typed}
use Rattle.lk_derive_types.proofs.LetRows.{let_typed}

pub answered_at : (w u : Place) (t e : Tree) (most : ℕ) → u ≡ w → t ≡ e → IsAnsweredWithin w (infer e) most → IsAnsweredWithin u (infer t) most
answered_at w u t e most p i h = subst (λ v. IsAnsweredWithin v (infer t) most) (sym p) (subst (λ z. IsAnsweredWithin w (infer z) most) (sym i) h)

pub sorted_at : (w u : Place) (t e : Tree) (most : ℕ) → u ≡ w → t ≡ e → IsSortedWithin w e most → IsSortedWithin u t most
sorted_at w u t e most p i h = subst (λ v. IsSortedWithin v t most) (sym p) (subst (λ z. IsSortedWithin w z most) (sym i) h)

-- what is told of the one tree at the one place
pub type_at : (w u : Place) (t e T : Tree) → u ≡ w → t ≡ e → IsType u t T → IsType w e T
type_at w u t e T p i h = subst (λ v. IsType v e T) p (subst (λ z. IsType u z T) i h)

pub read_at : (w u : Place) (c : Contents) (t e : Tree) (s : Sorted) → u ≡ w → t ≡ e → IsSortRead u c t s → IsSortRead w c e s
read_at w u c t e s p i h = subst (λ v. IsSortRead v c e s) p (subst (λ z. IsSortRead u c z s) i h)

-- a body opened with the Local of this number
pub record IsInside (c : Contents) (i : Inside) (A b : Tree) (k : ℕ) : Type 0 where
  pub number_is : i.number ≡ k
  pub local_is : IsTree c i.local (local k A)
  pub body_is : IsTree c i.body (opened b (local k A))

pub inside_is : (c₀ c₁ c₂ : Contents) (domain body : ℕ) (i : Inside) (k : ℕ) → Extends c₀ c₁ → domain < length c₀.trees → body < length c₀.trees → i.number ≡ k →
    IsTree c₂ i.local (local i.number (tree_at c₁ domain)) → IsTree c₂ i.body (opened (tree_at c₁ body) (local i.number (tree_at c₁ domain))) → IsInside c₂ i (tree_at c₀ domain) (tree_at c₀ body) k
inside_is c₀ c₁ c₂ domain body i k x hd hb n l b =
    let A : tree_at c₁ domain ≡ tree_at c₀ domain = x.trees.same domain hd in
    let B : tree_at c₁ body ≡ tree_at c₀ body = x.trees.same body hb in
    let e : local i.number (tree_at c₁ domain) ≡ local k (tree_at c₀ domain) = ap (λ z. local z (tree_at c₁ domain)) n ∙ ap (local k) A in
    record {
      number_is = n;
      local_is = record { known = l.known; is = l.is ∙ e };
      body_is = record { known = b.known; is = b.is ∙ (ap (λ z. opened z (local i.number (tree_at c₁ domain))) B ∙ ap (opened (tree_at c₀ body)) e) };
    }

pub lam_number : (c₀ c₁ : Contents) (domain body k : ℕ) → Extends c₀ c₁ → domain < length c₀.trees → body < length c₀.trees → k ≡ bound (lam (tree_at c₁ domain) (tree_at c₁ body)) → k ≡ bound (lam (tree_at c₀ domain) (tree_at c₀ body))
lam_number c₀ c₁ domain body k x hd hb e = e ∙ (ap (λ z. bound (lam z (tree_at c₁ body))) (x.trees.same domain hd) ∙ ap (λ z. bound (lam (tree_at c₀ domain) z)) (x.trees.same body hb))

pub pi_number : (c₀ c₁ : Contents) (domain body k : ℕ) → Extends c₀ c₁ → domain < length c₀.trees → body < length c₀.trees → k ≡ bound (pi (tree_at c₁ domain) (tree_at c₁ body)) → k ≡ bound (pi (tree_at c₀ domain) (tree_at c₀ body))
pi_number c₀ c₁ domain body k x hd hb e = e ∙ (ap (λ z. bound (pi z (tree_at c₁ body))) (x.trees.same domain hd) ∙ ap (λ z. bound (pi (tree_at c₀ domain) z)) (x.trees.same body hb))

pub lambda_at : (w u : Place) (c₀ c₁ c₂ c₃ c₄ : Contents) (e domain body : ℕ) (s : Sorted) (i : Inside) (inner ty most : ℕ) → WellStated w → Extends c₀ c₁ → Extends c₁ c₂ → Extends c₂ c₃ → Extends c₃ c₄ →
    e < length c₀.trees → domain < length c₀.trees → tree_at c₀ e ≡ lam (tree_at c₀ domain) (tree_at c₀ body) → IsWellFormed (tree_at c₀ e) → IsAnsweredWithin w (infer (tree_at c₀ e)) most → IsSortRead w c₁ (tree_at c₀ domain) s →
    IsInside c₂ i (tree_at c₀ domain) (tree_at c₀ body) (bound (lam (tree_at c₀ domain) (tree_at c₀ body))) → u ≡ w → IsType u (tree_at c₂ i.body) (tree_at c₃ inner) → inner < length c₃.trees →
    IsTree c₄ ty (pi (tree_at c₃ domain) (close i.number (tree_at c₃ inner))) → IsLambdaAt w c₄ e domain s i inner ty (tree_at c₀ e)
lambda_at w u c₀ c₁ c₂ c₃ c₄ e domain body s i inner ty most ok x₁ x₂ x₃ x₄ he hd ee f h r n p t hi hty =
    let A : Tree = tree_at c₀ domain in
    let b : Tree = tree_at c₀ body in
    let B : Tree = tree_at c₃ inner in
    let x₀₂ : Extends c₀ c₂ = Extends-trans c₀ c₁ c₂ x₁ x₂ in
    let x₀₃ : Extends c₀ c₃ = Extends-trans c₀ c₂ c₃ x₀₂ x₃ in
    let x₀₄ : Extends c₀ c₄ = Extends-trans c₀ c₃ c₄ x₀₃ x₄ in
    let x₂₄ : Extends c₂ c₄ = Extends-trans c₂ c₃ c₄ x₃ x₄ in
    let x₁₄ : Extends c₁ c₄ = Extends-trans c₁ c₂ c₄ x₂ x₂₄ in
    record {
      over = A;
      between = r.between;
      level = r.level;
      bound = lam_local A b;
      inside = opened b (lam_local A b);
      inside_type = B;
      type = pi A (close (bound (lam A b)) B);
      e_is = there c₀ c₄ e (tree_at c₀ e) x₀₄ (record { known = he; is = refl });
      domain_is = there c₀ c₄ domain A x₀₄ (record { known = hd; is = refl });
      between_is = there c₁ c₄ s.ty r.between x₁₄ r.ty_is;
      sort_is = there c₁ c₄ s.sort (sort r.level) x₁₄ r.sort_is;
      local_is = there c₂ c₄ i.local (lam_local A b) x₂₄ n.local_is;
      body_is = there c₂ c₄ i.body (opened b (lam_local A b)) x₂₄ n.body_is;
      inner_is = there c₃ c₄ inner B x₄ (record { known = hi; is = refl });
      ty_is = record { known = hty.known; is = hty.is ∙ (ap (λ z. pi z (close i.number B)) (x₀₃.trees.same domain hd) ∙ ap (λ z. pi A (close z B)) n.number_is) };
      row = rw ee (lam_typed w ok A b r.between B r.level most (subst IsWellFormed ee f) (subst (λ z. IsAnsweredWithin w (infer z) most) ee h) r.typed r.reduced
          (type_at w u (tree_at c₂ i.body) (opened b (lam_local A b)) B p n.body_is.is t));
    }

pub pi_at : (w u : Place) (c₀ c₁ c₂ c₃ c₄ : Contents) (e domain body : ℕ) (s : Sorted) (i : Inside) (t : Sorted) (ty most : ℕ) → WellStated w → Extends c₀ c₁ → Extends c₁ c₂ → Extends c₂ c₃ → Extends c₃ c₄ →
    e < length c₀.trees → domain < length c₀.trees → tree_at c₀ e ≡ pi (tree_at c₀ domain) (tree_at c₀ body) → IsWellFormed (tree_at c₀ e) → IsAnsweredWithin w (infer (tree_at c₀ e)) most → IsSortRead w c₁ (tree_at c₀ domain) s →
    IsInside c₂ i (tree_at c₀ domain) (tree_at c₀ body) (bound (pi (tree_at c₀ domain) (tree_at c₀ body))) → u ≡ w → IsSortRead u c₃ (tree_at c₂ i.body) t →
    IsTree c₄ ty (sort (imax_level (level_at c₃ s.level) (level_at c₃ t.level))) → IsPiAt w c₄ e domain s i t ty (tree_at c₀ e)
pi_at w u c₀ c₁ c₂ c₃ c₄ e domain body s i t ty most ok x₁ x₂ x₃ x₄ he hd ee f h r n p q hty =
    let A : Tree = tree_at c₀ domain in
    let b : Tree = tree_at c₀ body in
    let x₁₃ : Extends c₁ c₃ = Extends-trans c₁ c₂ c₃ x₂ x₃ in
    let x₁₄ : Extends c₁ c₄ = Extends-trans c₁ c₃ c₄ x₁₃ x₄ in
    let x₀₄ : Extends c₀ c₄ = Extends-trans c₀ c₁ c₄ x₁ x₁₄ in
    let x₂₄ : Extends c₂ c₄ = Extends-trans c₂ c₃ c₄ x₃ x₄ in
    let z : IsSortRead w c₃ (opened b (pi_local A b)) t = read_at w u c₃ (tree_at c₂ i.body) (opened b (pi_local A b)) t p n.body_is.is q in
    record {
      over = A;
      between = r.between;
      level = r.level;
      bound = pi_local A b;
      inside = opened b (pi_local A b);
      inside_type = z.between;
      inside_level = z.level;
      type = sort (imax_level r.level z.level);
      e_is = there c₀ c₄ e (tree_at c₀ e) x₀₄ (record { known = he; is = refl });
      domain_is = there c₀ c₄ domain A x₀₄ (record { known = hd; is = refl });
      between_is = there c₁ c₄ s.ty r.between x₁₄ r.ty_is;
      sort_is = there c₁ c₄ s.sort (sort r.level) x₁₄ r.sort_is;
      local_is = there c₂ c₄ i.local (pi_local A b) x₂₄ n.local_is;
      body_is = there c₂ c₄ i.body (opened b (pi_local A b)) x₂₄ n.body_is;
      inner_is = there c₃ c₄ t.ty z.between x₄ z.ty_is;
      inner_sort_is = there c₃ c₄ t.sort (sort z.level) x₄ z.sort_is;
      ty_is = record { known = hty.known; is = hty.is ∙ (ap (λ y. sort (imax_level y (level_at c₃ t.level))) (x₁₃.levels.same s.level r.level_is.known ∙ r.level_is.is) ∙ ap (λ y. sort (imax_level r.level y)) z.level_is.is) };
      row = rw ee (pi_typed w ok A b r.between z.between r.level z.level most (subst IsWellFormed ee f) (subst (λ z. IsAnsweredWithin w (infer z) most) ee h) r.typed r.reduced z.typed z.reduced);
    }

pub let_at : (w u v : Place) (c₀ c₁ c₂ c₃ c₄ : Contents) (e stated value body : ℕ) (s : Sorted) (value_type inner ty most : ℕ) → WellStated w → Extends c₀ c₁ → Extends c₁ c₂ → Extends c₂ c₃ → Extends c₃ c₄ →
    e < length c₀.trees → stated < length c₀.trees → value < length c₀.trees → body < length c₀.trees → tree_at c₀ e ≡ let_in (tree_at c₀ stated) (tree_at c₀ value) (tree_at c₀ body) → IsWellFormed (tree_at c₀ e) → IsAnsweredWithin w (infer (tree_at c₀ e)) most →
    IsSortRead w c₁ (tree_at c₀ stated) s → u ≡ w → IsType u (tree_at c₁ value) (tree_at c₂ value_type) → value_type < length c₂.trees → IsTree c₃ inner (opened (tree_at c₂ body) (tree_at c₂ value)) →
    v ≡ w → IsType v (tree_at c₃ inner) (tree_at c₄ ty) → ty < length c₄.trees → IsLetAt w c₄ e stated s value value_type inner ty (tree_at c₀ e)
let_at w u v c₀ c₁ c₂ c₃ c₄ e stated value body s value_type inner ty most ok x₁ x₂ x₃ x₄ he hs hv hb ee f h r p t ht hi q y hy =
    let A : Tree = tree_at c₀ stated in
    let a : Tree = tree_at c₀ value in
    let b : Tree = tree_at c₀ body in
    let V : Tree = tree_at c₂ value_type in
    let B : Tree = tree_at c₄ ty in
    let x₀₂ : Extends c₀ c₂ = Extends-trans c₀ c₁ c₂ x₁ x₂ in
    let x₂₄ : Extends c₂ c₄ = Extends-trans c₂ c₃ c₄ x₃ x₄ in
    let x₁₄ : Extends c₁ c₄ = Extends-trans c₁ c₂ c₄ x₂ x₂₄ in
    let x₀₄ : Extends c₀ c₄ = Extends-trans c₀ c₁ c₄ x₁ x₁₄ in
    let inner_is : tree_at c₃ inner ≡ opened b a = hi.is ∙ (ap (λ z. opened z (tree_at c₂ value)) (x₀₂.trees.same body hb) ∙ ap (opened b) (x₀₂.trees.same value hv)) in
    record {
      over = A;
      between = r.between;
      level = r.level;
      put = a;
      put_type = V;
      inside = opened b a;
      type = B;
      e_is = there c₀ c₄ e (tree_at c₀ e) x₀₄ (record { known = he; is = refl });
      stated_is = there c₀ c₄ stated A x₀₄ (record { known = hs; is = refl });
      between_is = there c₁ c₄ s.ty r.between x₁₄ r.ty_is;
      sort_is = there c₁ c₄ s.sort (sort r.level) x₁₄ r.sort_is;
      value_is = there c₀ c₄ value a x₀₄ (record { known = hv; is = refl });
      value_type_is = there c₂ c₄ value_type V x₂₄ (record { known = ht; is = refl });
      body_is = there c₃ c₄ inner (opened b a) x₄ (record { known = hi.known; is = inner_is });
      ty_is = record { known = hy; is = refl };
      row = rw ee (let_typed w ok A a b r.between V B r.level most (subst IsWellFormed ee f) (subst (λ z. IsAnsweredWithin w (infer z) most) ee h) r.typed r.reduced
          (type_at w u (tree_at c₁ value) a V p (x₁.trees.same value hv) t) (type_at w v (tree_at c₃ inner) (opened b a) B q inner_is y));
    }
