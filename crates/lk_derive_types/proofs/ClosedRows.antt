-- The rows of lambdas, Pis and lets, by numbers.
use Rattle.std.proofs.Common.{ℕ, [], ◌∷◌, refl}
use Rattle.lk_tree.specs.Tree.{Tree, sort}
use Rattle.lk_rulebook.specs.Place.{Place}
use Rattle.lk_rulebook.specs.Claims.{types, reduces, equals}
use Rattle.lk_questions.specs.Query.{infer, whnf, same}
use Rattle.lk_written.specs.Line.{lam_rule, pi_rule, let_rule}
use Rattle.lk_store.specs.Contents.{Contents}
use Rattle.lk_ask.specs.declared.query.Query.TheVariants.{Whnf, Infer, Same}
use Rattle.lk_premises.specs.declared.claims.Relation.TheVariants.{Typing, Reduction, Equality}
use Rattle.lk_trace.specs.declared.rules.TypingRule.TheVariants as rule
use Rattle.lk_derive_types.specs.declared.asked.Asked.{Asked}
use Rattle.lk_derive_types.specs.declared.parts.Sorted.{Sorted}
use Rattle.lk_derive_types.specs.declared.binders.Inside.{Inside}
use Rattle.lk_derive_types.specs.Asked.{IsNothingAsked, Notes, AreAsked}
use Rattle.lk_derive_types.specs.Binders.{IsLambdaAt, IsPiAt, IsLetAt}
use Rattle.lk_derive_types.specs.TypeRows.{IsTypedBy}
use Rattle.lk_derive_types.proofs.AskedSoFar.{nothing_asked, type_asked, form_asked, same_asked}

pub lambda_by : (w : Place) (c : Contents) (e domain : ℕ) (s : Sorted) (i : Inside) (inner ty : ℕ) (tree : Tree) (a₀ a₁ a₂ a₃ : Asked) → IsLambdaAt w c e domain s i inner ty tree → IsNothingAsked a₀ →
    Notes a₀ a₁ (Infer domain) (record { relation = Typing; left = domain; right = s.ty }) → Notes a₁ a₂ (Whnf s.ty) (record { relation = Reduction; left = s.ty; right = s.sort }) →
    Notes a₂ a₃ (Infer i.body) (record { relation = Typing; left = i.body; right = inner }) → IsTypedBy w c (rule.Lambda i.local) e ty a₃ tree
lambda_by w c e domain s i inner ty tree a₀ a₁ a₂ a₃ h n n₁ n₂ n₃ =
    let x₁ : AreAsked c a₁ (infer h.over ∷ []) (types h.over h.between ∷ []) = type_asked c a₀ a₁ [] [] domain s.ty h.over h.between n₁ h.domain_is h.between_is (nothing_asked c a₀ n) in
    let x₂ : AreAsked c a₂ (infer h.over ∷ whnf h.between ∷ []) (types h.over h.between ∷ reduces h.between (sort h.level) ∷ []) =
    form_asked c a₁ a₂ (infer h.over ∷ []) (types h.over h.between ∷ []) s.ty s.sort h.between (sort h.level) n₂ h.between_is h.sort_is x₁ in
    record {
      type = h.type;
      plain_rule = lam_rule h.bound;
      queries = infer h.over ∷ whnf h.between ∷ infer h.inside ∷ [];
      claims = types h.over h.between ∷ reduces h.between (sort h.level) ∷ types h.inside h.inside_type ∷ [];
      rule_in = h.local_is.known;
      rule_is = rw h.local_is.is refl;
      left_is = h.e_is;
      right_is = h.ty_is;
      asked_are = type_asked c a₂ a₃ (infer h.over ∷ whnf h.between ∷ []) (types h.over h.between ∷ reduces h.between (sort h.level) ∷ []) i.body inner h.inside h.inside_type n₃ h.body_is h.inner_is x₂;
      row = h.row;
    }

pub pi_by : (w : Place) (c : Contents) (e domain : ℕ) (s : Sorted) (i : Inside) (t : Sorted) (ty : ℕ) (tree : Tree) (a₀ a₁ a₂ a₃ a₄ : Asked) → IsPiAt w c e domain s i t ty tree → IsNothingAsked a₀ →
    Notes a₀ a₁ (Infer domain) (record { relation = Typing; left = domain; right = s.ty }) → Notes a₁ a₂ (Whnf s.ty) (record { relation = Reduction; left = s.ty; right = s.sort }) →
    Notes a₂ a₃ (Infer i.body) (record { relation = Typing; left = i.body; right = t.ty }) → Notes a₃ a₄ (Whnf t.ty) (record { relation = Reduction; left = t.ty; right = t.sort }) → IsTypedBy w c (rule.Pi i.local) e ty a₄ tree
pi_by w c e domain s i t ty tree a₀ a₁ a₂ a₃ a₄ h n n₁ n₂ n₃ n₄ =
    let x₁ : AreAsked c a₁ (infer h.over ∷ []) (types h.over h.between ∷ []) = type_asked c a₀ a₁ [] [] domain s.ty h.over h.between n₁ h.domain_is h.between_is (nothing_asked c a₀ n) in
    let x₂ : AreAsked c a₂ (infer h.over ∷ whnf h.between ∷ []) (types h.over h.between ∷ reduces h.between (sort h.level) ∷ []) =
    form_asked c a₁ a₂ (infer h.over ∷ []) (types h.over h.between ∷ []) s.ty s.sort h.between (sort h.level) n₂ h.between_is h.sort_is x₁ in
    let x₃ : AreAsked c a₃ (infer h.over ∷ whnf h.between ∷ infer h.inside ∷ []) (types h.over h.between ∷ reduces h.between (sort h.level) ∷ types h.inside h.inside_type ∷ []) =
    type_asked c a₂ a₃ (infer h.over ∷ whnf h.between ∷ []) (types h.over h.between ∷ reduces h.between (sort h.level) ∷ []) i.body t.ty h.inside h.inside_type n₃ h.body_is h.inner_is x₂ in
    record {
      type = h.type;
      plain_rule = pi_rule h.bound;
      queries = infer h.over ∷ whnf h.between ∷ infer h.inside ∷ whnf h.inside_type ∷ [];
      claims = types h.over h.between ∷ reduces h.between (sort h.level) ∷ types h.inside h.inside_type ∷ reduces h.inside_type (sort h.inside_level) ∷ [];
      rule_in = h.local_is.known;
      rule_is = rw h.local_is.is refl;
      left_is = h.e_is;
      right_is = h.ty_is;
      asked_are = form_asked c a₃ a₄ (infer h.over ∷ whnf h.between ∷ infer h.inside ∷ []) (types h.over h.between ∷ reduces h.between (sort h.level) ∷ types h.inside h.inside_type ∷ []) t.ty t.sort h.inside_type (sort h.inside_level) n₄ h.inner_is h.inner_sort_is x₃;
      row = h.row;
    }

pub let_by : (w : Place) (c : Contents) (e stated : ℕ) (s : Sorted) (value value_type body ty : ℕ) (tree : Tree) (a₀ a₁ a₂ a₃ a₄ a₅ : Asked) → IsLetAt w c e stated s value value_type body ty tree → IsNothingAsked a₀ →
    Notes a₀ a₁ (Infer stated) (record { relation = Typing; left = stated; right = s.ty }) → Notes a₁ a₂ (Whnf s.ty) (record { relation = Reduction; left = s.ty; right = s.sort }) →
    Notes a₂ a₃ (Infer value) (record { relation = Typing; left = value; right = value_type }) → Notes a₃ a₄ (Same value_type stated) (record { relation = Equality; left = value_type; right = stated }) →
    Notes a₄ a₅ (Infer body) (record { relation = Typing; left = body; right = ty }) → IsTypedBy w c rule.Let e ty a₅ tree
let_by w c e stated s value value_type body ty tree a₀ a₁ a₂ a₃ a₄ a₅ h n n₁ n₂ n₃ n₄ n₅ =
    let x₁ : AreAsked c a₁ (infer h.over ∷ []) (types h.over h.between ∷ []) = type_asked c a₀ a₁ [] [] stated s.ty h.over h.between n₁ h.stated_is h.between_is (nothing_asked c a₀ n) in
    let x₂ : AreAsked c a₂ (infer h.over ∷ whnf h.between ∷ []) (types h.over h.between ∷ reduces h.between (sort h.level) ∷ []) =
    form_asked c a₁ a₂ (infer h.over ∷ []) (types h.over h.between ∷ []) s.ty s.sort h.between (sort h.level) n₂ h.between_is h.sort_is x₁ in
    let x₃ : AreAsked c a₃ (infer h.over ∷ whnf h.between ∷ infer h.put ∷ []) (types h.over h.between ∷ reduces h.between (sort h.level) ∷ types h.put h.put_type ∷ []) =
    type_asked c a₂ a₃ (infer h.over ∷ whnf h.between ∷ []) (types h.over h.between ∷ reduces h.between (sort h.level) ∷ []) value value_type h.put h.put_type n₃ h.value_is h.value_type_is x₂ in
    let x₄ : AreAsked c a₄ (infer h.over ∷ whnf h.between ∷ infer h.put ∷ same h.put_type h.over ∷ []) (types h.over h.between ∷ reduces h.between (sort h.level) ∷ types h.put h.put_type ∷ equals h.put_type h.over ∷ []) =
    same_asked c a₃ a₄ (infer h.over ∷ whnf h.between ∷ infer h.put ∷ []) (types h.over h.between ∷ reduces h.between (sort h.level) ∷ types h.put h.put_type ∷ []) value_type stated h.put_type h.over n₄ h.value_type_is h.stated_is x₃ in
    record {
      type = h.type;
      plain_rule = let_rule;
      queries = infer h.over ∷ whnf h.between ∷ infer h.put ∷ same h.put_type h.over ∷ infer h.inside ∷ [];
      claims = types h.over h.between ∷ reduces h.between (sort h.level) ∷ types h.put h.put_type ∷ equals h.put_type h.over ∷ types h.inside h.type ∷ [];
      rule_in = tt;
      rule_is = refl;
      left_is = h.e_is;
      right_is = h.ty_is;
      asked_are = type_asked c a₄ a₅ (infer h.over ∷ whnf h.between ∷ infer h.put ∷ same h.put_type h.over ∷ []) (types h.over h.between ∷ reduces h.between (sort h.level) ∷ types h.put h.put_type ∷ equals h.put_type h.over ∷ []) body ty h.inside h.type n₅ h.body_is h.ty_is x₄;
      row = h.row;
    }
