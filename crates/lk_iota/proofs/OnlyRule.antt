-- The only rule of a recursor.
use Rattle.std.proofs.Common.{◌≡◌, List, [], ◌∷◌, length, map, None, refl, ap, sym}
use Rattle.std.proofs.Common.{subst, ◌∙◌}
use Rattle.lk_rulebook.specs.Place.{Place, RecRule}
use Rattle.lk_questions.specs.Program.{done}
use Rattle.lk_questions.specs.Iota.{only_ctor}
use Rattle.lk_store.specs.Contents.{Contents}
use Rattle.lk_env.specs.declared.unit.RecursorRule.{RecursorRule}
use Rattle.lk_env.specs.Units.{rule_at}
use Rattle.lk_iota.specs.OnlyRule.{only_at}

module _ (c : Contents) (rules : List RecursorRule) (rs : List RecRule)
    (are : rs ≡ map (rule_at c) rules) where
  -- there is not just one rule
  pub none_at : (w : Place) → (length rules ≡ 1 → ⊥) → only_at w rs ≡ None
  none_at w h = ap (only_at w) are ∙ go rules h
    where
      go : (rules : List RecursorRule) → (length rules ≡ 1 → ⊥)
          → only_at w (map (rule_at c) rules) ≡ None
      go [] h = refl
      go (r ∷ []) h = absurd (h refl)
      go (r ∷ s ∷ more) h = refl

  pub none_looked : (length rules ≡ 1 → ⊥) → only_ctor rs ≡ done None
  none_looked h = ap only_ctor are ∙ go rules h
    where
      go : (rules : List RecursorRule) → (length rules ≡ 1 → ⊥)
          → only_ctor (map (rule_at c) rules) ≡ done None
      go [] h = refl
      go (r ∷ []) h = absurd (h refl)
      go (r ∷ s ∷ more) h = refl

  -- what is so of the name of the only rule is so of the rules
  pub only_is : (rule : RecursorRule) → rules ≡ rule ∷ [] → (P : List RecRule → Type 0)
      → P (rule_at c rule ∷ []) → P rs
  only_is rule one P h = subst P (sym (are ∙ ap (map (rule_at c)) one)) h
