-- Two constants.
use Rattle.std.proofs.Common.{ℕ, ◌≡◌, Bool, true, false, ◌&&◌, nat_eq, length, List, [], ◌∷◌, Option, Some, None, ap, refl, sym, subst, ◌∙◌, if◌then◌else◌, arith}
use Rattle.lk_tree.specs.Tree.{Name, name_discrete, Level, Tree, const}
use Rattle.lk_tree.specs.LevelTest.{level_test}
use Rattle.lk_tree.specs.Mentions.{same_name}
use Rattle.lk_rulebook.specs.Place.{Place}
use Rattle.lk_rulebook.specs.Claims.{equals}
use Rattle.lk_claims.proofs.Pieces.{same_name_right}
use Rattle.lk_questions.specs.Program.{done, ◌>>=◌}
use Rattle.lk_questions.specs.Steps.{decided}
use Rattle.lk_questions.specs.Levels.{complete_test, tested, level_pairs_equal, levels_equal}
use Rattle.lk_questions.specs.Pairs.{Line, answers_yes, goes_on}
use Rattle.lk_questions.specs.Same.{by_parts}
use Rattle.lk_questions.specs.Tests.{is_true, same_levels}
use Rattle.lk_written.specs.Line.{consts_rule}
use Rattle.lk_step.specs.Steps.{equality}
use Rattle.lk_step.specs.Rows.{no_claim}
use Rattle.lk_step.specs.Runs.{Runs}
use Rattle.lk_step.proofs.EqualitySteps.{equality_steps}
use Rattle.lk_step.specs.Tells.{IsBasis}
use Rattle.lk_step.proofs.Bases.{one_step}
use Rattle.lk_derive_equal.proofs.SubjectLine.{as_decided}

pairs_yes : (w : Place) (ls ms : List Level) (n : ℕ) → Runs w (level_pairs_equal complete_test ls ms) true n → same_levels ls ms ≡ true
pairs_yes w [] [] n h = refl
pairs_yes w [] (m ∷ ms) n h = h.0
pairs_yes w (l ∷ ls) [] n h = h.0
pairs_yes w (l ∷ ls) (m ∷ ms) n h = go (level_test l m) (pairs_yes w ls ms n) h
  where
    go : (o : Option Bool) → (Runs w (level_pairs_equal complete_test ls ms) true n → same_levels ls ms ≡ true) → Runs w (tested o >>= λ e. if e then level_pairs_equal complete_test ls ms else done false) true n → is_true o && same_levels ls ms ≡ true
    go (Some true) more r = more r
    go (Some false) more r = r.0
    go None more r = absurd r

levels_yes : (w : Place) (ls ms : List Level) (n : ℕ) → Runs w (levels_equal complete_test ls ms) true n → same_levels ls ms ≡ true
levels_yes w ls ms n h = go (nat_eq (length ls) (length ms)) h
  where
    go : (z : Bool) → Runs w (if z then level_pairs_equal complete_test ls ms else done false) true n → same_levels ls ms ≡ true
    go true r = pairs_yes w ls ms n r
    go false r = absurd (let e : false ≡ true = r.0 in cc)

-- where the names are the same, or not
abbrev by_levels : Bool → List Level → List Level → Line
by_levels z ls ms = if z then answers_yes (levels_equal complete_test ls ms) else goes_on

module _ (w : Place) (a b : Tree) (x y : Name) (ls ms : List Level) (ea : const x ls ≡ a) (eb : const y ms ≡ b) where
  at_levels : (z : Bool) → same_name x y ≡ z → (v : Option Bool) (n : ℕ) → Runs w (by_parts a b) v n → Runs w (by_levels z ls ms) v n
  at_levels z e v n h =
      let one : Runs w (by_parts (const x ls) (const y ms)) v n = subst (λ b. Runs w (by_parts (const x ls) b) v n) (sym eb) (subst (λ a. Runs w (by_parts a b) v n) (sym ea) h) in
      let is : decided (name_discrete x y) ≡ z = subst (λ q. q ≡ z) (as_decided x y) e in
      subst (λ q. Runs w (by_levels q ls ms) v n) is one

  pub constants_other : same_name x y ≡ false → (v : Option Bool) (n : ℕ) → Runs w (by_parts a b) v n → v ≡ None
  constants_other e v n h = let r : Runs w goes_on v n = at_levels false e v n h in sym r.0

  pub constants_no : same_name x y ≡ true → (o : Option Bool) → tested o ≡ levels_equal complete_test ls ms → is_true o ≡ false → (v : Option Bool) (n : ℕ) → Runs w (by_parts a b) v n → v ≡ None
  constants_no e o is no_level v n h = go o no_level (subst (λ p. Runs w (answers_yes p) v n) (sym is) (at_levels true e v n h))
    where
      go : (o : Option Bool) → is_true o ≡ false → Runs w (answers_yes (tested o)) v n → v ≡ None
      go (Some true) f r = absurd cc
      go (Some false) f r = sym r.0
      go None f r = absurd r

  pub constants_basis : same_name x y ≡ true → (o : Option Bool) → tested o ≡ levels_equal complete_test ls ms → is_true o ≡ true → (n : ℕ) → IsBasis w (equals a b) n [] (equality consts_rule a b [] ∷ [])
  constants_basis e o is agree n =
      let one : x ≡ y = same_name_right x y e in
      let other : const x ms ≡ b = ap (λ x. const x ms) one ∙ eb in
      let levels : same_levels ls ms ≡ true = go o is agree in
      subst (λ a. IsBasis w (equals a b) n [] (equality consts_rule a b [] ∷ [])) ea
      (subst (λ b. IsBasis w (equals (const x ls) b) n [] (equality consts_rule (const x ls) b [] ∷ [])) other
      (one_step w (equality consts_rule (const x ls) (const x ms) []) [] [] 0 n no_claim (omega arith) ((equality_steps w).consts x ls ms levels) refl))
    where
      go : (o : Option Bool) → tested o ≡ levels_equal complete_test ls ms → is_true o ≡ true → same_levels ls ms ≡ true
      go (Some true) is f = levels_yes w ls ms 0 (subst (λ p. Runs w p true 0) is (refl, refl))
      go (Some false) is f = absurd cc
      go None is f = absurd cc
