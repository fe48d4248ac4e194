-- One constant at two lists of levels, and when nothing is asked of two lists of arguments.
use Rattle.std.proofs.Common.{ℕ, ◌≡◌, Bool, true, false, ◌&&◌, nat_eq, List, [], ◌∷◌, length, Option, Some, None, refl, sym, ap, ◌∙◌, if◌then◌else◌}
use Rattle.lk_tree.specs.Tree.{name_discrete, Level, Tree, const}
use Rattle.lk_tree.specs.LevelTest.{level_test}
use Rattle.lk_tree.specs.Spine.{head, args}
use Rattle.lk_rulebook.specs.Place.{Place}
use Rattle.lk_questions.specs.Program.{Program, done, ◌>>=◌}
use Rattle.lk_questions.specs.Steps.{decided}
use Rattle.lk_questions.specs.Levels.{complete_test, tested, level_pairs_equal, levels_equal}
use Rattle.lk_questions.specs.Pairs.{same_all, otherwise, yes_alone, answers_yes, ◌or_else◌}
use Rattle.lk_questions.specs.Tests.{is_true, same_levels}
use Rattle.lk_questions.specs.Unfolding.{Unfolding, unfold_both}
use Rattle.lk_lazy.specs.Lazies.{same_or_both}
use Rattle.lk_step.specs.Runs.{Runs, RunsOn}
use Rattle.lk_step.proofs.Runs.{runs_on}
use Rattle.lk_derive_lazy.specs.Alike.{AreUnequal, AreOther, AreUnlike}

-- levels that are compared are compared at once
pairs_done : (w : Place) (ls ms : List Level) (v : Bool) (n : ℕ) → Runs w (level_pairs_equal complete_test ls ms) v n → level_pairs_equal complete_test ls ms ≡ done v
pairs_done w [] [] v n h = ap done h.0
pairs_done w [] (m ∷ ms) v n h = ap done h.0
pairs_done w (l ∷ ls) [] v n h = ap done h.0
pairs_done w (l ∷ ls) (m ∷ ms) v n h = go (level_test l m) (pairs_done w ls ms v n) h
  where
    go : (o : Option Bool) → (Runs w (level_pairs_equal complete_test ls ms) v n → level_pairs_equal complete_test ls ms ≡ done v) → Runs w (tested o >>= λ e. if e then level_pairs_equal complete_test ls ms else done false) v n →
        (tested o >>= λ e. if e then level_pairs_equal complete_test ls ms else done false) ≡ done v
    go (Some true) more r = more r
    go (Some false) more r = ap done r.0
    go None more r = absurd r

levels_done : (w : Place) (ls ms : List Level) (v : Bool) (n : ℕ) → Runs w (levels_equal complete_test ls ms) v n → levels_equal complete_test ls ms ≡ done v
levels_done w ls ms v n h = go (nat_eq (length ls) (length ms)) h
  where
    go : (z : Bool) → Runs w (if z then level_pairs_equal complete_test ls ms else done false) v n → (if z then level_pairs_equal complete_test ls ms else done false) ≡ done v
    go true r = pairs_done w ls ms v n r
    go false r = ap done r.0

pairs_same : (ls ms : List Level) → level_pairs_equal complete_test ls ms ≡ done true → same_levels ls ms ≡ true
pairs_same [] [] h = refl
pairs_same [] (m ∷ ms) h = absurd cc
pairs_same (l ∷ ls) [] h = absurd cc
pairs_same (l ∷ ls) (m ∷ ms) h = go (level_test l m) (pairs_same ls ms) h
  where
    go : (o : Option Bool) → (level_pairs_equal complete_test ls ms ≡ done true → same_levels ls ms ≡ true) → (tested o >>= λ e. if e then level_pairs_equal complete_test ls ms else done false) ≡ done true → is_true o && same_levels ls ms ≡ true
    go (Some true) more r = more r
    go (Some false) more r = absurd cc
    go None more r = absurd cc

pub levels_same : (ls ms : List Level) → levels_equal complete_test ls ms ≡ done true → same_levels ls ms ≡ true
levels_same ls ms h = go (nat_eq (length ls) (length ms)) h
  where
    go : (z : Bool) → (if z then level_pairs_equal complete_test ls ms else done false) ≡ done true → same_levels ls ms ≡ true
    go true r = pairs_same ls ms r
    go false r = absurd cc

-- what is compared of two, where the names are the same or not, and what comes behind it
abbrev compared : Bool → Tree → Tree → Program Bool → Program Bool → Program Bool
compared d a b levels rest = answers_yes (if d then (levels >>= λ one. if one && nat_eq (length (args a)) (length (args b)) then same_all (args a) (args b) else done false) else done false) or_else rest

module _ (w : Place) (a b : Tree) (rest : Program Bool) (y : Bool) (n : ℕ) where
  -- the levels were compared
  record LevelsRun (levels : Program Bool) : Type 0 where
    value : Bool
    cost : ℕ
    runs : Runs w levels value cost

  levels_run : (levels : Program Bool) → Runs w (compared true a b levels rest) y n → LevelsRun levels
  levels_run levels h =
      let test : Bool → Program Bool = λ one. if one && nat_eq (length (args a)) (length (args b)) then same_all (args a) (args b) else done false in
      let one : RunsOn w (answers_yes (levels >>= test)) (λ o. otherwise o rest) y n = runs_on w (answers_yes (levels >>= test)) (λ o. otherwise o rest) y n h in
      let two : RunsOn w (levels >>= test) (λ z. done (yes_alone z)) one.value one.first = runs_on w (levels >>= test) (λ z. done (yes_alone z)) one.value one.first one.runs in
      let three : RunsOn w levels test two.value two.first = runs_on w levels test two.value two.first two.runs in
      record { value = three.value; cost = three.first; runs = three.runs }

  unasked : (levels : Program Bool) (v : Bool) → levels ≡ done v → (levels ≡ done true → nat_eq (length (args a)) (length (args b)) ≡ false) → compared true a b levels rest ≡ rest
  unasked levels false e f = ap (λ l. compared true a b l rest) e
  unasked levels true e f = ap (λ l. compared true a b l rest) e ∙ ap (λ z. answers_yes (if z then same_all (args a) (args b) else done false) or_else rest) (f e)

-- nothing is asked where the names differ, the levels do, or the numbers of arguments
unlike_by : (a b : Tree) (p q : Unfolding) → (p.name ≡ q.name → levels_equal complete_test p.levels q.levels ≡ done true → nat_eq (length (args a)) (length (args b)) ≡ false) →
    (w : Place) (y : Bool) (n : ℕ) → Runs w (same_or_both a b p q) y n → same_or_both a b p q ≡ unfold_both a b p q
unlike_by a b p q f w y n h = go (name_discrete p.name q.name) h
  where
    go : (d : Dec (p.name ≡ q.name)) → Runs w (compared (decided d) a b (levels_equal complete_test p.levels q.levels) (unfold_both a b p q)) y n →
        compared (decided d) a b (levels_equal complete_test p.levels q.levels) (unfold_both a b p q) ≡ unfold_both a b p q
    go (yes e) r =
        let l : LevelsRun w a b (unfold_both a b p q) y n (levels_equal complete_test p.levels q.levels) = levels_run w a b (unfold_both a b p q) y n (levels_equal complete_test p.levels q.levels) r in
        unasked w a b (unfold_both a b p q) y n (levels_equal complete_test p.levels q.levels) l.value (levels_done w p.levels q.levels l.value l.cost l.runs) (f e)
    go (no g) r = refl

pub uneven_unlike : (a b : Tree) → nat_eq (length (args a)) (length (args b)) ≡ false → AreUnlike a b
uneven_unlike a b e p q left right w y n h = unlike_by a b p q (λ i j. e) w y n h

tested_some : (o : Option Bool) → tested o ≡ done true → o ≡ Some true
tested_some (Some true) e = refl
tested_some (Some false) e = absurd cc
tested_some None e = absurd cc

pub other_unlike : (a b f g : Tree) → head a ≡ f → head b ≡ g → AreOther f g → AreUnlike a b
other_unlike a b f g ef eg other p q left right w y n h =
    unlike_by a b p q (λ i j.
    let u : AreUnequal p.levels q.levels = other p.name p.levels q.levels (sym ef ∙ left) (sym eg ∙ right ∙ ap (λ x. const x q.levels) (sym i)) in
    absurd (u.no (tested_some u.answer (u.tested_is ∙ j)))) w y n h
