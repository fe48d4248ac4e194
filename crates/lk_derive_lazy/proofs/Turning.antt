-- What is asked for where one of two terms unfolds, or both do.
use Rattle.std.proofs.Common.{ℕ, ◌≡◌, ◌+◌, ◌≤◌, Bool, true, false, [], nat_eq, length, Option, Some, None, refl, sym, subst, ap, ◌∙◌, arith}
use Rattle.std.proofs.lemmas.Bool.Decides.{nat_tests}
use Rattle.lk_tree.specs.Tree.{Tree, const}
use Rattle.lk_tree.specs.Levels.{put_levels}
use Rattle.lk_tree.specs.Spine.{apply, head, args}
use Rattle.lk_tree.specs.WellFormed.{IsWellFormed, IsStated}
use Rattle.lk_tree.specs.declared.rule.Rule.{Rule}
use Rattle.lk_tree.specs.declared.rule.Rule.TheVariants.{LevelCount}
use Rattle.lk_tree.proofs.Spines.{fine_apply, well_formed_of_apply}
use Rattle.lk_tree.proofs.Within.{apply_head_args, fine_put_levels}
use Rattle.lk_rulebook.specs.Place.{Place}
use Rattle.lk_rulebook.specs.WellStated.{WellStated}
use Rattle.lk_rulebook.specs.Rules.{IsGivenAt}
use Rattle.lk_claims.proofs.Pieces.{has_value, value_stated}
use Rattle.lk_questions.specs.Query.{same}
use Rattle.lk_questions.specs.Program.{Program, done, asked, ◌>>=◌}
use Rattle.lk_questions.specs.Erased.{truth, erased}
use Rattle.lk_questions.specs.Pairs.{◌or_else◌}
use Rattle.lk_questions.specs.Steps.{given}
use Rattle.lk_questions.specs.Unfolding.{Unfolding, is_less, unfold_first, unfold_second, unfold_both, by_ranks, by_unfolding}
use Rattle.lk_written.specs.Line.{delta_rule}
use Rattle.lk_ask.specs.declared.sheet.Pair.{Pair}
use Rattle.lk_lazy.specs.Heads.{unfolding_at}
use Rattle.lk_lazy.specs.Lazies.{same_or_both, ranked}
use Rattle.lk_lazy.proofs.Programs.{answers_alone}
use Rattle.lk_lazy.proofs.Ranks.{second_ranked, first_ranked, one_ranked, both_heads}
use Rattle.lk_step.specs.Steps.{reduction, StepHolds}
use Rattle.lk_step.specs.Rows.{IsAnswered}
use Rattle.lk_step.specs.Runs.{Runs}
use Rattle.lk_step.proofs.ReductionSteps.{reduction_steps}
use Rattle.lk_derive_lazy.specs.Turns.{IsTurned, SaysYes, AreSame, Turns, pair_asked, IsFirst}
use Rattle.lk_derive_lazy.specs.Alike.{AreUnlike}
use Rattle.lk_derive_lazy.proofs.Heads.{IsUnfolds, unfolds_is, at_heads, StepsOn, steps_on, AnswerRuns, answer_runs, both_answer, program_runs}

-- what a unfolds to by p
abbrev pub unfolded_by : Unfolding → Tree → Tree
unfolded_by p a = apply (put_levels p.entry.levels p.levels p.value) (args a)

-- as many levels as there are parameters
abbrev pub Counts : Unfolding → Type 0
Counts p = nat_eq (length p.levels) (length p.entry.levels) ≡ true

pub turned_by : (w : Place) (a : Tree) (p : Unfolding) → WellStated w → IsWellFormed a → IsUnfolds w (head a) p → Counts p → IsTurned w a (unfolded_by p a)
turned_by w a p ok fa u count =
    let levels : length p.levels ≡ length p.entry.levels = grind (arith, nat_tests, count) in
    let at : IsGivenAt w p.name p.levels = record { entry = p.entry; given = u.given; levels_are = levels } in
    let is : apply (const p.name p.levels) (args a) ≡ a = subst (λ z. apply z (args a) ≡ a) u.head_is (apply_head_args a) in
    let fc : IsWellFormed (apply (const p.name p.levels) (args a)) = subst IsWellFormed (sym is) fa in
    let s : IsStated p.value = value_stated p.entry.kind p.value (ok p.name p.entry u.given).1 u.value_is in
    let fn : IsWellFormed (unfolded_by p a) = fine_apply (put_levels p.entry.levels p.levels p.value) (args a) (fine_put_levels p.entry.levels p.levels 0 p.value s.0) (well_formed_of_apply (const p.name p.levels) (args a) fc).1 in
    let holds : StepHolds w (reduction delta_rule (apply (const p.name p.levels) (args a)) (unfolded_by p a) []) = (reduction_steps w).delta p.name p.levels at p.value (args a) (has_value p.entry p.entry.kind p.value refl u.value_is) fc fn in
    record { fine = fn; holds = λ other. subst (λ z. StepHolds w (reduction delta_rule z (unfolded_by p a) [])) is holds }

pub itself : (w : Place) (a : Tree) → IsWellFormed a → IsTurned w a a
itself w a fa = record { fine = fa; holds = λ other. absurd (other refl) }

-- the program asks just whether these two are the same, which a and b are, or unfold to
pub record IsTurning (w : Place) (p : Program Bool) (a b : Tree) : Type 0 where
  pub x : Tree
  pub y : Tree
  pub left : IsTurned w a x
  pub right : IsTurned w b y
  pub is : p ≡ asked (same x y)

given_yes : {A B C : Type 0} (w : Place) (z : Bool) (r : Rule) (v : A) (f : A → Program B) (k : B → Program C) (u : C) (n : ℕ) → Runs w ((given z r (done v) >>= f) >>= k) u n → z ≡ true
given_yes w true r v f k u n h = refl
given_yes w false r v f k u n h = absurd h

module _ (w : Place) (ok : WellStated w) (a b : Tree) (fa : IsWellFormed a) (fb : IsWellFormed b) where
  -- e unfolds by p, and k goes on
  abbrev then_of : Unfolding → Tree → Bool → (Tree → Program Bool) → Program Bool
  then_of p e z k = (given z LevelCount (done (put_levels p.entry.levels p.levels p.value)) >>= λ v. done (apply v (args e))) >>= k

  counts : (p : Unfolding) (e : Tree) (k : Tree → Program Bool) (y : Bool) (n : ℕ) → Runs w (then_of p e (nat_eq (length p.levels) (length p.entry.levels)) k) y n → Counts p
  counts p e k y n h = given_yes w (nat_eq (length p.levels) (length p.entry.levels)) LevelCount (put_levels p.entry.levels p.levels p.value) (λ v. done (apply v (args e))) k y n h

  first_turning : (p : Unfolding) → IsUnfolds w (head a) p → (y : Bool) (n : ℕ) → Runs w (unfold_first a b p) y n → IsTurning w (unfold_first a b p) a b
  first_turning p u y n h =
      let c : Counts p = counts p a (λ e. asked (same e b)) y n h in
      record { x = unfolded_by p a; y = b; left = turned_by w a p ok fa u c; right = itself w b fb; is = ap (λ z. then_of p a z (λ e. asked (same e b))) c }

  second_turning : (q : Unfolding) → IsUnfolds w (head b) q → (y : Bool) (n : ℕ) → Runs w (unfold_second a b q) y n → IsTurning w (unfold_second a b q) a b
  second_turning q u y n h =
      let c : Counts q = counts q b (λ e. asked (same a e)) y n h in
      record { x = a; y = unfolded_by q b; left = itself w a fa; right = turned_by w b q ok fb u c; is = ap (λ z. then_of q b z (λ e. asked (same a e))) c }

  pub both_turning : (p q : Unfolding) → IsUnfolds w (head a) p → IsUnfolds w (head b) q → (y : Bool) (n : ℕ) → Runs w (unfold_both a b p q) y n → IsTurning w (unfold_both a b p q) a b
  both_turning p q u v y n h =
      let c : Counts p = counts p a (λ e. unfold_second e b q) y n h in
      let one : unfold_both a b p q ≡ unfold_second (unfolded_by p a) b q = ap (λ z. then_of p a z (λ e. unfold_second e b q)) c in
      let d : Counts q = counts q b (λ e. asked (same (unfolded_by p a) e)) y n (subst (λ z. Runs w z y n) one h) in
      record {
        x = unfolded_by p a;
        y = unfolded_by q b;
        left = turned_by w a p ok fa u c;
        right = turned_by w b q ok fb v d;
        is = one ∙ ap (λ z. then_of q b z (λ e. asked (same (unfolded_by p a) e))) d;
      }

  ranked_turning : (p q : Unfolding) → IsUnfolds w (head a) p → IsUnfolds w (head b) q → AreUnlike a b → (y : Bool) (n : ℕ) → Runs w (ranked a b p q) y n → IsTurning w (ranked a b p q) a b
  ranked_turning p q u v unlike y n h = go (is_less p.rank q.rank) (is_less q.rank p.rank) refl refl
    where
      go : (i j : Bool) → is_less p.rank q.rank ≡ i → is_less q.rank p.rank ≡ j → IsTurning w (ranked a b p q) a b
      go true j e f =
          let is : ranked a b p q ≡ unfold_second a b q = second_ranked a b p q e in
          subst (λ z. IsTurning w z a b) (sym is) (second_turning q v y n (subst (λ z. Runs w z y n) is h))
      go false true e f =
          let is : ranked a b p q ≡ unfold_first a b p = first_ranked a b p q e f in
          subst (λ z. IsTurning w z a b) (sym is) (first_turning p u y n (subst (λ z. Runs w z y n) is h))
      go false false e f =
          let one : ranked a b p q ≡ same_or_both a b p q = one_ranked a b p q e f in
          let is : ranked a b p q ≡ unfold_both a b p q = one ∙ unlike p q u.head_is v.head_is w y n (subst (λ z. Runs w z y n) one h) in
          subst (λ z. IsTurning w z a b) (sym is) (both_turning p q u v y n (subst (λ z. Runs w z y n) is h))

  -- a line that answers is this program, which asks for the two that they turn into
  pub record Turning (o k : Option Unfolding) : Type 0 where
    pub program : Program Bool
    pub is : (r : Program Bool) → (by_ranks a b o k or_else r) ≡ program
    pub turning : IsTurning w program a b

  turning_at : (o k : Option Unfolding) → unfolding_at w (head a) ≡ o → unfolding_at w (head b) ≡ k → AreUnlike a b → (y : Bool) (n : ℕ) → Runs w (by_ranks a b o k) (Some y) n → Turning o k
  turning_at None None eo ek unlike y n h = absurd (let e : None ≡ Some y = h.0 in cc)
  turning_at (Some p) None eo ek unlike y n h =
      let r : AnswerRuns w (unfold_first a b p) (Some y) n = answer_runs w (unfold_first a b p) (Some y) n h in
      record { program = unfold_first a b p; is = λ r. answers_alone (unfold_first a b p) r; turning = first_turning p (unfolds_is w (head a) p eo) r.answer n r.runs }
  turning_at None (Some q) eo ek unlike y n h =
      let r : AnswerRuns w (unfold_second a b q) (Some y) n = answer_runs w (unfold_second a b q) (Some y) n h in
      record { program = unfold_second a b q; is = λ r. answers_alone (unfold_second a b q) r; turning = second_turning q (unfolds_is w (head b) q ek) r.answer n r.runs }
  turning_at (Some p) (Some q) eo ek unlike y n h =
      let r : AnswerRuns w (ranked a b p q) (Some y) n = answer_runs w (ranked a b p q) (Some y) n (subst (λ l. Runs w l (Some y) n) (both_answer a b p q) h) in
      record { program = ranked a b p q; is = both_heads a b p q (Some p) (Some q) refl refl; turning = ranked_turning p q (unfolds_is w (head a) p eo) (unfolds_is w (head b) q ek) unlike r.answer n r.runs }

  -- the program was run, for no more
  pub record RunsWithin (p : Program Bool) (most : ℕ) : Type 0 where
    pub cost : ℕ
    pub runs : Runs w p true cost
    pub within : cost ≤ most

  same_of : (x y : Tree) (n most : ℕ) → n ≤ most → Runs w (asked (same x y)) true n → AreSame w x y most
  same_of x y n most lt r =
      let paid : n ≡ r.1 + r.2 = r.5 in
      record { cost = r.1; answered = subst (λ v. IsAnswered w (same x y) v r.1) r.4.0 r.3; within = omega (arith, paid, lt) }

  pub turns_by : (pair : Option (Pair Tree)) (t : Option ℕ) (p : Program Bool) → ((n : ℕ) → Runs w (by_unfolding a b) (Some true) n → RunsWithin p n) → IsTurning w p a b → pair ≡ pair_asked (erased w truth t p) → Turns w (by_unfolding a b) a b pair
  turns_by pair t p f k e =
      let found : pair ≡ Some (record { left = k.x; right = k.y }) = e ∙ ap (λ z. pair_asked (erased w truth t z)) k.is in
      subst (λ o. Turns w (by_unfolding a b) a b o) (sym found) (record {
        left = k.left;
        right = k.right;
        asks = λ n h. let r : RunsWithin p n = f n h in same_of k.x k.y r.cost n r.within (subst (λ z. Runs w z true r.cost) k.is r.runs);
      })

  -- what is asked for first
  pub turns_first : (pair : Option (Pair Tree)) (most : ℕ) → IsFirst w a b pair → SaysYes w (by_unfolding a b) most → AreUnlike a b → Turns w (by_unfolding a b) a b pair
  turns_first pair most first said unlike =
      let s : StepsOn w a b first.last = steps_on w a b (Some true) said.cost said.runs first.last in
      let k : Turning (unfolding_at w (head a)) (unfolding_at w (head b)) = turning_at (unfolding_at w (head a)) (unfolding_at w (head b)) refl refl unlike true said.cost (at_heads w a b (Some true) said.cost said.runs) in
      turns_by pair s.last k.program (λ n h. record { cost = n; runs = program_runs w a b k.program k.is n h; within = omega arith }) k.turning
      (first.is ∙ ap pair_asked (s.are (done false)) ∙ ap (λ z. pair_asked (erased w truth s.last z)) (k.is (done false)))
