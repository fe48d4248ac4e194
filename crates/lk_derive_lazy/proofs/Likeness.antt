-- Two terms whose heads are one constant, and what is asked of their arguments.
use Rattle.std.proofs.Common.{ℕ, ◌≡◌, ◌+◌, ◌<◌, ◌≤◌, Bool, true, false, nat_eq, List, [], ◌∷◌, length, Option, Some, None, refl, sym, subst, ap, ◌∙◌, if◌then◌else◌, arith}
use Rattle.std.proofs.lemmas.Bool.Decides.{nat_tests}
use Rattle.lk_tree.specs.Tree.{Name, Level, Tree}
use Rattle.lk_tree.specs.Spine.{head, args}
use Rattle.lk_tree.specs.WellFormed.{IsWellFormed}
use Rattle.lk_rulebook.specs.Place.{Place, Entry, Kind, a_def, a_thm, an_axiom, an_opaque, a_quot, a_type, a_ctor, a_rec}
use Rattle.lk_rulebook.specs.WellStated.{WellStated}
use Rattle.lk_questions.specs.Program.{Program, done}
use Rattle.lk_questions.specs.Erased.{truth, erased}
use Rattle.lk_questions.specs.Levels.{complete_test, levels_equal}
use Rattle.lk_questions.specs.Pairs.{same_all, otherwise, yes_alone, answers_yes, ◌or_else◌}
use Rattle.lk_questions.specs.Unfolding.{Unfolding, Rank, lowest, height, highest, is_less, rank_of_hint, unfolding_by, unfold_both, by_ranks, by_unfolding}
use Rattle.lk_lazy.specs.Heads.{unfolding_at}
use Rattle.lk_lazy.specs.Lazies.{arguments_or_both, same_or_both, ranked}
use Rattle.lk_lazy.proofs.Ranks.{both_heads, one_ranked, heads_agree, again_is}
use Rattle.lk_step.specs.Runs.{Runs, RunsOn}
use Rattle.lk_step.proofs.Runs.{runs_on}
use Rattle.lk_step.specs.Parts.{IsPartIn}
use Rattle.lk_step.specs.Tests.{IsRun, ArePair}
use Rattle.lk_step.specs.declared.step.Row.{Row}
use Rattle.lk_step.proofs.Parts.{first}
use Rattle.lk_step.proofs.PartsIn.{part_these}
use Rattle.lk_store.specs.Contents.{Contents}
use Rattle.lk_rulebook.specs.Claims.{equals}
use Rattle.lk_derive_lazy.specs.Alike.{AreOneConstant}
use Rattle.lk_derive_lazy.specs.Turns.{SaysYes, Bears, TurnsAgain, pair_asked}
use Rattle.lk_derive_lazy.proofs.Heads.{by_meaning, by_heads, at_heads, unfolds_is, program_runs}
use Rattle.lk_derive_lazy.proofs.Turning.{both_turning, turns_by}

rank_self : (r : Rank) → is_less r r ≡ false
rank_self lowest = refl
rank_self (height n) = grind (arith, nat_tests)
rank_self highest = refl

-- both unfold, by one constant at equal levels
record BothBy (o k : Option Unfolding) (ls ms : List Level) : Type 0 where
  p : Unfolding
  q : Unfolding
  left : o ≡ Some p
  right : k ≡ Some q
  name : p.name ≡ q.name
  left_levels : p.levels ≡ ls
  right_levels : q.levels ≡ ms
  low : is_less p.rank q.rank ≡ false
  high : is_less q.rank p.rank ≡ false

module _ (w : Place) (a b : Tree) where
  kind_both : (x : Name) (ls ms : List Level) (g : Entry) (k : Kind) (n : ℕ) → Runs w (by_ranks a b (unfolding_by x ls g k) (unfolding_by x ms g k)) (Some true) n → BothBy (unfolding_by x ls g k) (unfolding_by x ms g k) ls ms
  kind_both x ls ms g (a_def h v) n r = record {
    p = record { name = x; levels = ls; entry = g; value = v; rank = rank_of_hint h };
    q = record { name = x; levels = ms; entry = g; value = v; rank = rank_of_hint h };
    left = refl;
    right = refl;
    name = refl;
    left_levels = refl;
    right_levels = refl;
    low = rank_self (rank_of_hint h);
    high = rank_self (rank_of_hint h);
  }
  kind_both x ls ms g (a_thm v) n r = record {
    p = record { name = x; levels = ls; entry = g; value = v; rank = lowest };
    q = record { name = x; levels = ms; entry = g; value = v; rank = lowest };
    left = refl;
    right = refl;
    name = refl;
    left_levels = refl;
    right_levels = refl;
    low = refl;
    high = refl;
  }
  kind_both x ls ms g an_axiom n r = absurd (let e : None ≡ Some true = r.0 in cc)
  kind_both x ls ms g (an_opaque v) n r = absurd (let e : None ≡ Some true = r.0 in cc)
  kind_both x ls ms g a_quot n r = absurd (let e : None ≡ Some true = r.0 in cc)
  kind_both x ls ms g (a_type t i) n r = absurd (let e : None ≡ Some true = r.0 in cc)
  kind_both x ls ms g (a_ctor t i j) n r = absurd (let e : None ≡ Some true = r.0 in cc)
  kind_both x ls ms g (a_rec t) n r = absurd (let e : None ≡ Some true = r.0 in cc)

  meaning_both : (x : Name) (ls ms : List Level) (o : Option Entry) (n : ℕ) → Runs w (by_ranks a b (by_meaning x ls o) (by_meaning x ms o)) (Some true) n → BothBy (by_meaning x ls o) (by_meaning x ms o) ls ms
  meaning_both x ls ms None n r = absurd (let e : None ≡ Some true = r.0 in cc)
  meaning_both x ls ms (Some g) n r = kind_both x ls ms g g.kind n r

  -- where the line says yes of one constant, both unfold
  heads_both : (k : AreOneConstant (head a) (head b)) (n : ℕ) → Runs w (by_unfolding a b) (Some true) n → BothBy (unfolding_at w (head a)) (unfolding_at w (head b)) k.left k.right
  heads_both k n h =
      let left : unfolding_at w (head a) ≡ by_meaning k.name k.left (w.means k.name) = ap (unfolding_at w) k.left_is in
      let right : unfolding_at w (head b) ≡ by_meaning k.name k.right (w.means k.name) = ap (unfolding_at w) k.right_is in
      let r : Runs w (by_ranks a b (by_meaning k.name k.left (w.means k.name)) (by_meaning k.name k.right (w.means k.name))) (Some true) n =
      subst (λ o. Runs w (by_ranks a b (by_meaning k.name k.left (w.means k.name)) o) (Some true) n) right (subst (λ o. Runs w (by_ranks a b o (unfolding_at w (head b))) (Some true) n) left (at_heads w a b (Some true) n h)) in
      subst (λ o. BothBy o (unfolding_at w (head b)) k.left k.right) (sym left) (subst (λ o. BothBy (by_meaning k.name k.left (w.means k.name)) o k.left k.right) (sym right) (meaning_both k.name k.left k.right (w.means k.name) n r))

  -- the arguments, and where they are not the same, what both unfold to
  abbrev by_both : Unfolding → Unfolding → Program Bool
  by_both p q = answers_yes (same_all (args a) (args b)) or_else unfold_both a b p q

  both_program : (k : AreOneConstant (head a) (head b)) → nat_eq (length (args a)) (length (args b)) ≡ true → (u : BothBy (unfolding_at w (head a)) (unfolding_at w (head b)) k.left k.right) →
      (r : Program Bool) → (by_heads w a b or_else r) ≡ by_both u.p u.q
  both_program k count u r =
      let levels : levels_equal complete_test u.p.levels u.q.levels ≡ done true = subst (λ ls. levels_equal complete_test ls u.q.levels ≡ done true) (sym u.left_levels) (subst (λ ms. levels_equal complete_test k.left ms ≡ done true) (sym u.right_levels) k.equal) in
      let one : (by_heads w a b or_else r) ≡ ranked a b u.p u.q = both_heads a b u.p u.q (unfolding_at w (head a)) (unfolding_at w (head b)) u.left u.right r in
      let two : ranked a b u.p u.q ≡ same_or_both a b u.p u.q = one_ranked a b u.p u.q u.low u.high in
      let three : same_or_both a b u.p u.q ≡ arguments_or_both a b u.p u.q = heads_agree a b u.p u.q u.name levels in
      one ∙ two ∙ three ∙ ap (λ z. answers_yes (if z then same_all (args a) (args b) else done false) or_else unfold_both a b u.p u.q) count

  -- the arguments were compared, and what comes behind them
  record Argued (s rest : Program Bool) (n : ℕ) : Type 0 where
    answer : Bool
    first : ℕ
    second : ℕ
    runs : Runs w s answer first
    then_runs : Runs w (otherwise (yes_alone answer) rest) true second
    paid : n ≡ first + second

  argued : (s rest : Program Bool) (n : ℕ) → Runs w (answers_yes s or_else rest) true n → Argued s rest n
  argued s rest n h =
      let on : RunsOn w (answers_yes s) (λ o. otherwise o rest) true n = runs_on w (answers_yes s) (λ o. otherwise o rest) true n h in
      let in_on : RunsOn w s (λ y. done (yes_alone y)) on.value on.first = runs_on w s (λ y. done (yes_alone y)) on.value on.first on.runs in
      let one : n ≡ on.first + on.second = on.paid in
      let two : on.first ≡ in_on.first + in_on.second = in_on.paid in
      let free : in_on.second ≡ 0 = in_on.then_runs.1 in
      record {
        answer = in_on.value;
        first = in_on.first;
        second = on.second;
        runs = in_on.runs;
        then_runs = subst (λ o. Runs w (otherwise o rest) true on.second) (sym in_on.then_runs.0) on.then_runs;
        paid = omega (arith, one, two, free);
      }

  module _ (k : AreOneConstant (head a) (head b)) (count : nat_eq (length (args a)) (length (args b)) ≡ true) where
    argued_line : (n : ℕ) (h : Runs w (by_unfolding a b) (Some true) n) → (u : BothBy (unfolding_at w (head a)) (unfolding_at w (head b)) k.left k.right) → Argued (same_all (args a) (args b)) (unfold_both a b u.p u.q) n
    argued_line n h u = argued (same_all (args a) (args b)) (unfold_both a b u.p u.q) n (program_runs w a b (by_both u.p u.q) (both_program k count u) n h)

    -- the arguments are asked for
    pub arguments_run : (most : ℕ) → SaysYes w (by_unfolding a b) most → IsRun w (same_all (args a) (args b)) most
    arguments_run most said =
        let r = argued_line said.cost said.runs (heads_both k said.cost said.runs) in
        let paid : said.cost ≡ r.first + r.second = r.paid in
        let within : said.cost < most = said.within in
        record { value = r.answer; cost = r.first; runs = r.runs; within = omega (arith, paid, within) }

    -- they are the same
    pub record AreAgreed (n : ℕ) : Type 0 where
      pub cost : ℕ
      pub runs : Runs w (same_all (args a) (args b)) true cost
      pub within : cost ≤ n

    pub arguments_agreed : ((v : Bool) (m : ℕ) → Runs w (same_all (args a) (args b)) v m → v ≡ true) → (n : ℕ) → Runs w (by_unfolding a b) (Some true) n → AreAgreed n
    arguments_agreed told n h =
        let r = argued_line n h (heads_both k n h) in
        let paid : n ≡ r.first + r.second = r.paid in
        record { cost = r.first; runs = subst (λ y. Runs w (same_all (args a) (args b)) y r.first) (told r.answer r.first r.runs) r.runs; within = omega (arith, paid) }

    -- the row of what is asked then bears what the line says, whatever its trees are called
    pub arguments_bear : ((v : Bool) (m : ℕ) → Runs w (same_all (args a) (args b)) v m → v ≡ true) → (c : Contents) (x y : Tree) (r : Row) → x ≡ a → y ≡ b → ArePair w a b →
        ((m : ℕ) → ArePair w x y → Runs w (same_all (args x) (args y)) true m → IsPartIn w c r (equals x y ∷ []) m) → Bears w c (by_unfolding a b) (equals a b) r
    arguments_bear told c x y r ex ey two f n h =
        let k : AreAgreed n = arguments_agreed told n h in
        let part : ArePair w a b → Runs w (same_all (args a) (args b)) true k.cost → IsPartIn w c r (equals a b ∷ []) k.cost =
        subst (λ y. ArePair w a y → Runs w (same_all (args a) (args y)) true k.cost → IsPartIn w c r (equals a y ∷ []) k.cost) ey
        (subst (λ x. ArePair w x y → Runs w (same_all (args x) (args y)) true k.cost → IsPartIn w c r (equals x y ∷ []) k.cost) ex (f k.cost)) in
        part_these w c r (equals a b ∷ []) (equals a b ∷ []) k.cost n (first (equals a b) [], tt) k.within (part two k.runs)

    -- they are not, and both unfold
    pub turns_again : WellStated w → IsWellFormed a → IsWellFormed b → (most : ℕ) → SaysYes w (by_unfolding a b) most → ((v : Bool) (m : ℕ) → Runs w (same_all (args a) (args b)) v m → v ≡ false) → TurnsAgain w a b
    turns_again ok fa fb most said told pair last is =
        let u = heads_both k said.cost said.runs in
        let behind : (n : ℕ) (r : Argued (same_all (args a) (args b)) (unfold_both a b u.p u.q) n) → Runs w (unfold_both a b u.p u.q) true r.second =
        λ n r. subst (λ y. Runs w (otherwise (yes_alone y) (unfold_both a b u.p u.q)) true r.second) (told r.answer r.first r.runs) r.then_runs in
        let own = argued_line said.cost said.runs u in
        turns_by w ok a b fa fb pair last (unfold_both a b u.p u.q)
        (λ n h. let r = argued_line n h u in let paid : n ≡ r.first + r.second = r.paid in record { cost = r.second; runs = behind n r; within = omega (arith, paid) })
        (both_turning w ok a b fa fb u.p u.q (unfolds_is w (head a) u.p u.left) (unfolds_is w (head b) u.q u.right) true own.second (behind said.cost own))
        (is ∙ ap (λ z. pair_asked (erased w truth last z)) (again_is a b u.p u.q w u.left u.right))
