-- What the programs of unfolding come to, case by case.
use Rattle.std.proofs.Common.{◌≡◌, Bool, true, false, ◌&&◌, nat_eq, length}
use Rattle.std.proofs.Common.{Option, Some, None, refl, sym, ap, ◌∙◌, arith, if◌then◌else◌}
use Rattle.std.specs.Prelude.{ℕ}
use Rattle.lk_tree.specs.Tree.{name_discrete, Tree}
use Rattle.lk_tree.specs.Levels.{put_levels}
use Rattle.lk_tree.specs.Spine.{apply, head, args}
use Rattle.lk_tree.specs.declared.rule.Rule.TheVariants.{LevelCount}
use Rattle.lk_rulebook.specs.Place.{Place}
use Rattle.lk_questions.specs.Program.{Program, done, ◌>>=◌}
use Rattle.lk_questions.specs.Steps.{given, decided}
use Rattle.lk_questions.specs.Levels.{complete_test, levels_equal}
use Rattle.lk_questions.specs.Pairs.{same_all, answers, answers_yes, ◌or_else◌}
use Rattle.lk_questions.specs.Unfolding.{Unfolding as PlainUnfolding, is_less, by_ranks}
use Rattle.lk_questions.specs.Unfolding.{unfold_first, unfold_second, unfold_both}
use Rattle.lk_questions.specs.Unfolding.{same_by_arguments}
use Rattle.lk_store.specs.Contents.{Contents, tree_at, Extends}
use Rattle.lk_ask.specs.Constants.{IsUnfolded}
use Rattle.lk_lazy.specs.declared.heads.Unfolding.{Unfolding}
use Rattle.lk_lazy.specs.Heads.{unfolding_at, IsUnfolding, IsUnfoldingIf}
use Rattle.lk_lazy.specs.Lazies.{both_by, unfold_again, arguments_or_both, same_or_both, ranked}
use Rattle.lk_lazy.proofs.Programs.{answers_alone}
use Rattle.lk_env.specs.StoredLibrary.{StoredLibrary}

-- what numbers stand for, where they do
pub some_of : (c : Contents) (l : StoredLibrary) (u : Unfolding) (o : Option PlainUnfolding) → IsUnfoldingIf c l (Some u) o → (p : PlainUnfolding) × (o ≡ Some p) × IsUnfolding c l u p
some_of c l u (Some p) i = (p, refl, i)
some_of c l u None i = absurd i

pub none_of : (c : Contents) (l : StoredLibrary) (o : Option PlainUnfolding) → IsUnfoldingIf c l None o → o ≡ None
none_of c l None i = refl
none_of c l (Some p) i = absurd i

-- numbers stand for what they stood for
pub still_unfolds : (c d : Contents) (l : StoredLibrary) (u : Unfolding)
    (p : PlainUnfolding) → Extends c d → IsUnfolding c l u p → IsUnfolding d l u p
still_unfolds c d l u p x i = record {
  known = record {
    name_in = let a = x.names.longer in let b = i.known.name_in in omega arith;
    levels_in = let a = x.lists.longer in let b = i.known.levels_in in omega arith;
    value_in = let a = x.trees.longer in let b = i.known.value_in in omega arith;
  };
  name_is = x.names.same u.name i.known.name_in ∙ i.name_is;
  levels_are = x.lists.same u.levels i.known.levels_in ∙ i.levels_are;
  value_is = x.trees.same u.value i.known.value_in ∙ i.value_is;
  entry_is = i.entry_is;
  rank_is = i.rank_is;
}

module _ (a b : Tree) (p q : PlainUnfolding) where
  -- once the first one is unfolded, to the tree of e, the second one is
  pub first_unfolds : (c : Contents) (e : ℕ)
      → IsUnfolded c p.entry.levels p.levels p.value (args a) (Some e)
      → unfold_both a b p q ≡ unfold_second (tree_at c e) b q
  first_unfolds c e i =
      let value = put_levels p.entry.levels p.levels p.value in
      ap (λ x. (given x LevelCount (done value) >>= λ v. done (apply v (args a)))
      >>= λ e. unfold_second e b q) i.0
      ∙ ap (λ t. unfold_second t b q) (sym i.1.is)

  -- there are more arguments on one side
  pub uneven_is : nat_eq (length (args a)) (length (args b)) ≡ false → arguments_or_both a b p q ≡ unfold_both a b p q
  uneven_is e = ap (λ t. answers_yes (if t then same_all (args a) (args b) else done false) or_else unfold_both a b p q) e

  decided_no : (p.name ≡ q.name → ⊥) → decided (name_discrete p.name q.name) ≡ false
  decided_no f = go (name_discrete p.name q.name)
    where
      go : (d : Dec (p.name ≡ q.name)) → decided d ≡ false
      go (yes e) = absurd (f e)
      go (no n) = refl

  decided_yes : p.name ≡ q.name → decided (name_discrete p.name q.name) ≡ true
  decided_yes e = go (name_discrete p.name q.name)
    where
      go : (d : Dec (p.name ≡ q.name)) → decided d ≡ true
      go (yes i) = refl
      go (no n) = absurd (n e)

  compared : Bool → Program Bool → Program Bool
  compared d l = answers_yes (if d then (l >>= λ one. if one && nat_eq (length (args a)) (length (args b)) then same_all (args a) (args b) else done false) else done false) or_else unfold_both a b p q

  -- other heads
  pub heads_differ : (p.name ≡ q.name → ⊥) → same_or_both a b p q ≡ unfold_both a b p q
  unfolding compared
  heads_differ f = ap (λ d. compared d (levels_equal complete_test p.levels q.levels)) (decided_no f)

  -- one constant at other levels
  pub levels_differ : p.name ≡ q.name → levels_equal complete_test p.levels q.levels ≡ done false → same_or_both a b p q ≡ unfold_both a b p q
  unfolding compared
  levels_differ e l = ap (λ d. compared d (levels_equal complete_test p.levels q.levels)) (decided_yes e) ∙ ap (compared true) l

  -- equal heads
  pub heads_agree : p.name ≡ q.name → levels_equal complete_test p.levels q.levels ≡ done true → same_or_both a b p q ≡ arguments_or_both a b p q
  unfolding compared
  heads_agree e l = ap (λ d. compared d (levels_equal complete_test p.levels q.levels)) (decided_yes e) ∙ ap (compared true) l

  by_order : Bool → Bool → Program Bool
  by_order x y = if x then unfold_second a b q else (if y then unfold_first a b p else same_or_both a b p q)

  pub second_ranked : is_less p.rank q.rank ≡ true → ranked a b p q ≡ unfold_second a b q
  unfolding by_order
  second_ranked e = ap (λ x. by_order x (is_less q.rank p.rank)) e

  pub first_ranked : is_less p.rank q.rank ≡ false → is_less q.rank p.rank ≡ true → ranked a b p q ≡ unfold_first a b p
  unfolding by_order
  first_ranked e f = ap (λ x. by_order x (is_less q.rank p.rank)) e ∙ ap (by_order false) f

  pub one_ranked : is_less p.rank q.rank ≡ false → is_less q.rank p.rank ≡ false → ranked a b p q ≡ same_or_both a b p q
  unfolding by_order
  one_ranked e f = ap (λ x. by_order x (is_less q.rank p.rank)) e ∙ ap (by_order false) f

  -- the line itself
  both_line : (r : Program Bool) → (by_ranks a b (Some p) (Some q) or_else r) ≡ ranked a b p q
  both_line r = go (is_less p.rank q.rank) (is_less q.rank p.rank)
    where
      go : (x y : Bool) → ((if x then answers (unfold_second a b q) else (if y then answers (unfold_first a b p) else answers (answers_yes (same_by_arguments a b p q) or_else unfold_both a b p q))) or_else r)
          ≡ (if x then unfold_second a b q else (if y then unfold_first a b p else same_or_both a b p q))
      go true y = answers_alone (unfold_second a b q) r
      go false true = answers_alone (unfold_first a b p) r
      go false false = answers_alone (same_or_both a b p q) r

  -- the same, of heads that were looked up
  pub both_heads : (o k : Option PlainUnfolding) → o ≡ Some p → k ≡ Some q
      → (r : Program Bool) → (by_ranks a b o k or_else r) ≡ ranked a b p q
  both_heads o k e f r = rw (e, f) (both_line r)

  -- looked up before
  pub again_is : (w : Place) → unfolding_at w (head a) ≡ Some p → unfolding_at w (head b) ≡ Some q → unfold_again w a b ≡ unfold_both a b p q
  again_is w e f = ap (λ x. both_by a b x (unfolding_at w (head b))) e ∙ ap (both_by a b (Some p)) f

pub again_left : (w : Place) (a b : Tree) → unfolding_at w (head a) ≡ None → unfold_again w a b ≡ done false
again_left w a b e = ap (λ x. both_by a b x (unfolding_at w (head b))) e

pub again_right : (w : Place) (a b : Tree) (p : PlainUnfolding) → unfolding_at w (head a) ≡ Some p → unfolding_at w (head b) ≡ None → unfold_again w a b ≡ done false
again_right w a b p e f = ap (λ x. both_by a b x (unfolding_at w (head b))) e ∙ ap (both_by a b (Some p)) f

-- one of them alone unfolds
pub first_head : (a b : Tree) (p : PlainUnfolding) (o k : Option PlainUnfolding)
    → o ≡ Some p → k ≡ None → (r : Program Bool) → (by_ranks a b o k or_else r) ≡ unfold_first a b p
first_head a b p o k e f r = rw (e, f) (answers_alone (unfold_first a b p) r)

pub second_head : (a b : Tree) (q : PlainUnfolding) (o k : Option PlainUnfolding)
    → o ≡ None → k ≡ Some q → (r : Program Bool) → (by_ranks a b o k or_else r) ≡ unfold_second a b q
second_head a b q o k e f r = rw (e, f) (answers_alone (unfold_second a b q) r)
