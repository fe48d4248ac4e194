-- One field more, and one parameter more.
use Rattle.std.proofs.Common.{◌≡◌, ℕ, suc, Bool, ◌&&◌, List, ◌∷◌, Option, Some, None, refl, sym, ap, ◌∙◌}
use Rattle.lk_tree.specs.Tree.{Name, Tree, proj}
use Rattle.lk_tree.specs.Bind.{opened, has_var}
use Rattle.lk_rulebook.specs.Claims.{Claim}
use Rattle.lk_questions.specs.Tests.{◌>>=◌}
use Rattle.lk_written.specs.Premises.{Left, to_pi}
use Rattle.lk_written.specs.Typing.{past, prop_if, field_of}
use Rattle.lk_premises.proofs.Binding.{bind_bind}
use Rattle.lk_replay_types.specs.Fields.{last_read, field_pi, field_once}
use Rattle.lk_replay_types.specs.Subjects.{past_once}

module _ (ps : List Claim) (S : Name) (s : Tree) (q : Bool) where
  -- the fields behind number j
  abbrev more : ℕ → ℕ → Tree × Left → Option (Tree × Left)
  more j n b = field_of ps b.1 S s q (suc j) n b.0

  field_by : (j n : ℕ) (js : Left) (r : Tree) → field_of ps js S s q j (suc n) r ≡ (field_once ps js S s q j r >>= more j n)
  unfolding field_pi
  field_by j n js r =
      bind_bind (to_pi ps js r) (λ p. field_pi ps S s q j p) (more j n)
      (λ p. prop_if (q && has_var 0 p.0.1) ps p.1 p.0.0 >>= λ t. field_of ps t S s q (suc j) n (opened p.0.1 (proj S j s)))
      (λ p. bind_bind (prop_if (q && has_var 0 p.0.1) ps p.1 p.0.0) (λ t. Some (opened p.0.1 (proj S j s), t)) (more j n)
      (λ t. field_of ps t S s q (suc j) n (opened p.0.1 (proj S j s))) (λ t. refl))

  pub field_on : (j i n m : ℕ) (js : Left) (r : Tree) (b : Tree × Left) → i ≡ suc j → n ≡ suc m → field_once ps js S s q j r ≡ Some b
      → field_of ps b.1 S s q i m b.0 ≡ field_of ps js S s q j n r
  field_on j i n m js r b k e h =
      ap (λ x. field_of ps b.1 S s q x m b.0) k
      ∙ sym (ap (λ x. field_of ps js S s q j x r) e ∙ field_by j m js r ∙ ap (λ o. o >>= more j m) h)

  pub field_stops : (j n m : ℕ) (js : Left) (r : Tree) → n ≡ suc m → field_once ps js S s q j r ≡ None → field_of ps js S s q j n r ≡ None
  field_stops j n m js r e h = ap (λ x. field_of ps js S s q j x r) e ∙ field_by j m js r ∙ ap (λ o. o >>= more j m) h

  pub field_ends : (j n : ℕ) (js : Left) (r : Tree) → n ≡ 0 → field_of ps js S s q j n r ≡ last_read ps js q r
  unfolding last_read
  field_ends j n js r e = ap (λ x. field_of ps js S s q j x r) e

module _ (ps : List Claim) (x : Tree) (xs : List Tree) where
  abbrev others : ℕ → Tree × Left → Option (Tree × Left)
  others n b = past ps b.1 xs n b.0

  past_by : (n : ℕ) (js : Left) (r : Tree) → past ps js (x ∷ xs) (suc n) r ≡ (past_once ps js x r >>= others n)
  past_by n js r = bind_bind (to_pi ps js r) (λ p. Some (opened p.0.1 x, p.1)) (others n) (λ p. past ps p.1 xs n (opened p.0.1 x)) (λ p. refl)

  pub past_on : (n m : ℕ) (js : Left) (r : Tree) (b : Tree × Left) → n ≡ suc m → past_once ps js x r ≡ Some b
      → past ps js (x ∷ xs) n r ≡ past ps b.1 xs m b.0
  past_on n m js r b e h = ap (λ y. past ps js (x ∷ xs) y r) e ∙ past_by m js r ∙ ap (λ o. o >>= others m) h

  pub past_stops : (n m : ℕ) (js : Left) (r : Tree) → n ≡ suc m → past_once ps js x r ≡ None → past ps js (x ∷ xs) n r ≡ None
  past_stops n m js r e h = ap (λ y. past ps js (x ∷ xs) y r) e ∙ past_by m js r ∙ ap (λ o. o >>= others m) h
