-- What the first rules of each relation state can be written.
use Rattle.std.proofs.Common.{ℕ, suc, ◌≡◌, inl, inr, true, ◌&&◌, List, [], ◌∷◌, Some, refl, subst, sym, ap, ◌∙◌}
use Rattle.lk_tree.specs.Tree.{Level, succ_level, Tree, sort, app, lam, let_in, local}
use Rattle.lk_tree.specs.Bind.{opened}
use Rattle.lk_tree.specs.Spine.{head, args}
use Rattle.lk_tree.specs.WellFormed.{IsWellFormed}
use Rattle.lk_tree.proofs.Binding.{open_fine}
use Rattle.lk_tree.proofs.Scans.{and_true}
use Rattle.lk_rulebook.specs.Place.{Place}
use Rattle.lk_rulebook.specs.Formers.{IsFormer}
use Rattle.lk_questions.specs.Core.{lambdas, beta}
use Rattle.lk_questions.specs.Steps.{is_same_tree}
use Rattle.lk_rulebook.specs.Claims.{Claim, types, reduces, equals, IsShaped}
use Rattle.lk_questions.specs.Tests.{passes}
use Rattle.lk_claims.proofs.Facts.{same_self}
use Rattle.lk_written.specs.Line.{sort_rule, local_rule, chain_rule, head_rule, beta_rule, zeta_rule}
use Rattle.lk_written.specs.Premises.{reduction, arguments_over}
use Rattle.lk_written.specs.Typing.{comes_to}
use Rattle.lk_written.specs.Reducing.{red_beta, red_zeta}
use Rattle.lk_written.specs.Written.{Stands, IsWritten, CanWrite}
use Rattle.lk_written_sound.proofs.Writings.{next, no_reduction, no_equality, last_type, last_reduct, go_on, go_test, comes_itself, reduction_there}

pub can_sort : (w : Place) (l : Level) → CanWrite w (types (sort l) (sort (succ_level l)))
can_sort w l = record { shaped = (tt, tt); written = λ ps. last_type w ps sort_rule (sort l) (sort (succ_level l)) [] (tt, tt) (comes_itself (sort (succ_level l))) }

pub can_local : (w : Place) (k : ℕ) (T : Tree) → IsWellFormed (local k T) → CanWrite w (types (local k T) T)
can_local w k T f = record { shaped = (f, f.0); written = λ ps. last_type w ps local_rule (local k T) T [] (f, f.0) (comes_itself T) }

-- no line is needed
pub can_stay : (w : Place) (a : Tree) → IsWellFormed a → CanWrite w (reduces a a)
can_stay w a f = record { shaped = (f, f, λ z. refl); written = λ ps. no_reduction w ps a a refl }

pub can_same : (w : Place) (a : Tree) → IsWellFormed a → CanWrite w (equals a a)
can_same w a f = record { shaped = (f, f); written = λ ps. no_equality w ps a a refl }

-- where one of the two says nothing, the other is the whole
pub can_chain : (w : Place) (a b c : Tree) → CanWrite w (reduces a b) → CanWrite w (reduces b c) → CanWrite w (reduces a c)
can_chain w a b c h g = record {
  shaped = s;
  written = λ ps. next w ps (reduces a b) (reduces a c) (h.written ps) (λ qs k i x.
      next w qs (reduces b c) (reduces a c) (g.written qs) (λ rs k j y. both rs i j (k i (reduces a b) x) y));
}
  where
    s : IsShaped (reduces a c)
    s = (h.shaped.0, g.shaped.1, λ z. let e : a ≡ b = h.shaped.2 z in e ∙ g.shaped.2 (subst IsFormer e z))

    both : (rs : List Claim) (i j : ℕ) → Stands rs i (reduces a b) → Stands rs j (reduces b c) → IsWritten w rs (reduces a c)
    both rs i j (inl e) y = subst (λ z. IsWritten w rs (reduces z c)) (sym e) (g.written rs)
    both rs i j (inr x) (inl e) = subst (λ z. IsWritten w rs (reduces a z)) e (h.written rs)
    both rs i j (inr x) (inr y) =
        last_reduct w rs chain_rule a c (i ∷ j ∷ []) s
        (go_on (reduction rs (i ∷ j ∷ [])) (record { left = a; right = b; after = j ∷ [] }) _ (reduction_there rs i (j ∷ []) a b x)
        (go_on (reduction rs (j ∷ [])) (record { left = b; right = c; after = [] }) _ (reduction_there rs j [] b c y)
        (go_test (is_same_tree a a && is_same_tree b b) _ (and_true (is_same_tree a a) (is_same_tree b b) (same_self a) (same_self b)) (comes_itself c))))

-- the one argument
pub one_argument : (f a : Tree) → arguments_over f (app f a) [] ≡ Some (a ∷ [])
one_argument f a = rw (same_self f) refl

pub can_head : (w : Place) (f g a : Tree) → CanWrite w (reduces f g) → IsWellFormed a → CanWrite w (reduces (app f a) (app g a))
can_head w f g a h fa = record {
  shaped = s;
  written = λ ps. next w ps (reduces f g) (reduces (app f a) (app g a)) (h.written ps) (λ qs k i x. under qs i x);
}
  where
    s : IsShaped (reduces (app f a) (app g a))
    s = ((h.shaped.0, fa), (h.shaped.1, fa), λ z. absurd z)

    under : (qs : List Claim) (i : ℕ) → Stands qs i (reduces f g) → IsWritten w qs (reduces (app f a) (app g a))
    under qs i (inl e) = no_reduction w qs (app f a) (app g a) (ap (λ z. app z a) e)
    under qs i (inr x) =
        last_reduct w qs head_rule (app f a) (app g a) (i ∷ []) s
        (go_on (reduction qs (i ∷ [])) (record { left = f; right = g; after = [] }) _ (reduction_there qs i [] f g x)
        (go_on (arguments_over f (app f a) []) (a ∷ []) _ (one_argument f a) (comes_itself (app g a))))

-- without arguments nothing is opened
no_more : (n : ℕ) (h : Tree) → beta n h [] ≡ h
no_more (suc n) (lam A b) = refl
no_more _ h = refl

beta_passes : (A b a : Tree) → passes (red_beta [] (app (lam A b) a) (opened b a)) ≡ true
unfolding head args
beta_passes A b a = subst (λ z. passes (comes_to (opened b a) z []) ≡ true) (sym (no_more (lambdas b) (opened b a))) (comes_itself (opened b a))

pub can_beta : (w : Place) (A b a : Tree) → IsWellFormed (app (lam A b) a) → CanWrite w (reduces (app (lam A b) a) (opened b a))
can_beta w A b a f =
    let s : IsShaped (reduces (app (lam A b) a) (opened b a)) = (f, open_fine 0 a b f.0.1 f.1, λ z. absurd z) in
    record { shaped = s; written = λ ps. last_reduct w ps beta_rule (app (lam A b) a) (opened b a) [] s (beta_passes A b a) }

zeta_passes : (A v b : Tree) → passes (red_zeta [] (let_in A v b) (opened b v)) ≡ true
unfolding head args
zeta_passes A v b = comes_itself (opened b v)

pub can_zeta : (w : Place) (A v b : Tree) → IsWellFormed (let_in A v b) → CanWrite w (reduces (let_in A v b) (opened b v))
can_zeta w A v b f =
    let s : IsShaped (reduces (let_in A v b) (opened b v)) = (f, open_fine 0 v b f.2 f.1, λ z. absurd z) in
    record { shaped = s; written = λ ps. last_reduct w ps zeta_rule (let_in A v b) (opened b v) [] s (zeta_passes A v b) }
