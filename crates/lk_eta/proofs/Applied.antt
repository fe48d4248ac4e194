-- What structure eta comes to, by what the head of the second tree is.
use Rattle.std.proofs.Common.{◌≡◌, ℕ, Bool, true, false, List, Option, Some, None, refl, sym, ap, ◌∙◌, if◌then◌else◌}
use Rattle.lk_tree.specs.Tree.{Name, Level, Tree, const}
use Rattle.lk_tree.specs.Spine.{head, args}
use Rattle.lk_tree.specs.declared.rule.Rule.TheVariants.{UnknownConstant}
use Rattle.lk_rulebook.specs.Place.{Place, Entry as PlainEntry, Kind, an_axiom, a_def, a_thm, an_opaque, a_quot, a_type, a_ctor, a_rec}
use Rattle.lk_questions.specs.Program.{Program, look, ◌>>=◌}
use Rattle.lk_questions.specs.Erased.{truth, erased}
use Rattle.lk_questions.specs.Iota.{ctor_app_by, ctor_app_of}
use Rattle.lk_questions.specs.Pairs.{Line, goes_on, ◌or_else◌}
use Rattle.lk_questions.specs.Eta.{eta_struct, by_structure_eta}
use Rattle.lk_env.specs.Lent.{constructor_in}
use Rattle.lk_eta.specs.Structures.{constructor_at, is_full, whole_line}

-- what a head means that was looked up
pub constructor_named : (w : Place) (x : Name) (ks : List Level) (g : PlainEntry) (h : Tree) → const x ks ≡ h → w.means x ≡ Some g → constructor_at w h ≡ constructor_in g.kind
constructor_named w x ks g h is means = ap (constructor_at w) (sym is) ∙ ap (λ (m : Option PlainEntry). elim m [ Some e ↦ constructor_in e.kind | None ↦ None ]) means

-- the head is looked up where it is a constant
pub structure_looks : (a b : Tree) (x : Name) (ks : List Level) (r : Program Bool) → const x ks ≡ head b
    → (by_structure_eta a b or_else r) ≡ look UnknownConstant x (λ g. eta_struct a b (ctor_app_by x ks (args b) g g.kind) or_else r)
structure_looks a b x ks r is = ap (λ h. (ctor_app_of h (args b) >>= λ k. eta_struct a b k) or_else r) (sym is)

module _ (a b : Tree) (x : Name) (ks : List Level) (g : PlainEntry) where
  by_test : Bool → Kind → Line
  by_test full k = if full then whole_line a b (constructor_in k) else goes_on

  by_kind : (k : Kind) → eta_struct a b (ctor_app_by x ks (args b) g k) ≡ by_test (is_full k (args b)) k
  unfolding by_test
  by_kind (a_ctor B t k) = refl
  by_kind an_axiom = refl
  by_kind (a_def h v) = refl
  by_kind (a_thm v) = refl
  by_kind (an_opaque v) = refl
  by_kind a_quot = refl
  by_kind (a_type B t) = refl
  by_kind (a_rec r) = refl

  module _ (k : Kind) (w : Place) (last : Option ℕ) (r : Program Bool) where
    -- it is a structure's constructor with all its arguments
    pub full_goes : is_full k (args b) ≡ true → constructor_at w (head b) ≡ constructor_in k
        → erased w truth last (whole_line a b (constructor_at w (head b)) or_else r) ≡ erased w truth last (eta_struct a b (ctor_app_by x ks (args b) g k) or_else r)
    unfolding by_test
    full_goes full at =
        ap (λ o. erased w truth last (whole_line a b o or_else r)) at
        ∙ ap (λ (l : Line). erased w truth last (l or_else r)) (sym (by_kind k ∙ ap (λ z. by_test z k) full))

    pub other_goes : is_full k (args b) ≡ false → erased w truth last r ≡ erased w truth last (eta_struct a b (ctor_app_by x ks (args b) g k) or_else r)
    unfolding by_test
    other_goes other = ap (λ (l : Line). erased w truth last (l or_else r)) (sym (by_kind k ∙ ap (λ z. by_test z k) other))
