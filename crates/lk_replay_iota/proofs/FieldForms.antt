-- Projections of constructors.
use Rattle.std.proofs.Common.{◌≡◌, ℕ, ◌+◌, List, Option, Some, None, refl, sym, ap, ◌∙◌}
use Rattle.lk_tree.specs.Tree.{Name, Tree, proj}
use Rattle.lk_tree.specs.Spine.{head, args}
use Rattle.lk_rulebook.specs.Place.{Place}
use Rattle.lk_rulebook.specs.Claims.{Claim}
use Rattle.lk_questions.specs.Iota.{CtorApp}
use Rattle.lk_questions.specs.Strings.{text_to_ctor}
use Rattle.lk_questions.specs.Tests.{◌>>=◌, found}
use Rattle.lk_written.specs.Premises.{Left, reduced}
use Rattle.lk_written.specs.Reducing.{red_field}
use Rattle.lk_store.specs.Contents.{Contents, name_at}
use Rattle.lk_env.specs.StoredLibrary.{StoredLibrary}
use Rattle.lk_constructor.specs.declared.constructor.AppliedConstructor.{AppliedConstructor}
use Rattle.lk_constructor.specs.Applied.{IsAppliedIf}
use Rattle.lk_constructor.specs.Looking.{app_at}
use Rattle.lk_constructor.proofs.Applied.{some_applied, none_applied}
use Rattle.lk_premises.proofs.Binding.{bind_same}
use Rattle.lk_replay_iota.specs.Fields.{field_with, field_of, field_at, field_form}
use Rattle.lk_replay_iota.proofs.AtConstructor.{by_constructor}

module _ (w : Place) (S : Name) (i : ℕ) (b : Tree) where
  pub field_read : (ps : List Claim) (js : Left) (s : Tree) → red_field w ps js (proj S i s) b ≡ (reduced ps js s >>= λ m. field_form w m.1 S i m.0 b)
  field_read ps js s =
      bind_same (reduced ps js s) _ _
      (λ m. bind_same (found w (text_to_ctor m.0)) _ _
      (λ x. by_constructor w (args x) (λ n B t k. field_with m.1 t.name S (k.parameters + i) x b) (head x)))

  module _ (c : Contents) (l : StoredLibrary) (js : Left) (x : Tree) where
    pub field_found : (u : AppliedConstructor) → IsAppliedIf c l (args x) (Some u) (app_at w (head x) (args x))
        → field_at w js S i x b ≡ field_with js (name_at c u.inductive) S (u.parameters + i) x b
    field_found u h =
        let q = some_applied c l (args x) u (app_at w (head x) (args x)) h in
        ap (λ o. o >>= λ (k : CtorApp). field_of js S i x b k) q.1
        ∙ ap (λ y. field_with js y S (q.0.ctor.parameters + i) x b) (sym q.2.inductive_is)
        ∙ ap (λ n. field_with js (name_at c u.inductive) S (n + i) x b) (sym q.2.parameters_are)

    pub field_lost : IsAppliedIf c l (args x) None (app_at w (head x) (args x)) → field_at w js S i x b ≡ None
    field_lost h = ap (λ o. o >>= λ (k : CtorApp). field_of js S i x b k) (none_applied c l (args x) (app_at w (head x) (args x)) h)
