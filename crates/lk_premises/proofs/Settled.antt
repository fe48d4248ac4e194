-- What a program that asks nothing comes to, and what is found of it.
use Rattle.std.proofs.Common.{◌≡◌, ℕ, Option, Some, None, refl}
use Rattle.lk_tree.specs.declared.rule.Rule.{Rule}
use Rattle.lk_rulebook.specs.Place.{Place, Entry}
use Rattle.lk_questions.specs.Program.{Program, done, refuse, ask, look}
use Rattle.lk_questions.specs.Answer.{later}
use Rattle.lk_questions.specs.Settled.{comes, fails, settle_look, settle}
use Rattle.lk_questions.specs.Tests.{◌>>=◌, found}

module _ {A : Type 0} (w : Place) where
  -- it comes to a value
  pub settled_found : (p : Program A) (t u : Option ℕ) (v : A) → settle w t p ≡ comes u v → found w p ≡ Some v
  settled_found (done x) t u v h = cc
  settled_found (refuse r) t u v h = absurd (cc)
  settled_found (ask q k) t u v h = absurd (cc)
  settled_found (look r c k) t u v h = go (w.means c) (λ e. settled_found (k e) (later t (Some (w.origin c))) u v) h
    where
      go : (o : Option Entry) → ((e : Entry) → settle w (later t (Some (w.origin c))) (k e) ≡ comes u v → found w (k e) ≡ Some v)
          → settle_look r t o (w.origin c) (w.flaw c) (λ y e. settle w y (k e)) ≡ comes u v → (o >>= λ g. found w (k g)) ≡ Some v
      go None f i = absurd (cc)
      go (Some e) f i = f e i

  -- it is refused
  pub failed_found : (p : Program A) (t : Option ℕ) (r : Rule) → settle w t p ≡ fails r → found w p ≡ None
  failed_found (done x) t r h = absurd (cc)
  failed_found (refuse x) t r h = refl
  failed_found (ask q k) t r h = absurd (cc)
  failed_found (look x c k) t r h = go (w.means c) (λ e. failed_found (k e) (later t (Some (w.origin c))) r) h
    where
      go : (o : Option Entry) → ((e : Entry) → settle w (later t (Some (w.origin c))) (k e) ≡ fails r → found w (k e) ≡ None)
          → settle_look x t o (w.origin c) (w.flaw c) (λ y e. settle w y (k e)) ≡ fails r → (o >>= λ g. found w (k g)) ≡ None
      go None f i = refl
      go (Some e) f i = f e i
