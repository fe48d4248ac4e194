-- What a program comes to that asks nothing does not hang on the last unit looked at before.
use Rattle.std.proofs.Common.{◌≡◌, ℕ, Option, Some, None, subst}
use Rattle.std.specs.Prelude.{Result, Ok, Err}
use Rattle.lk_tree.specs.declared.rule.Rule.{Rule}
use Rattle.lk_rulebook.specs.Place.{Place, Entry}
use Rattle.lk_questions.specs.Answer.{later}
use Rattle.lk_questions.specs.Program.{Program, done, refuse, ask, look}
use Rattle.lk_questions.specs.Settled.{comes, fails, settle_look, settle}
use Rattle.lk_ask.specs.declared.stop.Stop.TheVariants.{No}
use Rattle.lk_ask.specs.Settles.{settled_as}
use Rattle.lk_quot.specs.Units.{IsMet}

module _ {A : Type 0} (w : Place) where
  pub comes_anywhere : (t u last : Option ℕ) (v : A) (p : Program A) → settle w t p ≡ comes last v
      → (l : Option ℕ) × (settle w u p ≡ comes l v)
  comes_anywhere t u last v (done x) h = (u, cc)
  comes_anywhere t u last v (refuse r) h = absurd (cc)
  comes_anywhere t u last v (ask q k) h = absurd (cc)
  comes_anywhere t u last v (look r c k) h =
      at_entry (w.means c) (λ e. comes_anywhere (next t) (next u) last v (k e)) h
    where
      next : Option ℕ → Option ℕ
      next x = later x (Some (w.origin c))

      at_entry : (o : Option Entry) → ((e : Entry) → settle w (next t) (k e) ≡ comes last v
          → (l : Option ℕ) × (settle w (next u) (k e) ≡ comes l v))
          → settle_look r t o (w.origin c) (w.flaw c) (λ x e. settle w x (k e)) ≡ comes last v
          → (l : Option ℕ)
          × (settle_look r u o (w.origin c) (w.flaw c) (λ x e. settle w x (k e)) ≡ comes l v)
      at_entry None ih i = absurd (cc)
      at_entry (Some e) ih i = ih e i

  pub fails_anywhere : (t u : Option ℕ) (r : Rule) (p : Program A) → settle w t p ≡ fails r
      → settle w u p ≡ fails r
  fails_anywhere t u r (done x) h = absurd (cc)
  fails_anywhere t u r (refuse s) h = cc
  fails_anywhere t u r (ask q k) h = absurd (cc)
  fails_anywhere t u r (look s c k) h =
      at_entry (w.means c) (λ e. fails_anywhere (next t) (next u) r (k e)) h
    where
      next : Option ℕ → Option ℕ
      next x = later x (Some (w.origin c))

      at_entry : (o : Option Entry) → ((e : Entry) → settle w (next t) (k e) ≡ fails r
          → settle w (next u) (k e) ≡ fails r)
          → settle_look s t o (w.origin c) (w.flaw c) (λ x e. settle w x (k e)) ≡ fails r
          → settle_look s u o (w.origin c) (w.flaw c) (λ x e. settle w x (k e)) ≡ fails r
      at_entry None ih i = cc
      at_entry (Some e) ih i = ih e i

-- a program that was run after others, as it is by itself
module _ (w : Place) (t last : Option ℕ) (p : Program (Unit {0})) (r : Result (Unit {0}) Rule)
    (ran : settle w t p ≡ settled_as (λ u. tt) last r) where
  pub met : (u : Unit {0}) → r ≡ Ok u → IsMet (settle w None p) (Ok u)
  met u is = comes_anywhere w t None last u p
      (subst (λ s. settle w t p ≡ settled_as (λ x. x) last s) is ran)

  pub unmet : (rule : Rule) → r ≡ Err rule → IsMet (settle w None p) (Err (No rule))
  unmet rule is = fails_anywhere w t None rule p
      (subst (λ s. settle w t p ≡ settled_as (λ u. tt) last s) is ran)
