-- A program that asks nothing, and whatever goes on with its value.
use Rattle.std.proofs.Common.{◌≡◌, ℕ, Option, Some, None}
use Rattle.lk_tree.specs.declared.rule.Rule.{Rule}
use Rattle.lk_rulebook.specs.Place.{Place, Entry}
use Rattle.lk_questions.specs.Answer.{later}
use Rattle.lk_questions.specs.Program.{Program, done, refuse, ask, look, ◌>>=◌}
use Rattle.lk_questions.specs.Erased.{Value, Steps, refuses, looked, erased, erased_then}
use Rattle.lk_questions.specs.Settled.{comes, fails, settle_look, settle}

module _ (w : Place) where
  -- a step that goes on with the value
  pub goes_then : {R : Type 0} (k : Option ℕ → R → Steps) (t u : Option ℕ) (v : R) (p : Program R)
      → settle w t p ≡ comes u v → erased_then w k t p ≡ k u v
  goes_then k t u v (done x) h = cc
  goes_then k t u v (refuse r) h = absurd (cc)
  goes_then k t u v (ask q g) h = absurd (cc)
  goes_then k t u v (look r c g) h = at_entry (w.means c) (λ e. goes_then k (later t (Some (w.origin c))) u v (g e)) h
    where
      at_entry : (o : Option Entry) → ((e : Entry) → settle w (later t (Some (w.origin c))) (g e) ≡ comes u v
          → erased_then w k (later t (Some (w.origin c))) (g e) ≡ k u v)
          → settle_look r t o (w.origin c) (w.flaw c) (λ x e. settle w x (g e)) ≡ comes u v
          → looked r t o (w.origin c) (w.flaw c) (λ x e. erased_then w k x (g e)) ≡ k u v
      at_entry None ih i = absurd (cc)
      at_entry (Some e) ih i = ih e i

  pub refused_then : {R : Type 0} (k : Option ℕ → R → Steps) (t : Option ℕ) (r : Rule) (p : Program R)
      → settle w t p ≡ fails r → erased_then w k t p ≡ refuses r
  refused_then k t r (done x) h = absurd (cc)
  refused_then k t r (refuse s) h = cc
  refused_then k t r (ask q g) h = absurd (cc)
  refused_then k t r (look s c g) h = at_entry (w.means c) (λ e. refused_then k (later t (Some (w.origin c))) r (g e)) h
    where
      at_entry : (o : Option Entry) → ((e : Entry) → settle w (later t (Some (w.origin c))) (g e) ≡ fails r
          → erased_then w k (later t (Some (w.origin c))) (g e) ≡ refuses r)
          → settle_look s t o (w.origin c) (w.flaw c) (λ x e. settle w x (g e)) ≡ fails r
          → looked s t o (w.origin c) (w.flaw c) (λ x e. erased_then w k x (g e)) ≡ refuses r
      at_entry None ih i = cc
      at_entry (Some e) ih i = ih e i

  -- a program that goes on with the value
  pub goes_on : {R A : Type 0} (f : A → Value) (t u : Option ℕ) (v : R) (p : Program R) (k : R → Program A)
      → settle w t p ≡ comes u v → erased w f t (p >>= k) ≡ erased w f u (k v)
  goes_on f t u v (done x) k h = cc
  goes_on f t u v (refuse r) k h = absurd (cc)
  goes_on f t u v (ask q g) k h = absurd (cc)
  goes_on f t u v (look r c g) k h = at_entry (w.means c) (λ e. goes_on f (later t (Some (w.origin c))) u v (g e) k) h
    where
      at_entry : (o : Option Entry) → ((e : Entry) → settle w (later t (Some (w.origin c))) (g e) ≡ comes u v
          → erased w f (later t (Some (w.origin c))) (g e >>= k) ≡ erased w f u (k v))
          → settle_look r t o (w.origin c) (w.flaw c) (λ x e. settle w x (g e)) ≡ comes u v
          → looked r t o (w.origin c) (w.flaw c) (λ x e. erased w f x (g e >>= k)) ≡ erased w f u (k v)
      at_entry None ih i = absurd (cc)
      at_entry (Some e) ih i = ih e i

  pub is_refused : {R A : Type 0} (f : A → Value) (t : Option ℕ) (r : Rule) (p : Program R) (k : R → Program A)
      → settle w t p ≡ fails r → erased w f t (p >>= k) ≡ refuses r
  is_refused f t r (done x) k h = absurd (cc)
  is_refused f t r (refuse s) k h = cc
  is_refused f t r (ask q g) k h = absurd (cc)
  is_refused f t r (look s c g) k h = at_entry (w.means c) (λ e. is_refused f (later t (Some (w.origin c))) r (g e) k) h
    where
      at_entry : (o : Option Entry) → ((e : Entry) → settle w (later t (Some (w.origin c))) (g e) ≡ fails r
          → erased w f (later t (Some (w.origin c))) (g e >>= k) ≡ refuses r)
          → settle_look s t o (w.origin c) (w.flaw c) (λ x e. settle w x (g e)) ≡ fails r
          → looked s t o (w.origin c) (w.flaw c) (λ x e. erased w f x (g e >>= k)) ≡ refuses r
      at_entry None ih i = cc
      at_entry (Some e) ih i = ih e i

  -- one such program behind another
  pub settle_on : {R A : Type 0} (t u : Option ℕ) (v : R) (p : Program R) (k : R → Program A)
      → settle w t p ≡ comes u v → settle w t (p >>= k) ≡ settle w u (k v)
  settle_on t u v (done x) k h = cc
  settle_on t u v (refuse r) k h = absurd (cc)
  settle_on t u v (ask q g) k h = absurd (cc)
  settle_on t u v (look r c g) k h = at_entry (w.means c) (λ e. settle_on (later t (Some (w.origin c))) u v (g e) k) h
    where
      at_entry : (o : Option Entry) → ((e : Entry) → settle w (later t (Some (w.origin c))) (g e) ≡ comes u v
          → settle w (later t (Some (w.origin c))) (g e >>= k) ≡ settle w u (k v))
          → settle_look r t o (w.origin c) (w.flaw c) (λ x e. settle w x (g e)) ≡ comes u v
          → settle_look r t o (w.origin c) (w.flaw c) (λ x e. settle w x (g e >>= k)) ≡ settle w u (k v)
      at_entry None ih i = absurd (cc)
      at_entry (Some e) ih i = ih e i

  pub settle_no : {R A : Type 0} (t : Option ℕ) (r : Rule) (p : Program R) (k : R → Program A)
      → settle w t p ≡ fails r → settle w t (p >>= k) ≡ fails r
  settle_no t r (done x) k h = absurd (cc)
  settle_no t r (refuse s) k h = cc
  settle_no t r (ask q g) k h = absurd (cc)
  settle_no t r (look s c g) k h = at_entry (w.means c) (λ e. settle_no (later t (Some (w.origin c))) r (g e) k) h
    where
      at_entry : (o : Option Entry) → ((e : Entry) → settle w (later t (Some (w.origin c))) (g e) ≡ fails r
          → settle w (later t (Some (w.origin c))) (g e >>= k) ≡ fails r)
          → settle_look s t o (w.origin c) (w.flaw c) (λ x e. settle w x (g e)) ≡ fails r
          → settle_look s t o (w.origin c) (w.flaw c) (λ x e. settle w x (g e >>= k)) ≡ fails r
      at_entry None ih i = cc
      at_entry (Some e) ih i = ih e i
