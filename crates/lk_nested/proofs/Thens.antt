-- Findings one after another.
use Rattle.std.proofs.Common.{◌≡◌, Option, None, Some, refl, sym, ◌∙◌}
use Rattle.lk_tree.specs.declared.rule.Rule.{Rule}
use Rattle.lk_rulebook.specs.Place.{Place, Entry}
use Rattle.lk_questions.specs.Program.{Program, done, refuse, ask, look, ◌>>=◌}
use Rattle.lk_nested.specs.Findings.{Finding, found, refused, asking, looked, finding}

abbrev pub then_found : {A B : Type 0} → Finding A → (A → Finding B) → Finding B
then_found (found v) k = k v
then_found (refused r) k = refused r
then_found asking k = asking

looked_then : {A B : Type 0} (o : Option Entry) (flaw : Option Rule) (r : Rule) (k : Entry → Finding A) (l : A → Finding B) → then_found (looked o flaw r k) l ≡ looked o flaw r (λ e. then_found (k e) l)
looked_then None flaw r k l = refl
looked_then (Some e) flaw r k l = refl

looked_same : {A : Type 0} (o : Option Entry) (flaw : Option Rule) (r : Rule) (k l : Entry → Finding A) → ((e : Entry) → k e ≡ l e) → looked o flaw r k ≡ looked o flaw r l
looked_same None flaw r k l h = refl
looked_same (Some e) flaw r k l h = h e

-- a program and what comes next
pub bind_found : {A B : Type 0} (w : Place) (p : Program A) (f : A → Program B) → finding w (p >>= f) ≡ then_found (finding w p) (λ v. finding w (f v))
bind_found w (done v) f = refl
bind_found w (refuse r) f = refl
bind_found w (ask s g) f = refl
bind_found w (look r c g) f =
    looked_same (w.means c) (w.flaw c) r (λ e. finding w (g e >>= f)) (λ e. then_found (finding w (g e)) (λ v. finding w (f v))) (λ e. bind_found w (g e) f)
    ∙ sym (looked_then (w.means c) (w.flaw c) r (λ e. finding w (g e)) (λ v. finding w (f v)))

pub then_ext : {A B : Type 0} (x : Finding A) (k l : A → Finding B) → ((v : A) → x ≡ found v → k v ≡ l v) → then_found x k ≡ then_found x l
then_ext (found v) k l h = h v refl
then_ext (refused r) k l h = refl
then_ext asking k l h = refl

pub then_assoc : {A B C : Type 0} (x : Finding A) (k : A → Finding B) (l : B → Finding C) → then_found (then_found x k) l ≡ then_found x (λ v. then_found (k v) l)
then_assoc (found v) k l = refl
then_assoc (refused r) k l = refl
then_assoc asking k l = refl

-- a value comes of a value
pub came_of : {A B : Type 0} (x : Finding A) (k : A → Finding B) (v : B) → then_found x k ≡ found v → (u : A) × (x ≡ found u) × (k u ≡ found v)
came_of (found u) k v h = (u, refl, h)
came_of (refused r) k v h = absurd cc
came_of asking k v h = absurd cc
