-- Pis at the head of a type, one after another.
use Rattle.std.proofs.Common.{◌≡◌, ℕ, suc, List, [], ◌∷◌, ◌++◌, false, refl, sym, ap, ◌∙◌, append_assoc}
use Rattle.std.proofs.Math.Path.{fun_ext}
use Rattle.std.proofs.lemmas.List.{append-nil}
use Rattle.lk_tree.specs.Tree.{Tree, var, sort, const, app, lam, pi, let_in, proj, lit, wide, str, local}
use Rattle.lk_tree.specs.declared.rule.Rule.{Rule}
use Rattle.lk_questions.specs.Program.{Program, done, refuse, ask, look, ◌>>=◌}
use Rattle.lk_ask.specs.declared.stop.Stop.{Stop}
use Rattle.lk_ask.specs.declared.stop.Stop.TheVariants.{No, Spent, NoMemory}
use Rattle.lk_declaration.specs.Courses.{Refuses}
use Rattle.lk_inductive.specs.Nested.{has_pis, past_pis, stated_pis}
use Rattle.lk_mentions.specs.Pis.{is_pi}
use Rattle.lk_auxiliary.specs.Past.{past_pi, stated_pi}

-- where the one refuses, the other does
pub refuses_too : {A B : Type 0} (p : Program A) (q : Program B) (stop : Stop) → ((r : Rule) → p ≡ refuse r → q ≡ refuse r) → Refuses p stop → Refuses q stop
refuses_too p q (No r) h i = h r i
refuses_too p q Spent h i = absurd i
refuses_too p q NoMemory h i = tt

pub no_pis : (n : ℕ) (e : Tree) → is_pi e ≡ false → has_pis (suc n) e ≡ false
no_pis n (pi A B) h = absurd cc
no_pis n (var i) h = refl
no_pis n (sort l) h = refl
no_pis n (const c ls) h = refl
no_pis n (app f a) h = refl
no_pis n (lam A b) h = refl
no_pis n (let_in A v b) h = refl
no_pis n (proj S i s) h = refl
no_pis n (lit k) h = refl
no_pis n wide h = refl
no_pis n (str s) h = refl
no_pis n (local k T) h = refl

-- one value is put in, and then the others
pub past_next : (x : Tree) (xs : List Tree) (e u : Tree) → past_pi x e ≡ done u → past_pis (x ∷ xs) e ≡ past_pis xs u
past_next x xs (pi A B) u h = ap (λ (p : Program Tree). elim p as (λ q. Program Tree) [ done v ↦ past_pis xs v | refuse r ↦ refuse r | ask q k ↦ done u | look r c k ↦ done u ]) h
past_next x xs (var i) u h = absurd cc
past_next x xs (sort l) u h = absurd cc
past_next x xs (const c ls) u h = absurd cc
past_next x xs (app f a) u h = absurd cc
past_next x xs (lam A b) u h = absurd cc
past_next x xs (let_in A v b) u h = absurd cc
past_next x xs (proj S i s) u h = absurd cc
past_next x xs (lit k) u h = absurd cc
past_next x xs wide u h = absurd cc
past_next x xs (str s) u h = absurd cc
past_next x xs (local k T) u h = absurd cc

pub past_stops : (x : Tree) (xs : List Tree) (e : Tree) (r : Rule) → past_pi x e ≡ refuse r → past_pis (x ∷ xs) e ≡ refuse r
past_stops x xs (pi A B) r h = absurd cc
past_stops x xs (var i) r h = cc
past_stops x xs (sort l) r h = cc
past_stops x xs (const c ls) r h = cc
past_stops x xs (app f a) r h = cc
past_stops x xs (lam A b) r h = cc
past_stops x xs (let_in A v b) r h = cc
past_stops x xs (proj S i s) r h = cc
past_stops x xs (lit k) r h = cc
past_stops x xs wide r h = cc
past_stops x xs (str s) r h = cc
past_stops x xs (local k T) r h = cc

-- one Pi is opened, and then the others
pub stated_next : (j n : ℕ) (e : Tree) (p : Tree × Tree) → stated_pi j e ≡ done p → stated_pis j (suc n) e ≡ (stated_pis (suc j) n p.1 >>= λ t. done (p.0 ∷ t.0, t.1))
stated_next j n (pi A B) p h = ap (λ (q : Program (Tree × Tree)). elim q as (λ q. Program (List Tree × Tree)) [ done v ↦ stated_pis (suc j) n v.1 >>= (λ t. done (v.0 ∷ t.0, t.1)) | refuse r ↦ refuse r | ask s k ↦ done ([], A) | look r c k ↦ done ([], A) ]) h
stated_next j n (var i) p h = absurd cc
stated_next j n (sort l) p h = absurd cc
stated_next j n (const c ls) p h = absurd cc
stated_next j n (app f a) p h = absurd cc
stated_next j n (lam A b) p h = absurd cc
stated_next j n (let_in A v b) p h = absurd cc
stated_next j n (proj S i s) p h = absurd cc
stated_next j n (lit k) p h = absurd cc
stated_next j n wide p h = absurd cc
stated_next j n (str s) p h = absurd cc
stated_next j n (local k T) p h = absurd cc

pub stated_stops : (j n : ℕ) (e : Tree) (r : Rule) → stated_pi j e ≡ refuse r → stated_pis j (suc n) e ≡ refuse r
stated_stops j n (pi A B) r h = absurd cc
stated_stops j n (var i) r h = cc
stated_stops j n (sort l) r h = cc
stated_stops j n (const c ls) r h = cc
stated_stops j n (app f a) r h = cc
stated_stops j n (lam A b) r h = cc
stated_stops j n (let_in A v b) r h = cc
stated_stops j n (proj S i s) r h = cc
stated_stops j n (lit k) r h = cc
stated_stops j n wide r h = cc
stated_stops j n (str s) r h = cc
stated_stops j n (local k T) r h = cc

-- n Pis from number j on are, after these Locals, m Pis from number i on
abbrev pub LeadsStated : ℕ → ℕ → Tree → List Tree → ℕ → ℕ → Tree → Type 0
LeadsStated j n r ps i m s = stated_pis j n r ≡ (stated_pis i m s >>= λ t. done (ps ++ t.0, t.1))

pub bind_ext : {A B : Type 0} (p : Program A) (f g : A → Program B) → ((v : A) → f v ≡ g v) → (p >>= f) ≡ (p >>= g)
bind_ext p f g h = ap (λ k. p >>= k) (fun_ext h)

pub bind_assoc : {A B C : Type 0} (p : Program A) (f : A → Program B) (g : B → Program C) → (p >>= f >>= g) ≡ (p >>= λ v. f v >>= g)
bind_assoc (done v) f g = refl
bind_assoc (refuse r) f g = refl
bind_assoc (ask q k) f g = ap (ask q) (fun_ext (λ v. bind_assoc (k v) f g))
bind_assoc (look r c k) f g = ap (look r c) (fun_ext (λ e. bind_assoc (k e) f g))

pub bind_done : {A : Type 0} (p : Program A) (f : A → Program A) → ((v : A) → f v ≡ done v) → (p >>= f) ≡ p
bind_done (done v) f h = h v
bind_done (refuse r) f h = refl
bind_done (ask q k) f h = ap (ask q) (fun_ext (λ v. bind_done (k v) f h))
bind_done (look r c k) f h = ap (look r c) (fun_ext (λ e. bind_done (k e) f h))

pub stated_first : (j n : ℕ) (r : Tree) → LeadsStated j n r [] j n r
stated_first j n r = sym (bind_done (stated_pis j n r) (λ t. done ([] ++ t.0, t.1)) (λ t. refl))

module _ (j n : ℕ) (r : Tree) (ps : List Tree) (i m : ℕ) (s : Tree) (so_far : LeadsStated j n r ps i m s) where
  pub stated_leads : (qs : List Tree) (h l : ℕ) (L u : Tree) → m ≡ suc l → h ≡ suc i → qs ≡ ps ++ L ∷ [] → stated_pi i s ≡ done (L, u) → LeadsStated j n r qs h l u
  stated_leads qs h l L u one next more opened =
      so_far
      ∙ ap (λ k. stated_pis i k s >>= λ t. done (ps ++ t.0, t.1)) one
      ∙ ap (λ p. p >>= λ t. done (ps ++ t.0, t.1)) (stated_next i l s (L, u) opened)
      ∙ bind_assoc (stated_pis (suc i) l u) (λ t. done (L ∷ t.0, t.1)) (λ t. done (ps ++ t.0, t.1))
      ∙ ap (λ k. stated_pis k l u >>= λ t. done (ps ++ L ∷ t.0, t.1)) (sym next)
      ∙ bind_ext (stated_pis h l u) (λ t. done (ps ++ L ∷ t.0, t.1)) (λ t. done (qs ++ t.0, t.1))
      (λ t. ap (λ x. done (x, t.1)) (sym (ap (λ x. x ++ t.0) more ∙ append_assoc ps (L ∷ []) t.0)))

  pub stated_refused : (l : ℕ) (rule : Rule) → m ≡ suc l → stated_pi i s ≡ refuse rule → stated_pis j n r ≡ refuse rule
  stated_refused l rule one opened =
      so_far
      ∙ ap (λ k. stated_pis i k s >>= λ t. done (ps ++ t.0, t.1)) one
      ∙ ap (λ p. p >>= λ t. done (ps ++ t.0, t.1)) (stated_stops i l s rule opened)

  pub stated_end : m ≡ 0 → stated_pis j n r ≡ done (ps, s)
  stated_end none = so_far ∙ ap (λ k. stated_pis i k s >>= λ t. done (ps ++ t.0, t.1)) none ∙ ap (λ x. done (x, s)) (append-nil ps)
