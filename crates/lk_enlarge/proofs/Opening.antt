-- A constructor's type past the parameters, one after another.
use Rattle.std.proofs.Common.{◌≡◌, ℕ, List, [], ◌∷◌, ◌++◌, length, map, refl, sym, ap, ◌∙◌, append_assoc}
use Rattle.std.proofs.lemmas.List.{map-append, append-nil}
use Rattle.lk_tree.specs.Tree.{Tree, var, sort, const, app, lam, pi, let_in, proj, lit, wide, str, local}
use Rattle.lk_tree.specs.Bind.{opened, close}
use Rattle.lk_tree.specs.declared.rule.Rule.{Rule}
use Rattle.lk_rulebook.specs.Place.{Place}
use Rattle.lk_questions.specs.Program.{Program, done, refuse, ◌>>=◌}
use Rattle.lk_ask.specs.declared.stop.Stop.{Stop}
use Rattle.lk_ask.specs.declared.stop.Stop.TheVariants.{No, Spent, NoMemory}
use Rattle.lk_declaration.specs.Courses.{Refuses}
use Rattle.lk_inductive.specs.Block.{domain}
use Rattle.lk_inductive.specs.Enlarged.{Aux, Setting}
use Rattle.lk_inductive.specs.Nested.{nest, nest_past}
use Rattle.lk_inductive.specs.Recursors.{number, pis}
use Rattle.lk_lists.proofs.Lists.{none_left}
use Rattle.lk_nested.specs.Findings.{found, finding, FindsNothing}
use Rattle.lk_auxiliary.proofs.Pasts.{bind_ext, bind_assoc, bind_done}
use Rattle.lk_nested.proofs.Thens.{then_found, bind_found}
use Rattle.lk_nested.specs.Joined.{nests}
use Rattle.lk_enlarge.specs.Opened.{past_local, past_locals, nests_past}

-- the parameters ps before e are, after these Locals, those of qs before r
abbrev pub LeadsPast : List Tree → Tree → List Tree → List Tree → Tree → Type 0
LeadsPast ps e taken qs r = past_locals ps e ≡ (past_locals qs r >>= λ t. done (taken ++ t.0, t.1))

after_one : List Tree → Tree × Tree → Program (List Tree × Tree)
after_one rest p = past_locals rest p.1 >>= λ t. done (p.0 ∷ t.0, t.1)

behind : List Tree → List Tree × Tree → Program (List Tree × Tree)
behind taken t = done (taken ++ t.0, t.1)

pub past_first : (ps : List Tree) (e : Tree) → LeadsPast ps e [] ps e
past_first ps e = sym (bind_done (past_locals ps e) (λ t. done ([] ++ t.0, t.1)) (λ t. refl))

module _ (ps : List Tree) (e : Tree) (taken qs : List Tree) (r : Tree) (so_far : LeadsPast ps e taken qs r) (P : Tree) (rest : List Tree) (split : qs ≡ P ∷ rest) where
  pub past_on : (pushed : List Tree) (L u : Tree) → pushed ≡ taken ++ L ∷ [] → past_local P r ≡ done (L, u) → LeadsPast ps e pushed rest u
  unfolding after_one behind
  past_on pushed L u push made =
      so_far
      ∙ ap (λ x. past_locals x r >>= λ t. done (taken ++ t.0, t.1)) split
      ∙ ap (λ p. p >>= after_one rest >>= behind taken) made
      ∙ bind_assoc (past_locals rest u) (λ t. done (L ∷ t.0, t.1)) (λ t. done (taken ++ t.0, t.1))
      ∙ bind_ext (past_locals rest u) (λ t. done (taken ++ L ∷ t.0, t.1)) (λ t. done (pushed ++ t.0, t.1))
      (λ t. ap (λ x. done (x, t.1)) (sym (ap (λ x. x ++ t.0) push ∙ append_assoc taken (L ∷ []) t.0)))

  pub past_refused : (rule : Rule) → past_local P r ≡ refuse rule → past_locals ps e ≡ refuse rule
  unfolding after_one behind
  past_refused rule made =
      so_far
      ∙ ap (λ x. past_locals x r >>= λ t. done (taken ++ t.0, t.1)) split
      ∙ ap (λ p. p >>= after_one rest >>= behind taken) made

pub past_end : (ps : List Tree) (e : Tree) (taken qs : List Tree) (r : Tree) → LeadsPast ps e taken qs r → qs ≡ [] → past_locals ps e ≡ done (taken, r)
past_end ps e taken qs r so_far none = so_far ∙ ap (λ x. past_locals x r >>= λ t. done (taken ++ t.0, t.1)) none ∙ ap (λ x. done (x, r)) (append-nil taken)

-- Pis over Locals, taken from the end
pis_append : (xs ys : List Tree) (e : Tree) → pis (xs ++ ys) e ≡ pis xs (pis ys e)
pis_append [] ys e = refl
pis_append (x ∷ xs) ys e = ap (λ b. pi (domain x) (close (number x) b)) (pis_append xs ys e)

pub pis_next : (f : ℕ → Tree) (left others : List ℕ) (x : ℕ) (m n whole : Tree) → left ≡ others ++ x ∷ []
    → n ≡ pi (domain (f x)) (close (number (f x)) m) → pis (map f left) m ≡ whole → pis (map f others) n ≡ whole
pis_next f left others x m n whole split is h =
    ap (pis (map f others)) is ∙ sym (pis_append (map f others) (f x ∷ []) m) ∙ ap (λ ys. pis ys m) (sym (map-append f others (x ∷ []))) ∙ ap (λ ys. pis (map f ys) m) (sym split) ∙ h

pub pis_end : (f : ℕ → Tree) (left : List ℕ) (m whole : Tree) → length left ≡ 0 → pis (map f left) m ≡ whole → m ≡ whole
pis_end f left m whole none h = ap (λ ys. pis ys m) (sym (none_left f left none)) ∙ h

-- a type is opened, walked, and closed again
module _ (s : Setting) (as_ : List Aux) where
  between : Tree → Tree → Tree × List Aux → Program (Tree × List Aux)
  between P A x = done (pi A (close (number P) x.0), x.1)

  closes : List Tree × Tree → Program (Tree × List Aux)
  closes t = nest s t.1 as_ >>= λ x. done (pis t.0 x.0, x.1)

  past_is : (ps : List Tree) (e : Tree) → nest_past s ps e as_ ≡ (past_locals ps e >>= closes)
  unfolding between closes
  past_is [] e = sym (bind_done (nest s e as_) (λ x. done (x.0, x.1)) (λ x. refl))
  past_is (P ∷ ps) (pi A B) =
      ap (λ p. p >>= between P A) (past_is ps (opened B P))
      ∙ bind_assoc (past_locals ps (opened B P)) closes (between P A)
      ∙ bind_ext (past_locals ps (opened B P)) (λ t. closes t >>= between P A) (λ t. closes (local (number P) A ∷ t.0, t.1))
      (λ t. bind_assoc (nest s t.1 as_) (λ x. done (pis t.0 x.0, x.1)) (between P A))
      ∙ sym (bind_assoc (past_locals ps (opened B P)) (λ t. done (local (number P) A ∷ t.0, t.1)) closes)
  past_is (P ∷ ps) (var i) = refl
  past_is (P ∷ ps) (sort l) = refl
  past_is (P ∷ ps) (const c ls) = refl
  past_is (P ∷ ps) (app f a) = refl
  past_is (P ∷ ps) (lam A b) = refl
  past_is (P ∷ ps) (let_in A v b) = refl
  past_is (P ∷ ps) (proj S i x) = refl
  past_is (P ∷ ps) (lit k) = refl
  past_is (P ∷ ps) wide = refl
  past_is (P ∷ ps) (str x) = refl
  past_is (P ∷ ps) (local k T) = refl

  module _ (w : Place) (e : Tree) where
    pub not_past : (stop : Stop) → Refuses (past_locals s.params e) stop → FindsNothing (nests_past w s e as_) stop
    unfolding closes
    not_past (No r) h = ap (finding w) (past_is s.params e ∙ ap (λ p. p >>= closes) h)
    not_past Spent h = absurd h
    not_past NoMemory h = tt

    module _ (Ls : List Tree) (r : Tree) (opens : past_locals s.params e ≡ done (Ls, r)) where
      past_then : nests_past w s e as_ ≡ then_found (nests w s r as_) (λ x. found (pis Ls x.0, x.1))
      unfolding closes
      past_then = ap (finding w) (past_is s.params e ∙ ap (λ p. p >>= closes) opens) ∙ bind_found w (nest s r as_) (λ x. done (pis Ls x.0, x.1))

      pub past_stops : (stop : Stop) → FindsNothing (nests w s r as_) stop → FindsNothing (nests_past w s e as_) stop
      past_stops (No x) h = past_then ∙ ap (λ f. then_found f (λ x. found (pis Ls x.0, x.1))) h
      past_stops Spent h = absurd h
      past_stops NoMemory h = tt

      pub past_found : (x : Tree × List Aux) → nests w s r as_ ≡ found x → nests_past w s e as_ ≡ found (pis Ls x.0, x.1)
      past_found x h = past_then ∙ ap (λ f. then_found f (λ x. found (pis Ls x.0, x.1))) h
