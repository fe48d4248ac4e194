-- The reduct that the first step of Core makes.
use Rattle.std.proofs.Common.{ℕ, ◌≡◌, Bool, true, false, Option, Some, Ok, Err, Result, refl, sym, subst, ap, ◌∙◌}
use Rattle.lk_tree.specs.Tree.{Name, Tree, app, proj, wide}
use Rattle.lk_rulebook.specs.Place.{Place}
use Rattle.lk_questions.specs.Query.{core}
use Rattle.lk_questions.specs.Program.{Program, ask, asked}
use Rattle.lk_questions.specs.Erased.{Steps, asks, a_tree, erased}
use Rattle.lk_store.specs.declared.memory.NoMemory.{NoMemory}
use Rattle.lk_store.specs.Contents.{Contents, tree_at, IsTree}
use Rattle.lk_store.proofs.Made.{Extends-self}
use Rattle.lk_ask.specs.declared.query.Query.TheVariants.{Core, Whnf, Infer, Same}
use Rattle.lk_ask.specs.declared.next.Next.{Next}
use Rattle.lk_ask.specs.declared.next.Next.TheVariants.{Ask, Done, No}
use Rattle.lk_ask.specs.Looks.{Sight}
use Rattle.lk_ask.specs.Gives.{Gives}
use Rattle.lk_core.specs.declared.core_form.CoreStep.{CoreStep}
use Rattle.lk_core.specs.declared.core_form.CoreStep.TheVariants.{Goes, Constant, Projection}
use Rattle.lk_core.specs.Sheets.{IsKnownCore}
use Rattle.lk_core.specs.Forms.{core_next, Begins}
use Rattle.lk_step.specs.Told.{Leaves}
use Rattle.lk_derive_reduce.specs.Forms.{IsApp, asked_core}

pub record Begun {S R B : Type 0} (contents : S → Contents) (rest : S → R) (sight : R → Sight B) (old new : S) (step : CoreStep) (x : Tree) : Type 0 where
  pub number : ℕ
  pub is : asked_core step ≡ Some number
  pub made : IsTree (contents new) number x

-- the tree whose Core is asked for
abbrev tree_asked : Steps → Tree
tree_asked (asks t (core e) k) = e
tree_asked _ = wide

abbrev asks_core : Steps → Bool
asks_core (asks t (core e) k) = true
asks_core _ = false

abbrev is_ask : Program Tree → Bool
is_ask (ask q k) = true
is_ask _ = false

no_app : (e : Tree) (S : Name) → IsApp e → (i : ℕ) (s : Tree) → e ≡ proj S i s → ⊥
no_app (app f a) S h i s e = absurd cc
no_app e S h i s q = absurd h

module _ {S R B : Type 0} (contents : S → Contents) (rest : S → R) (sight : R → Sight B) (old new : S) where
  pub begun : (step : CoreStep) (e : ℕ) (x : Tree) (p : Program Tree) → Begins contents rest sight old new (Ok step) e p → p ≡ asked (core x) → IsApp (tree_at (contents old) e) → Begun contents rest sight old new step x
  begun (Goes (Ask (Core r) s)) e x p h i a = record {
    number = r;
    is = refl;
    made = record { known = h.known.0; is = ap tree_asked h.steps ∙ ap (λ z. tree_asked (erased (sight (rest old)).basis.place a_tree (sight (rest old)).last z)) i };
  }
  begun (Goes (Ask (Whnf r) s)) e x p h i a =
      let q : false ≡ true = ap asks_core h.steps ∙ ap (λ z. asks_core (erased (sight (rest old)).basis.place a_tree (sight (rest old)).last z)) i in absurd cc
  begun (Goes (Ask (Infer r) s)) e x p h i a =
      let q : false ≡ true = ap asks_core h.steps ∙ ap (λ z. asks_core (erased (sight (rest old)).basis.place a_tree (sight (rest old)).last z)) i in absurd cc
  begun (Goes (Ask (Same r t) s)) e x p h i a =
      let q : false ≡ true = ap asks_core h.steps ∙ ap (λ z. asks_core (erased (sight (rest old)).basis.place a_tree (sight (rest old)).last z)) i in absurd cc
  begun (Goes (Done v)) e x p h i a =
      let q : false ≡ true = ap asks_core h.steps ∙ ap (λ z. asks_core (erased (sight (rest old)).basis.place a_tree (sight (rest old)).last z)) i in absurd cc
  begun (Goes (No r)) e x p h i a =
      let q : false ≡ true = ap asks_core h.steps ∙ ap (λ z. asks_core (erased (sight (rest old)).basis.place a_tree (sight (rest old)).last z)) i in absurd cc
  begun (Constant name levels) e x p h i a = let q : false ≡ true = ap is_ask (sym h.1.program_is ∙ i) in absurd cc
  begun (Projection subject) e x p h i a = absurd (no_app (tree_at (contents old) e) h.1.structure a h.1.field (tree_at (contents old) subject) h.1.is)

  stays_leaves : {X : Type 0} (known : ℕ → X → Type 0) (next_of : Place → (ℕ → Tree) → Option ℕ → Next ℕ X → Steps) (r : Result (Next ℕ X) NoMemory) (does : Steps) → Gives known next_of contents rest sight old new r does → Leaves contents rest sight old new
  stays_leaves known next_of r does h = record {
    keeps = h.keeps;
    library = ap (λ b. b.library) h.stays;
    place = ap (λ b. b.place) h.stays;
    beside = ap (λ b. b.beside) h.stays;
  }

  -- nothing is changed
  same_leaves : new ≡ old → Leaves contents rest sight old new
  same_leaves e = subst (λ z. Leaves contents rest sight old z) (sym e) (record { keeps = Extends-self (contents old); library = refl; place = refl; beside = refl })

  pub begins_leave : (r : Result CoreStep NoMemory) (e : ℕ) (p : Program Tree) → Begins contents rest sight old new r e p → Leaves contents rest sight old new
  begins_leave (Ok (Goes next)) e p h = stays_leaves IsKnownCore core_next (Ok next) _ h
  begins_leave (Ok (Constant name levels)) e p h = same_leaves h.0
  begins_leave (Ok (Projection subject)) e p h = same_leaves h.0
  begins_leave (Err error) e p h = stays_leaves IsKnownCore core_next (Err error) _ h
