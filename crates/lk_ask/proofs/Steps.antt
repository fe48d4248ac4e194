-- What one step gives, told in other words, of an earlier state, or at once.
use Rattle.std.proofs.Common.{◌≡◌, ℕ, Option, refl, sym, ap, subst, ◌∙◌, length}
use Rattle.std.specs.Prelude.{Result, Ok, IfOk}
use Rattle.lk_tree.specs.Tree.{Tree}
use Rattle.lk_rulebook.specs.Place.{Place}
use Rattle.lk_questions.specs.Erased.{Steps}
use Rattle.lk_store.specs.declared.memory.NoMemory.{NoMemory}
use Rattle.lk_store.specs.Contents.{Contents, tree_at, Extends}
use Rattle.lk_store.proofs.Extending.{Extends-trans}
use Rattle.lk_store.proofs.Made.{Extends-self}
use Rattle.lk_ask.specs.declared.next.Next.{Next}
use Rattle.lk_ask.specs.Looks.{Basis, Sight}
use Rattle.lk_ask.specs.Gives.{Gives, Wraps}
use Rattle.lk_ask.specs.Nexts.{IsKnownNext}

-- what holds before a look-up holds after it
pub carried : {B : Type 0} {k l : Contents} {b c : Basis B} (P : Contents → Basis B → Type 0)
    → l ≡ k → c ≡ b → P k b → P l c
carried {B} {k} {l} {b} {c} P same stays h =
    subst (λ m. P m c) (sym same) (subst (P k) (sym stays) h)

module _ {S R B X : Type 0} {known_sheet : ℕ → X → Type 0}
    {next_of : Place → (ℕ → Tree) → Option ℕ → Next ℕ X → Steps}
    {contents : S → Contents} {rest : S → R} {sight : R → Sight B} where
  -- equal steps
  pub same_steps : {old new : S} {result : Result (Next ℕ X) NoMemory} {d e : Steps} → d ≡ e
      → Gives known_sheet next_of contents rest sight old new result d
      → Gives known_sheet next_of contents rest sight old new result e
  same_steps {old} {new} {result} is h =
      subst (Gives known_sheet next_of contents rest sight old new result) is h

  -- a step after a look-up, which changes no more than the last unit, is one from before it
  pub after_look : {old middle new : S} {result : Result (Next ℕ X) NoMemory}
      (does : Contents → Basis B → Steps) → contents middle ≡ contents old
      → (sight (rest middle)).basis ≡ (sight (rest old)).basis
      → Gives known_sheet next_of contents rest sight middle new result
      (does (contents middle) (sight (rest middle)).basis)
      → Gives known_sheet next_of contents rest sight old new result
      (does (contents old) (sight (rest old)).basis)
  after_look {old} {middle} {new} {result} does same stays h =
      let now = contents new in
      let last = (sight (rest new)).last in
      let P : Contents → Basis B → Type 0 =
      λ k b. IfOk result (λ next. next_of b.place (tree_at now) last next ≡ does k b) in
      record {
        keeps = subst (λ k. Extends k now) same h.keeps;
        stays = h.stays ∙ stays;
        known = h.known;
        steps = subst (P (contents old)) stays
            (subst (λ k. P k (sight (rest middle)).basis) same h.steps);
      }

  -- a step after terms were made is one from before that
  pub after_making : {old middle new : S} {result : Result (Next ℕ X) NoMemory}
      (does : Sight B → Steps) → Extends (contents old) (contents middle) → rest middle ≡ rest old
      → Gives known_sheet next_of contents rest sight middle new result (does (sight (rest middle)))
      → Gives known_sheet next_of contents rest sight old new result (does (sight (rest old)))
  after_making {old} {middle} {new} {result} does keeps same h = record {
    keeps = Extends-trans (contents old) (contents middle) (contents new) keeps h.keeps;
    stays = h.stays ∙ ap (λ r. (sight r).basis) same;
    known = h.known;
    steps = subst (λ r. IfOk result (λ next. next_of (sight r).basis.place
        (tree_at (contents new)) (sight (rest new)).last next ≡ does (sight r))) same h.steps;
  }

  -- what is there at once, after a look-up
  pub looked_once : (old new : S) (next : Next ℕ X) (does : Steps)
      → contents new ≡ contents old → (sight (rest new)).basis ≡ (sight (rest old)).basis
      → IsKnownNext known_sheet (length (contents old).trees) next
      → next_of (sight (rest old)).basis.place (tree_at (contents old)) (sight (rest new)).last
      next ≡ does
      → Gives known_sheet next_of contents rest sight old new (Ok next) does
  looked_once old new next does same stays known comes = record {
    keeps = subst (λ c. Extends (contents old) c) (sym same) (Extends-self (contents old));
    stays = stays;
    known = subst (λ c. IsKnownNext known_sheet (length c.trees) next) (sym same) known;
    steps = subst (λ c. next_of (sight (rest old)).basis.place (tree_at c)
        (sight (rest new)).last next ≡ does) (sym same) comes;
  }

  -- what is there at once
  pub gives_now : (s : S) (next : Next ℕ X) (does : Steps)
      → IsKnownNext known_sheet (length (contents s).trees) next
      → next_of (sight (rest s)).basis.place (tree_at (contents s)) (sight (rest s)).last next
      ≡ does
      → Gives known_sheet next_of contents rest sight s s (Ok next) does
  gives_now s next does known comes = looked_once s s next does refl refl known comes

-- what a crate's step gives, told as a step of a crate above it
pub wrapped : {S R B X Y : Type 0} {known_sheet : ℕ → X → Type 0}
    {next_in : Place → (ℕ → Tree) → Option ℕ → Next ℕ X → Steps} {known_above : ℕ → Y → Type 0}
    {next_above : Place → (ℕ → Tree) → Option ℕ → Next ℕ Y → Steps}
    {contents : S → Contents} {rest : S → R} {sight : R → Sight B} {old new : S}
    {next : Next ℕ X} {above : Next ℕ Y} {does : Steps}
    → Wraps known_sheet next_in known_above next_above next above
    → Gives known_sheet next_in contents rest sight old new (Ok next) does
    → Gives known_above next_above contents rest sight old new (Ok above) does
wrapped w h = record {
  keeps = h.keeps;
  stays = h.stays;
  known = w.known _ h.known;
  steps = w.steps _ _ _ ∙ h.steps;
}
