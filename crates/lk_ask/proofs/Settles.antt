-- A step behind a program that asks nothing and was run.
use Rattle.std.proofs.Common.{◌≡◌, ℕ, Option, sym, subst, ◌∙◌}
use Rattle.std.specs.Prelude.{Result, Ok, Err, IfOk}
use Rattle.lk_tree.specs.Tree.{Tree}
use Rattle.lk_tree.specs.declared.rule.Rule.{Rule}
use Rattle.lk_rulebook.specs.Place.{Place}
use Rattle.lk_questions.specs.Program.{Program, ◌>>=◌}
use Rattle.lk_questions.specs.Erased.{Value, Steps, refuses, erased, erased_then}
use Rattle.lk_questions.proofs.Settling as settling
use Rattle.lk_store.specs.declared.memory.NoMemory.{NoMemory}
use Rattle.lk_store.specs.Contents.{Contents, tree_at}
use Rattle.lk_store.proofs.Extending.{Extends-trans}
use Rattle.lk_ask.specs.declared.next.Next.{Next}
use Rattle.lk_ask.specs.declared.next.Next.TheVariants.{No}
use Rattle.lk_ask.specs.Looks.{Basis, Sight}
use Rattle.lk_ask.specs.Gives.{Gives}
use Rattle.lk_ask.specs.Settles.{Settles}

module _ {S R B X : Type 0} {known_sheet : ℕ → X → Type 0}
    {next_of : Place → (ℕ → Tree) → Option ℕ → Next ℕ X → Steps}
    {contents : S → Contents} {rest : S → R} {sight : R → Sight B} where
  -- the value is there, and this goes on with it
  pub behind : {A C D : Type 0} {old middle new : S} {result : Result (Next ℕ X) NoMemory}
      {is : Contents → A → C} {program : Contents → Program C} (f : D → Value)
      (k : C → Program D) (v : A) → Settles contents rest sight old middle (Ok (Ok v)) is program
      → Gives known_sheet next_of contents rest sight middle new result
      (erased (sight (rest middle)).basis.place f (sight (rest middle)).last
      (k (is (contents middle) v)))
      → Gives known_sheet next_of contents rest sight old new result
      (erased (sight (rest old)).basis.place f (sight (rest old)).last
      (program (contents old) >>= k))
  behind {A} {C} {D} {old} {middle} {new} {result} {is} {program} f k v s h =
      let now = contents new in
      let last = (sight (rest new)).last in
      let seen = (sight (rest middle)).last in
      let x = is (contents middle) v in
      let P : Basis B → Type 0 =
      λ b. IfOk result (λ next. next_of b.place (tree_at now) last next
      ≡ erased b.place f seen (k x)) in
      let w = (sight (rest old)).basis.place in
      record {
        keeps = Extends-trans (contents old) (contents middle) now s.keeps h.keeps;
        stays = h.stays ∙ s.stays;
        known = h.known;
        steps = subst (λ y. IfOk result (λ next. next_of w (tree_at now) last next ≡ y))
            (sym (settling.goes_on w f (sight (rest old)).last seen x (program (contents old)) k
            s.comes_to)) (subst P s.stays h.steps);
      }

  -- the program is refused
  pub refused_behind : {A C D : Type 0} {old new : S} {is : Contents → A → C}
      {program : Contents → Program C} (f : D → Value) (k : C → Program D) (r : Rule)
      → ((w : Place) (t : ℕ → Tree) (last : Option ℕ) → next_of w t last (No r) ≡ refuses r)
      → Settles contents rest sight old new (Ok (Err r)) is program
      → Gives known_sheet next_of contents rest sight old new (Ok (No r))
      (erased (sight (rest old)).basis.place f (sight (rest old)).last
      (program (contents old) >>= k))
  refused_behind {A} {C} {D} {old} {new} {is} {program} f k r is_no s =
      let w = (sight (rest old)).basis.place in
      record {
        keeps = s.keeps;
        stays = s.stays;
        known = tt;
        steps = is_no w (tree_at (contents new)) (sight (rest new)).last
            ∙ sym (settling.is_refused w f (sight (rest old)).last r (program (contents old)) k
            s.comes_to);
      }

  -- the same, where any steps go on with the value
  pub behind_then : {A C : Type 0} {old middle new : S} {result : Result (Next ℕ X) NoMemory}
      {is : Contents → A → C} {program : Contents → Program C} (k : Basis B → Option ℕ → C → Steps)
      (v : A) → Settles contents rest sight old middle (Ok (Ok v)) is program
      → Gives known_sheet next_of contents rest sight middle new result
      (k (sight (rest middle)).basis (sight (rest middle)).last (is (contents middle) v))
      → Gives known_sheet next_of contents rest sight old new result
      (erased_then (sight (rest old)).basis.place (k (sight (rest old)).basis)
      (sight (rest old)).last (program (contents old)))
  behind_then {A} {C} {old} {middle} {new} {result} {is} {program} k v s h =
      let now = contents new in
      let last = (sight (rest new)).last in
      let seen = (sight (rest middle)).last in
      let x = is (contents middle) v in
      let P : Basis B → Type 0 =
      λ b. IfOk result (λ next. next_of b.place (tree_at now) last next ≡ k b seen x) in
      let b = (sight (rest old)).basis in
      record {
        keeps = Extends-trans (contents old) (contents middle) now s.keeps h.keeps;
        stays = h.stays ∙ s.stays;
        known = h.known;
        steps = subst (λ y. IfOk result (λ next. next_of b.place (tree_at now) last next ≡ y))
            (sym (settling.goes_then b.place (k b) (sight (rest old)).last seen x
            (program (contents old)) s.comes_to)) (subst P s.stays h.steps);
      }

  pub refused_then : {A C : Type 0} {old new : S} {is : Contents → A → C}
      {program : Contents → Program C} (k : Basis B → Option ℕ → C → Steps) (r : Rule)
      → ((w : Place) (t : ℕ → Tree) (last : Option ℕ) → next_of w t last (No r) ≡ refuses r)
      → Settles contents rest sight old new (Ok (Err r)) is program
      → Gives known_sheet next_of contents rest sight old new (Ok (No r))
      (erased_then (sight (rest old)).basis.place (k (sight (rest old)).basis)
      (sight (rest old)).last (program (contents old)))
  refused_then {A} {C} {old} {new} {is} {program} k r is_no s =
      let b = (sight (rest old)).basis in
      record {
        keeps = s.keeps;
        stays = s.stays;
        known = tt;
        steps = is_no b.place (tree_at (contents new)) (sight (rest new)).last
            ∙ sym (settling.refused_then b.place (k b) (sight (rest old)).last r
            (program (contents old)) s.comes_to);
      }
