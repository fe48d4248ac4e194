-- What a step gives that goes on behind a line.
use Rattle.std.proofs.Common.{◌≡◌, ℕ, Bool, Option, None, ap, subst, ◌∙◌}
use Rattle.std.specs.Prelude.{Result, Ok, IfOk}
use Rattle.lk_tree.specs.Tree.{Tree}
use Rattle.lk_rulebook.specs.Place.{Place}
use Rattle.lk_questions.specs.Program.{Program}
use Rattle.lk_questions.specs.Erased.{truth, Steps, erased}
use Rattle.lk_questions.specs.Pairs.{Line, ◌or_else◌}
use Rattle.lk_store.specs.declared.memory.NoMemory.{NoMemory}
use Rattle.lk_store.specs.Contents.{Contents, tree_at}
use Rattle.lk_store.proofs.Extending.{Extends-trans}
use Rattle.lk_ask.specs.declared.next.Line as next
use Rattle.lk_ask.specs.declared.next.Next.{Next}
use Rattle.lk_ask.specs.Looks.{Basis, Sight}
use Rattle.lk_ask.specs.Gives.{Gives}
use Rattle.lk_ask.specs.Lines.{Rest, GivesLine}
use Rattle.lk_ask.proofs.Steps.{same_steps}
use Rattle.lk_lazy.specs.Lazies as lazies
use Rattle.lk_same.specs.Sames.{same_next}
use Rattle.lk_same.specs.Sheets.{SameSheet, IsKnownSameSheet}

module _ {S R B : Type 0} {contents : S → Contents} {rest : S → R} {sight : R → Sight B} where
  -- unfolding gave no answer
  pub behind_line : (old middle new : S) (line : Line) (p : Program Bool)
      (result : Result (Next ℕ (SameSheet ℕ)) NoMemory)
      → lazies.GivesLine contents rest sight old middle (Ok None) line
      → Gives IsKnownSameSheet same_next contents rest sight middle new result
      (erased (sight (rest middle)).basis.place truth (sight (rest middle)).last p)
      → Gives IsKnownSameSheet same_next contents rest sight old new result
      (erased (sight (rest old)).basis.place truth (sight (rest old)).last (line or_else p))
  behind_line old middle new line p result h k = same_steps (h.goes p) (record {
    keeps = Extends-trans (contents old) (contents middle) (contents new) h.keeps k.keeps;
    stays = k.stays ∙ h.stays;
    known = k.known;
    steps = subst (λ b. IfOk result (λ next.
        same_next b.place (tree_at (contents new)) (sight (rest new)).last next
        ≡ erased b.place truth (sight (rest middle)).last p)) h.stays k.steps;
  })

  -- the same, where the program is of two trees, which are what they were
  pub behind_trees : {old middle new : S} {line : Line}
      {result : Result (Next ℕ (SameSheet ℕ)) NoMemory} (p : Rest) (a b : ℕ)
      → tree_at (contents middle) a ≡ tree_at (contents old) a
      → tree_at (contents middle) b ≡ tree_at (contents old) b
      → lazies.GivesLine contents rest sight old middle (Ok None) line
      → Gives IsKnownSameSheet same_next contents rest sight middle new result
      (erased (sight (rest middle)).basis.place truth (sight (rest middle)).last
      (p (tree_at (contents middle) a) (tree_at (contents middle) b)))
      → Gives IsKnownSameSheet same_next contents rest sight old new result
      (erased (sight (rest old)).basis.place truth (sight (rest old)).last
      (line or_else p (tree_at (contents old) a) (tree_at (contents old) b)))
  behind_trees {old} {middle} {new} {line} {result} p a b left right h k =
      let m = tree_at (contents middle) in
      let t = tree_at (contents old) in
      let steps : Tree → Tree → Steps =
      λ x y. erased (sight (rest middle)).basis.place truth (sight (rest middle)).last (p x y) in
      behind_line old middle new line (p (t a) (t b)) result h
      (same_steps (ap (λ x. steps x (m b)) left ∙ ap (steps (t a)) right) k)

  -- what goes on with a line of another crate, where p comes behind it, is a step from before it
  pub line_then : {X : Type 0} {known : ℕ → X → Type 0}
      {line_of : Rest → Place → (ℕ → Tree) → Option ℕ → next.Line ℕ X → Steps}
      {old middle new : S} {line : next.Line ℕ X}
      {result : Result (Next ℕ (SameSheet ℕ)) NoMemory} {does : Rest → Steps} (p : Rest)
      → GivesLine known line_of contents rest sight old middle (Ok line) does
      → Gives IsKnownSameSheet same_next contents rest sight middle new result
      (line_of p (sight (rest middle)).basis.place (tree_at (contents middle))
      (sight (rest middle)).last line)
      → Gives IsKnownSameSheet same_next contents rest sight old new result (does p)
  line_then {X} {known} {line_of} {old} {middle} {new} {line} {result} {does} p h k =
      let t = tree_at (contents new) in
      let last = (sight (rest new)).last in
      let m = tree_at (contents middle) in
      let seen = (sight (rest middle)).last in
      let w = (sight (rest old)).basis.place in
      let P : Basis B → Type 0 = λ b. IfOk result (λ next. same_next b.place t last next
      ≡ line_of p b.place m seen line) in
      record {
        keeps = Extends-trans (contents old) (contents middle) (contents new) h.keeps k.keeps;
        stays = k.stays ∙ h.stays;
        known = k.known;
        steps = subst (λ y. IfOk result (λ next. same_next w t last next ≡ y)) (h.steps p)
            (subst P h.stays k.steps);
      }
