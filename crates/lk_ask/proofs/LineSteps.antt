-- What one step of a line gives, told in other words, of an earlier state, at once, or by a line above it.
use Rattle.std.proofs.Common.{◌≡◌, ℕ, Option, refl, ap, subst, ◌∙◌, length}
use Rattle.std.specs.Prelude.{Result, Ok, Err, IfOk}
use Rattle.lk_tree.specs.Tree.{Tree}
use Rattle.lk_rulebook.specs.Place.{Place}
use Rattle.lk_questions.specs.Erased.{Steps}
use Rattle.lk_store.specs.declared.memory.NoMemory.{NoMemory}
use Rattle.lk_store.specs.Contents.{Contents, tree_at, Extends}
use Rattle.lk_store.proofs.Extending.{Extends-trans}
use Rattle.lk_store.proofs.Made.{Extends-self}
use Rattle.lk_ask.specs.declared.next.Line.{Line}
use Rattle.lk_ask.specs.Lines.{Rest, IsKnownLine, GivesLine}
use Rattle.lk_ask.specs.Looks.{Basis, Sight}

-- equal steps, of a result that is there
ok_line : {X : Type 0} (f : Line ℕ X → Rest → Steps) (r : Result (Line ℕ X) NoMemory) (d e : Rest → Steps) → ((p : Rest) → d p ≡ e p)
    → IfOk r (λ line. (p : Rest) → f line p ≡ d p) → IfOk r (λ line. (p : Rest) → f line p ≡ e p)
ok_line f (Ok line) d e is h = λ p. h p ∙ is p
ok_line f (Err m) d e is h = tt

module _ {S R B X : Type 0} {known_sheet : ℕ → X → Type 0}
    {line_of : Rest → Place → (ℕ → Tree) → Option ℕ → Line ℕ X → Steps}
    {contents : S → Contents} {rest : S → R} {sight : R → Sight B} where
  -- equal steps
  pub same_line : {old new : S} {result : Result (Line ℕ X) NoMemory} {d e : Rest → Steps}
      → ((p : Rest) → d p ≡ e p)
      → GivesLine known_sheet line_of contents rest sight old new result d
      → GivesLine known_sheet line_of contents rest sight old new result e
  same_line {old} {new} {result} {d} {e} is h = record {
    keeps = h.keeps;
    stays = h.stays;
    known = h.known;
    steps = ok_line (λ line p. line_of p (sight (rest old)).basis.place (tree_at (contents new))
        (sight (rest new)).last line) result d e is h.steps;
  }

  -- a step after a look-up, which changes no more than the last unit, is one from before it
  pub after_looking : {old middle new : S} {result : Result (Line ℕ X) NoMemory}
      (does : Contents → Basis B → Rest → Steps) → contents middle ≡ contents old
      → (sight (rest middle)).basis ≡ (sight (rest old)).basis
      → GivesLine known_sheet line_of contents rest sight middle new result
      (does (contents middle) (sight (rest middle)).basis)
      → GivesLine known_sheet line_of contents rest sight old new result
      (does (contents old) (sight (rest old)).basis)
  after_looking {old} {middle} {new} {result} does same stays h =
      let now = contents new in
      let last = (sight (rest new)).last in
      let P : Contents → Basis B → Type 0 =
      λ k b. IfOk result (λ line. (p : Rest) → line_of p b.place (tree_at now) last line
      ≡ does k b p) in
      record {
        keeps = subst (λ k. Extends k now) same h.keeps;
        stays = h.stays ∙ stays;
        known = h.known;
        steps = subst (P (contents old)) stays
            (subst (λ k. P k (sight (rest middle)).basis) same h.steps);
      }

  -- what is there at once
  pub line_now : (s : S) (line : Line ℕ X) (does : Rest → Steps)
      → IsKnownLine known_sheet (length (contents s).trees) line
      → ((p : Rest) → line_of p (sight (rest s)).basis.place (tree_at (contents s))
      (sight (rest s)).last line ≡ does p)
      → GivesLine known_sheet line_of contents rest sight s s (Ok line) does
  line_now s line does known comes = record {
    keeps = Extends-self (contents s);
    stays = refl;
    known = known;
    steps = comes;
  }

  -- the same, after terms were made
  pub made_now : (old new : S) (line : Line ℕ X) (does : Rest → Steps)
      → Extends (contents old) (contents new) → rest new ≡ rest old
      → IsKnownLine known_sheet (length (contents new).trees) line
      → ((p : Rest) → line_of p (sight (rest old)).basis.place (tree_at (contents new))
      (sight (rest old)).last line ≡ does p)
      → GivesLine known_sheet line_of contents rest sight old new (Ok line) does
  made_now old new line does keeps same known comes = record {
    keeps = keeps;
    stays = ap (λ r. (sight r).basis) same;
    known = known;
    steps = λ p. ap (λ r. line_of p (sight (rest old)).basis.place (tree_at (contents new))
        (sight r).last line) same ∙ comes p;
  }

-- a line behind which another one stands
module _ {S R B X Y : Type 0} {known_sheet : ℕ → X → Type 0}
    {line_in : Rest → Place → (ℕ → Tree) → Option ℕ → Line ℕ X → Steps}
    {known_above : ℕ → Y → Type 0}
    {line_above : Rest → Place → (ℕ → Tree) → Option ℕ → Line ℕ Y → Steps}
    {contents : S → Contents} {rest : S → R} {sight : R → Sight B} where
  -- both in one step
  pub line_wrapped : {old new : S} {line : Line ℕ X} {above : Line ℕ Y} {does : Rest → Steps}
      (behind : Rest → Rest)
      → ((n : ℕ) → IsKnownLine known_sheet n line → IsKnownLine known_above n above)
      → ((p : Rest) (w : Place) (t : ℕ → Tree) (last : Option ℕ)
      → line_above p w t last above ≡ line_in (behind p) w t last line)
      → GivesLine known_sheet line_in contents rest sight old new (Ok line) does
      → GivesLine known_above line_above contents rest sight old new (Ok above)
      (λ p. does (behind p))
  line_wrapped behind known steps h = record {
    keeps = h.keeps;
    stays = h.stays;
    known = known _ h.known;
    steps = λ p. steps p _ _ _ ∙ h.steps (behind p);
  }

  -- one step after the other
  pub line_on : {old middle new : S} {line : Line ℕ X} {result : Result (Line ℕ Y) NoMemory}
      {does : Rest → Steps} (behind : Rest → Rest)
      → GivesLine known_sheet line_in contents rest sight old middle (Ok line) does
      → GivesLine known_above line_above contents rest sight middle new result
      (λ p. line_in (behind p) (sight (rest middle)).basis.place (tree_at (contents middle))
      (sight (rest middle)).last line)
      → GivesLine known_above line_above contents rest sight old new result
      (λ p. does (behind p))
  line_on {old} {middle} {new} {line} {result} {does} behind h k =
      let now = contents new in
      let t = tree_at (contents middle) in
      let seen = (sight (rest middle)).last in
      let P : Basis B → Type 0 =
      λ b. IfOk result (λ above. (p : Rest) → line_above p b.place (tree_at now)
      (sight (rest new)).last above ≡ line_in (behind p) b.place t seen line) in
      same_line (λ p. h.steps (behind p)) (record {
        keeps = Extends-trans (contents old) (contents middle) now h.keeps k.keeps;
        stays = k.stays ∙ h.stays;
        known = k.known;
        steps = subst P h.stays k.steps;
      })
