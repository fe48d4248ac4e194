-- Two trees by literals: the literal step of either, and numbers.
use Rattle.std.proofs.Common.{◌≡◌, ◌<◌, ℕ, Bool, Option, None, refl, sym, ap, subst, ◌∙◌}
use Rattle.std.specs.Prelude.{Result, Ok, Err, IfOk}
use Rattle.lk_tree.specs.Tree.{Tree, lit}
use Rattle.lk_rulebook.specs.Place.{Place}
use Rattle.lk_questions.specs.Program.{Program, done, ◌>>=◌}
use Rattle.lk_questions.proofs.Binding.{bind_bind}
use Rattle.lk_questions.specs.Erased.{Steps, erased_then}
use Rattle.lk_questions.specs.Pairs.{Line as PlainLine, ◌or_else◌, ◌or_line◌}
use Rattle.lk_questions.specs.LiteralLines.{step_of, same_numbers}
use Rattle.lk_store.specs.declared.memory.NoMemory.{NoMemory}
use Rattle.lk_store.specs.declared.node.Node.{Node}
use Rattle.lk_store.specs.declared.node.Node.TheVariants.{Var, Sort, Const, App, Lam, Pi, Let, Proj, Lit, Wide, Str, Local}
use Rattle.lk_store.specs.Contents.{Contents, tree_of, tree_at}
use Rattle.lk_store.proofs.Extending.{Extends-trans}
use Rattle.lk_ask.specs.declared.next.Line.{Line}
use Rattle.lk_ask.specs.Lines.{Rest, GivesLine}
use Rattle.lk_ask.specs.Looks.{Basis, Sight}
use Rattle.lk_lit.specs.declared.step.LitPart.{LitPart}
use Rattle.lk_lit.specs.declared.literals.Side.{Side}
use Rattle.lk_lit.specs.declared.literals.Side.TheVariants as side
use Rattle.lk_lit.specs.declared.sheet.LitSheet.{LitSheet}
use Rattle.lk_lit.specs.Literals.{number_in, numbers_line, literals_rest, after, sheet_of}
use Rattle.lk_lit.specs.Sheets.{map_lit, map_literals, IsKnownLit, IsKnownLiterals}
use Rattle.lk_lit.specs.Steps.{Then, lit_rest, lit_steps, GivesPart}

-- a line that begins with m, and what stands behind it
pub begins_with : (m : Program (Option Tree)) (f : Option Tree → PlainLine) (n : PlainLine) (p : Program Bool)
    → (m >>= λ r. (f r or_line n) or_else p) ≡ (((m >>= f) or_line n) or_else p)
begins_with m f n p = sym (ap (λ (l : PlainLine). l or_else p) (bind_bind m f _) ∙ bind_bind m (λ r. f r or_line n) _)

-- what is kept while the literal step on one side waits
pub waiting_rest : (side : Side) (p : Rest) (w : Place) (t : ℕ → Tree) (a b : ℕ) (s : LitSheet ℕ)
    → literals_rest p w None (map_literals t (sheet_of side a b s))
    ≡ lit_rest (after side p w (t a) (t b)) w None (map_lit t s)
waiting_rest side.Left p w t a b s = refl
waiting_rest side.Right p w t a b s = refl

pub waiting_known : (side : Side) (n a b : ℕ) (s : LitSheet ℕ) → a < n → b < n → IsKnownLit n s
    → IsKnownLiterals n (sheet_of side a b s)
waiting_known side.Left n a b s h i k = (h, i, k)
waiting_known side.Right n a b s h i k = (h, i, k)

-- two trees as numbers
pub numbers_are : (a b : Tree) → numbers_line (number_in a) (number_in b) a b ≡ same_numbers a b
numbers_are (lit n) b = refl
numbers_are a (lit n) = refl
numbers_are _ _ = refl

-- a head that is no constant has no literal step
no_step : (c : Contents) (e : Tree) (node : Node) → ((n ls : ℕ) → node ≡ Const n ls → ⊥) → step_of e (tree_of c node) ≡ done None
no_step c e (Var i) h = refl
no_step c e (Sort l) h = refl
no_step c e (Const n ls) h = absurd (h n ls refl)
no_step c e (App f x) h = refl
no_step c e (Lam A b) h = refl
no_step c e (Pi A b) h = refl
no_step c e (Let A v b) h = refl
no_step c e (Proj S i s) h = refl
no_step c e (Lit n) h = refl
no_step c e Wide h = refl
no_step c e (Str s) h = refl
no_step c e (Local k T) h = refl

pub no_step_at : (c : Contents) (e t : Tree) (node : Node) → ((n ls : ℕ) → node ≡ Const n ls → ⊥) → tree_of c node ≡ t → step_of e t ≡ done None
no_step_at c e t node h is = subst (λ y. step_of e y ≡ done None) is (no_step c e node h)

-- what goes on with the literal step of a term, as a line, is a step from before it
pub part_on : {S R B X : Type 0} {known_sheet : ℕ → X → Type 0}
    {line_of : Rest → Place → (ℕ → Tree) → Option ℕ → Line ℕ X → Steps}
    {contents : S → Contents} {rest : S → R} {sight : R → Sight B} {old middle new : S}
    {part : LitPart} {result : Result (Line ℕ X) NoMemory} (e : ℕ)
    (program : (ℕ → Tree) → Program (Option Tree)) (k : Rest → Place → Then)
    → GivesPart contents rest sight old middle (Ok part) e program
    → GivesLine known_sheet line_of contents rest sight middle new result
    (λ p. lit_steps (k p (sight (rest middle)).basis.place) (sight (rest middle)).basis.place
    (tree_at (contents middle)) (sight (rest middle)).last part)
    → GivesLine known_sheet line_of contents rest sight old new result
    (λ p. erased_then (sight (rest old)).basis.place
    (k p (sight (rest old)).basis.place (tree_at (contents old) e)) (sight (rest old)).last
    (program (tree_at (contents old))))
part_on {line_of} {contents} {rest} {sight} {old} {middle} {new} {part} {result} e program k h g =
    let t = tree_at (contents new) in
    let last = (sight (rest new)).last in
    let m = tree_at (contents middle) in
    let seen = (sight (rest middle)).last in
    let w = (sight (rest old)).basis.place in
    let P : Basis _ → Type 0 = λ b. IfOk result (λ line. (p : Rest) → line_of p b.place t last line
    ≡ lit_steps (k p b.place) b.place m seen part) in
    record {
      keeps = Extends-trans (contents old) (contents middle) (contents new) h.keeps g.keeps;
      stays = g.stays ∙ h.stays;
      known = g.known;
      steps = ok_behind result (λ line p. line_of p w t last line)
          (λ p. lit_steps (k p w) w m seen part) _ (λ p. h.steps (k p w))
          (subst P h.stays g.steps);
    }
  where
    ok_behind : {X : Type 0} (r : Result (Line ℕ X) NoMemory) (f : Line ℕ X → Rest → Steps) (d e : Rest → Steps) → ((p : Rest) → d p ≡ e p)
        → IfOk r (λ line. (p : Rest) → f line p ≡ d p) → IfOk r (λ line. (p : Rest) → f line p ≡ e p)
    ok_behind (Ok line) f d e is h = λ p. h p ∙ is p
    ok_behind (Err m) f d e is h = tt
