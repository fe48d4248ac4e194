-- Two trees by texts: which are applications of String.mk, and what goes on with an expansion.
use Rattle.std.proofs.Common.{◌≡◌, ℕ, Bool, false, List, [], ◌∷◌, ◌++◌, refl, sym, ap, subst, ◌∙◌}
use Rattle.std.specs.Prelude.{Result, Ok, Err, IfOk}
use Rattle.lk_tree.specs.Tree.{Name, Level, Tree, const, app}
use Rattle.lk_tree.specs.Spine.{head, args}
use Rattle.lk_tree.specs.Mentions.{same_name}
use Rattle.lk_tree.specs.declared.rule.Rule.{Rule}
use Rattle.lk_rulebook.specs.Names.{string_mk}
use Rattle.lk_questions.specs.Program.{Program, ◌>>=◌}
use Rattle.lk_questions.specs.Erased.{truth, erased}
use Rattle.lk_questions.proofs.Settling.{goes_on, is_refused}
use Rattle.lk_questions.specs.LiteralLines.{is_made}
use Rattle.lk_store.specs.declared.memory.NoMemory.{NoMemory}
use Rattle.lk_store.specs.declared.node.Node.{Node}
use Rattle.lk_store.specs.declared.node.Node.TheVariants.{Var, Sort, Const, App, Lam, Pi, Let, Proj, Lit, Wide, Str, Local}
use Rattle.lk_store.specs.Contents.{Contents, tree_of, tree_at}
use Rattle.lk_store.proofs.Extending.{Extends-trans}
use Rattle.lk_ask.specs.declared.next.Line.{Line}
use Rattle.lk_ask.specs.declared.next.Line.TheVariants.{Goes}
use Rattle.lk_ask.specs.declared.next.Next.TheVariants.{No}
use Rattle.lk_ask.specs.Lines.{Rest, GivesLine}
use Rattle.lk_ask.specs.Looks.{Basis, Sight}
use Rattle.lk_ask.specs.Settles.{Settles}
use Rattle.lk_ask.proofs.LineSteps.{same_line}
use Rattle.lk_lit.specs.declared.answer.AnswerSheet.{AnswerSheet}
use Rattle.lk_lit.specs.Answers.{IsKnownAnswer, texts_line}

made_of : (c : Name) (ls : List Level) (xs : List Tree) (x : Tree) → is_made (const c ls) (xs ++ x ∷ []) ≡ same_name c string_mk
made_of c ls [] x = refl
made_of c ls (y ∷ ys) x = refl

-- an application whose head is a constant
pub made_app : (e f x : Tree) (c : Name) (ls : List Level) → app f x ≡ e → const c ls ≡ head e → is_made (head e) (args e) ≡ same_name c string_mk
unfolding args
made_app e f x c ls is at_head =
    subst (λ h. is_made h (args e) ≡ same_name c string_mk) at_head
    (subst (λ t. is_made (const c ls) (args t) ≡ same_name c string_mk) is (made_of c ls (args f) x))

no_arguments : (h : Tree) → is_made h [] ≡ false
no_arguments (const c ls) = refl
no_arguments _ = refl

no_app : (c : Contents) (h : Tree) (node : Node) → ((f x : ℕ) → node ≡ App f x → ⊥) → is_made h (args (tree_of c node)) ≡ false
unfolding args
no_app c h (Var j) i = no_arguments h
no_app c h (Sort l) i = no_arguments h
no_app c h (Const n ls) i = no_arguments h
no_app c h (App f x) i = absurd (i f x refl)
no_app c h (Lam A b) i = no_arguments h
no_app c h (Pi A b) i = no_arguments h
no_app c h (Let A v b) i = no_arguments h
no_app c h (Proj S j s) i = no_arguments h
no_app c h (Lit n) i = no_arguments h
no_app c h Wide i = no_arguments h
no_app c h (Str s) i = no_arguments h
no_app c h (Local k T) i = no_arguments h

-- a tree that is no application
pub unmade : (c : Contents) (e : Tree) (node : Node) → ((f x : ℕ) → node ≡ App f x → ⊥) → tree_of c node ≡ e → is_made (head e) (args e) ≡ false
unmade c e node i is = subst (λ t. is_made (head e) (args t) ≡ false) is (no_app c (head e) node i)

module _ {S R B A C : Type 0} {contents : S → Contents} {rest : S → R} {sight : R → Sight B}
    {is : Contents → A → C} {program : Contents → Program C} where
  -- what goes on with the value of a program that asks nothing, as a line, is a step from before it
  pub line_behind : {old middle new : S} {result : Result (Line ℕ AnswerSheet) NoMemory}
      {whole : Rest → Program Bool} (k : Rest → C → Program Bool) (v : A)
      → ((p : Rest) → (program (contents old) >>= k p) ≡ whole p)
      → Settles contents rest sight old middle (Ok (Ok v)) is program
      → GivesLine IsKnownAnswer texts_line contents rest sight middle new result
      (λ p. erased (sight (rest middle)).basis.place truth (sight (rest middle)).last
      (k p (is (contents middle) v)))
      → GivesLine IsKnownAnswer texts_line contents rest sight old new result
      (λ p. erased (sight (rest old)).basis.place truth (sight (rest old)).last (whole p))
  line_behind {old} {middle} {new} {result} {whole} k v whole_is s h =
      let w = (sight (rest old)).basis.place in
      let before = (sight (rest old)).last in
      let seen = (sight (rest middle)).last in
      let now = contents new in
      let last = (sight (rest new)).last in
      let x = is (contents middle) v in
      let P : Basis B → Type 0 = λ b. IfOk result (λ line. (p : Rest)
      → texts_line p b.place (tree_at now) last line ≡ erased b.place truth seen (k p x)) in
      same_line {d = λ p. erased w truth seen (k p x)}
      (λ p. sym (goes_on w truth before seen x (program (contents old)) (k p) s.comes_to)
      ∙ ap (erased w truth before) (whole_is p)) (record {
        keeps = Extends-trans (contents old) (contents middle) now s.keeps h.keeps;
        stays = h.stays ∙ s.stays;
        known = h.known;
        steps = subst P s.stays h.steps;
      })

  -- the program is refused
  pub line_refused : {old new : S} {whole : Rest → Program Bool} (k : Rest → C → Program Bool)
      (r : Rule) → ((p : Rest) → (program (contents old) >>= k p) ≡ whole p)
      → Settles contents rest sight old new (Ok (Err r)) is program
      → GivesLine IsKnownAnswer texts_line contents rest sight old new (Ok (Goes (No r)))
      (λ p. erased (sight (rest old)).basis.place truth (sight (rest old)).last (whole p))
  line_refused {old} {new} {whole} k r whole_is s =
      let w = (sight (rest old)).basis.place in
      let before = (sight (rest old)).last in
      record {
        keeps = s.keeps;
        stays = s.stays;
        known = tt;
        steps = λ p. sym (is_refused w truth before r (program (contents old)) (k p) s.comes_to)
            ∙ ap (erased w truth before) (whole_is p);
      }
