-- The literal step of a term whose head is a constant, once that is looked up.
use Rattle.std.proofs.Common.{◌≡◌, ℕ, Option, refl, sym, ap, subst, ◌∙◌}
use Rattle.std.specs.Prelude.{List, Result, Ok, Err, IfOk}
use Rattle.lk_tree.specs.Tree.{Tree, Name, const}
use Rattle.lk_tree.specs.Spine.{head}
use Rattle.lk_tree.specs.declared.rule.Rule.{Rule}
use Rattle.lk_tree.specs.declared.rule.Rule.TheVariants.{UnknownConstant}
use Rattle.lk_rulebook.specs.Place.{Place, Entry as PlainEntry}
use Rattle.lk_questions.specs.Program.{Program, look}
use Rattle.lk_questions.specs.Erased.{Steps, refuses, looked, erased_then}
use Rattle.lk_questions.specs.Literals.{literal_step}
use Rattle.lk_questions.specs.LiteralLines.{step_of}
use Rattle.lk_store.specs.declared.memory.NoMemory.{NoMemory}
use Rattle.lk_store.specs.Contents.{Contents, name_at, list_at, tree_at, Extends}
use Rattle.lk_store.proofs.Made.{Extends-self}
use Rattle.lk_env.specs.declared.entry.Entry.{Entry}
use Rattle.lk_env.specs.StoredLibrary.{StoredLibrary}
use Rattle.lk_ask.specs.declared.next.Next.TheVariants.{No}
use Rattle.lk_ask.specs.Constants.{IsFound, IsRefusedBy}
use Rattle.lk_ask.specs.Looks.{Basis, Sight}
use Rattle.lk_lit.specs.declared.step.LitPart.{LitPart}
use Rattle.lk_lit.specs.declared.step.LitPart.TheVariants.{Goes}
use Rattle.lk_lit.specs.Steps.{Then, lit_steps, GivesPart}

-- whatever goes on with the value, a look-up is made first
module _ {A : Type 0} (w : Place) (k : Option ℕ → A → Steps) (r : Rule) (x : Name) (f : PlainEntry → Program A) where
  found_then : (l : StoredLibrary) (before last : Option ℕ) (e : Entry)
      → (h : IsFound l w x before e last)
      → erased_then w k before (look r x f) ≡ erased_then w k last (f h.entry)
  found_then l before last e h =
      ap (λ o. looked r before o (w.origin x) (w.flaw x) (λ u g. erased_then w k u (f g))) h.means
      ∙ ap (λ u. erased_then w k u (f h.entry)) (sym h.looked)

  refused_then : (before : Option ℕ) (rule : Rule) → IsRefusedBy r w x rule
      → erased_then w k before (look r x f) ≡ refuses rule
  refused_then before rule h =
      ap (λ o. looked r before o (w.origin x) (w.flaw x) (λ u g. erased_then w k u (f g))) h.means
      ∙ ap refuses (sym h.rule)

-- equal steps, of a result that is there
ok_part : (l : LitPart → Then → Steps) (r : Result LitPart NoMemory) (d e : Then → Steps)
    → ((k : Then) → d k ≡ e k) → IfOk r (λ part. (k : Then) → l part k ≡ d k)
    → IfOk r (λ part. (k : Then) → l part k ≡ e k)
ok_part l (Ok part) d e is h = λ k. h k ∙ is k
ok_part l (Err m) d e is h = tt

module _ {S R B : Type 0} {contents : S → Contents} {rest : S → R} {sight : R → Sight B}
    {old middle : S} (e name levels : ℕ) where
  -- the name is found, and the step is taken from there
  pub found_part : {new : S} {result : Result LitPart NoMemory} (entry : Entry)
      → contents middle ≡ contents old
      → (sight (rest middle)).basis ≡ (sight (rest old)).basis
      → (h : IsFound (sight (rest old)).basis.library (sight (rest old)).basis.place
      (name_at (contents old) name) (sight (rest old)).last entry (sight (rest middle)).last)
      → const (name_at (contents old) name) (list_at (contents old) levels)
      ≡ head (tree_at (contents old) e)
      → GivesPart contents rest sight middle new result e
      (λ t. literal_step (t e) (name_at (contents middle) name)
      (list_at (contents middle) levels) h.entry)
      → GivesPart contents rest sight old new result e (λ t. step_of (t e) (head (t e)))
  found_part {new} {result} entry same stays h head_is g =
      let now = contents new in
      let before = sight (rest old) in
      let w = before.basis.place in
      let c = tree_at (contents old) e in
      let x = name_at (contents old) name in
      let ls = list_at (contents old) levels in
      let seen = (sight (rest middle)).last in
      let P : Contents → Basis B → Type 0 =
      λ d b. IfOk result (λ part. (k : Then) → lit_steps k b.place (tree_at now)
      (sight (rest new)).last part ≡ erased_then b.place (k (tree_at d e)) seen
      (literal_step (tree_at d e) (name_at d name) (list_at d levels) h.entry)) in
      record {
        keeps = subst (λ d. Extends d now) same g.keeps;
        stays = g.stays ∙ stays;
        known = g.known;
        steps = ok_part (λ part k. lit_steps k w (tree_at now) (sight (rest new)).last part) result
            (λ k. erased_then w (k c) seen (literal_step c x ls h.entry))
            (λ k. erased_then w (k c) before.last (step_of c (head c)))
            (λ k. sym (found_then w (k c) UnknownConstant x (λ y. literal_step c x ls y)
            before.basis.library before.last seen entry h)
            ∙ ap (λ y. erased_then w (k c) before.last (step_of c y)) head_is)
            (subst (P (contents old)) stays
            (subst (λ d. P d (sight (rest middle)).basis) same g.steps));
      }

  -- it is not
  pub refused_part : (rule : Rule) → contents middle ≡ contents old
      → (sight (rest middle)).basis ≡ (sight (rest old)).basis
      → IsRefusedBy UnknownConstant (sight (rest old)).basis.place
      (name_at (contents old) name) rule
      → const (name_at (contents old) name) (list_at (contents old) levels)
      ≡ head (tree_at (contents old) e)
      → GivesPart contents rest sight old middle (Ok (Goes (No rule))) e
      (λ t. step_of (t e) (head (t e)))
  refused_part rule same stays h head_is =
      let before = sight (rest old) in
      let w = before.basis.place in
      let c = tree_at (contents old) e in
      let x = name_at (contents old) name in
      let ls = list_at (contents old) levels in
      record {
        keeps = subst (λ d. Extends (contents old) d) (sym same) (Extends-self (contents old));
        stays = stays;
        known = tt;
        steps = λ k. sym (refused_then w (k c) UnknownConstant x (λ y. literal_step c x ls y)
            before.last rule h)
            ∙ ap (λ y. erased_then w (k c) before.last (step_of c y)) head_is;
      }
