-- What Whnf does at a constant.
use Rattle.std.proofs.Common.{◌≡◌, ℕ, List, Option, Some, ap, sym, subst, ◌∙◌}
use Rattle.std.specs.Prelude.{Result, Ok, IfOk}
use Rattle.lk_tree.specs.Tree.{Name, Level, Tree, const}
use Rattle.lk_rulebook.specs.Place.{Place, Entry}
use Rattle.lk_questions.specs.Program.{Program}
use Rattle.lk_questions.specs.Core.{unfolded}
use Rattle.lk_questions.specs.Steps.{value_of}
use Rattle.lk_questions.specs.Erased.{erased_then}
use Rattle.lk_store.specs.declared.memory.NoMemory.{NoMemory}
use Rattle.lk_store.specs.Contents.{Contents, tree_at}
use Rattle.lk_store.proofs.Extending.{Extends-trans}
use Rattle.lk_ask.specs.declared.next.Next.{Next}
use Rattle.lk_ask.specs.Looks.{Basis, Sight}
use Rattle.lk_ask.specs.Gives.{Gives}
use Rattle.lk_lit.specs.declared.step.LitPart.{LitPart}
use Rattle.lk_lit.specs.Steps.{Then, lit_steps, GivesPart}
use Rattle.lk_core.specs.declared.sheet.CoreSheet.{CoreSheet}
use Rattle.lk_core.specs.Sheets.{IsKnownCore}
use Rattle.lk_core.specs.Forms.{unfolded_by, unfolded_at, core_next}

-- a head that means this entry is unfolded by its value
pub unfolded_is : (w : Place) (c h : Tree) (f : Name) (ls : List Level) (g : Entry) → const f ls ≡ h → w.means f ≡ Some g
    → unfolded_at w c h ≡ unfolded g (const f ls) c (value_of g.kind)
unfolded_is w c h f ls g is means =
    subst (λ t. unfolded_at w c t ≡ unfolded g (const f ls) c (value_of g.kind)) is
    (ap (unfolded_by c f ls) means)

-- what goes on with the literal step is a step from before it
pub part_then : {S R B : Type 0} {contents : S → Contents} {rest : S → R} {sight : R → Sight B}
    {old middle new : S} {part : LitPart} {result : Result (Next ℕ (CoreSheet ℕ)) NoMemory}
    (e : ℕ) (program : (ℕ → Tree) → Program (Option Tree)) (k : Place → Then)
    → GivesPart contents rest sight old middle (Ok part) e program
    → Gives IsKnownCore core_next contents rest sight middle new result
    (lit_steps (k (sight (rest middle)).basis.place) (sight (rest middle)).basis.place
    (tree_at (contents middle)) (sight (rest middle)).last part)
    → Gives IsKnownCore core_next contents rest sight old new result
    (erased_then (sight (rest old)).basis.place
    (k (sight (rest old)).basis.place (tree_at (contents old) e)) (sight (rest old)).last
    (program (tree_at (contents old))))
part_then {contents} {rest} {sight} {old} {middle} {new} {part} {result} e program k p h =
    let t = tree_at (contents new) in
    let last = (sight (rest new)).last in
    let m = tree_at (contents middle) in
    let seen = (sight (rest middle)).last in
    let w = (sight (rest old)).basis.place in
    let P : Basis _ → Type 0 = λ b. IfOk result (λ next. core_next b.place t last next
    ≡ lit_steps (k b.place) b.place m seen part) in
    record {
      keeps = Extends-trans (contents old) (contents middle) (contents new) p.keeps h.keeps;
      stays = h.stays ∙ p.stays;
      known = h.known;
      steps = subst (λ y. IfOk result (λ next. core_next w t last next ≡ y)) (p.steps (k w))
          (subst P p.stays h.steps);
    }
