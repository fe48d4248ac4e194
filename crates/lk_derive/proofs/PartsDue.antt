-- A part is due where the one before it was added.
use Rattle.std.proofs.Common.{◌≡◌, ℕ, ◌<◌, true, [], ◌∷◌, length, ap, refl, sym, subst, ◌∙◌, arith}
use Rattle.lk_tree.specs.Tree.{Tree, sort}
use Rattle.lk_tree.specs.WellFormed.{IsWellFormed}
use Rattle.lk_rulebook.specs.Place.{Place}
use Rattle.lk_rulebook.specs.WellStated.{WellStated}
use Rattle.lk_rulebook.specs.Claims.{types, reduces, equals}
use Rattle.lk_questions.specs.Query as plain
use Rattle.lk_questions.specs.Query.{AnswerTo, whnf, infer, same}
use Rattle.lk_store.specs.Contents.{Contents, tree_at}
use Rattle.lk_ask.specs.declared.query.Query.TheVariants.{Whnf, Infer, Same}
use Rattle.lk_step.specs.Rows.{IsAnswered, IsClaim}
use Rattle.lk_step.specs.Shaped.{IsShapedAnswer}
use Rattle.lk_step.proofs.Shapes.{shaped_answer}
use Rattle.lk_derive.specs.declared.parts.Parts.{Parts}
use Rattle.lk_derive.specs.Stages.{Stays}
use Rattle.lk_derive.specs.Units.{IsAnsweredAs}
use Rattle.lk_derive.specs.Parts.{AreParts, AddsParts, AddsTerm, IsDue, IsSortDue, IsValueDue}
use Rattle.lk_derive.proofs.PartsAdded.{adds_more}

-- the type of a well-formed tree is well-formed
type_fine : (w : Place) (e T : Tree) (most : ℕ) → WellStated w → IsWellFormed e → IsAnsweredAs w (infer e) T most → IsWellFormed T
type_fine w e T most stated fine h =
    let s : IsShapedAnswer (infer e) T = shaped_answer w stated (infer e) T h.cost fine h.answered in
    s.0.1

module _ {S : Type 0} (contents : S → Contents) (place : S → Place) (most : S → ℕ) (s : S) (parts : Parts) where
  pub sort_typed : (type : ℕ) → IsSortDue contents place most s parts type → IsDue contents place most s parts (Infer type)
  sort_typed type h =
      let t = h.sorted.typed in
      record {
        known = h.type_in;
        answered = record { askable = h.fine; answer = h.sorted.between; cost = t.cost; answered = t.answered; claimed = tt; within = t.within };
        parts_are = h.parts_are;
      }

  pub value_typed : (value type : ℕ) → IsValueDue contents place most s parts value type → IsDue contents place most s parts (Infer value)
  value_typed value type h =
      let t = h.typed.typed in
      record {
        known = h.value_in;
        answered = record { askable = h.value_fine; answer = h.typed.inferred; cost = t.cost; answered = t.answered; claimed = tt; within = t.within };
        parts_are = h.parts_are;
      }

module _ {S : Type 0} (contents : S → Contents) (place : S → Place) (most : S → ℕ) (s t : S) (x : Stays contents place most s t) where
  moved : (p q : plain.Query) → p ≡ q → IsClaim (place s) p (most s) → IsClaim (place t) q (most t)
  moved p q e h =
      let at_query : IsClaim (place s) q (most s) = subst (λ r. IsClaim (place s) r (most s)) e h in
      let at_place : IsClaim (place t) q (most s) = subst (λ w. IsClaim w q (most s)) (sym x.place_stays) at_query in
      subst (IsClaim (place t) q) (sym x.most_stays) at_place

  pub form_moved : (V E F : Tree) (n : ℕ) → V ≡ E → IsAnswered (place s) (whnf V) F n → IsAnswered (place t) (whnf E) F n
  form_moved V E F n e h = subst (λ w. IsAnswered w (whnf E) F n) (sym x.place_stays) (subst (λ r. IsAnswered (place s) (whnf r) F n) e h)

  module _ (old mid : Parts) (v : ℕ) (v_in : v < length (contents t).trees) where
    -- behind the type of a type: its form
    pub sort_reduced : (type : ℕ) (h : IsSortDue contents place most s old type) → AddsTerm (place s) (contents s) (contents t) old mid (types (tree_at (contents s) type) h.sorted.between) v h.sorted.between →
        IsDue contents place most t mid (Whnf v)
    sort_reduced type h a =
        let V : Tree = h.sorted.between in
        let r = h.sorted.reduced in
        let fine : IsWellFormed V = type_fine (place s) (tree_at (contents s) type) V (most s) h.stated h.fine h.sorted.typed in
        record {
          known = v_in;
          answered = moved (whnf V) (whnf (tree_at (contents t) v)) (ap (λ e. whnf e) (sym a.is))
              (record { askable = fine; answer = sort h.level; cost = r.cost; answered = r.answered; claimed = tt; within = r.within });
          parts_are = subst (λ w. AreParts w (contents t) mid) (sym x.place_stays) a.adds.parts;
        }

    -- behind the type of a value: that it is the type
    pub value_equal : (value type : ℕ) (h : IsValueDue contents place most s old value type) → AddsTerm (place s) (contents s) (contents t) old mid (types (tree_at (contents s) value) h.typed.inferred) v h.typed.inferred →
        IsDue contents place most t mid (Same v type)
    value_equal value type h a =
        let V : Tree = h.typed.inferred in
        let A : Tree = tree_at (contents s) type in
        let r = h.typed.equal in
        let fine : IsWellFormed V = type_fine (place s) (tree_at (contents s) value) V (most s) h.stated h.value_fine h.typed.typed in
        let less = h.type_in in
        let longer = x.keeps.trees.longer in
        record {
          known = (v_in, omega (arith, less, longer));
          answered = moved (same V A) (same (tree_at (contents t) v) (tree_at (contents t) type))
              (ap (λ e. same e A) (sym a.is) ∙ ap (λ e. same (tree_at (contents t) v) e) (sym (x.keeps.trees.same type h.type_in)))
              (record { askable = (fine, h.type_fine); answer = true; cost = r.cost; answered = r.answered; claimed = refl; within = r.within });
          parts_are = subst (λ w. AreParts w (contents t) mid) (sym x.place_stays) a.adds.parts;
        }

    module _ (b : Contents) (new : Parts) where
      pub sort_added : (A V F : Tree) (f : ℕ) → AddsTerm (place s) (contents s) (contents t) old mid (types A V) v V → AddsTerm (place t) (contents t) b mid new (reduces (tree_at (contents t) v) F) f F →
          AddsParts (place s) (contents s) b old new (types A V ∷ reduces V F ∷ [])
      sort_added A V F f first second =
          adds_more (place s) (place t) (contents s) (contents t) b old mid new (types A V ∷ []) (reduces V F ∷ []) x.place_stays first.adds
          (subst (λ e. AddsParts (place t) (contents t) b mid new (reduces e F ∷ [])) first.is second.adds)

      pub value_added : (e V : Tree) (type : ℕ) → type < length (contents s).trees → AddsTerm (place s) (contents s) (contents t) old mid (types e V) v V →
          AddsParts (place t) (contents t) b mid new (equals (tree_at (contents t) v) (tree_at (contents t) type) ∷ []) →
          AddsParts (place s) (contents s) b old new (types e V ∷ equals V (tree_at (contents s) type) ∷ [])
      value_added e V type type_in first second =
          adds_more (place s) (place t) (contents s) (contents t) b old mid new (types e V ∷ []) (equals V (tree_at (contents s) type) ∷ []) x.place_stays first.adds
          (subst (λ A. AddsParts (place t) (contents t) b mid new (equals V A ∷ [])) (x.keeps.trees.same type type_in)
          (subst (λ u. AddsParts (place t) (contents t) b mid new (equals u (tree_at (contents t) type) ∷ [])) first.is second))
