-- The parts of a declaration that is answered yes can be derived, one after another.
use Rattle.std.proofs.Common.{◌≡◌, ℕ, ◌<◌, true, List, [], ◌∷◌, ◌++◌, length, Option, Some, None, option_map, refl, ap, sym, subst, ◌∙◌, arith}
use Rattle.std.specs.Prelude.{IfSome}
use Rattle.lk_tree.specs.Tree.{Level, Tree}
use Rattle.lk_tree.specs.Operations.{Op}
use Rattle.lk_tree.specs.WellFormed.{IsWellFormed}
use Rattle.lk_rulebook.specs.Place.{Place}
use Rattle.lk_rulebook.specs.Derived.{BodyWellFormed}
use Rattle.lk_rulebook.specs.NumberLaws.{Law, laws_of}
use Rattle.lk_rulebook.specs.Units.{Body, as_axiom, as_def, as_thm, as_opaque, as_quot, Decl}
use Rattle.lk_rulebook.specs.WellStated.{WellStated}
use Rattle.lk_rulebook.specs.Claims.{Claim}
use Rattle.lk_questions.specs.NumberLaws.{lawful_op}
use Rattle.lk_claims.proofs.Pieces.{Some_inj}
use Rattle.lk_claims.proofs.NumberLaws.{AllFine, laws_fine}
use Rattle.lk_store.specs.Contents.{Contents, tree_at}
use Rattle.lk_env.specs.declared.unit.Declaration.{Declaration}
use Rattle.lk_env.specs.Units.{body_at, declaration_at}
use Rattle.lk_ask.specs.declared.sheet.Pair.{Pair}
use Rattle.lk_step.specs.Pairs.{pairs_at}
use Rattle.lk_derive.specs.declared.parts.Parts.{Parts}
use Rattle.lk_derive.specs.Stages.{Stays}
use Rattle.lk_derive.specs.Units.{HasType, AreMet, IsLawful, HasBody, HasParts, sort_parts, value_parts, law_parts, lawful_parts, body_parts, parts_of}
use Rattle.lk_derive.specs.Parts.{AreParts, AddsParts, IsSortDue}
use Rattle.lk_derive.specs.Sides.{pair_parts, side_parts, AreEqual, AreSidesDue, body_value, IsAnyDue, AreValueParts, IsUnitDue}
use Rattle.lk_derive.proofs.PartsAdded.{adds_more}
use Rattle.lk_derive.proofs.SidesAdded.{pairs_same, pairs_known}

module _ (w : Place) (most : ℕ) where
  laws_equal : (laws : List Law) → AreMet w most laws → AllFine laws → AreEqual w most (law_parts laws)
  laws_equal [] h f = tt
  laws_equal (law ∷ laws) h f =
      let a = h.0.1 in
      (record { askable = f.0; answer = true; cost = a.cost; answered = a.answered; claimed = refl; within = a.within }, laws_equal laws h.1 f.1)

  lawful_equal : (o : Option Op) (ls : List _) (value : Tree) → IsWellFormed value → IsLawful w most o ls value → AreEqual w most (lawful_parts o value)
  lawful_equal None ls value f h = tt
  lawful_equal (Some op) ls value f h = laws_equal (laws_of op value) h.3 (laws_fine op value f)

  module _ (d : Decl) (l : Level) where
    sides_equal : (b : Body) → HasBody w most d l b → BodyWellFormed b → AreEqual w most (side_parts d b)
    sides_equal as_axiom h f = tt
    sides_equal (as_def i value) h f = lawful_equal (lawful_op d.name) d.levels value f h.1
    sides_equal (as_thm value) h f = tt
    sides_equal (as_opaque value) h f = tt
    sides_equal as_quot h f = tt

    value_typed : (b : Body) → HasBody w most d l b → (v : Tree) → Some v ≡ body_value b → HasType w most v d.type
    value_typed as_axiom h v e = absurd cc
    value_typed (as_def i value) h v e = subst (λ x. HasType w most x d.type) (sym (Some_inj e)) h.0
    value_typed (as_thm value) h v e = subst (λ x. HasType w most x d.type) (sym (Some_inj e)) h.0
    value_typed (as_opaque value) h v e = subst (λ x. HasType w most x d.type) (sym (Some_inj e)) h
    value_typed as_quot h v e = absurd cc

    -- what says that the value is of the type
    abbrev pub valued : (b : Body) → HasBody w most d l b → List Claim
    valued as_axiom h = []
    valued (as_def i value) h = value_parts value h.0.inferred d.type []
    valued (as_thm value) h = value_parts value h.0.inferred d.type []
    valued (as_opaque value) h = value_parts value h.inferred d.type []
    valued as_quot h = []

    valued_parts : (b : Body) (h : HasBody w most d l b) → AreValueParts w most (body_value b) d.type (valued b h)
    valued_parts as_axiom h = refl
    valued_parts (as_def i value) h = (h.0, refl)
    valued_parts (as_thm value) h = (h.0, refl)
    valued_parts (as_opaque value) h = (h, refl)
    valued_parts as_quot h = refl

    body_whole : (b : Body) (h : HasBody w most d l b) → valued b h ++ side_parts d b ≡ body_parts w most d l b h
    body_whole as_axiom h = refl
    body_whole (as_def i value) h = refl
    body_whole (as_thm value) h = refl
    body_whole (as_opaque value) h = refl
    body_whole as_quot h = refl

value_fine : (b : Body) → BodyWellFormed b → (v : Tree) → Some v ≡ body_value b → IsWellFormed v
value_fine as_axiom h v e = absurd cc
value_fine (as_def i value) h v e = subst IsWellFormed (sym (Some_inj e)) h
value_fine (as_thm value) h v e = subst IsWellFormed (sym (Some_inj e)) h
value_fine (as_opaque value) h v e = subst IsWellFormed (sym (Some_inj e)) h
value_fine as_quot h v e = absurd cc

module _ {S : Type 0} (contents : S → Contents) (place : S → Place) (most : S → ℕ) (s : S) (parts : Parts) (d : Declaration) (sides : List (Pair ℕ)) (h : IsUnitDue contents place most s parts d sides) where
  abbrev decl : Decl
  decl = declaration_at (contents s) d

  pub sort_due : IsSortDue contents place most s parts d.ty
  sort_due = record {
    type_in = h.declaration_in.stated_in.ty_in;
    parts_are = h.parts_are;
    stated = h.yes.stated;
    fine = h.yes.fine.0;
    level = h.yes.parts.level;
    sorted = h.yes.parts.sorted;
  }

  module _ (t : S) (x : Stays contents place most s t) (mid : Parts) (mid_are : AreParts (place t) (contents t) mid) where
    abbrev type_same : tree_at (contents t) d.ty ≡ tree_at (contents s) d.ty
    type_same = x.keeps.trees.same d.ty h.declaration_in.stated_in.ty_in

    typed_moved : (v : ℕ) → v < length (contents s).trees → HasType (place s) (most s) (tree_at (contents s) v) (tree_at (contents s) d.ty) → HasType (place t) (most t) (tree_at (contents t) v) (tree_at (contents t) d.ty)
    typed_moved v v_in k =
        let A : Tree = tree_at (contents t) d.ty in
        let e : Tree = tree_at (contents t) v in
        let at_type : HasType (place s) (most s) (tree_at (contents s) v) A = subst (HasType (place s) (most s) (tree_at (contents s) v)) (sym type_same) k in
        let at_value : HasType (place s) (most s) e A = subst (λ z. HasType (place s) (most s) z A) (sym (x.keeps.trees.same v v_in)) at_type in
        let at_place : HasType (place t) (most s) e A = subst (λ w. HasType w (most s) e A) (sym x.place_stays) at_value in
        subst (λ n. HasType (place t) n e A) (sym x.most_stays) at_place

    pub any_due : (o : Option ℕ) → IfSome o (λ v. v < length (contents s).trees) → option_map (tree_at (contents s)) o ≡ body_value (body_at (contents s) d.body) → IsAnyDue contents place most t mid o d.ty
    any_due None known is = mid_are
    any_due (Some v) known is =
        let longer = x.keeps.trees.longer in
        let type_in = h.declaration_in.stated_in.ty_in in
        record {
          value_in = omega (arith, longer, known);
          type_in = omega (arith, longer, type_in);
          parts_are = mid_are;
          stated = subst WellStated (sym x.place_stays) h.yes.stated;
          value_fine = subst IsWellFormed (sym (x.keeps.trees.same v known)) (value_fine decl.body h.yes.fine.1 (tree_at (contents s) v) is);
          type_fine = subst IsWellFormed (sym type_same) h.yes.fine.0;
          typed = typed_moved v known (value_typed (place s) (most s) decl h.yes.parts.level decl.body h.yes.parts.body (tree_at (contents s) v) is);
        }

    option_same : (o : Option ℕ) → IfSome o (λ v. v < length (contents s).trees) → option_map (tree_at (contents s)) o ≡ option_map (tree_at (contents t)) o
    option_same None known = refl
    option_same (Some v) known = ap (λ e. Some e) (sym (x.keeps.trees.same v known))

    pub any_parts : (o : Option ℕ) → IfSome o (λ v. v < length (contents s).trees) → option_map (tree_at (contents s)) o ≡ body_value (body_at (contents s) d.body) → (k : HasParts (place s) (most s) decl) →
        AreValueParts (place t) (most t) (option_map (tree_at (contents t)) o) (tree_at (contents t) d.ty) (valued (place s) (most s) decl k.level decl.body k.body)
    any_parts o known is k =
        let cs : List Claim = valued (place s) (most s) decl k.level decl.body k.body in
        let O : Option Tree = option_map (tree_at (contents t)) o in
        let A : Tree = tree_at (contents t) d.ty in
        let at_option : AreValueParts (place s) (most s) O (tree_at (contents s) d.ty) cs =
        subst (λ z. AreValueParts (place s) (most s) z (tree_at (contents s) d.ty) cs) (sym is ∙ option_same o known) (valued_parts (place s) (most s) decl k.level decl.body k.body) in
        let at_type : AreValueParts (place s) (most s) O A cs = subst (λ z. AreValueParts (place s) (most s) O z cs) (sym type_same) at_option in
        let at_place : AreValueParts (place t) (most s) O A cs = subst (λ w. AreValueParts w (most s) O A cs) (sym x.place_stays) at_type in
        subst (λ n. AreValueParts (place t) n O A cs) (sym x.most_stays) at_place

    sides_are : pair_parts (pairs_at (contents t) sides) ≡ side_parts decl decl.body
    sides_are = ap pair_parts (pairs_same (contents s) (contents t) x.keeps sides h.sides_are.pairs_in) ∙ h.sides_are.are

    pub sides_due : AreSidesDue contents place most t mid sides
    sides_due =
        let cs : List Claim = pair_parts (pairs_at (contents t) sides) in
        let all : AreEqual (place s) (most s) (side_parts decl decl.body) = sides_equal (place s) (most s) decl h.yes.parts.level decl.body h.yes.parts.body h.yes.fine.1 in
        let at_sides : AreEqual (place s) (most s) cs = subst (AreEqual (place s) (most s)) (sym sides_are) all in
        let at_place : AreEqual (place t) (most s) cs = subst (λ w. AreEqual w (most s) cs) (sym x.place_stays) at_sides in
        record {
          pairs_in = pairs_known (contents s) (contents t) x.keeps sides h.sides_are.pairs_in;
          parts_are = mid_are;
          equal = subst (λ n. AreEqual (place t) n cs) (sym x.most_stays) at_place;
        }

    -- the sort was added before, and the sides are added
    module _ (k : HasParts (place s) (most s) decl) (r : S) (first : Parts) (y : place r ≡ place s)
        (sort_added : AddsParts (place s) (contents s) (contents r) parts first (sort_parts decl.type k.sorted.between k.level []))
        (any_added : AddsParts (place r) (contents r) (contents t) first mid (valued (place s) (most s) decl k.level decl.body k.body))
        (b : Contents) (new : Parts) (sides_added : AddsParts (place t) (contents t) b mid new (pair_parts (pairs_at (contents t) sides))) where
      pub all_added : AddsParts (place s) (contents s) b parts new (parts_of (place s) (most s) decl k)
      all_added =
          let start : List Claim = sort_parts decl.type k.sorted.between k.level [] in
          let value : List Claim = valued (place s) (most s) decl k.level decl.body k.body in
          let two : AddsParts (place s) (contents s) (contents t) parts mid (start ++ value) = adds_more (place s) (place r) (contents s) (contents r) (contents t) parts first mid start value y sort_added any_added in
          let three : AddsParts (place s) (contents s) b parts new (start ++ value ++ pair_parts (pairs_at (contents t) sides)) =
          adds_more (place s) (place t) (contents s) (contents t) b parts mid new (start ++ value) (pair_parts (pairs_at (contents t) sides)) x.place_stays two sides_added in
          let same : start ++ value ++ pair_parts (pairs_at (contents t) sides) ≡ parts_of (place s) (most s) decl k =
          ap (λ cs. sort_parts decl.type k.sorted.between k.level (value ++ cs)) sides_are
          ∙ ap (sort_parts decl.type k.sorted.between k.level) (body_whole (place s) (most s) decl k.level decl.body k.body) in
          subst (AddsParts (place s) (contents s) b parts new) same three
