-- The sides of the laws that are asked of a declaration are made.
use Rattle.std.proofs.Common.{◌≡◌, ℕ, ◌<◌, List, [], ◌++◌, length, Option, Some, None, refl, ap, sym, subst, ◌∙◌, append-nil}
use Rattle.std.specs.Prelude.{All}
use Rattle.std.proofs.lemmas.List.Elements.{All-nil}
use Rattle.lk_tree.specs.Tree.{Name, Tree}
use Rattle.lk_tree.specs.Operations.{Op}
use Rattle.lk_rulebook.specs.NumberLaws.{Law, laws_of}
use Rattle.lk_rulebook.specs.Units.{Body, as_axiom, as_def, as_thm, as_opaque, as_quot, Decl}
use Rattle.lk_rulebook.specs.Claims.{Claim}
use Rattle.lk_questions.specs.NumberLaws.{lawful_op}
use Rattle.lk_store.specs.Contents.{Contents, name_at, tree_at, Extends}
use Rattle.lk_env.specs.declared.unit.Declaration.{Declaration}
use Rattle.lk_env.specs.Units.{body_at, declaration_at}
use Rattle.lk_ask.specs.declared.sheet.Pair.{Pair}
use Rattle.lk_ask.specs.Sheets.{IsKnownPair}
use Rattle.lk_step.specs.Pairs.{pairs_at}
use Rattle.lk_derive.specs.Units.{law_parts, lawful_parts}
use Rattle.lk_derive.specs.Sides.{pair_parts, side_parts, AreSidesOf, definition_value, IsDeclarationIn, AddsPairs}

-- the laws of the operation that is named
pub lawful_some : (o : Option Op) (op : Op) (v : Tree) (laws : List Law) → Some op ≡ o → laws ≡ laws_of op v → law_parts laws ≡ lawful_parts o v
lawful_some o op v laws e k = ap law_parts k ∙ ap (λ z. lawful_parts z v) e

pub no_pairs : (c : Contents) (ps : List (Pair ℕ)) (o : Option Op) (v : Tree) → All (IsKnownPair (length c.trees)) ps → None ≡ o → AddsPairs c c ps ps (lawful_parts o v)
no_pairs c ps o v h e = record {
  pairs_in = h;
  are = sym (append-nil (pair_parts (pairs_at c ps))) ∙ ap (λ z. pair_parts (pairs_at c ps) ++ lawful_parts z v) e;
}

-- the laws of a declaration whose value, where it is a definition, is this
abbrev lawful_sides : Name → Option Tree → List Claim
lawful_sides c None = []
lawful_sides c (Some v) = lawful_parts (lawful_op c) v

side_is : (d : Decl) (b : Body) → side_parts d b ≡ lawful_sides d.name (definition_value b)
side_is d as_axiom = refl
side_is d (as_def h value) = refl
side_is d (as_thm value) = refl
side_is d (as_opaque value) = refl
side_is d as_quot = refl

module _ (d : Contents) (k : Declaration) where
  pub no_sides : (ps : List (Pair ℕ)) → ps ≡ [] → None ≡ definition_value (body_at d k.body) → AreSidesOf d (declaration_at d k) ps
  no_sides ps none is = record {
    pairs_in = subst (All (IsKnownPair (length d.trees))) (sym none) (All-nil (IsKnownPair (length d.trees)));
    are = ap (λ qs. pair_parts (pairs_at d qs)) none ∙ ap (lawful_sides (name_at d k.name)) is ∙ sym (side_is (declaration_at d k) (body_at d k.body));
  }

module _ (c d : Contents) (x : Extends c d) (k : Declaration) (h : IsDeclarationIn c k) where
  pub all_sides : (v : ℕ) → v < length c.trees → Some (tree_at d v) ≡ definition_value (body_at d k.body) → (old new : List (Pair ℕ)) → old ≡ [] →
      AddsPairs c d old new (lawful_parts (lawful_op (name_at c k.name)) (tree_at c v)) → AreSidesOf d (declaration_at d k) new
  all_sides v v_in is old new none adds = record {
    pairs_in = adds.pairs_in;
    are = adds.are
        ∙ ap (λ qs. pair_parts (pairs_at c qs) ++ lawful_parts (lawful_op (name_at c k.name)) (tree_at c v)) none
        ∙ ap (λ n. lawful_parts (lawful_op n) (tree_at c v)) (sym (x.names.same k.name h.stated_in.name_in))
        ∙ ap (lawful_parts (lawful_op (name_at d k.name))) (sym (x.trees.same v v_in))
        ∙ ap (lawful_sides (name_at d k.name)) is
        ∙ sym (side_is (declaration_at d k) (body_at d k.body));
  }
