-- Projections and fields in pairs, made from the last one on.
use Rattle.std.proofs.Common.{◌≡◌, ℕ, suc, ◌<◌, Bool, false, List, [], ◌∷◌, ◌++◌, length, map, All, refl, sym, ap, ◌∙◌, arith, append_assoc, if◌then◌else◌}
use Rattle.std.specs.Prelude.{Option, Some, drop}
use Rattle.std.proofs.lemmas.List.{map-append, reverse-append, length-append}
use Rattle.std.proofs.lemmas.List.Elements.{All-pop}
use Rattle.lk_tree.specs.Tree.{Name, Tree, proj}
use Rattle.lk_tree.specs.Spine.{args}
use Rattle.lk_rulebook.specs.Place.{Place, BlockType, Ctor}
use Rattle.lk_rulebook.specs.Structures.{projections}
use Rattle.lk_questions.specs.Query.{same}
use Rattle.lk_questions.specs.Program.{Program, done, ask}
use Rattle.lk_questions.specs.Erased.{truth, erased}
use Rattle.lk_questions.specs.Pairs.{same_all, answers_yes, ◌or_else◌}
use Rattle.lk_questions.specs.Eta.{same_fields}
use Rattle.lk_store.specs.Contents.{Contents, name_at, tree_at, Extends}
use Rattle.lk_ask.specs.declared.sheet.Pair.{Pair}
use Rattle.lk_mentions.specs.declared.structures.Structure.{Structure}
use Rattle.lk_ask.specs.Sheets.{map_pair, IsKnownPair}
use Rattle.lk_mentions.specs.Structures.{IsStructure}
use Rattle.lk_ask.proofs.Sheets.{pairs_steady}
use Rattle.lk_ask.specs.Lines.{Rest, lefts, rights}
use Rattle.lk_eta.specs.Fields.{ArePairs}

pub all_last : {X : Type 0} (P : X → Type 0) (xs others : List X) (x : X) → xs ≡ others ++ x ∷ [] → All P xs → P x
all_last P xs others x e h = (All-pop P xs others (Some x) e h).1

pub all_others : {X : Type 0} (P : X → Type 0) (xs others : List X) (x : X) → xs ≡ others ++ x ∷ [] → All P xs → All P others
all_others P xs others x e h = (All-pop P xs others (Some x) e h).0

pub lefts-push : (ps : List (Pair Tree)) (p : Pair Tree) → lefts (ps ++ p ∷ []) ≡ p.left ∷ lefts ps
lefts-push ps p = ap (map (λ (q : Pair Tree). q.left)) (reverse-append ps (p ∷ []))

pub rights-push : (ps : List (Pair Tree)) (p : Pair Tree) → rights (ps ++ p ∷ []) ≡ p.right ∷ rights ps
rights-push ps p = ap (map (λ (q : Pair Tree). q.right)) (reverse-append ps (p ∷ []))

module _ {c d : Contents} (x : Extends c d) (ps : List (Pair ℕ)) (known : All (IsKnownPair (length c.trees)) ps) (p : Pair ℕ) where
  mapped : map (map_pair (tree_at d)) (ps ++ p ∷ []) ≡ map (map_pair (tree_at c)) ps ++ map_pair (tree_at d) p ∷ []
  mapped = map-append (map_pair (tree_at d)) ps (p ∷ []) ∙ ap (λ qs. qs ++ map_pair (tree_at d) p ∷ []) (pairs_steady x ps known)

  -- one projection more
  pub lefts_next : (J : Name) (a : Tree) (m n : ℕ) → m ≡ suc n → lefts (map (map_pair (tree_at c)) ps) ≡ projections J a m (length ps) → tree_at d p.left ≡ proj J n a
      → lefts (map (map_pair (tree_at d)) (ps ++ p ∷ [])) ≡ projections J a n (length (ps ++ p ∷ []))
  lefts_next J a m n e was is =
      let long : length (ps ++ p ∷ []) ≡ suc (length ps) = let l = length-append ps (p ∷ []) in omega arith in
      ap lefts mapped ∙ lefts-push (map (map_pair (tree_at c)) ps) (map_pair (tree_at d) p)
      ∙ ap (λ t. t ∷ lefts (map (map_pair (tree_at c)) ps)) is
      ∙ ap (λ ts. proj J n a ∷ ts) (was ∙ ap (λ k. projections J a k (length ps)) e)
      ∙ ap (projections J a n) (sym long)

  -- one field more
  pub rights_next : (f : ℕ → Tree) (left others : List ℕ) (y : ℕ) (whole : List Tree) → left ≡ others ++ y ∷ [] → tree_at d p.right ≡ f y
      → map f left ++ rights (map (map_pair (tree_at c)) ps) ≡ whole → map f others ++ rights (map (map_pair (tree_at d)) (ps ++ p ∷ [])) ≡ whole
  rights_next f left others y whole split is was =
      ap (λ qs. map f others ++ rights qs) mapped
      ∙ ap (λ ts. map f others ++ ts) (rights-push (map (map_pair (tree_at c)) ps) (map_pair (tree_at d) p))
      ∙ ap (λ t. map f others ++ t ∷ rights (map (map_pair (tree_at c)) ps)) is
      ∙ sym (append_assoc (map f others) (f y ∷ []) (rights (map (map_pair (tree_at c)) ps)))
      ∙ ap (λ ts. ts ++ rights (map (map_pair (tree_at c)) ps)) (sym (map-append f others (y ∷ [])))
      ∙ ap (λ ys. map f ys ++ rights (map (map_pair (tree_at c)) ps)) (sym split)
      ∙ was

-- they are compared as the fields are
pub fields_same : (J : Name) (a : Tree) (j : ℕ) (xs : List Tree) → same_all (projections J a j (length xs)) xs ≡ same_fields J a j xs
fields_same J a j [] = refl
fields_same J a j (x ∷ xs) = ap (λ (rest : Program Bool). ask (same (proj J j a) x) (λ (equal : Bool). if equal then rest else done false)) (fields_same J a (suc j) xs)

-- the pairs of a structure's fields
pub pairs_are : (d : Contents) (J : Name) (a : Tree) (xs : List Tree) (pairs : List (Pair ℕ)) → ArePairs d J a xs pairs → same_all (lefts (map (map_pair (tree_at d)) pairs)) (rights (map (map_pair (tree_at d)) pairs)) ≡ same_fields J a 0 xs
pairs_are d J a xs pairs h = rw (h.lefts_are, h.rights_are) (fields_same J a 0 xs)

-- so a structure's fields are compared
pub compared : (c d : Contents) → Extends c d → (a b : ℕ) → a < length c.trees → b < length c.trees → (st : Structure) (s : BlockType × Ctor) → IsStructure c st s → (pairs : List (Pair ℕ))
    → ArePairs d (name_at c st.inductive) (tree_at c a) (drop st.parameters (args (tree_at c b))) pairs → (p : Rest) (w : Place) (last : Option ℕ)
    → erased w truth last (answers_yes (same_all (lefts (map (map_pair (tree_at d)) pairs)) (rights (map (map_pair (tree_at d)) pairs))) or_else p (tree_at d a) (tree_at d b))
    ≡ erased w truth last (answers_yes (same_fields s.0.name (tree_at c a) 0 (drop s.1.parameters (args (tree_at c b)))) or_else p (tree_at c a) (tree_at c b))
compared c d x a b a_in b_in st s is pairs h p w last =
    let J = name_at c st.inductive in
    let A = tree_at c a in
    let B = tree_at c b in
    ap (λ (q : Program Bool). erased w truth last (answers_yes q or_else p (tree_at d a) (tree_at d b))) (pairs_are d J A (drop st.parameters (args B)) pairs h)
    ∙ ap (λ y. erased w truth last (answers_yes (same_fields J A 0 (drop st.parameters (args B))) or_else p y (tree_at d b))) (x.trees.same a a_in)
    ∙ ap (λ y. erased w truth last (answers_yes (same_fields J A 0 (drop st.parameters (args B))) or_else p A y)) (x.trees.same b b_in)
    ∙ ap (λ n. erased w truth last (answers_yes (same_fields n A 0 (drop st.parameters (args B))) or_else p A B)) is.inductive_is
    ∙ ap (λ k. erased w truth last (answers_yes (same_fields s.0.name A 0 (drop k (args B))) or_else p A B)) is.parameters_are
