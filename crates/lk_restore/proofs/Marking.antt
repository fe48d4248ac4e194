-- The marks of what constants stand for, and what they make of the constants at the block's levels and parameters.
use Rattle.std.proofs.Common.{◌≡◌, ◌⊎◌, inl, inr, true, false, List, [], ◌∷◌, map, Option, Some, None, refl, sym, ap, ◌∙◌}
use Rattle.std.specs.Prelude.{option_map, if◌then◌else◌}
use Rattle.std.proofs.lemmas.List.Elements.{All-head, All-tail}
use Rattle.lk_tree.specs.Tree.{Name, name_discrete, Level, Tree, const, tree_discrete, param}
use Rattle.lk_tree.specs.Mentions.{same_name}
use Rattle.lk_tree.specs.Spine.{apply, head}
use Rattle.lk_rulebook.specs.SameTree.{decided}
use Rattle.lk_inductive.specs.Enlarged.{Setting}
use Rattle.lk_inductive.specs.Restore.{Original, applied_to, renamed_as, stands_for}
use Rattle.lk_store.specs.Contents.{Contents, name_at, tree_at}
use Rattle.lk_restore.specs.declared.originals.Original.{Original as CodeOriginal}
use Rattle.lk_restore.specs.declared.originals.Original.TheVariants.{Applied, Renamed}
use Rattle.lk_restore.specs.Originals.{original_at, originals_at, at_own, IsStanding, AreStanding}
use Rattle.lk_restore.specs.Marks.{Mark, whole, another, mark_at, marks_at, marked, first, at_once, instead}
use Rattle.lk_restore.proofs.Params.{head-apply}

abbrev pub mark_of : Setting → Name → Original → Mark
mark_of s n (applied_to J ls bs) = whole n J (at_own s n) (apply (const J ls) bs)
mark_of s n (renamed_as R) = another n R

abbrev pub marks_of : Setting → List (Name × Original) → List Mark
marks_of s ms = map (λ m. mark_of s m.0 m.1) ms

-- the marks of a store are those of what its numbers stand for
module _ (c : Contents) (s : Setting) where
  mark_is : (o : CodeOriginal) → IsStanding c s o → mark_at c o ≡ mark_of s (original_at c o).0 (original_at c o).1
  mark_is (Applied n J from to) h =
      ap (λ t. whole (name_at c n) (name_at c J) t (tree_at c to)) h.0 ∙ ap (whole (name_at c n) (name_at c J) (at_own s (name_at c n))) h.1
  mark_is (Renamed n R) h = refl

  pub marks_are : (os : List CodeOriginal) → AreStanding c s os → marks_at c os ≡ marks_of s (originals_at c os)
  marks_are [] h = refl
  marks_are (o ∷ os) h =
      ap (λ m. m ∷ marks_at c os) (mark_is o (All-head (IsStanding c s) o os h)) ∙ ap (λ ms. mark_of s (original_at c o).0 (original_at c o).1 ∷ ms) (marks_are os (All-tail (IsStanding c s) o os h))

-- what the constant at the block's levels and parameters stands for
abbrev pub whole_of : Option Original → Option Tree
whole_of (Some (applied_to J ls bs)) = Some (apply (const J ls) bs)
whole_of (Some (renamed_as R)) = None
whole_of None = None

module _ (s : Setting) where
  marked_is : (n : Name) (o : Original) → marked (mark_of s n o) ≡ n
  marked_is n (applied_to J ls bs) = refl
  marked_is n (renamed_as R) = refl

  pub first_is : (ms : List (Name × Original)) (c : Name) → first (marks_of s ms) c ≡ option_map (mark_of s c) (stands_for ms c)
  first_is [] c = refl
  first_is (m ∷ ms) c = ap (λ n. if same_name n c then Some (mark_of s m.0 m.1) else first (marks_of s ms) c) (marked_is m.0 m.1) ∙ go (name_discrete m.0 c) (first_is ms c)
    where
      go : (d : Dec (m.0 ≡ c)) → first (marks_of s ms) c ≡ option_map (mark_of s c) (stands_for ms c)
          → (if elim d [ yes e ↦ true | no f ↦ false ] then Some (mark_of s m.0 m.1) else first (marks_of s ms) c)
          ≡ option_map (mark_of s c) (if elim d [ yes e ↦ true | no f ↦ false ] then Some m.1 else stands_for ms c)
      go (yes e) others = ap (λ n. Some (mark_of s n m.1)) e
      go (no f) others = others

  pub at_once_is : (c : Name) (o : Option Original) → at_once (option_map (mark_of s c) o) ≡ whole_of o
  at_once_is c None = refl
  at_once_is c (Some (applied_to J ls bs)) = refl
  at_once_is c (Some (renamed_as R)) = refl

  pub own_head : (c : Name) → head (at_own s c) ≡ const c (map param s.levels)
  unfolding head
  own_head c = head-apply (const c (map param s.levels)) s.params

  own_same : (a b : Name) → at_own s a ≡ at_own s b → a ≡ b
  own_same a b e = let same : const a (map param s.levels) ≡ const b (map param s.levels) = sym (own_head a) ∙ ap head e ∙ own_head b in cc

module _ (s : Setting) (ms : List (Name × Original)) where
  abbrev all : List Mark
  all = marks_of s ms

  at_own_is : (c n : Name) → at_own s c ≡ at_own s n → at_once (first all n) ≡ whole_of (stands_for ms c)
  at_own_is c n e = ap at_once (first_is s ms n) ∙ at_once_is s n (stands_for ms n) ∙ ap (λ m. whole_of (stands_for ms m)) (sym (own_same s c n e))

  -- among the last marks there is none for it, or it is what counts
  mark_own : (n : Name) (o : Original) (rest : List Mark) (c : Name) → (instead all rest (at_own s c) ≡ None) ⊎ (instead all rest (at_own s c) ≡ whole_of (stands_for ms c))
      → (instead all (mark_of s n o ∷ rest) (at_own s c) ≡ None) ⊎ (instead all (mark_of s n o ∷ rest) (at_own s c) ≡ whole_of (stands_for ms c))
  mark_own n (applied_to J ls bs) rest c h = go (tree_discrete (at_own s c) (at_own s n))
    where
      go : (d : Dec (at_own s c ≡ at_own s n)) → ((if decided d then at_once (first all n) else instead all rest (at_own s c)) ≡ None)
          ⊎ ((if decided d then at_once (first all n) else instead all rest (at_own s c)) ≡ whole_of (stands_for ms c))
      go (yes e) = inr (at_own_is c n e)
      go (no f) = h
  mark_own n (renamed_as R) rest c h = h

  own_or_none : (es : List (Name × Original)) (c : Name) → (instead all (marks_of s es) (at_own s c) ≡ None) ⊎ (instead all (marks_of s es) (at_own s c) ≡ whole_of (stands_for ms c))
  own_or_none [] c = inl refl
  own_or_none (m ∷ es) c = mark_own m.0 m.1 (marks_of s es) c (own_or_none es c)

  -- there is one for it
  mark_found : (n : Name) (o : Original) (es : List (Name × Original)) (c J : Name) (ls : List Level) (bs : List Tree)
      → (stands_for es c ≡ Some (applied_to J ls bs) → instead all (marks_of s es) (at_own s c) ≡ whole_of (stands_for ms c))
      → (if same_name n c then Some o else stands_for es c) ≡ Some (applied_to J ls bs) → instead all (mark_of s n o ∷ marks_of s es) (at_own s c) ≡ whole_of (stands_for ms c)
  mark_found n (applied_to K ks cs) es c J ls bs others h = go (tree_discrete (at_own s c) (at_own s n))
    where
      later : (at_own s c ≡ at_own s n → ⊥) → (d : Dec (n ≡ c)) → (if elim d [ yes e ↦ true | no f ↦ false ] then Some (applied_to K ks cs) else stands_for es c) ≡ Some (applied_to J ls bs)
          → stands_for es c ≡ Some (applied_to J ls bs)
      later differs (yes e) i = absurd (differs (ap (at_own s) (sym e)))
      later differs (no f) i = i

      go : (d : Dec (at_own s c ≡ at_own s n)) → (if decided d then at_once (first all n) else instead all (marks_of s es) (at_own s c)) ≡ whole_of (stands_for ms c)
      go (yes e) = at_own_is c n e
      go (no f) = others (later f (name_discrete n c) h)
  mark_found n (renamed_as R) es c J ls bs others h = others (later (name_discrete n c) h)
    where
      later : (d : Dec (n ≡ c)) → (if elim d [ yes e ↦ true | no f ↦ false ] then Some (renamed_as R) else stands_for es c) ≡ Some (applied_to J ls bs) → stands_for es c ≡ Some (applied_to J ls bs)
      later (yes e) i = absurd cc
      later (no f) i = i

  own_found : (es : List (Name × Original)) (c J : Name) (ls : List Level) (bs : List Tree) → stands_for es c ≡ Some (applied_to J ls bs) → instead all (marks_of s es) (at_own s c) ≡ whole_of (stands_for ms c)
  own_found [] c J ls bs h = absurd cc
  own_found (m ∷ es) c J ls bs h = mark_found m.0 m.1 es c J ls bs (own_found es c J ls bs) h

  pub own_instead : (c : Name) → instead all all (at_own s c) ≡ whole_of (stands_for ms c)
  own_instead c = go (stands_for ms c) refl
    where
      go : (o : Option Original) → stands_for ms c ≡ o → instead all all (at_own s c) ≡ whole_of (stands_for ms c)
      go (Some (applied_to J ls bs)) e = own_found ms c J ls bs e
      go (Some (renamed_as R)) e = elim (own_or_none ms c) [ inl h ↦ h ∙ sym (ap whole_of e) | inr h ↦ h ]
      go None e = elim (own_or_none ms c) [ inl h ↦ h ∙ sym (ap whole_of e) | inr h ↦ h ]

  -- any other tree
  mark_other : (n : Name) (o : Original) (rest : List Mark) (t : Tree) → (t ≡ at_own s n → ⊥) → instead all rest t ≡ None → instead all (mark_of s n o ∷ rest) t ≡ None
  mark_other n (applied_to J ls bs) rest t differs h = go (tree_discrete t (at_own s n))
    where
      go : (d : Dec (t ≡ at_own s n)) → (if decided d then at_once (first all n) else instead all rest t) ≡ None
      go (yes e) = absurd (differs e)
      go (no f) = h
  mark_other n (renamed_as R) rest t differs h = h

  pub other_instead : (es : List (Name × Original)) (t : Tree) → ((c : Name) → t ≡ at_own s c → ⊥) → instead all (marks_of s es) t ≡ None
  other_instead [] t differs = refl
  other_instead (m ∷ es) t differs = mark_other m.0 m.1 (marks_of s es) t (differs m.0) (other_instead es t differs)

  -- what comes in the place of any tree is something that a constant stands for
  mark_stands : (n : Name) (o : Original) (rest : List Mark) (t : Tree) → ((x : Option Original) × (instead all rest t ≡ whole_of x)) → (x : Option Original) × (instead all (mark_of s n o ∷ rest) t ≡ whole_of x)
  mark_stands n (applied_to J ls bs) rest t h = go (tree_discrete t (at_own s n))
    where
      go : (d : Dec (t ≡ at_own s n)) → (x : Option Original) × ((if decided d then at_once (first all n) else instead all rest t) ≡ whole_of x)
      go (yes e) = (stands_for ms n, ap at_once (first_is s ms n) ∙ at_once_is s n (stands_for ms n))
      go (no f) = h
  mark_stands n (renamed_as R) rest t h = h

  pub instead_stands : (es : List (Name × Original)) (t : Tree) → (x : Option Original) × (instead all (marks_of s es) t ≡ whole_of x)
  instead_stands [] t = (None, refl)
  instead_stands (m ∷ es) t = mark_stands m.0 m.1 (marks_of s es) t (instead_stands es t)
