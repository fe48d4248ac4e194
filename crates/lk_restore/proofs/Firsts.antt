-- Names and whole trees looked for among marks, one after another.
use Rattle.std.proofs.Common.{◌≡◌, Bool, true, false, List, [], ◌∷◌, Option, Some, None, refl, sym, ap, subst, ◌∙◌, ◌↔◌, IsTrue}
use Rattle.std.specs.Prelude.{All, option_map, if◌then◌else◌}
use Rattle.std.proofs.lemmas.List.Elements.{All-tail}
use Rattle.lk_tree.specs.Tree.{Name, Tree, tree_discrete}
use Rattle.lk_tree.specs.Mentions.{same_name}
use Rattle.lk_rulebook.specs.SameTree.{decided}
use Rattle.lk_inductive.specs.Restore.{stands_for, name_back}
use Rattle.lk_store.specs.Contents.{Contents, name_at}
use Rattle.lk_restore.specs.declared.originals.Original.{Original}
use Rattle.lk_restore.specs.declared.originals.Original.TheVariants.{Applied, Renamed}
use Rattle.lk_restore.specs.Originals.{number_of, original_at, originals_at}
use Rattle.lk_restore.specs.Marks.{Mark, whole, another, mark_at, marks_at, marked, first, at_once, instead}

module _ (m : Mark) (ms : List Mark) (c : Name) where
  pub first_found : same_name (marked m) c ≡ true → first (m ∷ ms) c ≡ Some m
  first_found h = ap (λ b. if b then Some m else first ms c) h

  pub first_next : same_name (marked m) c ≡ false → first (m ∷ ms) c ≡ first ms c
  first_next h = ap (λ b. if b then Some m else first ms c) h

-- a tree that is the whole one of the first mark, and one that is not
module _ (all ms : List Mark) (n J : Name) (from to t : Tree) where
  pub instead_first : (r : Bool) → (IsTrue r ↔ (t ≡ from)) → r ≡ true → instead all (whole n J from to ∷ ms) t ≡ at_once (first all n)
  instead_first r h is = go (tree_discrete t from)
    where
      go : (d : Dec (t ≡ from)) → (if decided d then at_once (first all n) else instead all ms t) ≡ at_once (first all n)
      go (yes e) = refl
      go (no f) = absurd (f (h.0 (subst IsTrue (sym is) refl)))

  pub instead_next : (r : Bool) → (IsTrue r ↔ (t ≡ from)) → r ≡ false → instead all (whole n J from to ∷ ms) t ≡ instead all ms t
  instead_next r h is = go (tree_discrete t from)
    where
      go : (d : Dec (t ≡ from)) → (if decided d then at_once (first all n) else instead all ms t) ≡ instead all ms t
      go (yes e) = absurd (not_both r is (h.1 e))
        where
          not_both : (b : Bool) → b ≡ false → IsTrue b → ⊥
          not_both b f g = absurd cc
      go (no f) = refl

-- the name in the file, by the first mark of a name
abbrev pub back_name : Name → Option Mark → Name
back_name c None = c
back_name c (Some (whole n J from to)) = J
back_name c (Some (another n R)) = R

name_first : (c : Contents) (n : Name) (o : Original) (os : List Original) → name_back n (stands_for (originals_at c os) n) ≡ back_name n (first (marks_at c os) n)
    → name_back n (stands_for (originals_at c (o ∷ os)) n) ≡ back_name n (first (marks_at c (o ∷ os)) n)
name_first c n (Applied m J from to) os others = go (same_name (name_at c m) n)
  where
    go : (b : Bool) → name_back n (if b then Some (original_at c (Applied m J from to)).1 else stands_for (originals_at c os) n) ≡ back_name n (if b then Some (mark_at c (Applied m J from to)) else first (marks_at c os) n)
    go true = refl
    go false = others
name_first c n (Renamed m R) os others = go (same_name (name_at c m) n)
  where
    go : (b : Bool) → name_back n (if b then Some (original_at c (Renamed m R)).1 else stands_for (originals_at c os) n) ≡ back_name n (if b then Some (mark_at c (Renamed m R)) else first (marks_at c os) n)
    go true = refl
    go false = others

pub names_back : (c : Contents) (n : Name) (os : List Original) → name_back n (stands_for (originals_at c os) n) ≡ back_name n (first (marks_at c os) n)
names_back c n [] = refl
names_back c n (o ∷ os) = name_first c n o os (names_back c n os)

-- the same by what was found
pub name_found : (c : Contents) (n : Name) (os : List Original) (o : Option Original) → option_map (mark_at c) o ≡ first (marks_at c os) n → back_name n (option_map (mark_at c) o) ≡ name_back n (stands_for (originals_at c os) n)
name_found c n os o h = ap (back_name n) h ∙ sym (names_back c n os)

-- what is left of a list of which each has a property
pub rest_have : {X : Type 0} (P : X → Type 0) (xs : List X) (x : X) (more : List X) → xs ≡ x ∷ more → All P xs → All P more
rest_have P xs x more e h = All-tail P x more (subst (All P) e h)

pub marked_at : (c : Contents) (o : Original) → marked (mark_at c o) ≡ name_at c (number_of o)
marked_at c (Applied n J from to) = refl
marked_at c (Renamed n R) = refl
