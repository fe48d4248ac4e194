-- The outermost occurrences of a tree are met one after another.
use Rattle.std.proofs.Common.{◌≡◌, Bool, true, false, ◌||◌, List, [], ◌∷◌, ◌++◌, refl, sym, ap, ◌∙◌, append_assoc}
use Rattle.std.specs.Prelude.{if◌then◌else◌}
use Rattle.std.proofs.lemmas.List.{append-nil}
use Rattle.lk_tree.specs.Tree.{Name, Tree}
use Rattle.lk_rulebook.specs.Place.{Place}
use Rattle.lk_rulebook.specs.SameTree.{is_same_tree}
use Rattle.lk_inductive.specs.BlockSteps.{is_among}
use Rattle.lk_nested.specs.Outermost.{unmet_of, Tell}
use Rattle.lk_nested.specs.Unmet.{First, new, first_unmet}
use Rattle.lk_nested.proofs.Gathering.{among_behind}

-- these were met, and those of os are left
abbrev pub AreLeft : Place → List Name → Tree → List Tree → List Tree → First → Type 0
AreLeft w ns e met os last = (more : List Tree) → first_unmet w ns (met ++ more) e ≡ unmet_of (met ++ more) os last

among_more : (o : Tree) (xs ys : List Tree) → is_among o xs ≡ true → is_among o (xs ++ ys) ≡ true
among_more o [] ys h = absurd cc
among_more o (x ∷ xs) ys h = go (is_same_tree o x) (among_more o xs ys) h
  where
    go : (b : Bool) → (is_among o xs ≡ true → is_among o (xs ++ ys) ≡ true) → (b || is_among o xs) ≡ true → (b || is_among o (xs ++ ys)) ≡ true
    go true others i = refl
    go false others i = others i

module _ (w : Place) (ns : List Name) (e : Tree) (last : First) where
  pub left_first : (met os : List Tree) → Tell w ns e os last → AreLeft w ns e met os last
  left_first met os tell more = tell (met ++ more)

  pub left_end : (met os : List Tree) → os ≡ [] → AreLeft w ns e met os last → first_unmet w ns met e ≡ last
  left_end met os none left = ap (λ xs. first_unmet w ns xs e) (sym (append-nil met)) ∙ left [] ∙ ap (λ xs. unmet_of (met ++ []) xs last) none

  module _ (met all os : List Tree) (o : Tree) (split : all ≡ o ∷ os) (left : AreLeft w ns e met all last) where
    -- it was met before
    pub left_known : is_among o met ≡ true → AreLeft w ns e met os last
    left_known known more =
        left more ∙ ap (λ xs. unmet_of (met ++ more) xs last) split
        ∙ ap (λ (b : Bool). if b then unmet_of (met ++ more) os last else new o) (among_more o met more known)

    -- it is the first that is new
    pub left_new : is_among o met ≡ false → first_unmet w ns met e ≡ new o
    left_new other =
        ap (λ xs. first_unmet w ns xs e) (sym (append-nil met)) ∙ left [] ∙ ap (λ xs. unmet_of (met ++ []) xs last) split
        ∙ ap (λ (b : Bool). if b then unmet_of (met ++ []) os last else new o) (ap (is_among o) (append-nil met) ∙ other)

    -- it is met
    pub left_on : AreLeft w ns e (met ++ o ∷ []) os last
    left_on more =
        ap (λ xs. first_unmet w ns xs e) (append_assoc met (o ∷ []) more)
        ∙ left (o ∷ more) ∙ ap (λ xs. unmet_of (met ++ o ∷ more) xs last) split
        ∙ ap (λ (b : Bool). if b then unmet_of (met ++ o ∷ more) os last else new o) (among_behind o met more)
        ∙ ap (λ xs. unmet_of xs os last) (sym (append_assoc met (o ∷ []) more))
