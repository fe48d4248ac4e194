-- Fields and what they give, one after another.
use Rattle.std.proofs.Common.{◌≡◌, ◌<◌, ℕ, List, [], ◌∷◌, ◌++◌, map, length, All, refl, sym, ap, ◌∙◌, append_assoc}
use Rattle.std.proofs.lemmas.List.{append-nil}
use Rattle.std.proofs.lemmas.List.Elements.{All-map, All-same, All-weaker}
use Rattle.lk_tree.specs.Tree.{Name, Tree}
use Rattle.lk_store.specs.Contents.{Contents, tree_at}
use Rattle.lk_inductive.specs.Block as plain
use Rattle.lk_inductive.specs.Recursors.{variables, with_hypothesis, hypotheses, with_induction, inductions}
use Rattle.lk_block.specs.declared.shape.Field.{Field}
use Rattle.lk_block.specs.Shapes.{field_at, IsFieldIn}
use Rattle.lk_recursor.specs.declared.recursive.Heading.{Heading}
use Rattle.lk_recursor.specs.declared.recursive.Heading.TheVariants.{Motives, Recursors}
use Rattle.lk_recursor.specs.Recursive.{term_of, terms_of}

-- the Locals of fields
pub variables_are : (c : Contents) (fs : List Field) → variables (map (field_at c) fs) ≡ map (tree_at c) (map (λ (f : Field). f.variable) fs)
variables_are c [] = refl
variables_are c (f ∷ fs) = ap (λ ts. tree_at c f.variable ∷ ts) (variables_are c fs)

pub variables_known : (c : Contents) (fs : List Field) → All (IsFieldIn c) fs → All (λ e. e < length c.trees) (map (λ (f : Field). f.variable) fs)
variables_known c fs h = All-map (λ e. e < length c.trees) (λ (f : Field). f.variable) fs (All-weaker (IsFieldIn c) (λ (f : Field). f.variable < length c.trees) (λ f k. k.variable_in) fs h)

-- and where a list is theirs
pub variables_at : (c : Contents) (given : List ℕ) (fs : List Field) → given ≡ map (λ (f : Field). f.variable) fs → map (tree_at c) given ≡ variables (map (field_at c) fs)
variables_at c given fs same = ap (map (tree_at c)) same ∙ sym (variables_are c fs)

pub variables_in : (c : Contents) (given : List ℕ) (fs : List Field) → given ≡ map (λ (f : Field). f.variable) fs → All (IsFieldIn c) fs → All (λ e. e < length c.trees) given
variables_in c given fs same h = All-same (λ e. e < length c.trees) given (map (λ (f : Field). f.variable) fs) same (variables_known c fs h)

-- one field's term stands before those of the others
with_hypothesis-front : (s : plain.Shape) (x : Tree) (k : plain.FieldKind) (rest : List Tree) → with_hypothesis s x k rest ≡ with_hypothesis s x k [] ++ rest
with_hypothesis-front s x plain.plain rest = refl
with_hypothesis-front s x (plain.recursive ys T is) rest = refl

with_induction-front : (s : plain.Shape) (x : Tree) (k : plain.FieldKind) (rest : List Tree) → with_induction s x k rest ≡ with_induction s x k [] ++ rest
with_induction-front s x plain.plain rest = refl
with_induction-front s x (plain.recursive ys T is) rest = refl

pub terms-cons : (h : Heading) (s : plain.Shape) (f : plain.Field) (fs : List plain.Field) → terms_of h s (f ∷ fs) ≡ terms_of h s (f ∷ []) ++ terms_of h s fs
terms-cons (Motives h) s f fs = with_hypothesis-front s f.variable f.kind (hypotheses s fs)
terms-cons (Recursors h) s f fs = with_induction-front s f.variable f.kind (inductions s fs)

-- that of a recursive field, and none of another one
pub terms-one : (h : Heading) (s : plain.Shape) (f : plain.Field) (ys : List Tree) (T : Name) (is : List Tree) → f.kind ≡ plain.recursive ys T is → terms_of h s (f ∷ []) ≡ term_of h s f.variable ys T is ∷ []
terms-one (Motives h) s f ys T is e = ap (λ (k : plain.FieldKind). with_hypothesis s f.variable k []) e
terms-one (Recursors h) s f ys T is e = ap (λ (k : plain.FieldKind). with_induction s f.variable k []) e

pub terms-none : (h : Heading) (s : plain.Shape) (f : plain.Field) (found : List Tree) → f.kind ≡ plain.plain → found ≡ found ++ terms_of h s (f ∷ [])
terms-none (Motives h) s f found e = sym (ap (λ (k : plain.FieldKind). found ++ with_hypothesis s f.variable k []) e ∙ append-nil found)
terms-none (Recursors h) s f found e = sym (ap (λ (k : plain.FieldKind). found ++ with_induction s f.variable k []) e ∙ append-nil found)

-- what one step adds to what is found, where something is left
pub added_more : (found more one rest front whole : List Tree) → found ++ front ≡ whole → front ≡ one ++ rest → more ≡ found ++ one → more ++ rest ≡ whole
added_more found more one rest front whole was split is =
    ap (λ ys. ys ++ rest) is ∙ append_assoc found one rest ∙ ap (λ ys. found ++ ys) (sym split) ∙ was
