-- The type of the subject, a structure applied: its sort is asked for, and what is kept meanwhile.
use Rattle.std.proofs.Common.{◌≡◌, ◌+◌, ℕ, Bool, true, false, ◌&&◌, List, [], ◌∷◌, ◌++◌, length}
use Rattle.std.proofs.Common.{map}
use Rattle.std.proofs.Common.{reverse, nat_eq, Option, Some, None, refl, ap, sym, subst, ◌∙◌}
use Rattle.std.specs.Prelude.{nat_lt, option_map}
use Rattle.std.proofs.lemmas.List.{map-append, reverse-append, reverse-reverse}
use Rattle.lk_tree.specs.Tree.{Name, Level, Tree, proj}
use Rattle.lk_tree.specs.Levels.{put_levels}
use Rattle.lk_tree.specs.Level.{is_zero_level}
use Rattle.lk_tree.specs.Spine.{args}
use Rattle.lk_tree.specs.declared.rule.Rule.TheVariants.{BadProjection, LevelCount}
use Rattle.lk_rulebook.specs.Place.{Place, BlockType, Ctor}
use Rattle.lk_questions.specs.Query.{whnf, infer}
use Rattle.lk_questions.specs.Program.{Program, done, ask, ◌>>=◌}
use Rattle.lk_questions.specs.Erased.{a_tree, Steps, asks, with_tree, refuses, erased}
use Rattle.lk_questions.specs.Steps.{given, sort_of}
use Rattle.lk_questions.specs.Projections.{past_parameters, field_type, of_struct}
use Rattle.lk_store.specs.Contents.{Contents, tree_at}
use Rattle.lk_ask.specs.Constants.{IsAtLevels}
use Rattle.lk_proj.specs.Infers.{sort_rest}

-- the arguments on the stack
pub stacked : (f : ℕ → Tree) (xs : List ℕ) → reverse (map f (reverse xs)) ≡ map f xs
stacked f xs = ap reverse (map-reverse xs) ∙ reverse-reverse (map f xs)
  where
    map-reverse : (ys : List ℕ) → map f (reverse ys) ≡ reverse (map f ys)
    map-reverse [] = refl
    map-reverse (y ∷ ys) =
        let first : reverse (y ∷ ys) ≡ reverse ys ++ y ∷ [] = reverse-append (y ∷ []) ys in
        let second : reverse (f y ∷ map f ys) ≡ reverse (map f ys) ++ f y ∷ [] = reverse-append
        (f y ∷ []) (map f ys) in
        rw (first, second, map-append, map-reverse ys) refl

-- the type of the subject's type is asked for
abbrev pub waiting_type : Place → Option ℕ → Tree → Tree → List Tree → ℕ → Option Tree → Steps
waiting_type w last e T bs n r = asks last (infer T) (with_tree (λ K. erased w a_tree None
    (ask (whnf K) (λ S. sort_rest
    (record { projection = e; arguments = bs; parameters = n }) r S))))

-- the constructor's type at levels, where they are as many as its parameters
abbrev pub IsCtorType : List Name → List Level → Tree → Option Tree → Type 0
IsCtorType ps ls t (Some r) = (nat_eq (length ls) (length ps) ≡ true) × (r ≡ put_levels ps ls t)
IsCtorType ps ls t None = nat_eq (length ls) (length ps) ≡ false

pub ctor_type_is : (c : Contents) (ps qs : List Name) (ls : List Level) (t u : Tree) (r : Option ℕ)
    → ps ≡ qs → t ≡ u → IsAtLevels c ps ls t r → IsCtorType qs ls u (option_map (tree_at c) r)
ctor_type_is c ps qs ls t u r names same h =
    subst (λ y. IsCtorType qs ls y (option_map (tree_at c) r)) same
    (subst (λ ns. IsCtorType ns ls t (option_map (tree_at c) r)) names (go r h))
  where
    go : (o : Option ℕ) → IsAtLevels c ps ls t o → IsCtorType ps ls t (option_map (tree_at c) o)
    go (Some n) i = (i.0, i.1.is)
    go None i = i

module _ (w : Place) (last : Option ℕ) (S : Name) (i : ℕ) (s T : Tree) (ls : List Level)
    (ind : BlockType) (k : Ctor) where
  -- all that is asked, where the levels are as many or not
  abbrev counted : Bool → Program Tree
  counted enough = do
    l ← sort_of T
    r ← given enough LevelCount (done (put_levels k.levels ls k.type))
    t ← past_parameters (args T) ind.parameters r
    field_type S s (is_zero_level l) 0 i t

  -- the same at any levels, where these arguments are put
  abbrev put : List Tree → Program Tree
  put bs = do
    l ← sort_of T
    t ← past_parameters bs ind.parameters (put_levels k.levels ls k.type)
    field_type S s (is_zero_level l) 0 i t

  by_count : (bs : List Tree) (r : Option Tree) → reverse bs ≡ args T
      → IsCtorType k.levels ls k.type r
      → waiting_type w last (proj S i s) T bs ind.parameters r
      ≡ erased w a_tree last (counted (nat_eq (length ls) (length k.levels)))
  by_count bs (Some r) are h =
      ap (λ t. waiting_type w last (proj S i s) T bs ind.parameters (Some t)) h.1
      ∙ ap (λ ys. erased w a_tree last (put ys)) are
      ∙ ap (λ b. erased w a_tree last (counted b)) (sym h.0)
  by_count bs None are h = ap (λ b. erased w a_tree last (counted b)) (sym h)

  abbrev fits : Bool
  fits = nat_eq (length (args T)) (ind.parameters + ind.indices) && nat_lt i k.fields

  abbrev fitted : Bool → Program Tree
  fitted b = given b BadProjection (counted (nat_eq (length ls) (length k.levels)))

  pub misfit : fits ≡ false
      → refuses BadProjection ≡ erased w a_tree last (of_struct S i s T ls ind (k ∷ []))
  misfit off = ap (λ b. erased w a_tree last (fitted b)) (sym off)

  pub type_asked : (e U : Tree) (bs : List Tree) (n : ℕ) (r : Option Tree) → fits ≡ true
      → e ≡ proj S i s → U ≡ T → reverse bs ≡ args T → n ≡ ind.parameters
      → IsCtorType k.levels ls k.type r
      → waiting_type w last e U bs n r
      ≡ erased w a_tree last (of_struct S i s T ls ind (k ∷ []))
  type_asked e U bs n r fit is same arguments parameters at =
      ap (λ y. waiting_type w last y U bs n r) is
      ∙ ap (λ y. waiting_type w last (proj S i s) y bs n r) same
      ∙ ap (λ y. waiting_type w last (proj S i s) T bs y r) parameters
      ∙ by_count bs r arguments at
      ∙ ap (λ b. erased w a_tree last (fitted b)) (sym fit)
