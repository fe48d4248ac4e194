-- What trees are read back by, whatever names a setting has, and where nothing stands for anything.
use Rattle.std.proofs.Common.{◌≡◌, List, [], ◌∷◌, refl, sym, ap, ◌∙◌}
use Rattle.std.proofs.Math.Path.{fun_ext}
use Rattle.std.proofs.lemmas.List.Elements.{All-nil}
use Rattle.lk_tree.specs.Tree.{Name, Tree, var, sort, const, app, lam, pi, let_in, proj, lit, wide, str, local}
use Rattle.lk_tree.specs.Spine.{apply}
use Rattle.lk_inductive.specs.Block.{Shape, AreLocals}
use Rattle.lk_inductive.specs.Enlarged.{Setting}
use Rattle.lk_inductive.specs.Recursors.{Restoring, minors, recursors, recursors_by}
use Rattle.lk_inductive.proofs.ReadBack.{same_recs}
use Rattle.lk_inductive.specs.Restore as plain
use Rattle.lk_inductive.specs.Restore.{restore, restoring, stands_for, name_back}
use Rattle.lk_store.specs.Contents.{Contents}
use Rattle.lk_restore.specs.declared.originals.Original.{Original}
use Rattle.lk_restore.specs.Originals.{originals_at, AreReadOver, IsOriginalIn, IsStanding, setting_of, restoring_at, AreOriginals}

module _ (ms : List (Name × plain.Original)) (ns ls : List Name) (ps : List Tree) where
  abbrev s : Setting
  s = record { names = ns; levels = ls; params = ps }

  abbrev t : Setting
  t = record { names = []; levels = ls; params = ps }

  -- the names of a setting do not matter
  names_aside : (e : Tree) (xs : List Tree) → restore ms s e xs ≡ restore ms t e xs
  names_aside (app f a) xs = names_aside f (restore ms s a [] ∷ xs) ∙ ap (λ b. restore ms t f (b ∷ xs)) (names_aside a [])
  names_aside (const c ks) xs = refl
  names_aside (lam A b) xs = ap (λ x. apply (lam x (restore ms s b [])) xs) (names_aside A []) ∙ ap (λ x. apply (lam (restore ms t A []) x) xs) (names_aside b [])
  names_aside (pi A B) xs = ap (λ x. apply (pi x (restore ms s B [])) xs) (names_aside A []) ∙ ap (λ x. apply (pi (restore ms t A []) x) xs) (names_aside B [])
  names_aside (let_in A v b) xs =
      ap (λ x. apply (let_in x (restore ms s v []) (restore ms s b [])) xs) (names_aside A [])
      ∙ ap (λ x. apply (let_in (restore ms t A []) x (restore ms s b [])) xs) (names_aside v [])
      ∙ ap (λ x. apply (let_in (restore ms t A []) (restore ms t v []) x) xs) (names_aside b [])
  names_aside (proj S i e) xs = ap (λ x. apply (proj S i x) xs) (names_aside e [])
  names_aside (var i) xs = refl
  names_aside (sort l) xs = refl
  names_aside (lit n) xs = refl
  names_aside wide xs = refl
  names_aside (str k) xs = refl
  names_aside (local k T) xs = refl

  same_restoring : restoring ms t ≡ restoring ms s
  same_restoring = ap by_trees (fun_ext back)
    where
      by_trees : (Tree → Tree) → Restoring
      by_trees f = record { named = λ c. name_back c (stands_for ms c); tree = f }

      back : (e : Tree) → restore ms t e [] ≡ restore ms s e []
      back e = sym (names_aside e [])

-- what a store's numbers stand for is what stands for something in the definitions
pub reads_as : (c : Contents) (os : List Original) (p : Shape) (ms : List (Name × plain.Original)) (s : Setting) → originals_at c os ≡ ms → p.levels ≡ s.levels → p.params ≡ s.params → restoring_at c os p ≡ restoring ms s
reads_as c os p ms s are levels params =
    ap (λ xs. restoring xs (setting_of p)) are
    ∙ ap (λ ls. restoring ms (record { names = []; levels = ls; params = p.params })) levels
    ∙ ap (λ ps. restoring ms (record { names = []; levels = s.levels; params = ps })) params
    ∙ same_restoring ms s.names s.levels s.params

-- nothing stands for anything
pub none_stand : (c : Contents) (p : Shape) → AreOriginals c p []
none_stand c p = record { known = All-nil (IsOriginalIn c); standing = All-nil (IsStanding c (setting_of p)); over = tt }

pub recursors_stay : (c : Contents) (p : Shape) → recursors_by (restoring_at c [] p) p ≡ recursors p
recursors_stay c p = same_recs p (setting_of p) (minors p) p.types

-- over Locals anything is read back
pub over_locals : (os : List Original) (ps : List Tree) → AreLocals ps → AreReadOver os ps
over_locals [] ps h = tt
over_locals (o ∷ os) ps h = h
