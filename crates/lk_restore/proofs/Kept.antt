-- Locals are read back as they are, and nothing else is read back as a Local.
use Rattle.std.proofs.Common.{◌≡◌, Bool, true, false, List, [], ◌∷◌, map, Option, Some, None, refl, sym, ap, ◌∙◌}
use Rattle.lk_tree.specs.Tree.{Name, Level, Tree, var, sort, const, app, lam, pi, let_in, proj, lit, wide, str, local}
use Rattle.lk_tree.specs.Spine.{apply}
use Rattle.lk_inductive.specs.Block.{IsLocal, a_local, AreLocals}
use Rattle.lk_inductive.specs.Enlarged.{Setting}
use Rattle.lk_inductive.specs.Restore.{Original, applied_to, renamed_as}
use Rattle.lk_restore.specs.Marks.{Mark, whole, another, first, instead, constant_back, or_built, read}
use Rattle.lk_restore.proofs.Marking.{marks_of, whole_of, instead_stands}

abbrev is_local : Tree → Bool
is_local (local k T) = true
is_local _ = false

abbrev is_local_in : Option Tree → Bool
is_local_in (Some t) = is_local t
is_local_in None = false

local_is : (p : Tree) → IsLocal p → is_local p ≡ true
local_is p a_local = refl

apply_is_none : (h : Tree) (xs : List Tree) → is_local h ≡ false → is_local (apply h xs) ≡ false
apply_is_none h [] e = e
apply_is_none h (x ∷ xs) e = apply_is_none (app h x) xs refl

whole_is_none : (x : Option Original) → is_local_in (whole_of x) ≡ false
whole_is_none None = refl
whole_is_none (Some (applied_to J ls bs)) = apply_is_none (const J ls) bs refl
whole_is_none (Some (renamed_as R)) = refl

built_is_none : (o : Option Tree) (t : Tree) → is_local_in o ≡ false → is_local t ≡ false → is_local (or_built o t) ≡ false
built_is_none (Some r) t h e = h
built_is_none None t h e = e

constant_is_none : (c : Name) (ls : List Level) (m : Option Mark) → is_local (constant_back c ls m) ≡ false
constant_is_none c ls None = refl
constant_is_none c ls (Some (whole n J from to)) = refl
constant_is_none c ls (Some (another n R)) = refl

module _ (s : Setting) (ms : List (Name × Original)) where
  abbrev all : List Mark
  all = marks_of s ms

  instead_is_none : (t : Tree) → is_local_in (instead all all t) ≡ false
  instead_is_none t = let p = instead_stands s ms ms t in ap is_local_in p.1 ∙ whole_is_none p.0

  local_kept : (t : Tree) → is_local t ≡ true → read all t ≡ t
  unfolding read
  local_kept (local k T) h = refl
  local_kept (var i) h = absurd cc
  local_kept (sort l) h = absurd cc
  local_kept (const c ls) h = absurd cc
  local_kept (app f a) h = absurd cc
  local_kept (lam A b) h = absurd cc
  local_kept (pi A B) h = absurd cc
  local_kept (let_in A v b) h = absurd cc
  local_kept (proj S i e) h = absurd cc
  local_kept (lit n) h = absurd cc
  local_kept wide h = absurd cc
  local_kept (str k) h = absurd cc

  none_kept : (t : Tree) → is_local t ≡ false → is_local (read all t) ≡ false
  unfolding read
  none_kept (local k T) h = absurd cc
  none_kept (const c ls) h = built_is_none (instead all all (const c ls)) (constant_back c ls (first all c)) (instead_is_none (const c ls)) (constant_is_none c ls (first all c))
  none_kept (app f a) h = built_is_none (instead all all (app f a)) (app (read all f) (read all a)) (instead_is_none (app f a)) refl
  none_kept (lam A b) h = refl
  none_kept (pi A B) h = refl
  none_kept (let_in A v b) h = refl
  none_kept (proj S i e) h = refl
  none_kept (var i) h = refl
  none_kept (sort l) h = refl
  none_kept (lit n) h = refl
  none_kept wide h = refl
  none_kept (str k) h = refl

  pub locals_kept : (ps : List Tree) → AreLocals ps → map (read all) ps ≡ ps
  locals_kept [] h = refl
  locals_kept (p ∷ ps) h = ap (λ q. q ∷ map (read all) ps) (local_kept p (local_is p h.0)) ∙ ap (λ qs. p ∷ qs) (locals_kept ps h.1)

  local_back : (x p : Tree) → IsLocal p → read all x ≡ p → x ≡ p
  local_back x p h e = go (is_local x) refl
    where
      go : (b : Bool) → is_local x ≡ b → x ≡ p
      go true i = sym (local_kept x i) ∙ e
      go false i = let one : is_local p ≡ true = local_is p h in let other : is_local p ≡ false = ap is_local (sym e) ∙ none_kept x i in absurd cc

  pub locals_back : (xs ps : List Tree) → AreLocals ps → map (read all) xs ≡ ps → xs ≡ ps
  locals_back [] [] h e = refl
  locals_back [] (p ∷ ps) h e = absurd cc
  locals_back (x ∷ xs) [] h e = absurd cc
  locals_back (x ∷ xs) (p ∷ ps) h e =
      let first_is : read all x ≡ p = cc in
      let others_are : map (read all) xs ≡ ps = cc in
      ap (λ y. y ∷ xs) (local_back x p h.0 first_is) ∙ ap (λ ys. p ∷ ys) (locals_back xs ps h.1 others_are)
