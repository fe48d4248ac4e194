-- A Local that is put in brings no name.
use Rattle.std.proofs.Common.{◌≡◌, ◌<◌, ℕ, suc, Bool, true, false, ◌||◌, List, length, map, Option, None, Some, refl, ap, sym, ◌∙◌, arith}
use Rattle.std.specs.Prelude.{All, IfSome, nat_eq, nat_lt, ◌-◌, if◌then◌else◌}
use Rattle.lk_tree.specs.Tree.{Name, Tree, var, sort, const, app, lam, pi, let_in, proj, lit, wide, str, local}
use Rattle.lk_tree.specs.Bind.{open_at, opened}
use Rattle.lk_tree.specs.Mentions.{mentions}
use Rattle.lk_store.specs.Contents.{Contents, name_at, tree_at, Extends}
use Rattle.lk_env.proofs.Stays.{names_stay}

module _ (ns : List Name) (v : Tree) (none : mentions ns v ≡ false) where
  opened_var : (below here : Bool) (i j : ℕ) → mentions ns (if below then var i else (if here then v else var j)) ≡ false
  opened_var true here i j = refl
  opened_var false true i j = none
  opened_var false false i j = refl

  pub open_mentions : (e : Tree) (d : ℕ) → mentions ns (open_at d v e) ≡ mentions ns e
  unfolding open_at
  open_mentions (var i) d = opened_var (nat_lt i d) (nat_eq i d) i (i - 1)
  open_mentions (sort l) d = refl
  open_mentions (const c ls) d = refl
  open_mentions (app f a) d = rw (open_mentions f d, open_mentions a d) refl
  open_mentions (lam A b) d = rw (open_mentions A d, open_mentions b (suc d)) refl
  open_mentions (pi A B) d = rw (open_mentions A d, open_mentions B (suc d)) refl
  open_mentions (let_in A a b) d = rw (open_mentions A d, open_mentions a d, open_mentions b (suc d)) refl
  open_mentions (proj S i s) d = rw (open_mentions s d) refl
  open_mentions (lit n) d = refl
  open_mentions wide d = refl
  open_mentions (str s) d = refl
  open_mentions (local k T) d = refl

-- the body of a Pi that mentions a name, where its domain does not, mentions one once a Local is put in
pub body_mentions : (ns : List Name) (D E : Tree) (j : ℕ) → mentions ns (pi D E) ≡ true → mentions ns D ≡ false → mentions ns (opened E (local j D)) ≡ true
body_mentions ns D E j both domain =
    let body : mentions ns E ≡ true = sym (ap (λ b. b || mentions ns E) domain) ∙ both in
    open_mentions ns (local j D) refl E 0 ∙ body

-- a term that is known to mention one of the names mentions it in a store that has grown
pub known_stays : (c d : Contents) (ns : List ℕ) (o : Option ℕ) → Extends c d → All (λ n. n < length c.names) ns → IfSome o (λ k. k < length c.trees)
    → IfSome o (λ k. mentions (map (name_at c) ns) (tree_at c k) ≡ true) → IfSome o (λ k. mentions (map (name_at d) ns) (tree_at d k) ≡ true)
known_stays c d ns None x names small h = tt
known_stays c d ns (Some k) x names small h = rw (names_stay c d x ns names, x.trees.same k small) h

pub known_in_stays : (c d : Contents) (o : Option ℕ) → Extends c d → IfSome o (λ k. k < length c.trees) → IfSome o (λ k. k < length d.trees)
known_in_stays c d None x small = tt
known_in_stays c d (Some k) x small = let longer = x.trees.longer in omega arith
