-- The row of a tree of two parts, where the bounds that are kept of them are their own codes.
use Rattle.std.proofs.Common.{◌≡◌, ℕ, ◌-◌, ◌<◌, ◌^◌, List, max, sym, ◌∙◌, refl, arith}
use Rattle.std.specs.Prelude.{IfSome, Some, None, ◌||◌, ◌&&◌}
use Rattle.std.specs.declared.option.Option.{Option}
use Rattle.lk_tree.specs.Tree.{Tree, app, lam, pi}
use Rattle.lk_tree.specs.Loose.{loose}
use Rattle.lk_tree.specs.Bind.{bound}
use Rattle.lk_tree.specs.Scan.{is_narrow}
use Rattle.lk_store.specs.Measures.{has_params}
use Rattle.lk_store.specs.Contents.{tree_of, tree_at}
use Rattle.lk_store.specs.Keys.{decoded, IsCode, IsMarkedTree}
use Rattle.lk_store.specs.Nodes.{IsKeyOf}
use Rattle.lk_store.specs.RowFor.{IsRowFor, IsShort, IsJoined}
use Rattle.lk_store.specs.Store.{contents_of}
use Rattle.lk_store.specs.declared.key.Number.{Number}
use Rattle.lk_store.specs.declared.key.TreeKey.{TreeKey}
use Rattle.lk_store.specs.declared.key.TreeRow.{TreeRow}
use Rattle.lk_store.specs.declared.node.Node.{Node}
use Rattle.lk_store.specs.declared.node.Node.TheVariants.{App, Lam, Pi}
use Rattle.lk_store.specs.declared.tables.Tables.{Tables}
use Rattle.lk_store.proofs.Keyed.{decoded-small}

own_code : (ns : List Number) (code n : ℕ) → code < 2 ^ 31 → decoded ns code ≡ n → code ≡ n
own_code ns code n h e = sym (decoded-small ns code h) ∙ e

short_code : (ns : List Number) (code n : ℕ) → code < 2 ^ 31 → code ≡ n → IsCode ns code × (decoded ns code ≡ n)
short_code ns code n h e = (omega arith, decoded-small ns code h ∙ e)

max_below : (a b n : ℕ) → a < n → b < n → max a b < n
max_below a b n h i = omega arith

marked_pair : (ns : List Number) (s t whole : Tree) (x y row : TreeRow) (key : TreeKey) (l : ℕ)
    → IsMarkedTree ns s x → IsMarkedTree ns t y → IsJoined row key x y l → l < 2 ^ 31
    → loose whole ≡ max (loose s) l → bound whole ≡ max (bound s) (bound t)
    → has_params whole ≡ (has_params s || has_params t) → is_narrow whole ≡ (is_narrow s && is_narrow t)
    → IsMarkedTree ns whole row
marked_pair ns s t whole x y row key l p q j few loose_of bound_of params_of narrow_of =
    let xl : x.loose ≡ loose s = own_code ns x.loose (loose s) j.first.loose p.loose_is in
    let xb : x.local ≡ bound s = own_code ns x.local (bound s) j.first.local p.local_is in
    let yb : y.local ≡ bound t = own_code ns y.local (bound t) j.second.local q.local_is in
    let el : row.loose ≡ loose whole = rw (j.loose_is, xl, loose_of) refl in
    let eb : row.local ≡ bound whole = rw (j.local_is, xb, yb, bound_of) refl in
    let fl : row.loose < 2 ^ 31 = rw j.loose_is (max_below x.loose l (2 ^ 31) j.first.loose few) in
    let fb : row.local < 2 ^ 31 = rw j.local_is (max_below x.local y.local (2 ^ 31) j.first.local j.second.local) in
    record {
      loose_code = (short_code ns row.loose (loose whole) fl el).0;
      loose_is = (short_code ns row.loose (loose whole) fl el).1;
      local_code = (short_code ns row.local (bound whole) fb eb).0;
      local_is = (short_code ns row.local (bound whole) fb eb).1;
      params_is = rw (j.params_is, p.params_is, q.params_is, params_of) refl;
      narrow_is = rw (j.narrow_is, p.narrow_is, q.narrow_is, narrow_of) refl;
    }

bound_app : (s t : Tree) → bound (app s t) ≡ max (bound s) (bound t)
unfolding bound
bound_app s t = refl

bound_lam : (s t : Tree) → bound (lam s t) ≡ max (bound s) (bound t)
unfolding bound
bound_lam s t = refl

bound_pi : (s t : Tree) → bound (pi s t) ≡ max (bound s) (bound t)
unfolding bound
bound_pi s t = refl

row_for : (r : Tables) (row : TreeRow) (key : TreeKey) (node : Node) → row.key ≡ key → IsKeyOf r.numbers key node
    → IsMarkedTree r.numbers (tree_of (contents_of r) node) row → IsRowFor r row key node
row_for r row key node e k m = record { key_is = e; key_of = rw e k; marked = m }

module _ (r : Tables) (x y : TreeRow) (key : TreeKey) (i j : ℕ)
    (p : IsMarkedTree r.numbers (tree_at (contents_of r) i) x) (q : IsMarkedTree r.numbers (tree_at (contents_of r) j) y) where
  same_loose : IsShort y → y.loose ≡ loose (tree_at (contents_of r) j)
  same_loose s = own_code r.numbers y.loose _ s.loose q.loose_is

  pub app_row : (o : Option TreeRow) → IfSome o (λ row. IsJoined row key x y y.loose) → IsKeyOf r.numbers key (App i j) → IfSome o (λ row. IsRowFor r row key (App i j))
  app_row None h k = tt
  app_row (Some row) h k = let e = same_loose h.second in
      row_for r row key (App i j) h.key_is k
      (marked_pair r.numbers (tree_at (contents_of r) i) (tree_at (contents_of r) j) (app (tree_at (contents_of r) i) (tree_at (contents_of r) j)) x y row key y.loose p q h h.second.loose (rw e refl) (bound_app _ _) refl refl)

  pub lam_row : (o : Option TreeRow) → IfSome o (λ row. IsJoined row key x y (y.loose - 1)) → IsKeyOf r.numbers key (Lam i j) → IfSome o (λ row. IsRowFor r row key (Lam i j))
  lam_row None h k = tt
  lam_row (Some row) h k = let e = same_loose h.second in let f = h.second.loose in
      row_for r row key (Lam i j) h.key_is k
      (marked_pair r.numbers (tree_at (contents_of r) i) (tree_at (contents_of r) j) (lam (tree_at (contents_of r) i) (tree_at (contents_of r) j)) x y row key (y.loose - 1) p q h (omega arith) (rw e refl) (bound_lam _ _) refl refl)

  pub pi_row : (o : Option TreeRow) → IfSome o (λ row. IsJoined row key x y (y.loose - 1)) → IsKeyOf r.numbers key (Pi i j) → IfSome o (λ row. IsRowFor r row key (Pi i j))
  pi_row None h k = tt
  pi_row (Some row) h k = let e = same_loose h.second in let f = h.second.loose in
      row_for r row key (Pi i j) h.key_is k
      (marked_pair r.numbers (tree_at (contents_of r) i) (tree_at (contents_of r) j) (pi (tree_at (contents_of r) i) (tree_at (contents_of r) j)) x y row key (y.loose - 1) p q h (omega arith) (rw e refl) (bound_pi _ _) refl refl)
