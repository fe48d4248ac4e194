-- A recursor's arguments, split at the major premise.
use Rattle.std.proofs.Common.{◌≡◌, ℕ, suc, ◌+◌, ◌<◌, ◌≤◌, List, length, map, take, drop, get_or}
use Rattle.std.proofs.Common.{Option, Some, None, refl, ap, sym, subst, ◌∙◌}
use Rattle.std.specs.Prelude.{slice_get, option_map}
use Rattle.std.proofs.lemmas.List.{take-map, drop-map, length-map}
use Rattle.std.proofs.lemmas.Option.{slice_get-map, slice_get_read, slice_get_past}
use Rattle.lk_tree.specs.Tree.{Level, Tree}
use Rattle.lk_rulebook.specs.Place.{Entry as PlainEntry, Kind, Recursor, an_axiom, a_def}
use Rattle.lk_rulebook.specs.Place.{a_thm, an_opaque, a_quot, a_type, a_ctor, a_rec}
use Rattle.lk_rulebook.specs.Structures.{before_major}
use Rattle.lk_store.specs.Contents.{Contents, list_at, tree_at}
use Rattle.lk_store.specs.Store.{contents_of}
use Rattle.lk_env.specs.Entries.{plain_entry}
use Rattle.lk_env.specs.Lent.{recursor_in}
use Rattle.lk_env.specs.StoredLibrary.{StoredLibrary}
use Rattle.lk_iota.specs.declared.major.Redex.{Redex}
use Rattle.lk_iota.specs.Redexes.{at_major, split_at, redex_by, IsRedexIf}

-- the kind of a recursor
pub recursor_kind : (k : Kind) (r : Recursor) → recursor_in k ≡ Some r → k ≡ a_rec r
recursor_kind (a_rec s) r h = cc
recursor_kind an_axiom r h = absurd (cc)
recursor_kind (a_def i v) r h = absurd (cc)
recursor_kind (a_thm v) r h = absurd (cc)
recursor_kind (an_opaque v) r h = absurd (cc)
recursor_kind a_quot r h = absurd (cc)
recursor_kind (a_type b t) r h = absurd (cc)
recursor_kind (a_ctor b t c) r h = absurd (cc)

pub no_redex : (ls : List Level) (xs : List Tree) (g : PlainEntry) (k : Kind) → recursor_in k ≡ None
    → redex_by ls xs g k ≡ None
no_redex ls xs g (a_rec s) h = absurd (cc)
no_redex ls xs g an_axiom h = refl
no_redex ls xs g (a_def i v) h = refl
no_redex ls xs g (a_thm v) h = refl
no_redex ls xs g (an_opaque v) h = refl
no_redex ls xs g a_quot h = refl
no_redex ls xs g (a_type b t) h = refl
no_redex ls xs g (a_ctor b t c) h = refl

module _ (c : Contents) (l : StoredLibrary) where
  -- there are enough arguments
  pub split_found : (u : Redex) (g : PlainEntry) (r : Recursor)
      → plain_entry (contents_of l.tables) l.units u.entry ≡ Some g → g.kind ≡ a_rec r
      → u.shared ≡ r.parameters + r.motives + r.minors → u.before ≡ before_major r → u.k ≡ r.k
      → u.before < length u.arguments.items → u.major ≡ get_or u.arguments.items u.before u.major
      → IsRedexIf c l (Some u) (split_at (list_at c u.levels) g r
      (map (tree_at c) u.arguments.items))
  split_found u g r entry kind shared before k within major =
      let es = u.arguments.items in
      let xs = map (tree_at c) es in
      let ls = list_at c u.levels in
      let at : slice_get xs u.before ≡ Some (tree_at c u.major) =
      slice_get-map (tree_at c) es u.before
      ∙ ap (option_map (tree_at c)) (slice_get_read es (length es) u.before u.major refl within
      major) in
      subst (λ (n : ℕ). IsRedexIf c l (Some u)
      (at_major ls g r (take n xs) (slice_get xs n) (drop (suc n) xs))) before
      (subst (λ (o : Option Tree). IsRedexIf c l (Some u)
      (at_major ls g r (take u.before xs) o (drop (suc u.before) xs))) (sym at) (record {
        levels_are = refl;
        entry_is = entry;
        kind_is = kind;
        shared_is = shared;
        k_is = k;
        front_is = sym (take-map (tree_at c) u.before es);
        major_is = refl;
        rest_is = sym (drop-map (tree_at c) (suc u.before) es);
      }))

  -- there are too few
  pub split_missing : (es : List ℕ) (ls : List Level) (g : PlainEntry) (r : Recursor)
      → length es ≤ before_major r → IsRedexIf c l None (split_at ls g r (map (tree_at c) es))
  split_missing es ls g r few =
      let xs = map (tree_at c) es in
      let n = before_major r in
      let many : length xs ≤ n = rw (length-map es (tree_at c)) few in
      subst (λ (o : Option Tree). IsRedexIf c l None
      (at_major ls g r (take n xs) o (drop (suc n) xs))) (sym (slice_get_past xs n many)) tt

  pub redex_of_kind : (o : Option Redex) (ls : List Level) (xs : List Tree) (g : PlainEntry)
      (k : Kind) (r : Recursor) → k ≡ a_rec r → IsRedexIf c l o (split_at ls g r xs)
      → IsRedexIf c l o (redex_by ls xs g k)
  redex_of_kind o ls xs g k r is h =
      subst (λ (j : Kind). IsRedexIf c l o (redex_by ls xs g j)) (sym is) h

  pub no_redex_of_kind : (ls : List Level) (xs : List Tree) (g : PlainEntry) (k : Kind)
      → recursor_in k ≡ None → IsRedexIf c l None (redex_by ls xs g k)
  no_redex_of_kind ls xs g k h = subst (IsRedexIf c l None) (sym (no_redex ls xs g k h)) tt
