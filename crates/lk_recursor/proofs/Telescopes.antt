-- Telescopes, one binder after another, and while the store grows.
use Rattle.std.proofs.Common.{◌≡◌, ◌+◌, ◌++◌, ◌∷◌, [], ◌<◌, ℕ, suc, List, map, length, All, refl, ap, sym, subst, ◌∙◌, append_assoc, arith}
use Rattle.std.proofs.lemmas.List.{map-append, append-nil}
use Rattle.std.proofs.lemmas.List.Elements.{All-nil}
use Rattle.lk_tree.specs.Tree.{Tree}
use Rattle.lk_tree.specs.Bind.{close}
use Rattle.lk_store.specs.Contents.{Contents, tree_at, Extends, IsTree}
use Rattle.lk_subst.specs.Numbers.{trees-steady, trees-known}
use Rattle.lk_inductive.specs.Block as plain
use Rattle.lk_inductive.specs.Block.{domain}
use Rattle.lk_inductive.specs.Recursors.{number, motives, minors}
use Rattle.lk_inductive.proofs.ReadBack.{back_none}
use Rattle.lk_restore.specs.Originals.{restoring_at, setting_of}
use Rattle.lk_restore.specs.declared.originals.Original.{Original}
use Rattle.lk_recursor.specs.declared.binders.Binder.{Binder}
use Rattle.lk_subst.specs.declared.runs.Run.{Run}
use Rattle.lk_subst.specs.declared.runs.Runs.{Runs}
use Rattle.lk_recursor.specs.declared.telescope.Telescope.{Telescope}
use Rattle.lk_recursor.specs.Binders.{bind, bound_by, over_domains}
use Rattle.lk_subst.specs.Runs.{close_runs_at, close_in}
use Rattle.lk_recursor.specs.Telescopes.{over_telescope, IsTelescope, IsFrontTelescope}
use Rattle.lk_subst.proofs.Closed.{close_runs_at-none, close_runs_at-around, close_runs_at-next}
use Rattle.lk_recursor.proofs.Bound.{close_runs-bind}
use Rattle.lk_recursor.proofs.Lists.{bound-none, bound-last, bound-append, over_domains-append, pushed_known}

-- no binder
pub telescope_none : (c : Contents) (t : Telescope) (first : ℕ) → t.domains.items ≡ [] → t.runs.outer.count ≡ 0 → t.runs.inner ≡ record { first = first; count = 0 } → IsTelescope c [] t
telescope_none c t first none outer inner = record {
  domains_in = subst (All (λ e. e < length c.trees)) (sym none) (All-nil (λ e. e < length c.trees));
  binds = λ b e.
      bound-none b e
      ∙ sym (close_runs_at-none 0 t.runs.outer.first first e)
      ∙ ap (λ n. close_runs_at 0 t.runs.outer.first n first 0 e) (sym outer)
      ∙ ap (λ (r : Run). close_runs_at 0 t.runs.outer.first t.runs.outer.count r.first r.count e) (sym inner)
      ∙ ap (λ As. over_domains b (map (tree_at c) As) (close_in 0 t.runs e)) (sym none);
}

-- one binder more
next_binds : (b : Binder) (i n j m : ℕ) (Ds xs : List Tree) (x e : Tree) → ((t : Tree) → bound_by b xs t ≡ over_domains b Ds (close_runs_at 0 i n j m t)) → number x ≡ j + m
    → bound_by b (xs ++ x ∷ []) e ≡ over_domains b (Ds ++ close_runs_at 0 i n j m (domain x) ∷ []) (close_runs_at 0 i n j (suc m) e)
next_binds b i n j m Ds xs x e was here =
    let D = close_runs_at 0 i n j m (domain x) in
    bound-last b xs x e
    ∙ was (bind b (domain x) (close (number x) e))
    ∙ ap (over_domains b Ds) (close_runs-bind b 0 i n j m (domain x) (close (number x) e))
    ∙ ap (λ k. over_domains b Ds (bind b D (close_runs_at 1 i n j m (close k e)))) here
    ∙ ap (λ t. over_domains b Ds (bind b D t)) (close_runs_at-next 0 i n j m e)
    ∙ sym (over_domains-append b Ds (D ∷ []) (close_runs_at 0 i n j (suc m) e))

-- the same telescope, in a store that has grown
pub telescope-steady : (c d : Contents) → Extends c d → (xs : List Tree) (t : Telescope) → IsTelescope c xs t → IsTelescope d xs t
telescope-steady c d grown xs t was = record {
  domains_in = trees-known c d t.domains.items grown was.domains_in;
  binds = λ b e. was.binds b e ∙ ap (λ Ds. over_domains b Ds (close_in 0 t.runs e)) (sym (trees-steady c d t.domains.items grown was.domains_in));
}

pub front_telescope-steady : (c d : Contents) → Extends c d → (p : plain.Shape) (os : List Original) (t : Telescope) → IsFrontTelescope c p os t → IsFrontTelescope d p os t
front_telescope-steady c d grown p os t was = record { none_read_back = was.none_read_back; is = telescope-steady c d grown _ t was.is }

abbrev pub with_count : Runs → ℕ → Runs
with_count r k = record { outer = r.outer; inner = record { first = r.inner.first; count = k } }

pub telescope_next : (c d : Contents) → Extends c d → (xs : List Tree) (x : Tree) (t u : Telescope) (A k : ℕ) → number x ≡ t.runs.inner.first + t.runs.inner.count → IsTree d A (close_in 0 t.runs (domain x))
    → u.domains.items ≡ t.domains.items ++ A ∷ [] → u.runs ≡ with_count t.runs k → k ≡ suc t.runs.inner.count → IsTelescope c xs t → IsTelescope d (xs ++ x ∷ []) u
telescope_next c d grown xs x t u A k here made pushed runs next was =
    let r = t.runs in
    let i = r.outer.first in
    let n = r.outer.count in
    let j = r.inner.first in
    let m = r.inner.count in
    let As = t.domains.items in
    let D = close_runs_at 0 i n j m (domain x) in
    let domains_are : map (tree_at c) As ++ D ∷ [] ≡ map (tree_at d) u.domains.items =
    ap (λ Ds. Ds ++ D ∷ []) (sym (trees-steady c d As grown was.domains_in))
    ∙ ap (λ B. map (tree_at d) As ++ B ∷ []) (sym made.is)
    ∙ sym (map-append (tree_at d) As (A ∷ []))
    ∙ ap (map (tree_at d)) (sym pushed) in
    record {
      domains_in = pushed_known c d As u.domains.items A grown was.domains_in pushed made.known;
      binds = λ b e.
          next_binds b i n j m (map (tree_at c) As) xs x e (was.binds b) here
          ∙ ap (λ Ds. over_domains b Ds (close_runs_at 0 i n j (suc m) e)) domains_are
          ∙ ap (λ y. over_domains b (map (tree_at d) u.domains.items) (close_in 0 y e)) (sym (runs ∙ ap (with_count r) next));
    }

-- a run begins inside the one that there is
pub telescope_inner : (c : Contents) (xs : List Tree) (t : Telescope) (first : ℕ) → t.runs.outer.count ≡ 0 → IsTelescope c xs t
    → IsTelescope c xs (record { runs = record { outer = t.runs.inner; inner = record { first = first; count = 0 } }; domains = t.domains })
telescope_inner c xs t first alone was = record {
  domains_in = was.domains_in;
  binds = λ b e.
      was.binds b e
      ∙ ap (λ n. over_domains b (map (tree_at c) t.domains.items) (close_runs_at 0 t.runs.outer.first n t.runs.inner.first t.runs.inner.count e)) alone
      ∙ ap (over_domains b (map (tree_at c) t.domains.items)) (close_runs_at-around 0 t.runs.outer.first t.runs.inner.first t.runs.inner.count first e);
}

-- binders for these Locals are there, and those for the Locals that are left are still to be added
pub record IsGrowing (c : Contents) (left whole : List Tree) (t : Telescope) : Type 0 where
  pub bound : List Tree
  pub joined : bound ++ left ≡ whole
  pub is : IsTelescope c bound t

pub growing_first : (c : Contents) (xs ys : List Tree) (t : Telescope) → IsTelescope c xs t → IsGrowing c ys (xs ++ ys) t
growing_first c xs ys t is = record { bound = xs; joined = refl; is = is }

pub growing_next : (c d : Contents) (x : Tree) (left others whole : List Tree) (t u : Telescope) → left ≡ x ∷ others → ((xs : List Tree) → IsTelescope c xs t → IsTelescope d (xs ++ x ∷ []) u)
    → IsGrowing c left whole t → IsGrowing d others whole u
growing_next c d x left others whole t u split add was = record {
  bound = was.bound ++ x ∷ [];
  joined = append_assoc was.bound (x ∷ []) others ∙ ap (λ ys. was.bound ++ ys) (sym split) ∙ was.joined;
  is = add was.bound was.is;
}

pub growing_end : (c : Contents) (left whole : List Tree) (t : Telescope) → left ≡ [] → IsGrowing c left whole t → IsTelescope c whole t
growing_end c left whole t none was = subst (λ xs. IsTelescope c xs t) (sym (append-nil was.bound) ∙ ap (λ ys. was.bound ++ ys) (sym none) ∙ was.joined) was.is

pub none_there : {X : Type 0} (xs : List X) → length xs ≡ 0 → xs ≡ []
none_there [] e = refl
none_there (x ∷ xs) e = absurd (omega arith)

-- with nothing read back, the binders of a front are those under the parameters, and then those for the parameters
pub front_bound : (c : Contents) (p : plain.Shape) (os : List Original) (t : Telescope) (b : Binder) (e : Tree) → IsFrontTelescope c p os t
    → over_telescope c t b e ≡ bound_by b p.params ((restoring_at c os p).tree (bound_by b (motives p ++ minors p) e))
front_bound c p os t b e is =
    let under = bound_by b (motives p ++ minors p) e in
    let read : (restoring_at c os p).tree under ≡ under = ap (λ ms. (restoring_at c ms p).tree under) is.none_read_back ∙ back_none (setting_of p) under [] in
    sym (is.is.binds b e) ∙ bound-append b p.params (motives p ++ minors p) e ∙ ap (bound_by b p.params) (sym read)
