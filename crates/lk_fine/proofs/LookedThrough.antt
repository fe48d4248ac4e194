-- A tree that was looked through has only Locals that are fit, and so has one without Locals.
use Rattle.std.proofs.Common.{◌≡◌, ℕ, ◌<◌, Bool, false, List, length, refl, ap, sym, ◌∙◌, arith}
use Rattle.std.specs.Prelude.{◌||◌, slice_index_or}
use Rattle.lk_tree.specs.Tree.{Tree, var, sort, const, app, lam, pi, let_in, proj, lit, wide, str, local}
use Rattle.lk_tree.specs.Bind.{bound}
use Rattle.lk_store.specs.Contents.{Contents, tree_at, Extends}
use Rattle.lk_mentions.specs.declared.part.Met.{Met}
use Rattle.lk_fine.specs.Locals.{has_unfit}
use Rattle.lk_fine.specs.Walks.{AreFit}

neither : (a b : Bool) → a ≡ false → b ≡ false → (a || b) ≡ false
neither a b h k = ap (λ x. x || b) h ∙ k

pub no_locals : (t : Tree) → bound t ≡ 0 → has_unfit t ≡ false
unfolding bound
no_locals (var i) h = refl
no_locals (sort l) h = refl
no_locals (const c ls) h = refl
no_locals (app f a) h = neither (has_unfit f) (has_unfit a) (no_locals f (omega arith)) (no_locals a (omega arith))
no_locals (lam A b) h = neither (has_unfit A) (has_unfit b) (no_locals A (omega arith)) (no_locals b (omega arith))
no_locals (pi A B) h = neither (has_unfit A) (has_unfit B) (no_locals A (omega arith)) (no_locals B (omega arith))
no_locals (let_in A v b) h =
    neither (has_unfit A) (has_unfit v || has_unfit b) (no_locals A (omega arith))
    (neither (has_unfit v) (has_unfit b) (no_locals v (omega arith)) (no_locals b (omega arith)))
no_locals (proj S i s) h = no_locals s h
no_locals (lit n) h = refl
no_locals wide h = refl
no_locals (str s) h = refl
no_locals (local k T) h = absurd (omega arith)

pub tree_met : (c : Contents) (e : ℕ) (met : List Met) (i : ℕ) → AreFit c met → i < length met → ((d : Met) → (slice_index_or met i d).tree ≡ e) → has_unfit (tree_at c e) ≡ false
tree_met c e met i fit l is =
    let d : Met = record { tree = e } in
    sym (ap (λ n. has_unfit (tree_at c n)) (is d)) ∙ (fit i d l).fit

-- that stays while the store grows
pub fit_stays : (c d : Contents) (met : List Met) → Extends c d → AreFit c met → AreFit d met
fit_stays c d met x h = λ i e l.
    let was = h i e l in
    let longer = x.trees.longer in
    record {
      known = omega arith;
      fit = ap has_unfit (x.trees.same (slice_index_or met i e).tree was.known) ∙ was.fit;
    }
