-- The sort of a type.
use Rattle.std.proofs.Common.{ℕ, ◌≡◌, ◌+◌, ◌<◌, ◌≤◌, length, refl, sym, ◌∙◌, subst, arith}
use Rattle.lk_tree.specs.Tree.{Tree, Level, sort}
use Rattle.lk_rulebook.specs.Place.{Place}
use Rattle.lk_questions.specs.Query.{infer, whnf}
use Rattle.lk_questions.specs.Program.{Program, ask, ◌>>=◌}
use Rattle.lk_questions.specs.Steps.{sort_of, as_sort}
use Rattle.lk_store.specs.Contents.{Contents, tree_at, level_at, tree_of, Extends}
use Rattle.lk_store.specs.declared.node.Node.{Node}
use Rattle.lk_store.specs.declared.node.Node.TheVariants.{Sort}
use Rattle.lk_step.specs.Runs.{Runs}
use Rattle.lk_step.specs.Told.{IsAnsweredWithin, IsForm, IsType}
use Rattle.lk_step.specs.Tests.{IsRun}
use Rattle.lk_derive_equal.specs.Sorts.{IsSorted}
use Rattle.lk_derive_equal.specs.declared.sorts.Sorted.{Sorted}
use Rattle.lk_step.proofs.Following.{Followed, follow, asks_within, run_on, as_sort_is}

pub sort_asks : (w : Place) (e T : Tree) (most : ℕ) → IsRun w (sort_of e) most → IsType w e T → IsAnsweredWithin w (whnf T) most
sort_asks w e T most r t = asks_within w (whnf T) (λ S. as_sort S) most (run_on w (infer e) (λ T. ask (whnf T) (λ S. as_sort S)) most T t.cost r t.answered)

pub is_a_sort : (w : Place) (e T S : Tree) (most : ℕ) → IsRun w (sort_of e) most → IsType w e T → IsForm w T S → (l : Level) × (S ≡ sort l)
is_a_sort w e T S most r t f =
    let last : IsRun w (as_sort S) most = run_on w (whnf T) (λ S. as_sort S) most S f.cost (run_on w (infer e) (λ T. ask (whnf T) (λ S. as_sort S)) most T t.cost r t.answered) f.answered in
    (last.value, as_sort_is w S last.value last.cost last.runs)

pub no_other_sort : (c : Contents) (node : Node) → ((x : ℕ) → node ≡ Sort x → ⊥) → (l : Level) → tree_of c node ≡ sort l → ⊥
no_other_sort c (Sort x) f l e = f x refl
no_other_sort c node f l e = absurd cc

pub sorted_stays : (w : Place) (e : Tree) (c d : Contents) (s : Sorted) → Extends c d → IsSorted w e c s → IsSorted w e d s
sorted_stays w e c d s x h =
    let ty : tree_at d s.ty ≡ tree_at c s.ty = x.trees.same s.ty h.known.ty_in in
    let form : tree_at d s.form ≡ tree_at c s.form = x.trees.same s.form h.known.form_in in
    let level : level_at d s.level ≡ level_at c s.level = x.levels.same s.level h.known.level_in in
    let trees : length c.trees ≤ length d.trees = x.trees.longer in
    let levels : length c.levels ≤ length d.levels = x.levels.longer in
    let ty_in : s.ty < length c.trees = h.known.ty_in in
    let form_in : s.form < length c.trees = h.known.form_in in
    let level_in : s.level < length c.levels = h.known.level_in in
    record {
      known = record { ty_in = omega (arith, trees, ty_in); form_in = omega (arith, trees, form_in); level_in = omega (arith, levels, level_in) };
      typed = subst (λ T. IsType w e T) (sym ty) h.typed;
      formed = subst (λ T. IsForm w T (tree_at d s.form)) (sym ty) (subst (λ S. IsForm w (tree_at c s.ty) S) (sym form) h.formed);
      form_is = form ∙ (h.form_is ∙ subst (λ l. sort l ≡ sort (level_at d s.level)) level refl);
    }

-- what is left once the sort is there
pub sort_on : {A : Type 0} (w : Place) (e T S : Tree) (l : Level) (k : Level → Program A) (v : A) (n : ℕ) → (t : IsType w e T) → (f : IsForm w T S) → S ≡ sort l → Runs w (sort_of e >>= k) v n → Followed w (k l) v n (t.cost + f.cost)
sort_on w e T S l k v n t f is h =
    let one : Followed w (ask (whnf T) (λ S. as_sort S >>= k)) v n t.cost = follow w (infer e) (λ T. ask (whnf T) (λ S. as_sort S >>= k)) v n T t.cost h t.answered in
    let two : Followed w (as_sort S >>= k) v one.left f.cost = follow w (whnf T) (λ S. as_sort S >>= k) v one.left S f.cost one.runs f.answered in
    let first : n ≡ t.cost + one.left = one.paid in
    let second : one.left ≡ f.cost + two.left = two.paid in
    record { left = two.left; runs = subst (λ S. Runs w (as_sort S >>= k) v two.left) is two.runs; paid = omega (arith, first, second) }
