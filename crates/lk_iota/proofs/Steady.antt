-- What numbers stand for stays while a store grows.
use Rattle.std.proofs.Common.{◌≡◌, ℕ, ◌<◌, suc, List, ◌++◌, length, map, take, drop, ap, sym, ◌∙◌}
use Rattle.std.proofs.Common.{arith}
use Rattle.std.specs.Prelude.{All}
use Rattle.std.proofs.lemmas.List.{take-map, drop-map, map-append}
use Rattle.lk_tree.specs.Tree.{Level, Tree}
use Rattle.lk_questions.specs.Iota.{CtorApp}
use Rattle.lk_store.specs.Contents.{Contents, tree_at, Extends}
use Rattle.lk_subst.specs.Numbers.{trees-steady, trees-known}
use Rattle.lk_constructor.specs.declared.constructor.AppliedConstructor.{AppliedConstructor}
use Rattle.lk_constructor.specs.Applied.{IsKnownConstructor, IsApplied}
use Rattle.lk_iota.specs.declared.major.Redex.{Redex}
use Rattle.lk_iota.specs.Redexes.{PlainRedex, IsKnownRedex, IsRedex}
use Rattle.lk_env.specs.StoredLibrary.{StoredLibrary}

module _ {c d : Contents} (x : Extends c d) where
  module _ (es : List ℕ) (es_in : All (λ e. e < length c.trees) es) where
    pub front_steady : (n : ℕ) → map (tree_at d) (take n es) ≡ map (tree_at c) (take n es)
    front_steady n = sym (take-map (tree_at d) n es) ∙ ap (take n) (trees-steady c d es x es_in)
        ∙ take-map (tree_at c) n es

    pub rest_steady : (n : ℕ) → map (tree_at d) (drop n es) ≡ map (tree_at c) (drop n es)
    rest_steady n = sym (drop-map (tree_at d) n es) ∙ ap (drop n) (trees-steady c d es x es_in)
        ∙ drop-map (tree_at c) n es

  pub redex_known : (u : Redex) → IsKnownRedex c u → IsKnownRedex d u
  redex_known u h =
      let lists = x.lists.longer in
      let trees = x.trees.longer in
      let levels = h.levels_in in
      let major = h.major_in in
      record {
        levels_in = omega arith;
        arguments_in = trees-known c d u.arguments.items x h.arguments_in;
        before_in = h.before_in;
        shared_in = h.shared_in;
        major_in = omega arith;
      }

  pub redex_steady : (l : StoredLibrary) (u : Redex) (p : PlainRedex)
      → IsKnownRedex c u → IsRedex c l u p → IsRedex d l u p
  redex_steady l u p known h = record {
    levels_are = x.lists.same u.levels known.levels_in ∙ h.levels_are;
    entry_is = h.entry_is;
    kind_is = h.kind_is;
    shared_is = h.shared_is;
    k_is = h.k_is;
    front_is = front_steady u.arguments.items known.arguments_in u.before ∙ h.front_is;
    major_is = x.trees.same u.major known.major_in ∙ h.major_is;
    rest_is = rest_steady u.arguments.items known.arguments_in (suc u.before) ∙ h.rest_is;
  }

  pub constructor_known : (u : AppliedConstructor) → IsKnownConstructor c u
      → IsKnownConstructor d u
  constructor_known u h =
      let names = x.names.longer in
      let name = h.name_in in
      let inductive = h.inductive_in in
      record {
        name_in = omega arith;
        inductive_in = omega arith;
      }

  -- with other arguments, and at other levels
  pub applied_steady : (l : StoredLibrary) (xs ys zs : List Tree) (ls : List Level)
      (u : AppliedConstructor) (k : CtorApp) → IsKnownConstructor c u → IsApplied c l xs u k
      → ys ≡ zs → IsApplied d l zs u (record k { levels = ls; args = ys })
  applied_steady l xs ys zs ls u k known h are = record {
    args_are = are;
    name_is = x.names.same u.name known.name_in ∙ h.name_is;
    inductive_is = x.names.same u.inductive known.inductive_in ∙ h.inductive_is;
    parameters_are = h.parameters_are;
    fields_are = h.fields_are;
    entry_is = h.entry_is;
    kind_is = h.kind_is;
  }

  -- one list of numbers behind another, which came later
  pub joined_steady : (ts ps es : List ℕ) (xs ys : List Tree) → All (λ e. e < length c.trees) ts
      → map (tree_at c) ts ≡ xs → map (tree_at d) ps ≡ ys → es ≡ ts ++ ps
      → xs ++ ys ≡ map (tree_at d) es
  joined_steady ts ps es xs ys ts_in first second es_are =
      let old = trees-steady c d ts x ts_in in
      ap (λ r. r ++ ys) (sym first ∙ sym old) ∙ ap (λ r. map (tree_at d) ts ++ r) (sym second)
      ∙ sym (map-append (tree_at d) ts ps) ∙ ap (map (tree_at d)) (sym es_are)
