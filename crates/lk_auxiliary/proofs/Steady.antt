-- Trees at levels and arguments, while the store grows.
use Rattle.std.proofs.Common.{◌≡◌, ℕ, ◌<◌, List, [], length, map, All, refl, sym, subst, ◌∙◌, IfOk, Result, arith}
use Rattle.std.proofs.lemmas.List.Elements.{All-weaker}
use Rattle.lk_tree.specs.Tree.{zero_level, Tree}
use Rattle.lk_questions.specs.Program.{done}
use Rattle.lk_inductive.specs.Nested.{at_args, ctors_at}
use Rattle.lk_env.specs.declared.unit.Constructor.{Constructor}
use Rattle.lk_env.specs.Units.{constructor_at, IsConstructorIn}
use Rattle.lk_env.proofs.Stays.{constructors_stay}
use Rattle.lk_store.specs.Contents.{Contents, name_at, level_at, tree_at, Extends, IsTree}
use Rattle.lk_store.specs.declared.memory.NoMemory.{NoMemory}
use Rattle.lk_subst.specs.Numbers.{values-steady, trees-steady, trees-known, values-known}
use Rattle.lk_auxiliary.specs.declared.instance.At.{At}
use Rattle.lk_auxiliary.specs.Places.{levels_of, arguments_of, IsAtIn}

module _ (c d : Contents) (x : Extends c d) where
  pub levels_stay : (ls : List ℕ) → All (λ l. l < length c.levels) ls → map (level_at d) ls ≡ map (level_at c) ls
  levels_stay ls h = values-steady zero_level c.levels d.levels ls x.levels h

  pub at_in_stays : (at : At) → IsAtIn c at → IsAtIn d at
  at_in_stays at h = record {
    list_in = (let l = h.list_in in let longer = x.lists.longer in omega arith);
    list_is = x.lists.same at.list h.list_in ∙ h.list_is ∙ sym (levels_stay at.levels.now h.levels_in);
    levels_in = values-known zero_level c.levels d.levels at.levels.now x.levels h.levels_in;
    arguments_in = trees-known c d at.arguments.now x h.arguments_in;
  }

  pub at_steady : (at : At) → IsAtIn c at → (ns ms : List ℕ) (e : ℕ) → ns ≡ ms → All (λ n. n < length c.names) ms → e < length c.trees
      → at_args (levels_of d at) (arguments_of d at) (map (name_at d) ns) (tree_at d e) ≡ at_args (levels_of c at) (arguments_of c at) (map (name_at c) ms) (tree_at c e)
  at_steady at h ns ms e same known small =
      rw (same, levels_stay at.levels.now h.levels_in, trees-steady c d at.arguments.now x h.arguments_in, values-steady [] c.names d.names ms x.names known, x.trees.same e small) refl

  pub ctors_known : (ks : List Constructor) → All (IsConstructorIn c) ks → All (IsConstructorIn d) ks
  ctors_known ks h =
      let longer = x.names.longer in
      let more = x.trees.longer in
      All-weaker (IsConstructorIn c) (IsConstructorIn d) (λ k i. record {
        stated = record {
          name_in = (let l = i.stated.name_in in omega arith);
          levels_in = All-weaker (λ n. n < length c.names) (λ n. n < length d.names) (λ n l. omega arith) k.levels.items i.stated.levels_in;
          ty_in = (let l = i.stated.ty_in in omega arith);
        };
        parent_in = (let l = i.parent_in in omega arith);
      }) ks h

  pub ctors_steady : (at : At) → IsAtIn c at → (ks ms : List Constructor) → ks ≡ ms → All (IsConstructorIn c) ms
      → ctors_at (levels_of d at) (arguments_of d at) (map (constructor_at d) ks) ≡ ctors_at (levels_of c at) (arguments_of c at) (map (constructor_at c) ms)
  ctors_steady at h ks ms same known =
      rw (same, levels_stay at.levels.now h.levels_in, trees-steady c d at.arguments.now x h.arguments_in, constructors_stay c d x ms known) refl

-- the tree under a number that is made, if it is
pub same_tree : (c : Contents) (r : Result ℕ NoMemory) (t u : Tree) → t ≡ u → IfOk r (λ e. IsTree c e t) → IfOk r (λ e. IsTree c e u)
same_tree c r t u same h = subst (λ t. IfOk r (λ e. IsTree c e t)) same h

-- by the level parameters that a slice has
pub at_args_of : (c : Contents) (at : At) (ns ms : List ℕ) (e : ℕ) → ms ≡ ns → (r : Tree) → at_args (levels_of c at) (arguments_of c at) (map (name_at c) ms) (tree_at c e) ≡ done r
    → at_args (levels_of c at) (arguments_of c at) (map (name_at c) ns) (tree_at c e) ≡ done r
at_args_of c at ns ms e same r h = subst (λ ns. at_args (levels_of c at) (arguments_of c at) (map (name_at c) ns) (tree_at c e) ≡ done r) same h
