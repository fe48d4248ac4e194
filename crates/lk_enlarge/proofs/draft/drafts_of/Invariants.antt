use Rattle.std.proofs.Common.{◌≡◌, ◌<◌, ◌++◌, map, length, All}
use Rattle.lk_env.specs.Units.{constructor_at, IsConstructorIn}
use Rattle.lk_store.specs.Contents.{Contents, tree_at}
use Rattle.lk_enlarge.specs.Drafts.{draft_at, drafts_of, IsDraftIn}
use Rattle.lk_enlarge.proofs.draft.drafts_of.Given as goal

abbrev pub invariant-drafts : goal.invariant-drafts
invariant-drafts l =
    record {
      leads : (c : Contents) → map (draft_at c) l.drafts.items ++ drafts_of (map (constructor_at c) l.left) (map (tree_at c) l.left_types)
          ≡ drafts_of (map (constructor_at c) l.fn.stated) (map (tree_at c) l.fn.types);
      drafts_in : (c : Contents) → All (IsConstructorIn c) l.fn.stated → All (λ x. x < length c.trees) l.fn.types → All (IsDraftIn c) l.drafts.items;
      left_in : (c : Contents) → All (IsConstructorIn c) l.fn.stated → All (IsConstructorIn c) l.left;
      types_in : (c : Contents) → All (λ x. x < length c.trees) l.fn.types → All (λ x. x < length c.trees) l.left_types;
    }

abbrev pub decreases-drafts : goal.decreases-drafts
decreases-drafts l = length l.left
