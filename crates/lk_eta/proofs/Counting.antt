-- The arguments of a term, counted on the way down to its head.
use Rattle.std.proofs.Common.{◌≡◌, ◌+◌, ◌-◌, ◌<◌, ℕ, Bool, false, [], ◌∷◌, length, nat_eq, refl, sym, ap, ◌∙◌, arith}
use Rattle.std.proofs.lemmas.Bool.Decides.{nat_tests}
use Rattle.std.proofs.lemmas.List.{append-nil, length-append}
use Rattle.std.proofs.lemmas.List.Elements.{All-nil}
use Rattle.lk_tree.specs.Spine.{args}
use Rattle.lk_store.specs.Contents.{Contents, tree_at, tree_of}
use Rattle.lk_store.specs.declared.node.Node.{Node}
use Rattle.lk_store.specs.declared.node.Node.TheVariants.{App}
use Rattle.lk_spine.proofs.Lists.{args_less, args_done}

module _ (c : Contents) (at : ℕ) where
  -- one less behind an application
  argument_more : (f a : ℕ) → tree_of c (App f a) ≡ tree_at c at → length (args (tree_at c at)) ≡ length (args (tree_at c f)) + 1
  argument_more f a is =
      let all = args_less c at f a [] (args (tree_at c at)) is (append-nil (args (tree_at c at))) in
      ap length (sym all) ∙ length-append (args (tree_at c f)) (tree_at c a ∷ [])

  -- none at the head
  no_argument : (node : Node) → ((f a : ℕ) → node ≡ App f a → ⊥) → tree_of c node ≡ tree_at c at → length (args (tree_at c at)) ≡ 0
  no_argument node none is =
      let all = args_done c node at [] [] (args (tree_at c at)) none is (All-nil (λ x. x < length c.trees)) (append-nil (args (tree_at c at))) refl in
      ap length (sym all.are)

  module _ (left : ℕ) (whole : Bool) (was : nat_eq (length (args (tree_at c at))) left ≡ whole) where
    -- more than were wanted
    pub too_many : (f a : ℕ) → tree_of c (App f a) ≡ tree_at c at → left ≡ 0 → false ≡ whole
    too_many f a is none = let more = argument_more f a is in grind (arith, nat_tests)

    -- one of them is passed
    pub one_passed : (f a : ℕ) → tree_of c (App f a) ≡ tree_at c at → (left ≡ 0 → ⊥) → nat_eq (length (args (tree_at c f))) (left - 1) ≡ whole
    one_passed f a is some = let more = argument_more f a is in grind (arith, nat_tests)

    -- all are passed
    pub all_passed : (node : Node) → ((f a : ℕ) → node ≡ App f a → ⊥) → tree_of c node ≡ tree_at c at → nat_eq left 0 ≡ whole
    all_passed node none is = let empty = no_argument node none is in grind (arith, nat_tests)
