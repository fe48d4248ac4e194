-- Numbers that stand for trees without loose variables.
use Rattle.std.proofs.Common.{◌≡◌, ◌<◌, ℕ, List, [], ◌∷◌, ◌++◌, length, map, ap, ◌∙◌, arith}
use Rattle.std.specs.Prelude.{All}
use Rattle.std.proofs.lemmas.List.Elements.{All-head, All-tail, All-cons, All-weaker, All-map}
use Rattle.lk_tree.specs.Loose.{loose}
use Rattle.lk_store.specs.Contents.{Contents, tree_at, Extends}
use Rattle.lk_ask.proofs.Sheets.{grown}
use Rattle.lk_chain.specs.Lets.{AreClosed}
use Rattle.lk_chain.proofs.Puttings.{NoneLoose}

pub closed_known : (c : Contents) (xs : List ℕ) → AreClosed c xs → All (λ x. x < length c.trees) xs
closed_known c xs h = All-weaker (λ x. (x < length c.trees) × (loose (tree_at c x) ≡ 0)) (λ x. x < length c.trees) (λ x k. k.0) xs h

pub closed_steady : {c d : Contents} → Extends c d → (xs : List ℕ) → AreClosed c xs → AreClosed d xs
closed_steady {c} {d} x xs h =
    All-weaker (λ x. (x < length c.trees) × (loose (tree_at c x) ≡ 0)) (λ x. (x < length d.trees) × (loose (tree_at d x) ≡ 0))
    (λ e k. (grown x e k.0, ap loose (x.trees.same e k.0) ∙ k.1)) xs h

pub none_loose : (c : Contents) (xs : List ℕ) → AreClosed c xs → NoneLoose (map (tree_at c) xs)
none_loose c xs h =
    All-map (λ t. loose t ≡ 0) (tree_at c) xs
    (All-weaker (λ x. (x < length c.trees) × (loose (tree_at c x) ≡ 0)) (λ x. loose (tree_at c x) ≡ 0) (λ x k. k.1) xs h)

pub front_of_append : (P : ℕ → Type 0) (xs ys : List ℕ) → All P (xs ++ ys) → All P xs
front_of_append P [] ys h = λ k d l. absurd (omega arith)
front_of_append P (x ∷ xs) ys h = All-cons P x xs (All-head P x (xs ++ ys) h) (front_of_append P xs ys (All-tail P x (xs ++ ys) h))
