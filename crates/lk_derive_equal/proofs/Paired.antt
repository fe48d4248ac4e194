-- The pairs of two applications, with that of their heads.
use Rattle.std.proofs.Common.{ℕ, ◌≡◌, ◌<◌, [], ◌∷◌, ◌++◌, length, sym, ◌∙◌, ap, subst}
use Rattle.std.proofs.lemmas.List.Elements.{All-push}
use Rattle.lk_tree.specs.Spine.{head}
use Rattle.lk_store.specs.Contents.{Contents, tree_at}
use Rattle.lk_ask.specs.declared.sheet.Pair.{Pair}
use Rattle.lk_ask.specs.Lines.{lefts, rights}
use Rattle.lk_ask.specs.Sheets.{IsKnownPair}
use Rattle.lk_lazy.specs.declared.spines.Paired.{Paired}
use Rattle.lk_lazy.specs.Spines.{IsPaired}
use Rattle.lk_step.specs.Pairs.{pairs_at, ArePairs}
use Rattle.lk_step.proofs.Pairing.{lefts_top, rights_top}

pub paired_whole : (c : Contents) (a b : ℕ) (p : Paired) (q : Pair ℕ) → q.left ≡ p.left → q.right ≡ p.right → IsPaired c a b p → ArePairs c a b (p.pairs.items ++ q ∷ [])
paired_whole c a b p q l r h = record {
  pairs_in = All-push (IsKnownPair (length c.trees)) p.pairs.items q h.pairs_in (record { left_in = subst (λ x. x < length c.trees) (sym l) h.left_in; right_in = subst (λ x. x < length c.trees) (sym r) h.right_in });
  lefts_are = lefts_top c p.pairs.items q ∙ (ap (λ x. tree_at c x ∷ lefts (pairs_at c p.pairs.items)) l ∙ (ap (λ t. t ∷ lefts (pairs_at c p.pairs.items)) (sym h.left_head) ∙ ap (λ ts. head (tree_at c a) ∷ ts) (sym h.left_args)));
  rights_are = rights_top c p.pairs.items q ∙ (ap (λ x. tree_at c x ∷ rights (pairs_at c p.pairs.items)) r ∙ (ap (λ t. t ∷ rights (pairs_at c p.pairs.items)) (sym h.right_head) ∙ ap (λ ts. head (tree_at c b) ∷ ts) (sym h.right_args)));
  as_many = h.as_many;
}
