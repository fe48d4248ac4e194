-- What is asked, one question after another, while the store grows.
use Rattle.std.proofs.Common.{ℕ, ◌≡◌, List, [], ◌∷◌, ◌++◌, length, map, refl, subst, sym, ap, ◌∙◌, arith}
use Rattle.std.specs.Prelude.{All, slice_index_or}
use Rattle.std.proofs.lemmas.List.{map-append}
use Rattle.std.proofs.lemmas.List.Elements.{All-head, All-tail, All-push}
use Rattle.lk_tree.specs.Tree.{Tree}
use Rattle.lk_rulebook.specs.Claims.{Claim as PlainClaim, types, reduces, equals}
use Rattle.lk_questions.specs.Query as plain
use Rattle.lk_store.specs.Contents.{Contents, tree_at, Extends, IsTree}
use Rattle.lk_ask.specs.declared.query.Query.{Query}
use Rattle.lk_ask.specs.declared.query.Query.TheVariants.{Core, Whnf, Infer, Same}
use Rattle.lk_ask.specs.Questions.{query_of, IsKnownQuery}
use Rattle.lk_premises.specs.declared.claims.Claim.{Claim}
use Rattle.lk_premises.specs.declared.claims.Relation.TheVariants.{Typing, Reduction, Equality}
use Rattle.lk_premises.specs.Claims.{claim_at, claims_at, IsClaimIn, AreClaimsIn}
use Rattle.lk_premises.proofs.Staying.{claims_known, claims_same}
use Rattle.lk_derive_types.specs.declared.asked.Asked.{Asked}
use Rattle.lk_derive_types.specs.Asked.{IsNothingAsked, Notes, AreAsked}

-- what a number stands for goes on
pub there : (c d : Contents) (n : ℕ) (t : Tree) → Extends c d → IsTree c n t → IsTree d n t
there c d n t x h = let l = x.trees.longer in let k = h.known in record { known = omega arith; is = x.trees.same n h.known ∙ h.is }

query_known : (c d : Contents) → Extends c d → (q : Query ℕ) → IsKnownQuery (length c.trees) q → IsKnownQuery (length d.trees) q
query_known c d x (Core e) h = let l = x.trees.longer in omega arith
query_known c d x (Whnf e) h = let l = x.trees.longer in omega arith
query_known c d x (Infer e) h = let l = x.trees.longer in omega arith
query_known c d x (Same a b) h = let l = x.trees.longer in (omega (arith, h.0), omega (arith, h.1))

query_same : (c d : Contents) → Extends c d → (q : Query ℕ) → IsKnownQuery (length c.trees) q → query_of (tree_at d) q ≡ query_of (tree_at c) q
query_same c d x (Core e) h = ap plain.core (x.trees.same e h)
query_same c d x (Whnf e) h = ap plain.whnf (x.trees.same e h)
query_same c d x (Infer e) h = ap plain.infer (x.trees.same e h)
query_same c d x (Same a b) h = ap (λ t. plain.same t (tree_at d b)) (x.trees.same a h.0) ∙ ap (plain.same (tree_at c a)) (x.trees.same b h.1)

queries_same : (c d : Contents) → Extends c d → (qs : List (Query ℕ)) → All (IsKnownQuery (length c.trees)) qs → map (query_of (tree_at d)) qs ≡ map (query_of (tree_at c)) qs
queries_same c d x [] h = refl
queries_same c d x (q ∷ qs) h =
    ap (λ z. z ∷ map (query_of (tree_at d)) qs) (query_same c d x q (All-head (IsKnownQuery (length c.trees)) q qs h))
    ∙ ap (λ zs. query_of (tree_at c) q ∷ zs) (queries_same c d x qs (All-tail (IsKnownQuery (length c.trees)) q qs h))

pub asked_later : (c d : Contents) (a : Asked) (qs : List plain.Query) (ks : List PlainClaim) → Extends c d → AreAsked c a qs ks → AreAsked d a qs ks
asked_later c d a qs ks x h = record {
  asks_in = λ i e l. query_known c d x (slice_index_or a.asks.items i e) (h.asks_in i e l);
  premises_in = claims_known c d x a.premises.items h.premises_in;
  asks_are = queries_same c d x a.asks.items h.asks_in ∙ h.asks_are;
  premises_are = claims_same c d x a.premises.items h.premises_in ∙ h.premises_are;
}

pub nothing_asked : (c : Contents) (a : Asked) → IsNothingAsked a → AreAsked c a [] []
nothing_asked c a h = record {
  asks_in = subst (All (IsKnownQuery (length c.trees))) (sym h.asks) (λ i e l. absurd (omega (arith, l)));
  premises_in = subst (AreClaimsIn c) (sym h.premises) (λ i e l. absurd (omega (arith, l)));
  asks_are = ap (map (query_of (tree_at c))) h.asks;
  premises_are = ap (claims_at c) h.premises;
}

asked_more : (c : Contents) (a b : Asked) (qs : List plain.Query) (ks : List PlainClaim) (q : Query ℕ) (k : Claim) (p : plain.Query) (j : PlainClaim) → Notes a b q k →
    IsKnownQuery (length c.trees) q → IsClaimIn c k → query_of (tree_at c) q ≡ p → claim_at c k ≡ j → AreAsked c a qs ks → AreAsked c b (qs ++ (p ∷ [])) (ks ++ (j ∷ []))
asked_more c a b qs ks q k p j n hq hk eq ek h = record {
  asks_in = subst (All (IsKnownQuery (length c.trees))) (sym n.asks) (All-push (IsKnownQuery (length c.trees)) a.asks.items q h.asks_in hq);
  premises_in = subst (AreClaimsIn c) (sym n.premises) (All-push (IsClaimIn c) a.premises.items k h.premises_in hk);
  asks_are = ap (map (query_of (tree_at c))) n.asks ∙ (map-append (query_of (tree_at c)) a.asks.items (q ∷ []) ∙ (ap (λ ys. ys ++ (query_of (tree_at c) q ∷ [])) h.asks_are ∙ ap (λ y. qs ++ (y ∷ [])) eq));
  premises_are = ap (claims_at c) n.premises ∙ (map-append (claim_at c) a.premises.items (k ∷ []) ∙ (ap (λ ys. ys ++ (claim_at c k ∷ [])) h.premises_are ∙ ap (λ y. ks ++ (y ∷ [])) ek));
}

pub type_asked : (c : Contents) (a b : Asked) (qs : List plain.Query) (ks : List PlainClaim) (e t : ℕ) (E T : Tree) → Notes a b (Infer e) (record { relation = Typing; left = e; right = t }) →
    IsTree c e E → IsTree c t T → AreAsked c a qs ks → AreAsked c b (qs ++ (plain.infer E ∷ [])) (ks ++ (types E T ∷ []))
type_asked c a b qs ks e t E T n he ht h =
    asked_more c a b qs ks (Infer e) (record { relation = Typing; left = e; right = t }) (plain.infer E) (types E T) n he.known (record { left_in = he.known; right_in = ht.known }) (ap plain.infer he.is)
    (ap (λ z. types z (tree_at c t)) he.is ∙ ap (types E) ht.is) h

pub form_asked : (c : Contents) (a b : Asked) (qs : List plain.Query) (ks : List PlainClaim) (e t : ℕ) (E T : Tree) → Notes a b (Whnf e) (record { relation = Reduction; left = e; right = t }) →
    IsTree c e E → IsTree c t T → AreAsked c a qs ks → AreAsked c b (qs ++ (plain.whnf E ∷ [])) (ks ++ (reduces E T ∷ []))
form_asked c a b qs ks e t E T n he ht h =
    asked_more c a b qs ks (Whnf e) (record { relation = Reduction; left = e; right = t }) (plain.whnf E) (reduces E T) n he.known (record { left_in = he.known; right_in = ht.known }) (ap plain.whnf he.is)
    (ap (λ z. reduces z (tree_at c t)) he.is ∙ ap (reduces E) ht.is) h

pub same_asked : (c : Contents) (a b : Asked) (qs : List plain.Query) (ks : List PlainClaim) (e t : ℕ) (E T : Tree) → Notes a b (Same e t) (record { relation = Equality; left = e; right = t }) →
    IsTree c e E → IsTree c t T → AreAsked c a qs ks → AreAsked c b (qs ++ (plain.same E T ∷ [])) (ks ++ (equals E T ∷ []))
same_asked c a b qs ks e t E T n he ht h =
    asked_more c a b qs ks (Same e t) (record { relation = Equality; left = e; right = t }) (plain.same E T) (equals E T) n (he.known, ht.known) (record { left_in = he.known; right_in = ht.known })
    (ap (λ z. plain.same z (tree_at c t)) he.is ∙ ap (plain.same E) ht.is) (ap (λ z. equals z (tree_at c t)) he.is ∙ ap (equals E) ht.is) h
