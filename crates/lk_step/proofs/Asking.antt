-- What is asked of pairs, one after another.
use Rattle.std.proofs.Common.{ℕ, ◌≡◌, List, [], ◌∷◌, ◌++◌, length, map, refl, sym, ◌∙◌, ap, subst, append_assoc}
use Rattle.std.specs.Prelude.{All}
use Rattle.std.proofs.lemmas.List.{map-append, append-nil}
use Rattle.std.proofs.lemmas.List.Elements.{All-nil, All-push}
use Rattle.lk_tree.specs.Tree.{Tree}
use Rattle.lk_rulebook.specs.Claims.{equals}
use Rattle.lk_questions.specs.Query.{same}
use Rattle.lk_store.specs.Contents.{Contents, tree_at}
use Rattle.lk_ask.specs.declared.sheet.Pair.{Pair}
use Rattle.lk_ask.specs.declared.query.Query.{Query}
use Rattle.lk_ask.specs.declared.query.Query.TheVariants.{Same}
use Rattle.lk_ask.specs.Lines.{lefts, rights}
use Rattle.lk_ask.specs.Questions.{query_of, IsKnownQuery}
use Rattle.lk_ask.specs.Sheets.{IsKnownPair}
use Rattle.lk_premises.specs.Claims.{claim_at, claims_at, IsClaimIn}
use Rattle.lk_premises.specs.declared.claims.Claim.{Claim}
use Rattle.lk_step.specs.Equal.{argument_claims}
use Rattle.lk_step.specs.Makes.{equality_claim}
use Rattle.lk_step.specs.Pairs.{pairs_at, same_asks, IsAsking, AreAsked}
use Rattle.lk_step.proofs.Pairing.{lefts_top, rights_top}
use Rattle.lk_step.proofs.Comparing.{known_top, known_below, nothing_left}

pub asks_none : (c : Contents) (all : List (Pair ℕ)) → All (IsKnownPair (length c.trees)) all → IsAsking c all all [] []
asks_none c all h = record { rest_in = h; asks_in = All-nil (IsKnownQuery (length c.trees)); claims_in = All-nil (IsClaimIn c); asks_are = refl; claims_are = refl }

module _ (c : Contents) (all rest : List (Pair ℕ)) (asks : List (Query ℕ)) (claims : List Claim) (h : IsAsking c all rest asks claims) where
  pub asks_done : length rest ≡ 0 → AreAsked c all asks claims
  asks_done e =
      let none : rest ≡ [] = nothing_left rest e in
      record {
        asks_in = h.asks_in;
        claims_in = h.claims_in;
        asks_are = sym (append-nil (map (query_of (tree_at c)) asks)) ∙ subst (λ ps. map (query_of (tree_at c)) asks ++ same_asks (lefts (pairs_at c ps)) (rights (pairs_at c ps)) ≡ same_asks (lefts (pairs_at c all)) (rights (pairs_at c all))) none h.asks_are;
        claims_are = sym (append-nil (claims_at c claims)) ∙ subst (λ ps. claims_at c claims ++ argument_claims (lefts (pairs_at c ps)) (rights (pairs_at c ps)) ≡ argument_claims (lefts (pairs_at c all)) (rights (pairs_at c all))) none h.claims_are;
      }

  pub asks_more : (more : List (Pair ℕ)) (p : Pair ℕ) → rest ≡ more ++ p ∷ [] → IsAsking c all more (asks ++ Same p.left p.right ∷ []) (claims ++ equality_claim p.left p.right ∷ [])
  asks_more more p split =
      let L : List Tree = lefts (pairs_at c more) in
      let M : List Tree = rights (pairs_at c more) in
      let x : Tree = tree_at c p.left in
      let y : Tree = tree_at c p.right in
      let known : All (IsKnownPair (length c.trees)) (more ++ p ∷ []) = subst (λ ps. All (IsKnownPair (length c.trees)) ps) split h.rest_in in
      let top : IsKnownPair (length c.trees) p = known_top (length c.trees) more p known in
      let left : lefts (pairs_at c rest) ≡ x ∷ L = ap (λ ps. lefts (pairs_at c ps)) split ∙ lefts_top c more p in
      let right : rights (pairs_at c rest) ≡ y ∷ M = ap (λ ps. rights (pairs_at c ps)) split ∙ rights_top c more p in
      let asked : same_asks (lefts (pairs_at c rest)) (rights (pairs_at c rest)) ≡ same x y ∷ same_asks L M = ap (λ xs. same_asks xs (rights (pairs_at c rest))) left ∙ ap (λ ys. same_asks (x ∷ L) ys) right in
      let claimed : argument_claims (lefts (pairs_at c rest)) (rights (pairs_at c rest)) ≡ equals x y ∷ argument_claims L M = ap (λ xs. argument_claims xs (rights (pairs_at c rest))) left ∙ ap (λ ys. argument_claims (x ∷ L) ys) right in
      record {
        rest_in = known_below (length c.trees) more p known;
        asks_in = All-push (IsKnownQuery (length c.trees)) asks (Same p.left p.right) h.asks_in (top.left_in, top.right_in);
        claims_in = All-push (IsClaimIn c) claims (equality_claim p.left p.right) h.claims_in (record { left_in = top.left_in; right_in = top.right_in });
        asks_are = ap (λ xs. xs ++ same_asks L M) (map-append (query_of (tree_at c)) asks (Same p.left p.right ∷ [])) ∙ (append_assoc (map (query_of (tree_at c)) asks) (same x y ∷ []) (same_asks L M) ∙ (ap (λ ys. map (query_of (tree_at c)) asks ++ ys) (sym asked) ∙ h.asks_are));
        claims_are = ap (λ xs. xs ++ argument_claims L M) (map-append (claim_at c) claims (equality_claim p.left p.right ∷ [])) ∙ (append_assoc (claims_at c claims) (equals x y ∷ []) (argument_claims L M) ∙ (ap (λ ys. claims_at c claims ++ ys) (sym claimed) ∙ h.claims_are));
      }
