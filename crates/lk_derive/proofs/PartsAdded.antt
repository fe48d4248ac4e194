-- A part is added, and parts stay while the store grows.
use Rattle.std.proofs.Common.{◌≡◌, ℕ, ◌<◌, List, [], ◌∷◌, ◌++◌, length, ap, sym, subst, ◌∙◌, append_assoc, append-nil}
use Rattle.std.specs.Prelude.{All, Vec, Result, OnOk}
use Rattle.std.specs.declared.alloc.Global.{Global}
use Rattle.std.proofs.lemmas.List.{map-append}
use Rattle.std.proofs.lemmas.List.Elements.{All-nil, All-push, All-weaker}
use Rattle.lk_tree.specs.Tree.{Tree}
use Rattle.lk_rulebook.specs.Place.{Place}
use Rattle.lk_rulebook.specs.Claims.{Claim as PlainClaim, types, reduces}
use Rattle.lk_questions.specs.Query as plain
use Rattle.lk_questions.specs.Query.{AnswerTo, whnf, infer, same}
use Rattle.lk_store.specs.Contents.{Contents, tree_at, Extends}
use Rattle.lk_store.specs.declared.memory.NoMemory.{NoMemory}
use Rattle.lk_ask.specs.declared.query.Query.{Query}
use Rattle.lk_ask.specs.Questions.{query_of, IsKnownQuery}
use Rattle.lk_premises.specs.declared.claims.Claim.{Claim}
use Rattle.lk_premises.specs.Claims.{claim_at, claims_at, IsClaimIn, AreClaimsIn}
use Rattle.lk_premises.proofs.Staying.{claims_known, claims_same}
use Rattle.lk_step.specs.Rows.{IsAnswered, IsClaim, IsThere}
use Rattle.lk_step.specs.Told.{IsAnsweredWithin, IsForm, IsType}
use Rattle.lk_derive.specs.declared.derivation.Derivation.{Derivation}
use Rattle.lk_derive.specs.declared.parts.Parts.{Parts}
use Rattle.lk_derive.specs.Notes.{stated_at}
use Rattle.lk_derive.specs.Derived.{IsDerivation, Derives}
use Rattle.lk_derive.specs.Stages.{Stays}
use Rattle.lk_derive.specs.Parts.{parts_at, AreParts, AddsParts, AddsTerm, IsClaimOf, IsDue}
use Rattle.lk_derive.proofs.Among.{keeps_among}
use Rattle.lk_derive.proofs.Determined.{same_answer}
use Rattle.lk_derive.proofs.Steady.{query_same, query_known, stated_same, derivation_grown}

module _ (w : Place) (c d : Contents) (x : Extends c d) (old : Parts) (h : AreParts w c old) where
  pub parts_same : parts_at d old ≡ parts_at c old
  parts_same = claims_same c d x old.claims.items h.claims_in

  pub parts_grown : AreParts w d old
  parts_grown = record {
    derivation = derivation_grown c d x w old.derivation h.derivation;
    claims_in = claims_known c d x old.claims.items h.claims_in;
    there = subst (λ ps. All (IsThere ps) (parts_at d old)) (sym (stated_same c d x old.derivation.notes h.derivation.notes.indexed))
        (subst (All (IsThere (stated_at c old.derivation.notes))) (sym parts_same) h.there);
  }

  module _ (new : Derivation) (claims : Vec Claim Global) (q : plain.Query) (k : Claim) (goes : Derives w c d old.derivation new q) (k_in : IsClaimIn c k) (is : IsClaimOf w q (claim_at c k))
      (pushed : claims.items ≡ old.claims.items ++ k ∷ []) where
    abbrev ks : List Claim
    ks = old.claims.items ++ k ∷ []

    all_in : AreClaimsIn c ks
    all_in = All-push (IsClaimIn c) old.claims.items k h.claims_in k_in

    behind : claims_at c ks ≡ parts_at c old ++ claim_at c k ∷ []
    behind = map-append (claim_at c) old.claims.items (k ∷ [])

    here : claims_at d ks ≡ parts_at c old ++ claim_at c k ∷ []
    here = claims_same c d x ks all_in ∙ behind

    own : IsThere (stated_at d new.notes) (claim_at c k)
    own = subst (IsThere (stated_at d new.notes)) (is goes.derived.answer goes.derived.cost goes.derived.answered goes.derived.claimed) goes.derived.there

    all_there : All (IsThere (stated_at d new.notes)) (parts_at c old ++ claim_at c k ∷ [])
    all_there = All-push (IsThere (stated_at d new.notes)) (parts_at c old) (claim_at c k)
        (All-weaker (IsThere (stated_at c old.derivation.notes)) (IsThere (stated_at d new.notes)) (keeps_among (stated_at c old.derivation.notes) (stated_at d new.notes) goes.keeps) (parts_at c old) h.there)
        own

    pub part_added : AddsParts w c d old (record { derivation = new; claims = claims }) (claim_at c k ∷ [])
    part_added = record {
      parts = record {
        derivation = goes.derivation;
        claims_in = subst (AreClaimsIn d) (sym pushed) (claims_known c d x ks all_in);
        there = subst (λ xs. All (IsThere (stated_at d new.notes)) (claims_at d xs)) (sym pushed) (subst (All (IsThere (stated_at d new.notes))) (sym here) all_there);
      };
      claims = ap (claims_at d) pushed ∙ here;
    }

pub parts_moved : (w w' : Place) (c : Contents) (p : Parts) → w' ≡ w → AreParts w c p → AreParts w' c p
parts_moved w w' c p place h = subst (λ v. AreParts v c p) (sym place) h

-- there are none
pub none_added : (w : Place) (c : Contents) (p : Parts) → IsDerivation w c p.derivation → p.claims.items ≡ [] → AreParts w c p
none_added w c p h none = record {
  derivation = h;
  claims_in = subst (AreClaimsIn c) (sym none) (All-nil (IsClaimIn c));
  there = subst (λ xs. All (IsThere (stated_at c p.derivation.notes)) (claims_at c xs)) (sym none) (All-nil (IsThere (stated_at c p.derivation.notes)));
}

pub nothing_added : (w : Place) (c : Contents) (p : Parts) (cs : List PlainClaim) → AreParts w c p → cs ≡ [] → AddsParts w c c p p cs
nothing_added w c p cs h none = record { parts = h; claims = sym (append-nil (parts_at c p)) ∙ ap (λ xs. parts_at c p ++ xs) (sym none) }

pub adds_as : (w : Place) (c d : Contents) (old new : Parts) (r : Result (Unit {0}) NoMemory) (xs ys : List PlainClaim) → xs ≡ ys → OnOk r (AddsParts w c d old new ys) → OnOk r (AddsParts w c d old new xs)
adds_as w c d old new r xs ys e h = subst (λ zs. OnOk r (AddsParts w c d old new zs)) (sym e) h

-- some parts, and then more
pub adds_more : (w w' : Place) (c d e : Contents) (old mid new : Parts) (xs ys : List PlainClaim) → w' ≡ w → AddsParts w c d old mid xs → AddsParts w' d e mid new ys → AddsParts w c e old new (xs ++ ys)
adds_more w w' c d e old mid new xs ys place a b = record {
  parts = subst (λ v. AreParts v e new) place b.parts;
  claims = b.claims ∙ ap (λ zs. zs ++ ys) a.claims ∙ append_assoc (parts_at c old) xs ys;
}

-- the store had grown before
pub adds_after : (w w' : Place) (c d e : Contents) (old new : Parts) (xs : List PlainClaim) → w' ≡ w → Extends c d → AreParts w c old → AddsParts w' d e old new xs → AddsParts w c e old new xs
adds_after w w' c d e old new xs place x h a = record {
  parts = subst (λ v. AreParts v e new) place a.parts;
  claims = a.claims ∙ ap (λ zs. zs ++ xs) (parts_same w c d x old h);
}

module _ {S : Type 0} (contents : S → Contents) (place : S → Place) (most : S → ℕ) (s t : S) (x : Stays contents place most s t) (parts : Parts) where
  claim_stays : (q : Query ℕ) → IsKnownQuery (length (contents s).trees) q → IsClaim (place s) (query_of (tree_at (contents s)) q) (most s) → IsClaim (place t) (query_of (tree_at (contents t)) q) (most t)
  claim_stays q known h =
      let at_query : IsClaim (place s) (query_of (tree_at (contents t)) q) (most s) = subst (λ p. IsClaim (place s) p (most s)) (sym (query_same (contents s) (contents t) x.keeps q known)) h in
      let at_place : IsClaim (place t) (query_of (tree_at (contents t)) q) (most s) = subst (λ w. IsClaim w (query_of (tree_at (contents t)) q) (most s)) (sym x.place_stays) at_query in
      subst (IsClaim (place t) (query_of (tree_at (contents t)) q)) (sym x.most_stays) at_place

  pub due_stays : (q : Query ℕ) → IsDue contents place most s parts q → IsDue contents place most t parts q
  due_stays q h = record {
    known = query_known (contents s) (contents t) x.keeps q h.known;
    answered = claim_stays q h.known h.answered;
    parts_are = subst (λ w. AreParts w (contents t) parts) (sym x.place_stays) (parts_grown (place s) (contents s) (contents t) x.keeps parts h.parts_are);
  }

pub within : (w : Place) (q : plain.Query) (most : ℕ) → IsClaim w q most → IsAnsweredWithin w q most
within w q most h = (h.answer, h.cost, h.answered, h.within)

-- what was told of e is what is claimed
module _ (w w' : Place) (c d : Contents) (x : Extends c d) (place : w' ≡ w) (e v : ℕ) (e_in : e < length c.trees) where
  pub type_claimed : IsType w (tree_at c e) (tree_at d v) → IsClaimOf w' (infer (tree_at d e)) (types (tree_at d e) (tree_at d v))
  type_claimed told =
      let at : IsClaimOf w (infer (tree_at c e)) (types (tree_at c e) (tree_at d v)) = λ u n a y. ap (types (tree_at c e)) (same_answer w (infer (tree_at c e)) u (tree_at d v) n told.cost a told.answered).0 in
      subst (λ z. IsClaimOf z (infer (tree_at d e)) (types (tree_at d e) (tree_at d v))) (sym place)
      (subst (λ E. IsClaimOf w (infer E) (types E (tree_at d v))) (sym (x.trees.same e e_in)) at)

  pub form_claimed : IsForm w (tree_at c e) (tree_at d v) → IsClaimOf w' (whnf (tree_at d e)) (reduces (tree_at d e) (tree_at d v))
  form_claimed told =
      let at : IsClaimOf w (whnf (tree_at c e)) (reduces (tree_at c e) (tree_at d v)) = λ u n a y. ap (reduces (tree_at c e)) (same_answer w (whnf (tree_at c e)) u (tree_at d v) n told.cost a told.answered).0 in
      subst (λ z. IsClaimOf z (whnf (tree_at d e)) (reduces (tree_at d e) (tree_at d v))) (sym place)
      (subst (λ E. IsClaimOf w (whnf E) (reduces E (tree_at d v))) (sym (x.trees.same e e_in)) at)

  -- and it is added
  module _ (b : Contents) (y : Extends d b) (v_in : v < length d.trees) (old new : Parts) (h : AreParts w c old) (V : Tree) (same : tree_at d v ≡ V) where
    term_added : (claim : Tree → Tree → PlainClaim) → AddsParts w' d b old new (claim (tree_at d e) (tree_at d v) ∷ []) → AddsTerm w c b old new (claim (tree_at c e) V) v V
    term_added claim adds = record {
      is = y.trees.same v v_in ∙ same;
      adds = adds_after w w' c d b old new (claim (tree_at c e) V ∷ []) place x h
          (subst (λ E. AddsParts w' d b old new (claim E V ∷ [])) (x.trees.same e e_in) (subst (λ T. AddsParts w' d b old new (claim (tree_at d e) T ∷ [])) same adds));
    }

pub type_added : (w w' : Place) (c d : Contents) (x : Extends c d) (place : w' ≡ w) (e v : ℕ) (e_in : e < length c.trees) (b : Contents) (y : Extends d b) (v_in : v < length d.trees) (old new : Parts) (h : AreParts w c old)
    (V : Tree) (n : ℕ) → IsType w (tree_at c e) (tree_at d v) → IsAnswered w (infer (tree_at c e)) V n → AddsParts w' d b old new (types (tree_at d e) (tree_at d v) ∷ []) → AddsTerm w c b old new (types (tree_at c e) V) v V
type_added w w' c d x place e v e_in b y v_in old new h V n told a adds =
    term_added w w' c d x place e v e_in b y v_in old new h V (same_answer w (infer (tree_at c e)) (tree_at d v) V told.cost n told.answered a).0 (λ E T. types E T) adds

pub form_added : (w w' : Place) (c d : Contents) (x : Extends c d) (place : w' ≡ w) (e v : ℕ) (e_in : e < length c.trees) (b : Contents) (y : Extends d b) (v_in : v < length d.trees) (old new : Parts) (h : AreParts w c old)
    (V : Tree) (n : ℕ) → IsForm w (tree_at c e) (tree_at d v) → IsAnswered w (whnf (tree_at c e)) V n → AddsParts w' d b old new (reduces (tree_at d e) (tree_at d v) ∷ []) → AddsTerm w c b old new (reduces (tree_at c e) V) v V
form_added w w' c d x place e v e_in b y v_in old new h V n told a adds =
    term_added w w' c d x place e v e_in b y v_in old new h V (same_answer w (whnf (tree_at c e)) (tree_at d v) V told.cost n told.answered a).0 (λ E T. reduces E T) adds
