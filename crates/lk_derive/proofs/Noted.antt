-- One line more.
use Rattle.std.proofs.Common.{◌≡◌, ℕ, zero, suc, Bool, true, false, List, [], ◌∷◌, ◌++◌, length, map, refl, ap, sym, subst, ◌∙◌, inr}
use Rattle.std.specs.Prelude.{Option, Some, None, is_some, slice_get, if◌then◌else◌}
use Rattle.std.proofs.lemmas.List.{length-map, map_push}
use Rattle.std.proofs.lemmas.List.Elements.{All-push, All-same}
use Rattle.lk_rulebook.specs.Place.{Place}
use Rattle.lk_rulebook.specs.Claims.{Claim as PlainClaim}
use Rattle.lk_claims.proofs.Pieces.{Some_inj}
use Rattle.lk_written.specs.Line as written
use Rattle.lk_written.specs.Section.{line_holds, claims_by}
use Rattle.lk_written.specs.Written.{Keeps}
use Rattle.lk_store.specs.Contents.{Contents}
use Rattle.lk_trace.specs.declared.sections.Line.{Line}
use Rattle.lk_trace.specs.Meaning.{line_of, IsLineIn}
use Rattle.lk_premises.specs.declared.claims.Claim.{Claim}
use Rattle.lk_premises.specs.Claims.{claim_at, claims_at}
use Rattle.lk_step.specs.Rows.{IsThere}
use Rattle.lk_derive.specs.declared.notes.Notes.{Notes}
use Rattle.lk_derive.specs.Keys.{claim_key, same_key}
use Rattle.lk_derive.specs.Notes.{claim_of, claims_in, stated_at, place_in, IsIndexed, IsNotes, AddsLine}
use Rattle.lk_derive.proofs.Lists.{contains_at, get-append_left, get-push}
use Rattle.lk_derive.proofs.Keyed.{claim_exact}
use Rattle.lk_derive.proofs.Claimed.{claim_is_of}

-- a place is that of a line which states the claim
pub placed_at : (c : Contents) (n : Notes) (k : Claim) (i : ℕ) → IsIndexed c n → place_in n k ≡ Some i → slice_get (stated_at c n) i ≡ Some (claim_at c k)
placed_at c n k i h e = got (claims_in n) i (h.placed k i e)
  where
    got : (ks : List Claim) (i : ℕ) → slice_get ks i ≡ Some k → slice_get (claims_at c ks) i ≡ Some (claim_at c k)
    got [] i e = absurd cc
    got (j ∷ ks) zero e = ap (λ j. Some (claim_at c j)) (Some_inj e)
    got (j ∷ ks) (suc i) e = got ks i e

pub placed_there : (c : Contents) (n : Notes) (k : Claim) (i : ℕ) → IsIndexed c n → place_in n k ≡ Some i → IsThere (stated_at c n) (claim_at c k)
placed_there c n k i h e = inr (contains_at (stated_at c n) i (claim_at c k) (placed_at c n k i h e))

-- lines after lines
line_more : (w : Place) (ps : List PlainClaim) (ls : List written.Line) (l : written.Line) (qs : List PlainClaim) → claims_by w ps ls ≡ Some qs → line_holds w qs l ≡ true
    → claims_by w ps (ls ++ (l ∷ [])) ≡ Some (qs ++ (written.claim_of l ∷ []))
line_more w ps [] l qs e h =
    let same : ps ≡ qs = Some_inj e in
    let one : claims_by w qs (l ∷ []) ≡ Some (qs ++ (written.claim_of l ∷ [])) = ap (λ (b : Bool). if b then Some (qs ++ (written.claim_of l ∷ [])) else None) h in
    subst (λ zs. claims_by w zs (l ∷ []) ≡ Some (qs ++ (written.claim_of l ∷ []))) (sym same) one
line_more w ps (k ∷ ls) l qs e h = go (line_holds w ps k) (λ f. line_more w (ps ++ (written.claim_of k ∷ [])) ls l qs f h) e
  where
    go : (b : Bool) → (claims_by w (ps ++ (written.claim_of k ∷ [])) ls ≡ Some qs → claims_by w (ps ++ (written.claim_of k ∷ [])) (ls ++ (l ∷ [])) ≡ Some (qs ++ (written.claim_of l ∷ []))) →
        (if b then claims_by w (ps ++ (written.claim_of k ∷ [])) ls else None) ≡ Some qs → (if b then claims_by w (ps ++ (written.claim_of k ∷ [])) (ls ++ (l ∷ [])) else None) ≡ Some (qs ++ (written.claim_of l ∷ []))
    go true f e = f e
    go false f e = absurd cc

module _ (c : Contents) (old new : Notes) (l : Line) (adds : AddsLine old new l) where
  claims_more : claims_in new ≡ claims_in old ++ (claim_of l ∷ [])
  claims_more = ap (map claim_of) adds.lines ∙ map_push claim_of old.lines.items l

  stated_more : stated_at c new ≡ stated_at c old ++ (claim_at c (claim_of l) ∷ [])
  stated_more = ap (claims_at c) claims_more ∙ map_push (claim_at c) (claims_in old) (claim_of l)

  pub stated_keeps : Keeps (stated_at c old) (stated_at c new)
  stated_keeps i p e = subst (λ ps. slice_get ps i ≡ Some p) (sym stated_more) (get-append_left (stated_at c old) (claim_at c (claim_of l) ∷ []) i p e)

  pub stated_there : IsThere (stated_at c new) (claim_at c (claim_of l))
  stated_there =
      let p = claim_at c (claim_of l) in
      let last : slice_get (stated_at c new) (length (stated_at c old)) ≡ Some p = subst (λ ps. slice_get ps (length (stated_at c old)) ≡ Some p) (sym stated_more) (get-push (stated_at c old) p) in
      inr (contains_at (stated_at c new) (length (stated_at c old)) p last)

  module _ (was : IsIndexed c old) (line_in : IsLineIn c l) where
    placed : (k : Claim) (i : ℕ) → place_in new k ≡ Some i → slice_get (claims_in new) i ≡ Some k
    placed k i h = subst (λ ks. slice_get ks i ≡ Some k) (sym claims_more) (go (same_key (claim_key (claim_of l)) (claim_key k)) refl (sym (adds.places (claim_key k)) ∙ h))
      where
        at_last : (i : ℕ) → i ≡ length old.lines.items → slice_get (claims_in old ++ (claim_of l ∷ [])) i ≡ Some (claim_of l)
        at_last i e = ap (slice_get (claims_in old ++ (claim_of l ∷ []))) (e ∙ sym (length-map old.lines.items claim_of)) ∙ get-push (claims_in old) (claim_of l)

        go : (b : Bool) → same_key (claim_key (claim_of l)) (claim_key k) ≡ b → ◌≡◌ {A = Option ℕ} (if b then Some adds.place else place_in old k) (Some i) → slice_get (claims_in old ++ (claim_of l ∷ [])) i ≡ Some k
        go true e h =
            let is : claim_of l ≡ k = claim_exact (claim_of l) k e in
            let here : adds.place ≡ i = Some_inj h in
            at_last i (sym here ∙ adds.at) ∙ ap (λ (j : Claim). Some j) is
        go false e h = get-append_left (claims_in old) (claim_of l ∷ []) i k (was.placed k i h)

    indexed_more : IsIndexed c new
    indexed_more = record {
      lines_in = All-same (IsLineIn c) new.lines.items (old.lines.items ++ (l ∷ [])) adds.lines (All-push (IsLineIn c) old.lines.items l was.lines_in line_in);
      few = adds.few;
      placed = placed;
    }

    -- a line that holds is added
    pub noted : (w : Place) → IsNotes w c old → line_holds w (stated_at c old) (line_of c l) ≡ true → IsNotes w c new
    noted w h holds =
        let ps = stated_at c old in
        let one : claims_by w [] (map (line_of c) old.lines.items ++ (line_of c l ∷ [])) ≡ Some (ps ++ (written.claim_of (line_of c l) ∷ [])) =
        line_more w [] (map (line_of c) old.lines.items) (line_of c l) ps h.holds holds in
        record {
          indexed = indexed_more;
          holds = ap (λ ls. claims_by w [] (map (line_of c) ls)) adds.lines
              ∙ ap (claims_by w []) (map_push (line_of c) old.lines.items l)
              ∙ one
              ∙ ap (λ p. Some (ps ++ (p ∷ []))) (sym (claim_is_of c l))
              ∙ ap (λ qs. Some qs) (sym stated_more);
        }

-- a claim that has a place is there
pub some_there : (c : Contents) (n : Notes) (k : Claim) (o : Option ℕ) → IsIndexed c n → o ≡ place_in n k → is_some o ≡ true → IsThere (stated_at c n) (claim_at c k)
some_there c n k (Some i) h e is = placed_there c n k i h (sym e)
some_there c n k None h e is = absurd (cc)
