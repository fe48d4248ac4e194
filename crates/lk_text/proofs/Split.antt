-- Texts that are joined by commas are split again.
use Rattle.std.proofs.Common.{◌≡◌, ◌≢◌, ℕ, false, List, [], ◌∷◌, refl, ap, ◌∙◌, eqb}
use Rattle.std.specs.Prelude.{All}
use Rattle.std.specs.List.{slice_split}
use Rattle.std.proofs.lemmas.Bool.{ne_eqb}
use Rattle.std.proofs.lemmas.List.Elements.{All-head, All-tail, All-weaker}
use Rattle.std.proofs.lemmas.List.Splits.{slice_split_none, slice_split_at, join_with_byte-slice_split}
use Rattle.lk_text.specs.Policy.{texts_of, listed, joined, IsCommaFree}

no_commas : (text : List ℕ) → IsCommaFree text → All (λ b. eqb b 44 ≡ false) text
no_commas text h = All-weaker (λ b. b ≢ 44) (λ b. eqb b 44 ≡ false) (λ b n. ne_eqb b 44 n) text h

parts : (t : List ℕ) (more : List (List ℕ)) → All IsCommaFree (t ∷ more) → slice_split (λ b. eqb b 44) (joined (t ∷ more)) ≡ t ∷ more
parts t [] h = slice_split_none (λ b. eqb b 44) t (no_commas t (All-head IsCommaFree t [] h))
parts t (u ∷ more) h =
    slice_split_at (λ b. eqb b 44) t 44 (joined (u ∷ more)) (no_commas t (All-head IsCommaFree t (u ∷ more) h)) refl ∙ ap (λ ps. t ∷ ps) (parts u more (All-tail IsCommaFree t (u ∷ more) h))

-- only the empty text has none
some_texts : (list : List ℕ) → list ≢ [] → texts_of list ≡ slice_split (λ b. eqb b 44) list
some_texts [] n = absurd (n refl)
some_texts (b ∷ bytes) n = refl

not_empty : (t : List ℕ) (more : List (List ℕ)) → (t ∷ more) ≢ ([] ∷ []) → joined (t ∷ more) ≢ []
not_empty [] [] n e = n refl
not_empty (b ∷ bytes) [] n e = absurd (cc)
not_empty [] (u ∷ more) n e = absurd (cc)
not_empty (b ∷ bytes) (u ∷ more) n e = absurd (cc)

pub split_again : (texts : List (List ℕ)) → All IsCommaFree texts → texts ≢ ([] ∷ []) → listed (texts_of (joined texts)) ≡ listed texts
split_again [] h n = refl
split_again (t ∷ more) h n = ap listed (some_texts (joined (t ∷ more)) (not_empty t more n) ∙ parts t more h)

pub joined_back : (list : List ℕ) → joined (texts_of list) ≡ list
joined_back [] = refl
joined_back (b ∷ bytes) = join_with_byte-slice_split 44 (b ∷ bytes)
