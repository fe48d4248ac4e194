-- What auxiliary types are made of, copied out of the list of these.
use Rattle.std.proofs.Common.{◌≡◌, ℕ, zero, suc, ◌<◌, ◌≤◌, List, [], ◌∷◌, ◌++◌, map, length, Some, None, refl, sym, ap, ◌∙◌, append_assoc, slice_index_or}
use Rattle.std.specs.Prelude.{option_map}
use Rattle.std.specs.List.{slice_get}
use Rattle.std.proofs.lemmas.List.{map-append}
use Rattle.std.proofs.lemmas.Option.{slice_get_past, slice_get_read}
use Rattle.lk_env.specs.declared.unit.Constructor.{Constructor}
use Rattle.lk_env.specs.Units.{constructor_at}
use Rattle.lk_inductive.specs.Enlarged.{aux_from}
use Rattle.lk_store.specs.Contents.{Contents, name_at, tree_at}
use Rattle.lk_auxiliary.specs.declared.auxiliary.Auxiliary.{Auxiliary}
use Rattle.lk_enlarge.specs.declared.draft.Draft.{Draft}
use Rattle.lk_auxiliary.specs.Auxiliaries.{aux_at, auxs_at}
use Rattle.lk_enlarge.specs.Drafts.{PlainDraft, PlainOutline, draft_at, drafts_of, outline_of}

-- one more draft
pub draft_moved : (c : Contents) (ds es : List Draft) (d : Draft) (left more : List Constructor) (k : Constructor) (types others : List ℕ) (t : ℕ) (whole : List PlainDraft) → left ≡ k ∷ more → types ≡ t ∷ others → es ≡ ds ++ d ∷ []
    → draft_at c d ≡ record { name = name_at c k.name; place = k.place; fields = k.fields; type = tree_at c t } → map (draft_at c) ds ++ drafts_of (map (constructor_at c) left) (map (tree_at c) types) ≡ whole
    → map (draft_at c) es ++ drafts_of (map (constructor_at c) more) (map (tree_at c) others) ≡ whole
draft_moved c ds es d left more k types others t whole split cut push is so_far =
    let rest = drafts_of (map (constructor_at c) more) (map (tree_at c) others) in
    ap (λ x. map (draft_at c) x ++ rest) push
    ∙ ap (λ x. x ++ rest) (map-append (draft_at c) ds (d ∷ []))
    ∙ append_assoc (map (draft_at c) ds) (draft_at c d ∷ []) rest
    ∙ ap (λ x. map (draft_at c) ds ++ x ∷ rest) is
    ∙ sym (ap (λ x. map (draft_at c) ds ++ drafts_of (map (constructor_at c) x) (map (tree_at c) types)) split
    ∙ ap (λ x. map (draft_at c) ds ++ drafts_of (map (constructor_at c) (k ∷ more)) (map (tree_at c) x)) cut)
    ∙ so_far

module _ (c : Contents) where
  from_get : (xs : List Auxiliary) (i : ℕ) → aux_from (auxs_at c xs) i ≡ option_map (aux_at c) (slice_get xs i)
  from_get [] i = refl
  from_get (x ∷ xs) zero = refl
  from_get (x ∷ xs) (suc i) = from_get xs i

  pub from_past : (xs : List Auxiliary) (i : ℕ) → length xs ≤ i → None ≡ option_map outline_of (aux_from (auxs_at c xs) i)
  from_past xs i h = sym (ap (option_map outline_of) (from_get xs i ∙ ap (option_map (aux_at c)) (slice_get_past xs i h)))

  pub from_within : (xs : List Auxiliary) (i : ℕ) (a : Auxiliary) → i < length xs → a ≡ slice_index_or xs i a → (o : PlainOutline) → o ≡ outline_of (aux_at c a) → Some o ≡ option_map outline_of (aux_from (auxs_at c xs) i)
  from_within xs i a h is o made = ap Some made ∙ sym (ap (option_map outline_of) (from_get xs i ∙ ap (option_map (aux_at c)) (slice_get_read xs (length xs) i a refl h is)))
