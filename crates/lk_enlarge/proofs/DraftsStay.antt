-- What auxiliary types are made of stays, while the store grows.
use Rattle.std.proofs.Common.{◌≡◌, ℕ, List, map, All, Option, Some, None, refl, sym, ap, subst, ◌∙◌, arith}
use Rattle.std.specs.Prelude.{option_map}
use Rattle.lk_rulebook.specs.Place.{Place}
use Rattle.lk_inductive.specs.Enlarged.{Aux}
use Rattle.lk_store.specs.Contents.{Contents, Extends}
use Rattle.lk_env.proofs.Stays.{all_stay}
use Rattle.lk_enlarge.specs.declared.draft.Draft.{Draft}
use Rattle.lk_enlarge.specs.declared.draft.Outline.{Outline}
use Rattle.lk_auxiliary.specs.declared.setting.Setting.{Setting}
use Rattle.lk_auxiliary.specs.Auxiliaries.{auxs_at, IsAuxiliaryIn}
use Rattle.lk_enlarge.specs.Drafts.{PlainOutline, draft_at, outline_at, outline_of, IsDraftIn, IsOutlineIn}
use Rattle.lk_enlarge.specs.DraftsNested.{draft_nests, next_nests}
use Rattle.lk_auxiliary.specs.Settings.{setting_at, IsSettingIn}
use Rattle.lk_enlarge.proofs.Grown.{setting_stays}
use Rattle.lk_auxiliary.proofs.Others.{auxs_stay}

module _ (c d : Contents) (x : Extends c d) where
  pub draft_stays : (k : Draft) → IsDraftIn c k → draft_at d k ≡ draft_at c k
  draft_stays k h = rw (x.names.same k.name h.name_in, x.trees.same k.ty h.ty_in) refl

  pub draft_known : (k : Draft) → IsDraftIn c k → IsDraftIn d k
  draft_known k h = record {
    name_in = (let l = h.name_in in let longer = x.names.longer in omega arith);
    ty_in = (let l = h.ty_in in let longer = x.trees.longer in omega arith);
  }

  pub drafts_stay : (ks : List Draft) → All (IsDraftIn c) ks → map (draft_at d) ks ≡ map (draft_at c) ks
  drafts_stay = all_stay (IsDraftIn c) (draft_at d) (draft_at c) draft_stays

  pub outline_stays : (o : Outline) → IsOutlineIn c o → outline_at d o ≡ outline_at c o
  outline_stays o h = rw (x.trees.same o.ty h.ty_in, drafts_stay o.constructors.items h.constructors_in) refl

  module _ (s : Setting) (h : IsSettingIn c s) (v w : Place) (place : v ≡ w) (i : ℕ) where
    pub draft_steady : (k : Draft) → IsDraftIn c k → (as_ : List Aux) → draft_nests v (setting_at d s) i (draft_at d k) as_ ≡ draft_nests w (setting_at c s) i (draft_at c k) as_
    draft_steady k known as_ =
        ap (λ y. draft_nests y (setting_at d s) i (draft_at d k) as_) place
        ∙ ap (λ z. draft_nests w z i (draft_at d k) as_) (setting_stays c d x s h)
        ∙ ap (λ z. draft_nests w (setting_at c s) i z as_) (draft_stays k known)

    pub next_steady : (as_ : List Aux) → next_nests v (setting_at d s) i as_ ≡ next_nests w (setting_at c s) i as_
    next_steady as_ =
        ap (λ y. next_nests y (setting_at d s) i as_) place
        ∙ ap (λ z. next_nests w z i as_) (setting_stays c d x s h)

-- an outline that was found is that of the auxiliary type of the number
pub outlined_by : (p : Option PlainOutline) (o : Option Aux) (y : PlainOutline) → p ≡ option_map outline_of o → p ≡ Some y → (a : Aux) × (o ≡ Some a) × (outline_of a ≡ y)
outlined_by p None y h i = absurd cc
outlined_by p (Some a) y h i = (a, refl, (let e : Some (outline_of a) ≡ Some y = sym h ∙ i in cc))
