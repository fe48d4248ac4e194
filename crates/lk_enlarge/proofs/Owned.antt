-- What is found of stated constructors and types, while the store grows.
use Rattle.std.proofs.Common.{◌≡◌, List, sym, ap, subst, ◌∙◌, arith}
use Rattle.lk_rulebook.specs.Place.{Place}
use Rattle.lk_inductive.specs.Enlarged.{Aux}
use Rattle.lk_env.specs.declared.unit.Constructor.{Constructor}
use Rattle.lk_env.specs.declared.unit.BlockType.{BlockType}
use Rattle.lk_env.specs.Units.{constructor_at, type_at, IsConstructorIn, IsTypeIn}
use Rattle.lk_store.specs.Contents.{Contents, Extends}
use Rattle.lk_env.proofs.Stays.{constructor_stays, type_stays, names_in_stay}
use Rattle.lk_enlarge.specs.declared.occurrences.Occurrences.{Occurrences}
use Rattle.lk_enlarge.specs.Occurrences.{AreOccurrences}
use Rattle.lk_enlarge.specs.Owns.{owns, type_owns}
use Rattle.lk_auxiliary.specs.declared.setting.Setting.{Setting as CodeSetting}
use Rattle.lk_auxiliary.specs.Settings.{setting_at, IsSettingIn}
use Rattle.lk_enlarge.proofs.Grown.{setting_stays}

pub owns_steady : (c d : Contents) (x : Extends c d) (s : CodeSetting) (h : IsSettingIn c s) (v w : Place) → v ≡ w → (k : Constructor) → IsConstructorIn c k → (as_ : List Aux)
    → owns v (setting_at d s) (constructor_at d k) as_ ≡ owns w (setting_at c s) (constructor_at c k) as_
owns_steady c d x s h v w place k known as_ =
    ap (λ y. owns y (setting_at d s) (constructor_at d k) as_) place
    ∙ ap (λ z. owns w z (constructor_at d k) as_) (setting_stays c d x s h)
    ∙ ap (λ z. owns w (setting_at c s) z as_) (constructor_stays c d x k known)

pub type_owns_steady : (c d : Contents) (x : Extends c d) (s : CodeSetting) (h : IsSettingIn c s) (v w : Place) → v ≡ w → (t : BlockType) → IsTypeIn c t → (as_ : List Aux)
    → type_owns v (setting_at d s) (type_at d t) as_ ≡ type_owns w (setting_at c s) (type_at c t) as_
type_owns_steady c d x s h v w place t known as_ =
    ap (λ y. type_owns y (setting_at d s) (type_at d t) as_) place
    ∙ ap (λ z. type_owns w z (type_at d t) as_) (setting_stays c d x s h)
    ∙ ap (λ z. type_owns w (setting_at c s) z as_) (type_stays c d x t known)

pub constructor_known : (c d : Contents) → Extends c d → (k : Constructor) → IsConstructorIn c k → IsConstructorIn d k
constructor_known c d x k h = record {
  stated = record {
    name_in = let small = h.stated.name_in in let longer = x.names.longer in omega arith;
    levels_in = names_in_stay c d x k.levels.items h.stated.levels_in;
    ty_in = let small = h.stated.ty_in in let longer = x.trees.longer in omega arith;
  };
  parent_in = let small = h.parent_in in let longer = x.names.longer in omega arith;
}

-- what was met, at another place and setting that are the same
module _ (c d : Contents) (x : Extends c d) (s : CodeSetting) (h : IsSettingIn c s) (v w : Place) (place : v ≡ w) (e : Contents) (m : Occurrences) where
  pub met_on : AreOccurrences w (setting_at c s) e s m → AreOccurrences v (setting_at d s) e s m
  met_on met = subst (λ y. AreOccurrences y (setting_at d s) e s m) (sym place) (subst (λ z. AreOccurrences w z e s m) (sym (setting_stays c d x s h)) met)

  pub met_back : AreOccurrences v (setting_at d s) e s m → AreOccurrences w (setting_at c s) e s m
  met_back met = subst (λ y. AreOccurrences y (setting_at c s) e s m) place (subst (λ z. AreOccurrences v z e s m) (setting_stays c d x s h) met)
