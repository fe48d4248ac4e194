-- A family behind the auxiliary types that are there.
use Rattle.std.proofs.Common.{◌≡◌, ℕ, ◌+◌, ◌++◌, suc, true, List, length, map, All, sym, ap, ◌∙◌}
use Rattle.std.specs.Prelude.{nat_le}
use Rattle.std.proofs.lemmas.List.{map-append}
use Rattle.std.proofs.lemmas.List.Elements.{All-append}
use Rattle.lk_tree.specs.Tree.{Name, Level, Tree, const, param}
use Rattle.lk_tree.specs.Spine.{apply}
use Rattle.lk_tree.specs.declared.rule.Rule.TheVariants.{NestedForm}
use Rattle.lk_rulebook.specs.Place.{BlockType}
use Rattle.lk_questions.specs.Program.{done, ◌>>=◌}
use Rattle.lk_questions.specs.Steps.{given}
use Rattle.lk_inductive.specs.Enlarged.{Aux, Setting as PlainSetting, aux_name}
use Rattle.lk_inductive.specs.Nested.{other_count, aux_applied}
use Rattle.lk_store.specs.Contents.{Contents, name_at, list_at, tree_at, Extends}
use Rattle.lk_store.proofs.Extending.{Extends-trans}
use Rattle.lk_subst.specs.Numbers.{trees-steady}
use Rattle.lk_auxiliary.specs.declared.auxiliary.Auxiliary.{Auxiliary}
use Rattle.lk_auxiliary.specs.declared.setting.Setting.{Setting}
use Rattle.lk_auxiliary.specs.Auxiliaries.{aux_at, auxs_at, IsAuxiliaryIn}
use Rattle.lk_auxiliary.specs.Made.{made_form}
use Rattle.lk_auxiliary.specs.Parts.{family_form}
use Rattle.lk_auxiliary.specs.Settings.{setting_at, IsSettingIn}
use Rattle.lk_auxiliary.proofs.Others.{auxs_stay, auxs_known}

module _ (s : PlainSetting) (as_ ms : List Aux) (J : Name) (ls : List Level) (bs : List Tree) (ts : List BlockType) (t : BlockType) (count others first : ℕ)
    (count_is : count ≡ length as_) (others_is : others ≡ other_count J ts) (first_is : first ≡ length s.params)
    (room : nat_le (count + suc others) 1024 ≡ true) (family : family_form first ls bs J ts t ≡ done ms) where
  pub made_to : made_form s as_ J ls bs ts t ≡ done (aux_applied s (length as_), as_ ++ ms)
  made_to =
      ap (λ b. given b NestedForm (family_form (length s.params) ls bs J ts t >>= λ ms. done (aux_applied s (length as_), as_ ++ ms)))
      (ap (λ n. nat_le (n + suc (other_count J ts)) 1024) (sym count_is) ∙ ap (λ n. nat_le (count + suc n) 1024) (sym others_is) ∙ room)
      ∙ ap (λ n. family_form n ls bs J ts t >>= λ ms. done (aux_applied s (length as_), as_ ++ ms)) (sym first_is)
      ∙ ap (λ p. p >>= λ ms. done (aux_applied s (length as_), as_ ++ ms)) family

module _ (before mid after : Contents) (x : Extends before mid) (y : Extends mid after) where
  -- those that were there and those that are added
  pub joined_known : (old made joined : List Auxiliary) → joined ≡ old ++ made → All (IsAuxiliaryIn before) old → All (IsAuxiliaryIn mid) made → All (IsAuxiliaryIn after) joined
  joined_known old made joined is h i = rw is (All-append (IsAuxiliaryIn after) old made (auxs_known before after (Extends-trans before mid after x y) old h) (auxs_known mid after y made i))

  pub joined_are : (old made joined : List Auxiliary) → joined ≡ old ++ made → All (IsAuxiliaryIn before) old → All (IsAuxiliaryIn mid) made → auxs_at after joined ≡ auxs_at before old ++ auxs_at mid made
  joined_are old made joined is h i =
      ap (auxs_at after) is
      ∙ map-append (aux_at after) old made
      ∙ ap (λ a. a ++ auxs_at after made) (auxs_stay before after (Extends-trans before mid after x y) old h)
      ∙ ap (λ m. auxs_at before old ++ m) (auxs_stay mid after y made i)

  pub applied_is : (s : Setting) (r count n : ℕ) → IsSettingIn before s → count ≡ n → tree_at after r ≡ apply (const (aux_name count) (list_at mid s.own_levels)) (map (tree_at mid) s.parameters.now) → tree_at after r ≡ aux_applied (setting_at before s) n
  applied_is s r count n h same is =
      is
      ∙ ap (λ k. apply (const (aux_name k) (list_at mid s.own_levels)) (map (tree_at mid) s.parameters.now)) same
      ∙ ap (λ ls. apply (const (aux_name n) ls) (map (tree_at mid) s.parameters.now)) (x.lists.same s.own_levels h.own_levels_are.known ∙ h.own_levels_are.is)
      ∙ ap (apply (const (aux_name n) (map param (map (name_at before) s.levels.now)))) (trees-steady before mid s.parameters.now x h.parameters_in)
