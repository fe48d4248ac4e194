-- The components of a name, taken off one by one and put behind another name.
use Rattle.std.proofs.Common.{◌≡◌, List, [], ◌∷◌, ◌++◌, length, All, refl, ap, sym, ◌∙◌, append_assoc, arith}
use Rattle.std.proofs.lemmas.List.{append-nil}
use Rattle.std.proofs.lemmas.List.Elements.{All-weaker, All-head, All-tail}
use Rattle.lk_tree.specs.Tree.{Name, Part, text}
use Rattle.lk_store.specs.Contents.{Contents, Extends}
use Rattle.lk_enlarge.specs.declared.components.Component.{Component}
use Rattle.lk_enlarge.specs.declared.components.Component.TheVariants.{Text, Number}
use Rattle.lk_enlarge.specs.Components.{part_at, behind, IsPartIn}

behind_push : (c : Contents) (ks : List Component) (k : Component) → behind c (ks ++ k ∷ []) ≡ part_at c k ∷ behind c ks
behind_push c [] k = refl
behind_push c (j ∷ ks) k = ap (λ r. r ++ part_at c j ∷ []) (behind_push c ks k)

-- one more component is met
pub more_behind : (c : Contents) (whole at parent : Name) (p : Part) (ks ls : List Component) (k : Component) → at ++ behind c ks ≡ whole → parent ++ p ∷ [] ≡ at → ls ≡ ks ++ k ∷ [] → part_at c k ≡ p
    → parent ++ behind c ls ≡ whole
more_behind c whole at parent p ks ls k h is pushed same =
    ap (λ x. parent ++ behind c x) pushed ∙ ap (λ x. parent ++ x) (behind_push c ks k) ∙ ap (λ x. parent ++ x ∷ behind c ks) same
    ∙ sym (append_assoc parent (p ∷ []) (behind c ks)) ∙ ap (λ x. x ++ behind c ks) is ∙ h

module _ (c d : Contents) (x : Extends c d) where
  pub part_stays : (k : Component) → IsPartIn c k → part_at d k ≡ part_at c k
  part_stays (Text s) h = ap text (x.texts.same s h)
  part_stays (Number n) h = refl

  pub part_known : (k : Component) → IsPartIn c k → IsPartIn d k
  part_known (Text s) h = let longer = x.texts.longer in omega arith
  part_known (Number n) h = tt

  pub behind_stays : (ks : List Component) → All (IsPartIn c) ks → behind d ks ≡ behind c ks
  behind_stays [] h = refl
  behind_stays (k ∷ ks) h =
      ap (λ x. x ++ part_at d k ∷ []) (behind_stays ks (All-tail (IsPartIn c) k ks h))
      ∙ ap (λ p. behind c ks ++ p ∷ []) (part_stays k (All-head (IsPartIn c) k ks h))

  pub parts_known : (ks : List Component) → All (IsPartIn c) ks → All (IsPartIn d) ks
  parts_known ks h = All-weaker (IsPartIn c) (IsPartIn d) part_known ks h

-- one component moves from behind a name into it
pub moved : (c : Contents) (left others : List Component) (k : Component) (made next whole : Name) → left ≡ others ++ k ∷ [] → next ≡ made ++ part_at c k ∷ [] → made ++ behind c left ≡ whole → next ++ behind c others ≡ whole
moved c left others k made next whole split is h =
    ap (λ x. x ++ behind c others) is
    ∙ append_assoc made (part_at c k ∷ []) (behind c others)
    ∙ ap (λ x. made ++ x) (sym (ap (behind c) split ∙ behind_push c others k))
    ∙ h

pub all_moved : (c : Contents) (left : List Component) (made whole : Name) → length left ≡ 0 → made ++ behind c left ≡ whole → made ≡ whole
all_moved c [] made whole none h = sym (append-nil made) ∙ h
all_moved c (k ∷ ks) made whole none h = absurd (omega arith)
