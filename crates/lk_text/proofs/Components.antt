-- The components of a name, met from the last one to the first.
use Rattle.std.proofs.Common.{◌≡◌, ℕ, List, [], ◌∷◌, ◌++◌, map, refl, ap, sym, ◌∙◌, append_assoc}
use Rattle.std.specs.Prelude.{reverse}
use Rattle.std.proofs.lemmas.Grind.{reverse_onto}
use Rattle.std.proofs.lemmas.List.{map-append}
use Rattle.lk_tree.specs.Tree.{Name, Part}
use Rattle.lk_store.specs.Contents.{Contents}
use Rattle.lk_text.specs.declared.names.Component.{Component}
use Rattle.lk_text.specs.Names.{part_at}
use Rattle.lk_text.specs.Text.{part_text, dotted}

-- the components that were met, as they stand in the name
abbrev pub behind : Contents → List Component → Name
behind c [] = []
behind c (k ∷ ks) = behind c ks ++ part_at c k ∷ []

behind-push : (c : Contents) (ks : List Component) (k : Component) → behind c (ks ++ k ∷ []) ≡ part_at c k ∷ behind c ks
behind-push c [] k = refl
behind-push c (j ∷ ks) k = ap (λ r. r ++ part_at c j ∷ []) (behind-push c ks k)

-- one more component is met
pub more_behind : (c : Contents) (whole at parent : Name) (p : Part) (ks ls : List Component) (k : Component) → at ++ behind c ks ≡ whole → parent ++ p ∷ [] ≡ at → ls ≡ ks ++ k ∷ [] → part_at c k ≡ p
    → parent ++ behind c ls ≡ whole
more_behind c whole at parent p ks ls k h is pushed same =
    ap (λ x. parent ++ behind c x) pushed ∙ ap (λ x. parent ++ x) (behind-push c ks k) ∙ ap (λ x. parent ++ x ∷ behind c ks) same
    ∙ sym (append_assoc parent (p ∷ []) (behind c ks)) ∙ ap (λ x. x ++ behind c ks) is ∙ h

turned : (c : Contents) (ks : List Component) → map (part_at c) (reverse ks) ≡ behind c ks
turned c [] = refl
turned c (k ∷ ks) = ap (map (part_at c)) (reverse_onto ks k []) ∙ map-append (part_at c) (reverse ks) (k ∷ []) ∙ ap (λ x. x ++ part_at c k ∷ []) (turned c ks)

-- all are met
pub all_behind : (c : Contents) (whole at : Name) (ks ls : List Component) → at ++ behind c ks ≡ whole → [] ≡ at → ls ≡ reverse ks → map (part_at c) ls ≡ whole
all_behind c whole at ks ls h none turned_is = ap (map (part_at c)) turned_is ∙ turned c ks ∙ ap (λ x. x ++ behind c ks) none ∙ h

-- a dot and one more component are written
pub dotted_more : (c : Contents) (old dot new whole : List ℕ) (rest more : List Component) (k : Component) → rest ≡ k ∷ more → dot ≡ old ++ 46 ∷ [] → new ≡ dot ++ part_text (part_at c k)
    → old ++ dotted (map (part_at c) rest) ≡ whole → new ++ dotted (map (part_at c) more) ≡ whole
dotted_more c old dot new whole rest more k cut dots parts h =
    let tail = dotted (map (part_at c) more) in
    ap (λ x. x ++ tail) parts ∙ append_assoc dot (part_text (part_at c k)) tail ∙ ap (λ x. x ++ (part_text (part_at c k) ++ tail)) dots
    ∙ append_assoc old (46 ∷ []) (part_text (part_at c k) ++ tail) ∙ ap (λ x. old ++ dotted (map (part_at c) x)) (sym cut) ∙ h
