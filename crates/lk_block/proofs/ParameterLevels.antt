-- Level parameters that are made from the last one on.
use Rattle.std.proofs.Common.{◌≡◌, ℕ, List, [], ◌∷◌, ◌++◌, map, sym, ap, ◌∙◌, append_assoc}
use Rattle.std.proofs.lemmas.List.{map-append}
use Rattle.lk_tree.specs.Tree.{Name, Level, param}

-- one name more in front of the list
pub parameters_next : (f : ℕ → Name) (left others : List ℕ) (n : ℕ) (list next whole : List Level) → left ≡ others ++ n ∷ [] → next ≡ param (f n) ∷ list
    → map param (map f left) ++ list ≡ whole → map param (map f others) ++ next ≡ whole
parameters_next f left others n list next whole split is was =
    ap (λ ys. map param (map f others) ++ ys) is
    ∙ sym (append_assoc (map param (map f others)) (param (f n) ∷ []) list)
    ∙ ap (λ ys. ys ++ list) (sym (map-append param (map f others) (f n ∷ [])))
    ∙ ap (λ ys. map param ys ++ list) (sym (map-append f others (n ∷ [])))
    ∙ ap (λ ys. map param (map f ys) ++ list) (sym split)
    ∙ was
