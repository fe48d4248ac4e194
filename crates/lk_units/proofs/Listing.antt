-- A list of levels that is made from its end.
use Rattle.std.proofs.Common.{◌≡◌, ℕ, List, [], ◌∷◌, ◌++◌, map, ap, sym, ◌∙◌, append_assoc}
use Rattle.std.proofs.lemmas.List.{map-append}
use Rattle.lk_tree.specs.Tree.{Level}
use Rattle.lk_store.specs.Contents.{Contents, level_at, list_at}

-- one level more is on the list
pub list_more : (c0 c d : Contents) (left left' : List ℕ) (level list made : ℕ) (whole : List Level) → left ≡ left' ++ level ∷ [] → map (level_at c0) left ++ list_at c list ≡ whole
    → level_at c level ≡ level_at c0 level → list_at d made ≡ level_at c level ∷ list_at c list → map (level_at c0) left' ++ list_at d made ≡ whole
list_more c0 c d left left' level list made whole popped h same is =
    let front = map (level_at c0) left' in
    let split : map (level_at c0) (left' ++ level ∷ []) ≡ front ++ level_at c0 level ∷ [] = map-append (level_at c0) left' (level ∷ []) in
    let before : (front ++ level_at c0 level ∷ []) ++ list_at c list ≡ whole = rw (popped, split) at h in
    let end : list_at d made ≡ level_at c0 level ∷ list_at c list = is ∙ ap (λ l. l ∷ list_at c list) same in
    rw end (sym (append_assoc front (level_at c0 level ∷ []) (list_at c list)) ∙ before)
