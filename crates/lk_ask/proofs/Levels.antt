-- Levels of a list, and level parameters, by their numbers.
use Rattle.std.proofs.Common.{◌≡◌, ℕ, ◌<◌, List, [], ◌∷◌, ◌++◌, length, map, refl, ap, ◌∙◌, append_assoc}
use Rattle.std.specs.Prelude.{All}
use Rattle.std.proofs.lemmas.List.{map-append}
use Rattle.std.proofs.lemmas.List.Elements.{All-push, All-nil}
use Rattle.lk_tree.specs.Tree.{Level}
use Rattle.lk_store.specs.Contents.{Contents, level_at, list_at}

-- the first levels of a list stand in front, and the rest is still to be taken
pub record AreTaken (c : Contents) (numbers : List ℕ) (rest : ℕ) (ls : List Level) : Type 0 where
  pub known : All (λ l. l < length c.levels) numbers
  pub are : map (level_at c) numbers ++ list_at c rest ≡ ls
  pub rest_in : rest < length c.lists

pub taken_begin : (c : Contents) (levels : ℕ) → levels < length c.lists → AreTaken c [] levels (list_at c levels)
taken_begin c levels h = record { known = All-nil (λ l. l < length c.levels); are = refl; rest_in = h }

pub taken_more : (c : Contents) (numbers numbers2 : List ℕ) (rest first others : ℕ) (ls : List Level) → AreTaken c numbers rest ls → numbers2 ≡ numbers ++ first ∷ [] → first < length c.levels → others < length c.lists
    → level_at c first ∷ list_at c others ≡ list_at c rest → AreTaken c numbers2 others ls
taken_more c numbers numbers2 rest first others ls t pushed h i e =
    let all : map (level_at c) (numbers ++ first ∷ []) ++ list_at c others ≡ ls = rw map-append (append_assoc (map (level_at c) numbers) (level_at c first ∷ []) (list_at c others) ∙ ap (λ r. map (level_at c) numbers ++ r) e ∙ t.are) in
    rw pushed (record { known = All-push (λ l. l < length c.levels) numbers first t.known h; are = all; rest_in = i })
