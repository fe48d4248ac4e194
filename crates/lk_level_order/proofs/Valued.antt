-- Levels of an order computed one after another.
use Rattle.std.proofs.Common.{ℕ, ◌≡◌, ◌<◌, ◌+◌, List, [], ◌∷◌, ◌++◌, length, get_or, sym, ap, ◌∙◌, arith, below_more}
use Rattle.std.proofs.lemmas.Grind.{common_steps}
use Rattle.lk_store.specs.Contents.{Contents, level_at, level_of}
use Rattle.lk_level_order.specs.declared.placing.PlacedLevel.{PlacedLevel}
use Rattle.lk_level_order.specs.Placing.{IsOrder}
use Rattle.lk_level_order.specs.Values.{value_at, AreValues}

pub values_push : (d : Contents) (vs values : List ℕ) (v : ℕ) → AreValues d vs values → v ≡ value_at d.names vs (level_at d (length values)) → AreValues d vs (values ++ v ∷ [])
values_push d vs values v h e k l =
    let all = values ++ v ∷ [] in
    let longer : length all ≡ length values + 1 = grind (arith, common_steps) in
    below_more (λ k. get_or all k 0 ≡ value_at d.names vs (level_at d k)) (length values)
    (λ n m. let read : get_or all n 0 ≡ get_or values n 0 = grind (arith, common_steps) in read ∙ h n m)
    (let read : get_or all (length values) 0 ≡ v = grind (arith, common_steps) in read ∙ e)
    k (rw longer at l)

-- the next level of an order
pub next_value : (d : Contents) (parts : List PlacedLevel) (vs values : List ℕ) (place v : ℕ) (part : PlacedLevel) → IsOrder d parts → place < length parts → length values ≡ place → ((e : PlacedLevel) → part ≡ get_or parts place e)
    → AreValues d vs values → (AreValues d vs values → v ≡ value_at d.names vs (level_of d part.node)) → AreValues d vs (values ++ v ∷ [])
next_value d parts vs values place v part order l count is h f =
    let node : level_of d part.node ≡ level_at d place = rw (is part) (order.nodes place part l) in
    values_push d vs values v h (f h ∙ ap (value_at d.names vs) (node ∙ ap (level_at d) (sym count)))
