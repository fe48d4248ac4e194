-- What a table of texts finds.
use Rattle.std.proofs.Common.{◌≡◌, ℕ, Bool, ◌||◌, List, [], ◌∷◌, map, refl, ap, ◌∙◌}
use Rattle.std.specs.Borrow.{Bor}
use Rattle.std.specs.HashSet.{HashSet, IsFromIterResult}
use Rattle.std.specs.List.{list_any}
use Rattle.std.specs.Str.{bytes_eq}
use Rattle.lk_text.specs.Policy.{listed}
use Rattle.lk_text.specs.Table.{IsTableOf}

any_lent : (p : List ℕ → Bool) (texts : List (Bor (List ℕ))) → list_any (λ t. p t.now) texts ≡ list_any p (map (λ t. t.now) texts)
any_lent p [] = refl
any_lent p (t ∷ texts) = ap (λ b. p t.now || b) (any_lent p texts)

pub tabled : {S : Type 0} (lent : List (Bor (List ℕ))) (texts : List (List ℕ)) (table : HashSet (Bor (List ℕ)) S) → map (λ t. t.now) lent ≡ texts → IsFromIterResult (λ x y. bytes_eq x.now y.now) lent table → IsTableOf (listed texts) table
tabled lent texts table e h name =
    let q : Bor (List ℕ) = record { ref_ptr = (0, 0); now = name } in
    h.0 q ∙ any_lent (bytes_eq name) lent ∙ ap (list_any (bytes_eq name)) e
