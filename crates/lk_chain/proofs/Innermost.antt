-- Pis over a type, made from the innermost one on.
use Rattle.std.proofs.Common.{◌≡◌, ◌<◌, ℕ, List, [], ◌∷◌, ◌++◌, length, map, refl, ap, sym, ◌∙◌}
use Rattle.std.specs.Prelude.{All}
use Rattle.std.proofs.lemmas.List.{map-append}
use Rattle.std.proofs.lemmas.List.Elements.{All-head, All-tail}
use Rattle.lk_tree.specs.Tree.{Tree, pi}
use Rattle.lk_store.specs.Contents.{Contents, tree_at, Extends, IsTree}
use Rattle.lk_chain.specs.Pis.{pis_over}

-- the last domain stands innermost
pis_last : (As : List Tree) (A T : Tree) → pis_over (As ++ A ∷ []) T ≡ pis_over As (pi A T)
pis_last [] A T = refl
pis_last (B ∷ As) A T = ap (pi B) (pis_last As A T)

last_of : (P : ℕ → Type 0) (xs : List ℕ) (x : ℕ) → All P (xs ++ x ∷ []) → P x
last_of P [] x h = All-head P x [] h
last_of P (y ∷ xs) x h = last_of P xs x (All-tail P y (xs ++ x ∷ []) h)

-- the last of the domains that are left, with a Pi made of it
pub pis_step : {began now later : Contents} → Extends began now
    → (left others : List ℕ) (A e r : ℕ) → left ≡ others ++ A ∷ []
    → All (λ x. x < length began.trees) left
    → IsTree later r (pi (tree_at now A) (tree_at now e))
    → pis_over (map (tree_at began) others) (tree_at later r)
    ≡ pis_over (map (tree_at began) left) (tree_at now e)
pis_step {began} {now} {later} grows left others A e r is known made =
    let t = tree_at began in
    let P : ℕ → Type 0 = λ x. x < length began.trees in
    let same = grows.trees.same A (last_of P others A (rw is at known)) in
    let all : map t left ≡ map t others ++ t A ∷ [] =
    ap (map t) is ∙ map-append t others (A ∷ []) in
    ap (pis_over (map t others)) (made.is ∙ ap (λ B. pi B (tree_at now e)) same)
    ∙ (sym (pis_last (map t others) (t A) (tree_at now e))
    ∙ ap (λ As. pis_over As (tree_at now e)) (sym all))
