-- Two spines, where one is an application.
use Rattle.std.proofs.Common.{◌≡◌, ◌+◌, false, [], ◌∷◌, length, refl, ◌∙◌, ap, subst, arith}
use Rattle.std.specs.Prelude.{nat_eq}
use Rattle.std.proofs.lemmas.Bool.Decides.{nat_tests}
use Rattle.std.proofs.lemmas.List.{length-append}
use Rattle.lk_tree.specs.Tree.{Tree, app, var, sort, const, lam, pi, let_in, proj, lit, wide, str, local}
use Rattle.lk_tree.specs.Spine.{head, args}
use Rattle.lk_questions.specs.Pairs.{Line, goes_on}
use Rattle.lk_questions.specs.Same.{by_parts}
use Rattle.lk_lazy.proofs.Walks.{args-app}
use Rattle.lk_same.specs.Spines.{by_spines}

pub uneven : (a b : Tree) → nat_eq (length (args a)) (length (args b)) ≡ false → by_spines a b ≡ goes_on
uneven a b e = rw e refl

-- an application and a tree that is none
no_spine : (f x t : Tree) → args t ≡ [] → by_spines (app f x) t ≡ goes_on
no_spine f x t none =
    let long : length (args (app f x)) ≡ length (args f) + 1 = ap length (args-app f x) ∙ length-append (args f) (x ∷ []) in
    let short : length (args t) ≡ 0 = ap length none in
    uneven (app f x) t (grind (arith, nat_tests))

spines_is : (f x b : Tree) → by_spines (app f x) b ≡ by_parts (app f x) b
unfolding args head
spines_is f x (app g y) = refl
spines_is f x (var i) = no_spine f x (var i) refl
spines_is f x (sort l) = no_spine f x (sort l) refl
spines_is f x (const n ls) = no_spine f x (const n ls) refl
spines_is f x (lam A b) = no_spine f x (lam A b) refl
spines_is f x (pi A b) = no_spine f x (pi A b) refl
spines_is f x (let_in A v b) = no_spine f x (let_in A v b) refl
spines_is f x (proj S i s) = no_spine f x (proj S i s) refl
spines_is f x (lit n) = no_spine f x (lit n) refl
spines_is f x wide = no_spine f x wide refl
spines_is f x (str s) = no_spine f x (str s) refl
spines_is f x (local k T) = no_spine f x (local k T) refl

-- what is true of two spines is true of the parts of an application
pub parts_of_spines : (P : Line → Type 0) (f x a b : Tree) → app f x ≡ a → P (by_spines a b) → P (by_parts a b)
parts_of_spines P f x a b is h =
    let Q : Tree → Type 0 = λ t. P (by_spines t b) → P (by_parts t b) in
    subst Q is (subst P (spines_is f x b)) h
