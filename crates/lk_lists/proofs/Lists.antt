-- What is left of a list once its first or its last item is taken.
use Rattle.std.proofs.Common.{◌≡◌, List, [], ◌∷◌, ◌++◌, map, length, All, refl, subst, arith}
use Rattle.std.specs.Prelude.{Some}
use Rattle.std.proofs.lemmas.List.Elements.{All-head, All-tail, All-pop}

pub first_has : {X : Type 0} (P : X → Type 0) (xs : List X) (x : X) (more : List X) → xs ≡ x ∷ more → All P xs → P x
first_has P xs x more e h = All-head P x more (subst (All P) e h)

pub rest_have : {X : Type 0} (P : X → Type 0) (xs : List X) (x : X) (more : List X) → xs ≡ x ∷ more → All P xs → All P more
rest_have P xs x more e h = All-tail P x more (subst (All P) e h)

pub none_left : {X Y : Type 0} (f : X → Y) (xs : List X) → length xs ≡ 0 → map f xs ≡ []
none_left f [] e = refl
none_left f (x ∷ xs) e = absurd (omega arith)

pub all_last : {X : Type 0} (P : X → Type 0) (xs others : List X) (x : X) → xs ≡ others ++ x ∷ [] → All P xs → P x
all_last P xs others x e h = (All-pop P xs others (Some x) e h).1

pub all_others : {X : Type 0} (P : X → Type 0) (xs others : List X) (x : X) → xs ≡ others ++ x ∷ [] → All P xs → All P others
all_others P xs others x e h = (All-pop P xs others (Some x) e h).0
