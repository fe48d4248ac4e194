-- The pieces of the types of quotient types' constants.
use Rattle.std.specs.Prelude.{ℕ}
use Rattle.lk_tree.specs.Tree.{Level, Tree, var, sort, app, pi}
use Rattle.lk_rulebook.specs.Quotients.{prop, rel}

-- for each type of this level and each relation on it
abbrev pub over_relations : Level → Tree → Tree
over_relations u body = pi (sort u) (pi (rel 0) body)

-- q is Quot, the two others variables
abbrev pub quotient_of : Tree → ℕ → ℕ → Tree
quotient_of q A r = app (app q (var A)) (var r)

-- f a and f b are equal by eq, which is Eq
abbrev pub images_equal : Tree → Tree
images_equal eq = app (app (app eq (var 4)) (app (var 3) (var 2))) (app (var 3) (var 1))

-- f does not tell related elements apart
abbrev pub respects : Tree → Tree
respects eq = pi (var 3) (pi (var 4) (pi (app (app (var 4) (var 1)) (var 0)) (images_equal eq)))

-- Quot.lift, behind the type and the relation; v is the level of what its function gives
abbrev pub lift_under : Level → Tree → Tree → Tree
lift_under v q eq = pi (sort v)
    (pi (pi (var 2) (var 1)) (pi (respects eq) (pi (quotient_of q 4 3) (var 3))))

-- the motive of Quot.ind holds of each Quot.mk, which is mk
abbrev pub holds_of_elements : Tree → Tree
holds_of_elements mk = pi (var 2) (app (var 1) (app (app (app mk (var 3)) (var 2)) (var 0)))

-- Quot.ind, behind the type and the relation
abbrev pub ind_under : Tree → Tree → Tree
ind_under q mk = pi (pi (quotient_of q 1 0) prop)
    (pi (holds_of_elements mk) (pi (quotient_of q 3 2) (app (var 2) (var 0))))
