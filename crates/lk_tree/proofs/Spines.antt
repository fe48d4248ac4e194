-- Closed and well scoped applications.
use Rattle.std.proofs.Common.{◌≡◌, List, [], ◌∷◌, ◌++◌, refl}
use Rattle.lk_tree.specs.Tree.{Tree, app, lam}
use Rattle.lk_tree.specs.Spine.{apply, head, IsNeutral, IsHeadNormal}
use Rattle.lk_tree.specs.WellFormed.{IsWellFormed, AllWellFormed}

pub fine_apply : (h : Tree) (xs : List Tree) → IsWellFormed h → AllWellFormed xs → IsWellFormed (apply h xs)
fine_apply h [] f fs = f
fine_apply h (a ∷ rest) f fs = fine_apply (app h a) rest (f, fs.0) fs.1

pub well_formed_of_apply : (h : Tree) (xs : List Tree) → IsWellFormed (apply h xs) → IsWellFormed h × AllWellFormed xs
well_formed_of_apply h [] f = (f, tt)
well_formed_of_apply h (a ∷ rest) f =
    let r : IsWellFormed (app h a) × AllWellFormed rest = well_formed_of_apply (app h a) rest f in
    (r.0.0, (r.0.1, r.1))

pub all_fine_append : (xs ys : List Tree) → AllWellFormed xs → AllWellFormed ys → AllWellFormed (xs ++ ys)
all_fine_append [] ys f g = g
all_fine_append (a ∷ xs) ys f g = (f.0, all_fine_append xs ys f.1 g)

pub all_fine_split : (xs ys : List Tree) → AllWellFormed (xs ++ ys) → AllWellFormed xs × AllWellFormed ys
all_fine_split [] ys f = (tt, f)
all_fine_split (a ∷ xs) ys f = let r : AllWellFormed xs × AllWellFormed ys = all_fine_split xs ys f.1 in ((f.0, r.0), r.1)

pub apply_append : (h : Tree) (xs ys : List Tree) → apply h (xs ++ ys) ≡ apply (apply h xs) ys
apply_append h [] ys = refl
apply_append h (a ∷ xs) ys = apply_append (app h a) xs ys

pub neutral_applied : (h : Tree) (xs : List Tree) → IsNeutral h → IsNeutral (apply h xs)
neutral_applied h [] n = n
neutral_applied h (a ∷ rest) n = neutral_applied (app h a) rest n

pub normal_neutral : (e : Tree) → IsNeutral e → IsHeadNormal e
normal_neutral (lam A b) n = tt
normal_neutral e n = n

pub neutral_head : (e : Tree) → IsNeutral e → IsNeutral (head e)
unfolding head
neutral_head (app f a) n = neutral_head f n
neutral_head e n = n
