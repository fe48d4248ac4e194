-- Trees that are closed and well scoped, with Locals below a number.
use Rattle.std.proofs.Common.{ℕ, suc, ◌<◌, ◌≤◌, ◌⊎◌, inl, inr, List, [], ◌∷◌, arith}
use Rattle.lk_tree.specs.Tree.{Tree, pi, local}
use Rattle.lk_tree.specs.Bind.{opened, bound}
use Rattle.lk_tree.specs.WellFormed.{IsWellFormed, HasLocal, LocalsWithin}
use Rattle.lk_tree.proofs.Binding.{open_fine}
use Rattle.lk_tree.proofs.Locals.{local_of_open, below_bound, bound_least, bound_within}
use Rattle.lk_rulebook.specs.Place.{Place}
use Rattle.lk_rulebook.specs.Rules.{Reduces}
use Rattle.lk_rulebook.proofs.Scopes.{well_formed_of_reduct}
use Rattle.lk_inductive.specs.Block.{domain}

abbrev pub In : ℕ → Tree → Type 0
In j e = IsWellFormed e × (bound e ≤ j)

abbrev pub AllIn : ℕ → List Tree → Type 0
AllIn j [] = Unit {0}
AllIn j (x ∷ xs) = In j x × AllIn j xs

pub in_more : (j k : ℕ) (e : Tree) → j ≤ k → In j e → In k e
in_more j k e l h = (h.0, omega (arith, h.1))

pub all_in_more : (j k : ℕ) (xs : List Tree) → j ≤ k → AllIn j xs → AllIn k xs
all_in_more j k [] l h = tt
all_in_more j k (x ∷ xs) l h = (in_more j k x l h.0, all_in_more j k xs l h.1)

pub open_bound : (n : ℕ) (b v : Tree) → bound b ≤ n → bound v ≤ n → bound (opened b v) ≤ n
open_bound n b v hb hv = bound_least n (opened b v) (λ k T m. small k T (local_of_open k T 0 v b m))
  where
    small : (k : ℕ) (T : Tree) → HasLocal k T b ⊎ HasLocal k T v → k < n
    small k T (inl m) = omega (arith, below_bound k T b m)
    small k T (inr m) = omega (arith, below_bound k T v m)

pub pi_left : (j : ℕ) (A B : Tree) → In j (pi A B) → In j A
unfolding bound
pi_left j A B h = (h.0.0, omega (arith, h.1))

pi_right : (j : ℕ) (A B : Tree) → bound (pi A B) ≤ j → bound B ≤ j
unfolding bound
pi_right j A B h = omega arith

pub local_bound : (j : ℕ) (A : Tree) → bound A ≤ j → bound (local j A) ≤ suc j
unfolding bound
local_bound j A h = omega arith

-- a binder that is opened with the next Local
pub next_local : (j : ℕ) (A B : Tree) → In j (pi A B) → In (suc j) (local j A)
next_local j A B h = let l : In j A = pi_left j A B h in ((l.0, l.1), local_bound j A l.1)

pub open_in : (j k : ℕ) (A B v : Tree) → j ≤ k → In j (pi A B) → In k v → In k (opened B v)
open_in j k A B v l h i = (open_fine 0 v B h.0.1 i.0, open_bound k B v (omega (arith, pi_right j A B h.1)) i.1)

-- a tree goes on to one with no Local of its own
pub goes_in : (w : Place) (j : ℕ) (e v : Tree) → In j e → Reduces w e v → LocalsWithin e v → In j v
goes_in w j e v h c l = ((well_formed_of_reduct c).1, omega (arith, h.1, bound_within e v l))

pub fine_domain : (P : Tree) → IsWellFormed P → IsWellFormed (domain P)
fine_domain (local k A) f = f.0
fine_domain _ f = f
