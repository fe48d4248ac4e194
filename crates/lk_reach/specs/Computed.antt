-- The axioms of a unit, computed: what is mentioned is looked up by the members of the units before.
use Rattle.std.specs.Prelude.{ℕ, zero, suc, ◌&&◌, ◌||◌, nat_eq, Bool, false, List, [], ◌∷◌, take, slice_get, Option, Some, None}
use Rattle.std.specs.List.{filter, list_any, range_with_len}
use Rattle.lk_tree.specs.Tree.{Name}
use Rattle.lk_tree.specs.Mentions.{mentions}
use Rattle.lk_rulebook.specs.Units.{LibraryUnit, Library, Members, members_of, Trees, trees_of, Found, first_giving}
use Rattle.lk_reach.specs.Axioms.{is_axiom}

-- one of the trees mentions the name
abbrev pub trees_mention : Name → Trees → Bool
trees_mention c es = list_any (λ e. mentions (c ∷ []) e.1) es

abbrev pub is_found_in : ℕ → Option Found → Bool
is_found_in m None = false
is_found_in m (Some f) = nat_eq f.unit m

-- the trees mention one of these members' names, and before n unit m is the first to give it
abbrev pub mention_member : Library → ℕ → ℕ → Trees → Members → Bool
mention_member us n m es ms = list_any (λ x. trees_mention x.0 es && is_found_in m (first_giving 0 (take n us) x.0)) ms

abbrev pub mention_unit : Library → ℕ → ℕ → Option LibraryUnit → Option LibraryUnit → Bool
mention_unit us n m (Some u) (Some v) = mention_member us n m (trees_of u) (members_of v)
mention_unit us n m _ _ = false

-- unit n mentions unit m
abbrev pub unit_mentions : Library → ℕ → ℕ → Bool
unit_mentions us n m = mention_unit us n m (slice_get us n) (slice_get us m)

-- unit n reaches unit k in at most so many steps
abbrev pub reaches_within : ℕ → Library → ℕ → ℕ → Bool
reaches_within zero us n k = nat_eq n k
reaches_within (suc s) us n k = nat_eq n k || list_any (λ m. unit_mentions us n m && reaches_within s us m k) (range_with_len 0 n)

abbrev pub axiom_at : Option LibraryUnit → Bool
axiom_at (Some u) = is_axiom u
axiom_at None = false

-- unit k is an axiom that unit n reaches: no more steps than units before n are needed
abbrev pub has_axiom : Library → ℕ → ℕ → Bool
has_axiom us n k = axiom_at (slice_get us k) && reaches_within n us n k

-- the axioms of unit n, in the order of the units
unfoldable pub axioms_of : Library → ℕ → List ℕ
axioms_of us n = filter (has_axiom us n) (range_with_len 0 (suc n))
