-- The budgets of units that are kept: each goes by the name of a member, which can be stated.
use Rattle.std.specs.Prelude.{ℕ, ◌≡◌, ◌<◌, ◌^◌, Bool, true, false, nat_eq, List, [], ◌∷◌, ◌++◌, map}
use Rattle.std.specs.Prelude.{All, Option, Some, None, slice_get, if◌then◌else◌}
use Rattle.std.proofs.Common.{refl, arith}
use Rattle.std.proofs.lemmas.List.{map-append}
use Rattle.std.proofs.lemmas.List.Elements.{All-nil, All-cons, All-head, All-tail, All-same}
use Rattle.std.proofs.lemmas.List.Elements.{All-append}
use Rattle.lk_tree.specs.Tree.{Name}
use Rattle.lk_rulebook.specs.Place.{Ctor, BlockType, Block, BlockRecursor, Entry}
use Rattle.lk_rulebook.specs.Units.{Members, type_entries, ctor_entries, all_ctor_entries}
use Rattle.lk_rulebook.specs.Units.{rec_members, members_of, LibraryUnit, of_decl, of_block}
use Rattle.lk_rulebook.specs.Units.{Library}
use Rattle.lk_env.specs.Budgets.{StatedBudget, lesser, steps_of, first_unit, stated_of, own_budget}
use Rattle.lk_trim.specs.Whole.{is_unit, own_name, budget_by, member_names, kept_if_any, kept_of}
use Rattle.lk_readback.specs.Statable.{IsName, IsType, IsCtor, IsRecursor, IsUnit, IsBudget}
use Rattle.lk_readback.specs.Stated.{if_stated, kept_budgets}
use Rattle.lk_readback.proofs.KeptUnits.{all_at}

-- the least number stated is one of those stated
abbrev IsBelow : Option ℕ → Type 0
IsBelow None = Unit {0}
IsBelow (Some n) = n < 2 ^ 64

lesser_below : (o p : Option ℕ) → IsBelow o → IsBelow p → IsBelow (lesser o p)
lesser_below None p h k = k
lesser_below (Some m) None h k = h
lesser_below (Some m) (Some n) h k = omega arith

own_below : (us : Library) (bs : List StatedBudget) (n : ℕ) → All IsBudget bs
    → IsBelow (own_budget us bs n)
own_below us [] n all = tt
own_below us (b ∷ bs) n all =
    lesser_below (stated_of us n b) (own_budget us bs n)
    (of_unit (first_unit us b.name) (All-head IsBudget b bs all).steps)
    (own_below us bs n (All-tail IsBudget b bs all))
  where
    by_test : (t : Bool) → b.steps < 2 ^ 64 → IsBelow (if t then Some b.steps else None)
    by_test true h = h
    by_test false h = tt

    of_unit : (o : Option ℕ) → b.steps < 2 ^ 64 → IsBelow (steps_of n b.steps o)
    of_unit None h = tt
    of_unit (Some u) h = by_test (nat_eq u n) h

-- members have names that can be stated
abbrev AreNamed : Members → Type 0
AreNamed ms = All IsName (map (λ (m : Name × Entry). m.0) ms)

named_append : (ms more : Members) → AreNamed ms → AreNamed more → AreNamed (ms ++ more)
named_append ms more h k =
    All-same IsName (map (λ (m : Name × Entry). m.0) (ms ++ more))
    (map (λ (m : Name × Entry). m.0) ms ++ map (λ (m : Name × Entry). m.0) more)
    (map-append (λ (m : Name × Entry). m.0) ms more)
    (All-append IsName (map (λ (m : Name × Entry). m.0) ms)
    (map (λ (m : Name × Entry). m.0) more) h k)

types_named : (b : Block) (ts : List BlockType) → All IsType ts → AreNamed (type_entries b ts)
types_named b [] all = All-nil IsName
types_named b (t ∷ ts) all =
    All-cons IsName t.name (map (λ (m : Name × Entry). m.0) (type_entries b ts))
    (All-head IsType t ts all).name (types_named b ts (All-tail IsType t ts all))

ctors_named : (b : Block) (t : BlockType) (p : Name) (cs : List Ctor) → All (IsCtor p) cs
    → AreNamed (ctor_entries b t cs)
ctors_named b t p [] all = All-nil IsName
ctors_named b t p (c ∷ cs) all =
    All-cons IsName c.name (map (λ (m : Name × Entry). m.0) (ctor_entries b t cs))
    (All-head (IsCtor p) c cs all).name (ctors_named b t p cs (All-tail (IsCtor p) c cs all))

all_ctors_named : (b : Block) (ts : List BlockType) → All IsType ts
    → AreNamed (all_ctor_entries b ts)
all_ctors_named b [] all = All-nil IsName
all_ctors_named b (t ∷ ts) all =
    named_append (ctor_entries b t t.ctors) (all_ctor_entries b ts)
    (ctors_named b t t.name t.ctors (All-head IsType t ts all).ctors)
    (all_ctors_named b ts (All-tail IsType t ts all))

recursors_named : (rs : List BlockRecursor) → All IsRecursor rs → AreNamed (rec_members rs)
recursors_named [] all = All-nil IsName
recursors_named (r ∷ rs) all =
    All-cons IsName r.name (map (λ (m : Name × Entry). m.0) (rec_members rs))
    (All-head IsRecursor r rs all).name (recursors_named rs (All-tail IsRecursor r rs all))

unit_named : (u : LibraryUnit) → IsUnit u → AreNamed (members_of u)
unit_named (of_decl d) h = All-cons IsName d.name [] h.name (All-nil IsName)
unit_named (of_block b rs) h =
    named_append (type_entries b b.types) (all_ctor_entries b b.types ++ rec_members rs)
    (types_named b b.types h.types)
    (named_append (all_ctor_entries b b.types) (rec_members rs)
    (all_ctors_named b b.types h.types) (recursors_named rs h.recursors))

-- what is found is one of the names
abbrev IsFound : Option Name → Type 0
IsFound None = Unit {0}
IsFound (Some x) = IsName x

own_name_found : (us : Library) (n : ℕ) (xs : List Name) → All IsName xs
    → IsFound (own_name us n xs)
own_name_found us n [] all = tt
own_name_found us n (x ∷ xs) all =
    go (is_unit n (first_unit us x)) (All-head IsName x xs all)
    (own_name_found us n xs (All-tail IsName x xs all))
  where
    go : (t : Bool) → IsName x → IsFound (own_name us n xs)
        → IsFound (if t then Some x else own_name us n xs)
    go true h more = h
    go false h more = more

budget_is : (o : Option ℕ) (x : Option Name) → IsBelow o → IsFound x
    → All IsBudget (if_stated (budget_by o x))
budget_is None x h k = All-nil IsBudget
budget_is (Some n) None h k = All-nil IsBudget
budget_is (Some n) (Some x) h k =
    All-cons IsBudget (record { name = x; steps = n }) [] (record { name = k; steps = h })
    (All-nil IsBudget)

pub budgets_kept : (us : Library) (bs : List StatedBudget) (ns : List ℕ) → All IsUnit us
    → All IsBudget bs → All IsBudget (kept_budgets (kept_of us bs ns))
budgets_kept us bs [] units budgets = All-nil IsBudget
budgets_kept us bs (n ∷ ns) units budgets =
    go (slice_get us n) (λ u at. all_at IsUnit us n u units at)
    (budgets_kept us bs ns units budgets)
  where
    go : (o : Option LibraryUnit) → ((u : LibraryUnit) → o ≡ Some u → IsUnit u)
        → All IsBudget (kept_budgets (kept_of us bs ns))
        → All IsBudget (kept_budgets (kept_if_any us bs n o ++ kept_of us bs ns))
    go None unit more = more
    go (Some u) unit more =
        All-append IsBudget
        (if_stated (budget_by (own_budget us bs n) (own_name us n (member_names u))))
        (kept_budgets (kept_of us bs ns))
        (budget_is (own_budget us bs n) (own_name us n (member_names u))
        (own_below us bs n budgets)
        (own_name_found us n (member_names u) (unit_named u (unit u refl))))
        more
