-- The places of the recursors of a list.
use Rattle.std.proofs.Common.{◌≡◌, ◌<◌, ℕ, zero, suc, true, List, [], ◌∷◌, length, get_or, refl, ap, subst, arith}
use Rattle.std.specs.Prelude.{Vec, Some, slice_get, nat_eq}
use Rattle.std.specs.declared.alloc.Global.{Global}
use Rattle.lk_members.specs.Lines.{same_list}
use Rattle.lk_members.specs.Indices.{group_of}
use Rattle.lk_members.proofs.Equal.{list_itself, lists_differ}

-- each list stands there once
abbrev pub StandApart : List (List ℕ) → Type 0
StandApart ls = (j k : ℕ) (us : List ℕ) → slice_get ls j ≡ Some us → slice_get ls k ≡ Some us → j ≡ k

tail_apart : (l : List ℕ) (ls : List (List ℕ)) → StandApart (l ∷ ls) → StandApart ls
tail_apart l ls apart j k us a b = let e = apart (suc j) (suc k) us a b in omega arith

pub group_at : (ls : List (List ℕ)) (gs : List (Vec ℕ Global)) (us : List ℕ) (k : ℕ) (g : Vec ℕ Global) → StandApart ls → length gs ≡ length ls → slice_get ls k ≡ Some us → slice_get gs k ≡ Some g → group_of ls gs us ≡ g.items
group_at [] gs us k g apart len at here = absurd (cc)
group_at (l ∷ ls) [] us k g apart len at here = absurd (cc)
group_at (l ∷ ls) (h ∷ gs) us zero g apart len at here =
    let is : l ≡ us = cc in
    let same : same_list nat_eq l us ≡ true = subst (λ x. same_list nat_eq l x ≡ true) is (list_itself l) in
    let group : h ≡ g = cc in
    rw same (ap (λ (v : Vec ℕ Global). v.items) group)
group_at (l ∷ ls) (h ∷ gs) us (suc k) g apart len at here =
    let no = lists_differ l us (λ (e : l ≡ us). let wrong = apart 0 (suc k) us (ap (λ x. Some x) e) at in absurd (omega arith)) in
    rw no (group_at ls gs us k g (tail_apart l ls apart) (omega arith) at here)

pub no_group : (ls : List (List ℕ)) (gs : List (Vec ℕ Global)) (us : List ℕ) → ((k : ℕ) (d : List ℕ) → k < length ls → get_or ls k d ≡ us → ⊥) → group_of ls gs us ≡ []
no_group [] gs us none = refl
no_group (l ∷ ls) [] us none = refl
no_group (l ∷ ls) (h ∷ gs) us none =
    let no = lists_differ l us (none 0 [] (omega arith)) in
    rw no (no_group ls gs us (λ k d lt. none (suc k) d (omega arith)))
