-- A literal that is read as a constructor stays closed and well scoped, and brings no Local.
use Rattle.std.proofs.Common.{ℕ, ◌≡◌, inl, inr, Bool, true, false, ◌&&◌, List, [], ◌∷◌, Option, refl, arith}
use Rattle.std.specs.Str.{is_utf8, chars, all_scalars}
use lib.Utf8.{scalar, scalar_fits}
use Rattle.lk_tree.specs.Tree.{Tree, str}
use Rattle.lk_tree.specs.Bind.{bound}
use Rattle.lk_tree.specs.WellFormed.{IsWellFormed, LocalsWithin}
use Rattle.lk_tree.specs.Operations.{Value}
use Rattle.lk_tree.proofs.Within.{within_refl, no_local}
use Rattle.lk_rulebook.specs.Place.{Place}
use Rattle.lk_rulebook.specs.Literals.{IsResult, a_number, a_truth, char_list, expansion, Expands, ReadsText, as_it_is, as_text, Reads, by_text, as_zero, as_succ}

both : (a b : Bool) → (a && b) ≡ true → (a ≡ true) × (b ≡ true)
both true true h = (refl, refl)
both true false h = absurd cc
both false b h = absurd cc

list_fine : (cs : List ℕ) → all_scalars cs ≡ true → IsWellFormed (char_list cs)
list_fine [] h = (tt, tt)
list_fine (c ∷ cs) h =
    let i : (scalar c ≡ true) × (all_scalars cs ≡ true) = both (scalar c) (all_scalars cs) h in
    (((tt, tt), (tt, omega (arith, scalar_fits c i.0))), list_fine cs i.1)

pub expansion_fine : {w : Place} {s : List ℕ} → Expands w s → IsWellFormed (expansion (chars s))
unfolding is_utf8
expansion_fine {s = s} x = (tt, list_fine (chars s) (both (all_scalars (chars s)) _ x.is_text).0)

pub text_fine : {w : Place} {m m' : Tree} → ReadsText w m m' → IsWellFormed m → IsWellFormed m'
text_fine as_it_is f = f
text_fine (as_text x) f = expansion_fine x

pub read_fine : {w : Place} {m m' : Tree} → Reads w m m' → IsWellFormed m → IsWellFormed m'
read_fine (by_text r) f = text_fine r f
read_fine as_zero f = tt
read_fine as_succ f = (tt, omega arith)

no_local_in_list : (cs : List ℕ) → bound (char_list cs) ≡ 0
unfolding bound
no_local_in_list [] = refl
no_local_in_list (c ∷ cs) = omega (arith, no_local_in_list cs)

pub text_within : {w : Place} {m m' : Tree} → ReadsText w m m' → LocalsWithin m m'
text_within {m = m} as_it_is = within_refl m
text_within (as_text {s = s} x) = λ k T. elim [ inl a ↦ absurd a | inr b ↦ no_local (str s) (char_list (chars s)) (no_local_in_list (chars s)) k T b ]

pub read_within : {w : Place} {m m' : Tree} → Reads w m m' → LocalsWithin m m'
read_within (by_text r) = text_within r
read_within as_zero = λ k T h. absurd h
read_within as_succ = λ k T. elim [ inl a ↦ absurd a | inr b ↦ absurd b ]

pub result_fine : {w : Place} {o : Option Value} {r : Tree} → IsResult w o r → IsWellFormed r
result_fine (a_number h) = h
result_fine (a_truth h) = tt

pub result_within : {w : Place} {o : Option Value} {r : Tree} (e : Tree) → IsResult w o r → LocalsWithin e r
result_within e (a_number h) = λ k T m. absurd m
result_within e (a_truth h) = λ k T m. absurd m
