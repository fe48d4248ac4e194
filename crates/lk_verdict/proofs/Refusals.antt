-- The known attacks are no good units.
use Rattle.std.proofs.Common.{ℕ, ◌≡◌, inl, List, [], ◌∷◌, Some, refl, arith}
use Rattle.std.specs.Prelude.{slice_get}
use Rattle.lk_tree.specs.Tree.{number, name_discrete, part_discrete}
use Rattle.lk_tree.specs.Decide.{list_discrete, both_discrete}
use Rattle.lk_tree.specs.Bind.{bound}
use native.Mathlib.Decide.{ℕ_discrete}
use Rattle.lk_rulebook.specs.Place.{BlockType, BlockRecursor}
use Rattle.lk_rulebook.specs.Units.{LibraryUnit, of_block, Library}
use Rattle.lk_rulebook.specs.Scan.{IsScanned}
use Rattle.lk_verdict.specs.GoodUnit.{IsGoodUnit, IsClearUnit}
use Rattle.lk_verdict.specs.Attacks.{t_block, shadowed, doubled, undeclared, of_local, hidden}

unit_is : {a b : LibraryUnit} → Some a ≡ Some b → a ≡ b
unit_is e = cc

scanned_at : (us : Library) (n : ℕ) (u : LibraryUnit) → slice_get us n ≡ Some u → IsGoodUnit us n → IsScanned us n u
scanned_at us n u at g = let q : Some g.unit ≡ Some u = cc (g.given, at) in let r : g.unit ≡ u = unit_is q in rw r at g.scanned

pub no_shadowed : IsGoodUnit shadowed 1 → ⊥
unfolding name_discrete part_discrete list_discrete both_discrete ℕ_discrete
no_shadowed g = let s : IsScanned shadowed 1 (of_block t_block []) = scanned_at shadowed 1 (of_block t_block []) refl g in let n : _ = s.names.0 in absurd cc

pub no_doubled : (us : Library) (n : ℕ) → slice_get us n ≡ Some doubled → IsGoodUnit us n → ⊥
unfolding name_discrete part_discrete list_discrete both_discrete ℕ_discrete
no_doubled us n at g = let s : IsScanned us n doubled = scanned_at us n doubled at g in let e : _ = s.names.1 in absurd cc

pub no_undeclared : (us : Library) (n : ℕ) → slice_get us n ≡ Some undeclared → IsGoodUnit us n → ⊥
no_undeclared us n at g = let s : IsScanned us n undeclared = scanned_at us n undeclared at g in s.trees.0.1

pub no_local : (us : Library) (n : ℕ) → slice_get us n ≡ Some of_local → IsGoodUnit us n → ⊥
unfolding bound
no_local us n at g = let s : IsScanned us n of_local = scanned_at us n of_local at g in let e : _ = s.trees.1.0.0.1 in absurd (omega (arith, e))

pub no_hidden : (us : Library) (n : ℕ) (ts : List BlockType) (rs : List BlockRecursor) → slice_get us n ≡ Some (hidden ts rs) → IsGoodUnit us n → ⊥
no_hidden us n ts rs at g =
    let q : Some g.unit ≡ Some (hidden ts rs) = cc (g.given, at) in
    let r : g.unit ≡ hidden ts rs = unit_is q in
    let c : IsClearUnit (hidden ts rs) = rw r at g.clear in
    c.names.0 (number 0 ∷ [], inl refl)
