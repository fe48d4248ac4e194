-- A def that answers yes to the laws of the operation that it is named as has them.
use Rattle.std.proofs.Common.{ℕ, ◌≡◌, true, nat_eq, length, List, [], ◌∷◌, Option, Some, None, refl, subst, arith}
use Rattle.lk_tree.specs.Tree.{Name, name_discrete, part_discrete, Tree, local}
use Rattle.lk_tree.specs.Decide.{list_discrete, both_discrete}
use Rattle.lk_tree.specs.Bind.{bound}
use Rattle.lk_tree.specs.Operations.{Op, succ, log2, add, sub, mul, div, modulo, gcd, beq, ble, land, lor, xor, shift_left, shift_right, pow}
use Rattle.lk_tree.specs.WellFormed.{IsWellFormed}
use Rattle.lk_tree.specs.declared.rule.Rule.TheVariants.{NatLaw}
use Rattle.lk_rulebook.specs.Place.{Place, Entry, Hint, a_def}
use Rattle.lk_rulebook.specs.Names.{named, nat, op_name}
use Rattle.lk_rulebook.specs.NumberLaws.{Law, laws_of, has_laws, stated_by}
use Rattle.lk_rulebook.specs.Shapes.{HasNat}
use Rattle.lk_rulebook.specs.Literals.{by_def, CanBeStated}
use Rattle.lk_rulebook.specs.Rules.{MeetsLaws, meets, AllHold, no_more_laws, holds}
use Rattle.lk_rulebook.specs.Units.{Decl}
use Rattle.lk_rulebook.specs.Derived.{IsLawful}
use Rattle.lk_questions.specs.Program.{done}
use Rattle.lk_questions.specs.Sound.{IsSound}
use Rattle.lk_questions.proofs.Soundness.{sound_bind, sound_map}
use Rattle.lk_questions.specs.Shapes.{nat_shape}
use Rattle.lk_questions.specs.NumberLaws.{lawful_op, def_given, held_given, laws_hold, law_steps}
use Rattle.lk_claims.proofs.Pieces.{sound_given, of_yes, equal_numbers, no_item, Some_inj}
use Rattle.lk_claims.proofs.Shaped.{sound_nat_shape}
use native.Mathlib.Decide.{ℕ_discrete}

-- both sides of each law are closed and well scoped
abbrev pub AllFine : List Law → Type 0
AllFine [] = Unit {0}
AllFine (law ∷ laws) = (IsWellFormed law.left × IsWellFormed law.right) × AllFine laws

number_fine : (k : ℕ) → IsWellFormed (local k (named nat))
unfolding bound
number_fine k = (tt, omega arith)

pub laws_fine : (op : Op) (v : Tree) → IsWellFormed v → AllFine (laws_of op v)
laws_fine add v f =
    let x = number_fine 0 in
    let y = number_fine 1 in
    ((((f, x), tt), x), ((((f, x), (tt, y)), (tt, ((f, x), y))), tt))
laws_fine sub v f =
    let x = number_fine 0 in
    let y = number_fine 1 in
    (((tt, tt), tt), (((tt, (tt, x)), x), ((((f, x), tt), x), ((((f, x), (tt, y)), (tt, ((f, x), y))), tt))))
laws_fine mul v f =
    let x = number_fine 0 in
    let y = number_fine 1 in
    ((((f, x), tt), tt), ((((f, x), (tt, y)), ((tt, ((f, x), y)), x)), tt))
laws_fine pow v f =
    let x = number_fine 0 in
    let y = number_fine 1 in
    ((((f, x), tt), (tt, tt)), ((((f, x), (tt, y)), ((tt, ((f, x), y)), x)), tt))
laws_fine beq v f =
    let x = number_fine 0 in
    let y = number_fine 1 in
    ((((f, tt), tt), tt), ((((f, tt), (tt, y)), tt), ((((f, (tt, x)), tt), tt), ((((f, (tt, x)), (tt, y)), ((f, x), y)), tt))))
laws_fine ble v f =
    let x = number_fine 0 in
    let y = number_fine 1 in
    ((((f, tt), tt), tt), ((((f, tt), (tt, y)), tt), ((((f, (tt, x)), tt), tt), ((((f, (tt, x)), (tt, y)), ((f, x), y)), tt))))
laws_fine _ v f = tt

sound_held : (w : Place) (o : Option Name) → IsSound w (held_given o) (λ u. Unit {0})
sound_held w None = tt
sound_held w (Some c) = λ g m. tt

sound_laws_hold : (w : Place) (laws : List Law) → AllFine laws → IsSound w (laws_hold laws) (λ u. AllHold w laws)
sound_laws_hold w [] f = no_more_laws
sound_laws_hold w (law ∷ laws) f =
    sound_bind w (held_given law.holds) _ (λ u. Unit {0}) (λ u. AllHold w (law ∷ laws)) (sound_held w law.holds)
    (λ u h. (
      f.0,
      λ equal mE. sound_given w equal NatLaw (laws_hold laws) (λ u. AllHold w (law ∷ laws))
          (λ t. sound_map w (laws_hold laws) (λ u. AllHold w laws) (λ u. AllHold w (law ∷ laws)) (λ u rest. holds (of_yes equal t mE) rest) (sound_laws_hold w laws f.1)),
    ))

pub sound_def_given : (w : Place) (o : Option Op) → IsSound w (def_given o) (λ u. CanBeStated w o)
sound_def_given w None = tt
sound_def_given w (Some op) = λ g m. sound_given w (by_def g.kind) NatLaw (done tt) (λ u. CanBeStated w (Some op)) (λ k. record { entry = g; given = m; kind = k })

-- what a def of this entry has, where it is this operation
abbrev pub HasLaws : Place → Entry → Option Op → Type 0
HasLaws w g o = (op : Op) → o ≡ Some op → HasNat w × MeetsLaws w op g

pub sound_law_steps : (w : Place) (ps : List Name) (type : Tree) (h : Hint) (value : Tree) → IsWellFormed value → (o : Option Op) →
    IsSound w (law_steps o ps value) (λ u. HasLaws w (record { levels = ps; type = type; kind = a_def h value }) o)
sound_law_steps w ps type h value f None = λ op e. absurd cc
sound_law_steps w ps type h value f (Some op) =
    let g : Entry = record { levels = ps; type = type; kind = a_def h value } in
    sound_bind w nat_shape _ (λ u. HasNat w) (λ u. HasLaws w g (Some op)) (sound_nat_shape w)
    (λ u shape. sound_given w (nat_eq (length ps) 0) NatLaw _ (λ u. HasLaws w g (Some op))
    (λ none. sound_bind w (def_given (stated_by op)) _ (λ u. CanBeStated w (stated_by op)) (λ u. HasLaws w g (Some op)) (sound_def_given w (stated_by op))
    (λ y stated. sound_map w (laws_hold (laws_of op value)) (λ u. AllHold w (laws_of op value)) (λ u. HasLaws w g (Some op))
    (λ v all p e. (shape, subst (λ q. MeetsLaws w q g) (Some_inj e) (meets (λ t. no_item ps (equal_numbers (length ps) 0 none)) stated all)))
    (sound_laws_hold w (laws_of op value) (laws_fine op value f)))))

-- the operation is found by its name
lawful_named : (op : Op) → has_laws op ≡ true → lawful_op (op_name op) ≡ Some op
unfolding name_discrete part_discrete list_discrete both_discrete ℕ_discrete
lawful_named add h = refl
lawful_named sub h = refl
lawful_named mul h = refl
lawful_named pow h = refl
lawful_named beq h = refl
lawful_named ble h = refl
lawful_named succ h = absurd cc
lawful_named log2 h = absurd cc
lawful_named div h = absurd cc
lawful_named modulo h = absurd cc
lawful_named gcd h = absurd cc
lawful_named land h = absurd cc
lawful_named lor h = absurd cc
lawful_named xor h = absurd cc
lawful_named shift_left h = absurd cc
lawful_named shift_right h = absurd cc

pub lawful_of : (w : Place) (d : Decl) (h : Hint) (value : Tree) → HasLaws w (record { levels = d.levels; type = d.type; kind = a_def h value }) (lawful_op d.name) → IsLawful w d h value
lawful_of w d h value all = λ op e has. all op (subst (λ c. lawful_op c ≡ Some op) e (lawful_named op has))
