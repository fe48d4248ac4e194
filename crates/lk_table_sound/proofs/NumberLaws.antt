-- What is asked of a def that is named as an operation with laws holds, where it is answered yes.
use Rattle.std.proofs.Common.{◌≡◌, Bool, true, false, nat_eq, length, List, [], ◌∷◌, Option, Some, None, refl}
use Rattle.lk_tree.specs.Tree.{Name, Tree}
use Rattle.lk_tree.specs.Operations.{Op}
use Rattle.lk_tree.specs.WellFormed.{IsWellFormed}
use Rattle.lk_tree.specs.declared.rule.Rule.TheVariants.{NatLaw}
use Rattle.lk_rulebook.specs.Place.{Place}
use Rattle.lk_rulebook.specs.Names.{op_name}
use Rattle.lk_rulebook.specs.NumberLaws.{Law, laws_of, stated_by}
use Rattle.lk_rulebook.specs.Literals.{by_def}
use Rattle.lk_questions.specs.Program.{done}
use Rattle.lk_questions.specs.Steps.{given}
use Rattle.lk_questions.specs.Shapes.{nat_shape}
use Rattle.lk_questions.specs.NumberLaws.{def_given, held_given, laws_hold, law_steps}
use Rattle.lk_claims.proofs.Pieces.{of_yes}
use Rattle.lk_claims.proofs.NumberLaws.{AllFine, laws_fine}
use Rattle.lk_questions.specs.Tests.{found}
use Rattle.lk_claims.proofs.Facts.{some_on}
use Rattle.lk_table_sound.proofs.Book.{Book, IsDefEq, HasNat, IsSound}
use Rattle.lk_table_sound.proofs.Soundness.{sound_bind, sound_map}
use Rattle.lk_table_sound.proofs.Pieces.{sound_given}
use Rattle.lk_table_sound.proofs.Shaped.{sound_nat_shape}

-- both sides of each law are equal, and the name that a law holds is given
abbrev pub EachMet : Book → List Law → Type 0
EachMet w [] = Unit {0}
EachMet w (law ∷ laws) = ((found w.place (held_given law.holds) ≡ Some tt) × IsDefEq w law.left law.right) × EachMet w laws

-- the laws of the operation are met by a def with these level parameters and this value, where there is one
abbrev pub AreMet : Book → Option Op → List Name → Tree → Type 0
AreMet w None ps value = Unit {0}
AreMet w (Some op) ps value = (found w.place nat_shape ≡ Some tt) × (nat_eq (length ps) 0 ≡ true) × (found w.place (def_given (stated_by op)) ≡ Some tt) × EachMet w (laws_of op value)

sound_held : (w : Book) (o : Option Name) → IsSound w (held_given o) (λ u. found w.place (held_given o) ≡ Some tt)
sound_held w None = refl
sound_held w (Some c) = λ g m. rw m refl

found_given : (w : Place) (b : Bool) → b ≡ true → found {A = Unit {0}} w (given b NatLaw (done tt)) ≡ Some tt
found_given w true e = refl
found_given w false e = absurd cc

sound_def_given : (w : Book) (o : Option Op) → IsSound w (def_given o) (λ u. found w.place (def_given o) ≡ Some tt)
sound_def_given w None = refl
sound_def_given w (Some op) = λ g m. sound_given w (by_def g.kind) NatLaw (done tt) (λ u. found w.place (def_given (Some op)) ≡ Some tt) (λ k. some_on (w.place.means (op_name op)) g _ tt m (found_given w.place (by_def g.kind) k))

sound_laws_hold : (w : Book) (laws : List Law) → AllFine laws → IsSound w (laws_hold laws) (λ u. EachMet w laws)
sound_laws_hold w [] f = tt
sound_laws_hold w (law ∷ laws) f =
    sound_bind w (held_given law.holds) _ (λ u. found w.place (held_given law.holds) ≡ Some tt) (λ u. EachMet w (law ∷ laws)) (sound_held w law.holds)
    (λ u h. (
      f.0,
      λ equal mE. sound_given w equal NatLaw (laws_hold laws) (λ u. EachMet w (law ∷ laws))
          (λ t. sound_map w (laws_hold laws) (λ u. EachMet w laws) (λ u. EachMet w (law ∷ laws)) (λ u rest. ((h, of_yes equal t mE), rest)) (sound_laws_hold w laws f.1)),
    ))

pub sound_law_steps : (w : Book) (ps : List Name) (value : Tree) → IsWellFormed value → (o : Option Op) → IsSound w (law_steps o ps value) (λ u. AreMet w o ps value)
sound_law_steps w ps value f None = tt
sound_law_steps w ps value f (Some op) =
    sound_bind w nat_shape _ (λ u. HasNat w) (λ u. AreMet w (Some op) ps value) (sound_nat_shape w)
    (λ u shape. sound_given w (nat_eq (length ps) 0) NatLaw _ (λ u. AreMet w (Some op) ps value)
    (λ none. sound_bind w (def_given (stated_by op)) _ (λ u. found w.place (def_given (stated_by op)) ≡ Some tt) (λ u. AreMet w (Some op) ps value) (sound_def_given w (stated_by op))
    (λ y stated. sound_map w (laws_hold (laws_of op value)) (λ u. EachMet w (laws_of op value)) (λ u. AreMet w (Some op) ps value)
    (λ v all. (shape.tested, none, stated, all)) (sound_laws_hold w (laws_of op value) (laws_fine op value f)))))
