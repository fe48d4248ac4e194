-- The program of a unit, by what it states.
use Rattle.std.proofs.Common.{◌≡◌, ap, ◌∙◌}
use Rattle.lk_tree.specs.Tree.{Tree}
use Rattle.lk_rulebook.specs.Units.{Decl, as_axiom, as_thm, as_opaque}
use Rattle.lk_questions.specs.Declarations.{body_steps, unit_steps}
use Rattle.lk_declaration.specs.Asked.{axiom_steps, typed_steps, theorem_steps}

pub axiom_is : (d : Decl) (T : Tree) → d.type ≡ T → d.body ≡ as_axiom → unit_steps d ≡ axiom_steps T
axiom_is d T type body = ap (body_steps d) body ∙ ap axiom_steps type

pub opaque_is : (d : Decl) (T V : Tree) → d.type ≡ T → d.body ≡ as_opaque V → unit_steps d ≡ typed_steps T V
opaque_is d T V type body = ap (body_steps d) body ∙ ap (λ U. typed_steps U V) type

pub theorem_is : (d : Decl) (T V : Tree) → d.type ≡ T → d.body ≡ as_thm V → unit_steps d ≡ theorem_steps T V
theorem_is d T V type body = ap (body_steps d) body ∙ ap (λ U. theorem_steps U V) type
