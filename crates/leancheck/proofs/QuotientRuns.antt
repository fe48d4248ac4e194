-- The program of a quotient unit, by what it states.
use Rattle.std.proofs.Common.{◌≡◌, List, ap, ◌∙◌}
use Rattle.lk_tree.specs.Tree.{Name, Tree}
use Rattle.lk_rulebook.specs.Units.{Decl, as_quot}
use Rattle.lk_questions.specs.Program.{Program, ◌>>=◌}
use Rattle.lk_questions.specs.QuotientUnits.{quot_steps}
use Rattle.lk_questions.specs.Declarations.{Yes, body_steps, unit_steps}
use Rattle.lk_declaration.specs.Asked.{axiom_steps}

-- what a quotient unit asks: behind its shape, what an axiom of its type asks
pub quotient_is : (d : Decl) (x : Name) (us : List Name) (T : Tree) → d.name ≡ x → d.levels ≡ us
    → d.type ≡ T → d.body ≡ as_quot
    → unit_steps d ≡ (quot_steps x us T >>= λ u. axiom_steps d.type)
quotient_is d x us T name levels type body =
    let rest : Unit {0} → Program Yes = λ u. axiom_steps d.type in
    ap (body_steps d) body ∙ ap (λ y. quot_steps y d.levels d.type >>= rest) name
    ∙ ap (λ y. quot_steps x y d.type >>= rest) levels ∙ ap (λ y. quot_steps x us y >>= rest) type
