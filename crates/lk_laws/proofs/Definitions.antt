-- The program of a definition, by what it states.
use Rattle.std.proofs.Common.{◌≡◌, ℕ, List, Ok, Err, Result, refl, ap, ◌∙◌}
use Rattle.lk_tree.specs.Tree.{Name, Tree}
use Rattle.lk_rulebook.specs.Place.{Hint}
use Rattle.lk_rulebook.specs.Units.{Decl, as_def}
use Rattle.lk_questions.specs.Program.{Program, done, ◌>>=◌}
use Rattle.lk_questions.specs.Declarations.{checked, body_steps, unit_steps}
use Rattle.lk_questions.specs.NumberLaws.{lawful_op}
use Rattle.lk_ask.specs.declared.stop.Stop.{Stop}
use Rattle.lk_ask.specs.Asking.{Standing}
use Rattle.lk_declaration.specs.Courses.{ComesTo}
use Rattle.lk_declaration.proofs.Running.{goes_on, goes_done, halts_first}
use Rattle.lk_laws.specs.Steps.{definition_steps}

pub definition_is : (d : Decl) (h : Hint) (x : Name) (ps : List Name) (T V : Tree) → d.name ≡ x
    → d.levels ≡ ps → d.type ≡ T → d.body ≡ as_def h V
    → unit_steps d ≡ definition_steps (lawful_op x) ps T V
definition_is d h x ps T V name levels type body =
    ap (body_steps d) body ∙ ap (λ y. definition_steps (lawful_op y) d.levels d.type V) name
    ∙ ap (λ y. definition_steps (lawful_op x) y d.type V) levels
    ∙ ap (λ y. definition_steps (lawful_op x) ps y V) type

-- what the laws come to is what the definition comes to
pub laws_checked : {Base : Type 0} (s : Standing Base) (p : Program (Unit {0})) (b left : ℕ)
    (r : Result (Unit {0}) Stop) → ComesTo s p b (λ (u : Unit {0}). u) left r
    → ComesTo s (p >>= λ u. done checked) b (λ (u : Unit {0}). checked) left r
laws_checked s p b left (Ok u) h =
    goes_on s s refl p (λ u. done checked) b left left u checked h
    (goes_done s checked checked left refl)
laws_checked s p b left (Err stop) h = halts_first s p (λ u. done checked) b stop h
