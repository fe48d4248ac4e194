-- A name that laws rest on, which was found.
use Rattle.std.proofs.Common.{◌≡◌, ℕ, Bool, Option, ap, ◌∙◌}
use Rattle.lk_tree.specs.Tree.{Name}
use Rattle.lk_tree.specs.declared.rule.Rule.TheVariants.{NoBuiltin, NatLaw}
use Rattle.lk_rulebook.specs.Place.{Place, Entry as PlainEntry}
use Rattle.lk_rulebook.specs.Literals.{by_def}
use Rattle.lk_questions.specs.Program.{Program, done}
use Rattle.lk_questions.specs.Settled.{settle}
use Rattle.lk_questions.specs.Steps.{given}
use Rattle.lk_env.specs.declared.entry.Entry.{Entry}
use Rattle.lk_env.specs.StoredLibrary.{StoredLibrary}
use Rattle.lk_ask.specs.Constants.{IsFound}
use Rattle.lk_ask.proofs.Looking.{found_settles}
use Rattle.lk_laws.specs.Needs.{def_named}

-- whether a def gives it is tested
pub def_tested : (w : Place) (x : Name) (l : StoredLibrary) (before last : Option ℕ)
    (entry : Entry) (h : IsFound l w x before entry last) (b : Bool) → by_def h.entry.kind ≡ b
    → settle w before (def_named x) ≡ settle w last (given b NatLaw (done tt))
def_tested w x l before last entry h b is =
    let if_so : Bool → Program (Unit {0}) = λ t. given t NatLaw (done tt) in
    found_settles w x NoBuiltin (λ (g : PlainEntry). if_so (by_def g.kind)) l before last entry h
    ∙ ap (λ t. settle w last (if_so t)) is
