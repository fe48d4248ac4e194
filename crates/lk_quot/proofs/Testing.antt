-- A look-up of what a quotient unit rests on.
use Rattle.std.proofs.Common.{◌≡◌, ℕ, Bool, Option, sym, ap, ◌∙◌}
use Rattle.lk_tree.specs.Tree.{Name}
use Rattle.lk_tree.specs.declared.rule.Rule.TheVariants.{QuotShape}
use Rattle.lk_rulebook.specs.Place.{Place, Entry as PlainEntry}
use Rattle.lk_questions.specs.Program.{Program, done, look}
use Rattle.lk_questions.specs.Settled.{settle}
use Rattle.lk_questions.specs.Steps.{given}
use Rattle.lk_env.specs.declared.entry.Entry.{Entry}
use Rattle.lk_env.specs.StoredLibrary.{StoredLibrary}
use Rattle.lk_ask.specs.Constants.{IsFound}
use Rattle.lk_ask.proofs.Looking.{found_settles}

-- what is met where the test holds
abbrev pub if_so : Bool → Program (Unit {0})
if_so b = given b QuotShape (done tt)

-- a test of what a name means
pub tested : (w : Place) (x y : Name) (l : StoredLibrary) (before last : Option ℕ)
    (entry : Entry) (h : IsFound l w x before entry last) → x ≡ y → (test : PlainEntry → Bool)
    (b : Bool) → test h.entry ≡ b
    → settle w before (look QuotShape y λ g. if_so (test g)) ≡ settle w last (if_so b)
tested w x y l before last entry h same test b is =
    let k : PlainEntry → Program (Unit {0}) = λ g. if_so (test g) in
    ap (λ z. settle w before (look QuotShape z k)) (sym same)
    ∙ found_settles w x QuotShape k l before last entry h
    ∙ ap (λ t. settle w last (if_so t)) is
