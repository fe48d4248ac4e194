-- The questions of laws, part by part.
use Rattle.std.specs.Prelude.{ℕ, nat_eq, List, Option}
use Rattle.lk_tree.specs.Tree.{Name, Tree}
use Rattle.lk_tree.specs.Operations.{Op}
use Rattle.lk_tree.specs.declared.rule.Rule.TheVariants.{NatLaw}
use Rattle.lk_rulebook.specs.NumberLaws.{Law, laws_of, stated_by}
use Rattle.lk_questions.specs.Query.{same}
use Rattle.lk_questions.specs.Program.{Program, done, asked, ◌>>=◌}
use Rattle.lk_questions.specs.Steps.{given, sort_of}
use Rattle.lk_questions.specs.Shapes.{nat_shape}
use Rattle.lk_questions.specs.NumberLaws.{def_given, held_given, laws_hold, law_steps}
use Rattle.lk_questions.specs.Declarations.{Yes, checked, value_steps}

-- both sides are equal
abbrev pub sides_equal : Tree → Tree → Program (Unit {0})
sides_equal a b = asked (same a b) >>= λ equal. given equal NatLaw (done tt)

-- one law
abbrev pub law_holds : Law → Program (Unit {0})
law_holds law = held_given law.holds >>= λ u. sides_equal law.left law.right

-- what the laws are stated by, and the laws
abbrev pub stated_laws : Op → Tree → Program (Unit {0})
stated_laws op v = def_given (stated_by op) >>= λ u. laws_hold (laws_of op v)

-- of a def with so many level parameters
abbrev pub counted_laws : Op → ℕ → Tree → Program (Unit {0})
counted_laws op n v = given (nat_eq n 0) NatLaw (stated_laws op v)

abbrev pub op_laws : Op → ℕ → Tree → Program (Unit {0})
op_laws op n v = nat_shape >>= λ u. counted_laws op n v

-- the laws of a def with these level parameters, if there are any
abbrev pub lawful_steps : Option Op → List Name → Tree → Program Yes
lawful_steps o ps v = law_steps o ps v >>= λ u. done checked

-- the value is of the type, and then the laws
abbrev pub valued_steps : Option Op → List Name → Tree → Tree → Program Yes
valued_steps o ps type v = value_steps type v >>= λ y. lawful_steps o ps v

-- what a def asks
abbrev pub definition_steps : Option Op → List Name → Tree → Tree → Program Yes
definition_steps o ps type v = sort_of type >>= λ l. valued_steps o ps type v
