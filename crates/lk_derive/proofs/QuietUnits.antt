-- What programs that ask nothing give is found of them.
use Rattle.std.proofs.Common.{ℕ, ◌≡◌, Bool, ◌&&◌, List, Option, Some, None, ap}
use Rattle.lk_tree.specs.Tree.{Name, zero_level, succ_level, Tree, sort}
use Rattle.lk_tree.specs.LevelTest.{level_test}
use Rattle.lk_tree.specs.Operations.{Op}
use Rattle.lk_tree.specs.declared.rule.Rule.TheVariants.{BuiltinShape, NatLaw, QuotShape}
use Rattle.lk_rulebook.specs.Place.{Place, Entry, Kind, a_type}
use Rattle.lk_rulebook.specs.Quotients.{Quotient, the_type, the_mk, the_lift, the_ind, quot_type}
use Rattle.lk_rulebook.specs.Names.{quot, quot_mk}
use Rattle.lk_rulebook.specs.Literals.{by_def}
use Rattle.lk_questions.specs.Program.{Program, done, refuse, ask, look}
use Rattle.lk_questions.specs.Steps.{given}
use Rattle.lk_questions.specs.Levels.{tested}
use Rattle.lk_questions.specs.Quotients.{by_quot}
use Rattle.lk_questions.specs.Shapes.{is_sort_one, are_nat_ctors, nat_shape_by, nat_shape}
use Rattle.lk_questions.specs.QuotientUnits.{quotients, quotient_named, quot_given, is_eq, eq_shape, rests_steps, is_this, quotient_steps, quot_steps}
use Rattle.lk_questions.specs.NumberLaws.{def_given, held_given}
use Rattle.lk_questions.specs.Tests.{found}
use Rattle.lk_table_sound.proofs.Soundness.{IsQuiet, quiet_bind, quiet_given}
use Rattle.lk_step.specs.Runs.{Runs}

pub quiet_found : {A : Type 0} (w : Place) (p : Program A) (v : A) (n : ℕ) → IsQuiet p → Runs w p v n → found w p ≡ Some v
quiet_found w (done u) v n q h = ap Some h.0
quiet_found w (refuse r) v n q h = absurd h
quiet_found w (ask x f) v n q h = absurd q
quiet_found w (look r c f) v n q h = rw h.1 (quiet_found w (f h.0) v n (q h.0) h.2)

quiet_tested : (o : Option Bool) → IsQuiet (tested o)
quiet_tested (Some b) = tt
quiet_tested None = tt

quiet_sort_one : (e : Tree) → IsQuiet (is_sort_one e)
quiet_sort_one (sort l) = quiet_tested (level_test l (succ_level zero_level))
quiet_sort_one _ = tt

quiet_nat_by : (g : Entry) (k : Kind) → IsQuiet (nat_shape_by g k)
quiet_nat_by g (a_type block t) =
    quiet_given _ BuiltinShape _ (quiet_bind (is_sort_one g.type) (λ one. given (one && are_nat_ctors t.ctors) BuiltinShape (done tt)) (quiet_sort_one g.type) (λ one. quiet_given (one && are_nat_ctors t.ctors) BuiltinShape (done tt) tt))
quiet_nat_by g _ = tt

pub quiet_nat : IsQuiet nat_shape
quiet_nat = λ g. quiet_nat_by g g.kind

pub quiet_def_given : (o : Option Op) → IsQuiet (def_given o)
quiet_def_given None = tt
quiet_def_given (Some op) = λ g. quiet_given (by_def g.kind) NatLaw (done tt) tt

pub quiet_held_given : (o : Option Name) → IsQuiet (held_given o)
quiet_held_given None = tt
quiet_held_given (Some c) = λ g. tt

quiet_quot_given : (c : Name) → IsQuiet (quot_given c)
quiet_quot_given c = λ g. quiet_given (by_quot g.kind) QuotShape (done tt) tt

quiet_eq : IsQuiet eq_shape
quiet_eq = λ g. quiet_given (is_eq g g.kind) QuotShape (done tt) tt

quiet_rests : (q : Quotient) → IsQuiet (rests_steps q)
quiet_rests the_type = tt
quiet_rests the_mk = quiet_quot_given quot
quiet_rests the_lift = quiet_bind (quot_given quot) (λ u. eq_shape) (quiet_quot_given quot) (λ u. quiet_eq)
quiet_rests the_ind = quiet_bind (quot_given quot) (λ u. quot_given quot_mk) (quiet_quot_given quot) (λ u. quiet_quot_given quot_mk)

quiet_quotient : (o : Option Quotient) (ps : List Name) (type : Tree) → IsQuiet (quotient_steps o ps type)
quiet_quotient None ps type = tt
quiet_quotient (Some q) ps type = quiet_given (is_this (quot_type q ps) type) QuotShape (rests_steps q) (quiet_rests q)

pub quiet_quot : (c : Name) (ps : List Name) (type : Tree) → IsQuiet (quot_steps c ps type)
quiet_quot c ps type = quiet_quotient (quotient_named quotients c) ps type
