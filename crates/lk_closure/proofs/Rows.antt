-- Each question, and the questions of a declaration, keep to a set of names.
use Rattle.std.proofs.Common.{List, Some, None, Option, if◌then◌else◌}
use Rattle.lk_tree.specs.Tree.{Name, Tree}
use Rattle.lk_tree.specs.Level.{is_zero_level}
use Rattle.lk_rulebook.specs.Names.{quot, quot_mk}
use Rattle.lk_rulebook.specs.Quotients.{Quotient, the_type, the_mk, the_lift, the_ind, quot_type}
use Rattle.lk_rulebook.specs.Units.{Body, as_axiom, as_def, as_thm, as_opaque, as_quot, Decl}
use Rattle.lk_questions.specs.Query.{Query, core, whnf, infer, same}
use Rattle.lk_questions.specs.Program.{done, refuse, ◌>>=◌}
use Rattle.lk_questions.specs.Steps.{sort_of}
use Rattle.lk_questions.specs.Quotients.{by_quot}
use Rattle.lk_questions.specs.QuotientUnits.{quotients, quotient_named, quot_given, is_eq, eq_shape, rests_steps, is_this, quotient_steps, quot_steps}
use Rattle.lk_questions.specs.Table.{steps}
use Rattle.lk_questions.specs.NumberLaws.{lawful_op, law_steps}
use Rattle.lk_questions.specs.Declarations.{checked, value_steps, body_steps, unit_steps}
use Rattle.lk_closure.proofs.Names.{Over, HasBuiltins}
use Rattle.lk_closure.proofs.Within.{QueryOver, AnswerOver, Within}
use Rattle.lk_closure.proofs.Pieces.{Any, within_bind, within_given, within_if, within_sort_of}
use Rattle.lk_closure.proofs.NumberLaws.{within_laws}
use Rattle.lk_closure.proofs.Cores.{within_core, within_whnf}
use Rattle.lk_closure.proofs.Infers.{within_infer}
use Rattle.lk_closure.proofs.Sames.{within_same_steps}

pub within_steps : (P : Name → Type 0) → HasBuiltins P → (q : Query) → QueryOver P q → Within P (steps q) (AnswerOver P q)
within_steps P b (core e) h = within_core P b e h
within_steps P b (whnf e) h = within_whnf P b e h
within_steps P b (infer e) h = within_infer P b e h
within_steps P b (same x y) h = within_same_steps P b x y h.0 h.1

within_quot_given : (P : Name → Type 0) (c : Name) → P c → Within P (quot_given c) Any
within_quot_given P c h = (h, λ g o. within_given P (by_quot g.kind) _ (done tt) Any tt)

within_eq_shape : (P : Name → Type 0) → HasBuiltins P → Within P eq_shape Any
within_eq_shape P b = (b.of_eq, λ g o. within_given P (is_eq g g.kind) _ (done tt) Any tt)

within_rests : (P : Name → Type 0) → HasBuiltins P → (q : Quotient) → Within P (rests_steps q) Any
within_rests P b the_type = tt
within_rests P b the_mk = within_quot_given P quot b.of_quot
within_rests P b the_lift = within_bind P (quot_given quot) (λ u. eq_shape) Any Any (within_quot_given P quot b.of_quot) (λ u a. within_eq_shape P b)
within_rests P b the_ind = within_bind P (quot_given quot) (λ u. quot_given quot_mk) Any Any (within_quot_given P quot b.of_quot) (λ u a. within_quot_given P quot_mk b.of_quot_mk)

within_quotient : (P : Name → Type 0) → HasBuiltins P → (o : Option Quotient) (ps : List Name) (type : Tree) → Within P (quotient_steps o ps type) Any
within_quotient P b None ps type = tt
within_quotient P b (Some q) ps type = within_given P (is_this (quot_type q ps) type) _ (rests_steps q) Any (within_rests P b q)

within_value : (P : Name → Type 0) (type value : Tree) → Over P type → Over P value → Within P (value_steps type value) Any
within_value P type value ot ov = (ov, λ V oV. ((oV, ot), λ equal a. within_given P equal _ (done checked) Any tt))

abbrev pub BodyOver : (Name → Type 0) → Body → Type 0
BodyOver P as_axiom = Unit {0}
BodyOver P (as_def h v) = Over P v
BodyOver P (as_thm v) = Over P v
BodyOver P (as_opaque v) = Over P v
BodyOver P as_quot = Unit {0}

within_body : (P : Name → Type 0) → HasBuiltins P → (d : Decl) (b : Body) → Over P d.type → BodyOver P b → Within P (body_steps d b) Any
within_body P u d as_axiom ot ob = within_bind P (sort_of d.type) (λ l. done checked) Any Any (within_sort_of P d.type ot) (λ l a. tt)
within_body P u d (as_def h v) ot ob =
    within_bind P (sort_of d.type) (λ l. value_steps d.type v >>= λ y. law_steps (lawful_op d.name) d.levels v >>= λ x. done checked) Any Any (within_sort_of P d.type ot)
    (λ l a. within_bind P (value_steps d.type v) (λ y. law_steps (lawful_op d.name) d.levels v >>= λ x. done checked) Any Any (within_value P d.type v ot ob)
    (λ y z. within_bind P (law_steps (lawful_op d.name) d.levels v) (λ x. done checked) Any Any (within_laws P u (lawful_op d.name) d.levels v ob) (λ x w. tt)))
within_body P u d (as_opaque v) ot ob = within_bind P (sort_of d.type) (λ l. value_steps d.type v) Any Any (within_sort_of P d.type ot) (λ l a. within_value P d.type v ot ob)
within_body P u d (as_thm v) ot ob =
    within_bind P (sort_of d.type) (λ l. if is_zero_level l then value_steps d.type v else refuse _) Any Any (within_sort_of P d.type ot)
    (λ l a. within_if P (is_zero_level l) (value_steps d.type v) (refuse _) Any (within_value P d.type v ot ob) tt)
within_body P u d as_quot ot ob =
    within_bind P (quot_steps d.name d.levels d.type) (λ x. sort_of d.type >>= λ l. done checked) Any Any (within_quotient P u (quotient_named quotients d.name) d.levels d.type)
    (λ x a. within_bind P (sort_of d.type) (λ l. done checked) Any Any (within_sort_of P d.type ot) (λ l y. tt))

pub within_unit_steps : (P : Name → Type 0) → HasBuiltins P → (d : Decl) → Over P d.type → BodyOver P d.body → Within P (unit_steps d) Any
within_unit_steps P b d ot ob = within_body P b d d.body ot ob
