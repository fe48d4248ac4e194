-- Trees and entries over a set of names.
use Rattle.std.specs.Prelude.{◌≡◌, Bool, List, [], ◌∷◌, Some}
use Rattle.lk_tree.specs.Tree.{Name, Tree, var, sort, const, app, lam, pi, let_in, proj, lit, wide, str, local}
use Rattle.lk_rulebook.specs.Place.{Place, Entry, Kind, RecRule, Ctor, BlockType, a_def, a_thm, an_axiom, an_opaque, a_quot, a_type, a_ctor, a_rec}
use Rattle.lk_tree.specs.Operations.{add, mul}
use Rattle.lk_rulebook.specs.Names.{nat, nat_zero, nat_succ, nat_pred, bool_name, op_name, string, string_mk, list_nil, list_cons, char, char_of_nat, eq, quot, quot_mk}

-- each constant of the tree, and of the types of its Locals, has a name in P; the type that a projection names does not count
abbrev pub Over : (Name → Type 0) → Tree → Type 0
Over P (const c ls) = P c
Over P (app f a) = Over P f × Over P a
Over P (lam A b) = Over P A × Over P b
Over P (pi A B) = Over P A × Over P B
Over P (let_in A v b) = Over P A × Over P v × Over P b
Over P (proj S i s) = Over P s
Over P (local k T) = Over P T
Over P (var i) = Unit {0}
Over P (sort l) = Unit {0}
Over P (lit n) = Unit {0}
Over P wide = Unit {0}
Over P (str s) = Unit {0}

abbrev pub AllOver : (Name → Type 0) → List Tree → Type 0
AllOver P [] = Unit {0}
AllOver P (x ∷ xs) = Over P x × AllOver P xs

-- the constructors that rules are for, and their values
abbrev pub RulesOver : (Name → Type 0) → List RecRule → Type 0
RulesOver P [] = Unit {0}
RulesOver P (r ∷ rs) = (P r.ctor × Over P r.value) × RulesOver P rs

abbrev pub CtorsOver : (Name → Type 0) → List Ctor → Type 0
CtorsOver P [] = Unit {0}
CtorsOver P (c ∷ cs) = (P c.name × Over P c.type) × CtorsOver P cs

-- types of a block with their constructors
abbrev pub TypeOver : (Name → Type 0) → BlockType → Type 0
TypeOver P t = P t.name × (Over P t.type × CtorsOver P t.ctors)

abbrev pub TypesOver : (Name → Type 0) → List BlockType → Type 0
TypesOver P [] = Unit {0}
TypesOver P (t ∷ ts) = TypeOver P t × TypesOver P ts

abbrev pub KindOver : (Name → Type 0) → Kind → Type 0
KindOver P (a_def h v) = Over P v
KindOver P (a_thm v) = Over P v
KindOver P (an_opaque v) = Unit {0}
KindOver P (a_type b i) = TypeOver P i × TypesOver P b.types
KindOver P (a_ctor b i c) = Unit {0}
KindOver P (a_rec r) = RulesOver P r.rules
KindOver P an_axiom = Unit {0}
KindOver P a_quot = Unit {0}

-- what a look-up reads of an entry
abbrev pub EntryOver : (Name → Type 0) → Entry → Type 0
EntryOver P e = Over P e.type × KindOver P e.kind

-- the names in P mean at w what is over P
abbrev pub IsClosed : (Name → Type 0) → Place → Type 0
IsClosed P w = (c : Name) (e : Entry) → P c → w.means c ≡ Some e → EntryOver P e

-- the names that questions look up, or bring into trees, of their own
pub record HasBuiltins (P : Name → Type 0) : Type 0 where
  pub of_nat : P nat
  pub of_zero : P nat_zero
  pub of_succ : P nat_succ
  pub of_bool : (b : Bool) → P (bool_name b)
  pub of_string : P string
  pub of_mk : P string_mk
  pub of_nil : P list_nil
  pub of_cons : P list_cons
  pub of_char : P char
  pub of_char_nat : P char_of_nat
  pub of_eq : P eq
  pub of_quot : P quot
  pub of_quot_mk : P quot_mk
  pub of_pred : P nat_pred
  pub of_add : P (op_name add)
  pub of_mul : P (op_name mul)
