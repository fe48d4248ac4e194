-- Shapes, texts and the literal step keep to a set of names.
use Rattle.std.proofs.Common.{ℕ, zero, suc, ◌&&◌, length, nat_eq, nat_lt, ◌^◌, Bool, true, false, List, [], ◌∷◌, Some, None, Option, if◌then◌else◌}
use Rattle.std.specs.Prelude.{option_map}
use Rattle.std.specs.Str.{is_utf8, chars}
use Rattle.lk_tree.specs.Tree.{Name, Level, zero_level, succ_level, Tree, var, sort, const, app, lam, pi, let_in, proj, lit, wide, str, local}
use Rattle.lk_tree.specs.Bind.{bound}
use Rattle.lk_tree.specs.Spine.{args}
use Rattle.lk_tree.specs.LevelTest.{level_test}
use Rattle.lk_tree.specs.Operations.{Op, Value, number, truth, op_value, arity}
use Rattle.lk_rulebook.specs.Place.{Entry, Kind, a_type}
use Rattle.lk_rulebook.specs.Literals.{expansion, expansion_names, may_give}
use Rattle.lk_questions.specs.Program.{Program, done, ◌>>=◌}
use Rattle.lk_questions.specs.Steps.{given}
use Rattle.lk_questions.specs.Shapes.{is_sort_one, are_nat_ctors, nat_shape_by, nat_shape, has_string_shape, string_shape}
use Rattle.lk_questions.specs.Strings.{look_all, has_mk_alone, expansion_by, expansion_of, tree_or, text_to_ctor, literal_to_ctor}
use Rattle.lk_questions.specs.Literals.{numeral_of, with_first, numerals, result_of, computed, ops, op_named, op_step, literal_step}
use Rattle.lk_closure.proofs.Names.{Over, AllOver, HasBuiltins}
use Rattle.lk_closure.proofs.Within.{Within}
use Rattle.lk_closure.proofs.Trees.{over_args, over_expansion, IfOver}
use Rattle.lk_closure.proofs.Pieces.{Any, within_bind, within_given, within_if, within_tested}

within_sort_one : (P : Name → Type 0) (e : Tree) → Within P (is_sort_one e) Any
within_sort_one P (sort l) = within_tested P (level_test l (succ_level zero_level))
within_sort_one P _ = tt

within_nat_by : (P : Name → Type 0) (g : Entry) (k : Kind) → Within P (nat_shape_by g k) Any
within_nat_by P g (a_type block t) =
    within_given P ((nat_eq (length block.types) 1 && nat_eq t.parameters 0) && (nat_eq t.indices 0 && nat_eq (length g.levels) 0)) _
    (is_sort_one g.type >>= λ one. given (one && are_nat_ctors t.ctors) _ (done tt)) Any
    (within_bind P (is_sort_one g.type) (λ one. given (one && are_nat_ctors t.ctors) _ (done tt)) Any Any (within_sort_one P g.type)
    (λ one a. within_given P (one && are_nat_ctors t.ctors) _ (done tt) Any tt))
within_nat_by P g _ = tt

pub within_nat_shape : (P : Name → Type 0) → HasBuiltins P → Within P nat_shape Any
within_nat_shape P b = (b.of_nat, λ g o. within_nat_by P g g.kind)

within_has_string : (P : Name → Type 0) (g : Entry) (k : Kind) → Within P (has_string_shape g k) Any
within_has_string P g (a_type block t) = within_if P (nat_eq (length block.types) 1 && nat_eq (length g.levels) 0) (is_sort_one g.type) (done false) Any (within_sort_one P g.type) tt
within_has_string P g _ = tt

pub within_string_shape : (P : Name → Type 0) → HasBuiltins P → Within P string_shape Any
within_string_shape P b = (
  b.of_string,
  λ g o. within_bind P (has_string_shape g g.kind) (λ has. given has _ (done tt)) Any Any (within_has_string P g g.kind) (λ has a. within_given P has _ (done tt) Any tt),
)

abbrev AllNamed : (Name → Type 0) → List Name → Type 0
AllNamed P [] = Unit {0}
AllNamed P (c ∷ cs) = P c × AllNamed P cs

within_look_all : (P : Name → Type 0) (cs : List Name) → AllNamed P cs → Within P (look_all cs) Any
within_look_all P [] h = tt
within_look_all P (c ∷ cs) h = (h.0, λ g o. within_look_all P cs h.1)

expansion_named : (P : Name → Type 0) → HasBuiltins P → (cs : List ℕ) → AllNamed P (expansion_names cs)
expansion_named P b [] = (b.of_mk, (b.of_nil, (b.of_char, tt)))
expansion_named P b (c ∷ cs) = (b.of_mk, (b.of_nil, (b.of_char, (b.of_cons, (b.of_char_nat, tt)))))

within_expansion_by : (P : Name → Type 0) → HasBuiltins P → (s : List ℕ) (g : Entry) (k : Kind) → Within P (expansion_by s g k) (IfOver P)
within_expansion_by P b s g k =
    within_bind P (has_string_shape g k) (λ has. if has && (has_mk_alone k && is_utf8 s) then (look_all (expansion_names (chars s)) >>= λ u. done (Some (expansion (chars s)))) else done None) Any (IfOver P)
    (within_has_string P g k)
    (λ has a. within_if P (has && (has_mk_alone k && is_utf8 s)) (look_all (expansion_names (chars s)) >>= λ u. done (Some (expansion (chars s)))) (done None) (IfOver P)
    (within_bind P (look_all (expansion_names (chars s))) (λ u. done (Some (expansion (chars s)))) Any (IfOver P)
    (within_look_all P (expansion_names (chars s)) (expansion_named P b (chars s))) (λ u i. over_expansion P b (chars s))) tt)

pub within_expansion : (P : Name → Type 0) → HasBuiltins P → (s : List ℕ) → Within P (expansion_of s) (IfOver P)
within_expansion P b s = (b.of_string, λ g o. within_expansion_by P b s g g.kind)

over_or : (P : Name → Type 0) (o : Option Tree) (m : Tree) → IfOver P o → Over P m → Over P (tree_or o m)
over_or P (Some x) m h i = h
over_or P None m h i = i

pub within_read_text : (P : Name → Type 0) → HasBuiltins P → (m : Tree) → Over P m → Within P (text_to_ctor m) (Over P)
within_read_text P b (str s) h = within_bind P (expansion_of s) (λ x. done (tree_or x (str s))) (IfOver P) (Over P) (within_expansion P b s) (λ x o. over_or P x (str s) o tt)
within_read_text P b (var i) h = h
within_read_text P b (sort l) h = h
within_read_text P b (const c ls) h = h
within_read_text P b (app f a) h = h
within_read_text P b (lam A c) h = h
within_read_text P b (pi A c) h = h
within_read_text P b (let_in A v c) h = h
within_read_text P b (proj S i s) h = h
within_read_text P b (lit n) h = h
within_read_text P b wide h = h
within_read_text P b (local k T) h = h

pub within_read : (P : Name → Type 0) → HasBuiltins P → (m : Tree) → Over P m → Within P (literal_to_ctor m) (Over P)
within_read P b (lit zero) h = (b.of_zero, λ g o. b.of_zero)
within_read P b (lit (suc n)) h = (b.of_succ, λ g o. (b.of_succ, tt))
within_read P b (str s) h = within_read_text P b (str s) h
within_read P b (var i) h = h
within_read P b (sort l) h = h
within_read P b (const c ls) h = h
within_read P b (app f a) h = h
within_read P b (lam A c) h = h
within_read P b (pi A c) h = h
within_read P b (let_in A v c) h = h
within_read P b (proj S i s) h = h
within_read P b wide h = h
within_read P b (local k T) h = h

within_first : (P : Name → Type 0) (o : Option ℕ) (next : Program (Option (List ℕ))) → Within P next Any → Within P (with_first o next) Any
within_first P None next h = tt
within_first P (Some n) next h = within_bind P next (λ ns. done (option_map (λ rest. n ∷ rest) ns)) Any Any h (λ ns a. tt)

within_numerals : (P : Name → Type 0) (xs : List Tree) → AllOver P xs → Within P (numerals xs) Any
within_numerals P [] h = tt
within_numerals P (x ∷ xs) h = (h.0, λ m o. within_first P (numeral_of m) (numerals xs) (within_numerals P xs h.1))

over_lit : (P : Name → Type 0) (b : Bool) (n : ℕ) → IfOver P (if b then Some (lit n) else None)
over_lit P true n = tt
over_lit P false n = tt

within_result : (P : Name → Type 0) → HasBuiltins P → (o : Option Value) → Within P (result_of o) (IfOver P)
within_result P b (Some (number n)) = over_lit P (nat_lt n (2 ^ 128)) n
within_result P b (Some (truth t)) = (b.of_bool t, λ g o. b.of_bool t)
within_result P b None = tt

within_computed : (P : Name → Type 0) → HasBuiltins P → (op : Op) (o : Option (List ℕ)) → Within P (computed op o) (IfOver P)
within_computed P b op None = tt
within_computed P b op (Some ns) = within_bind P nat_shape (λ u. result_of (op_value op ns)) Any (IfOver P) (within_nat_shape P b) (λ u a. within_result P b (op_value op ns))

within_op : (P : Name → Type 0) → HasBuiltins P → (o : Option Op) (k : Kind) (xs : List Tree) → AllOver P xs → Within P (op_step o k xs) (IfOver P)
within_op P b None k xs h = tt
within_op P b (Some op) k xs h =
    within_if P (may_give op k && nat_eq (length xs) (arity op)) (numerals xs >>= λ ns. computed op ns) (done None) (IfOver P)
    (within_bind P (numerals xs) (λ ns. computed op ns) Any (IfOver P) (within_numerals P xs h) (λ ns a. within_computed P b op ns)) tt

pub within_literal_step : (P : Name → Type 0) → HasBuiltins P → (c : Tree) (f : Name) (ls : List Level) (g : Entry) → Over P c → Within P (literal_step c f ls g) (IfOver P)
within_literal_step P b c f [] g h =
    within_if P (nat_eq (bound c) 0) (op_step (op_named ops f) g.kind (args c)) (done None) (IfOver P) (within_op P b (op_named ops f) g.kind (args c) (over_args P c h)) tt
within_literal_step P b c f (l ∷ ls) g h = tt
