-- Worked steps, costs and verdicts of literals, quotients and texts, found with another program.
use Rattle.std.proofs.Common.{◌≡◌, List, [], ◌∷◌, Some, None, true, false, refl}
use Rattle.std.specs.Prelude.{codes}
use Rattle.std.specs.Str.{is_utf8, chars}
use Rattle.std.specs.Char.{encode_utf8}
use Rattle.lk_tree.specs.Tree.{tree_discrete, level_discrete, name_discrete, part_discrete, zero_level, succ_level, param, var, sort, const, app, lam, pi, proj, lit, str}
use Rattle.lk_tree.specs.Decide.{list_discrete, both_discrete}
use Rattle.lk_tree.specs.Bind.{open_at, close_at, bound}
use Rattle.lk_tree.specs.Levels.{put_levels, put_in_level, level_for}
use Rattle.lk_tree.specs.LevelTest.{level_le}
use Rattle.lk_tree.specs.Spine.{head, args}
use Rattle.lk_tree.specs.declared.rule.Rule.TheVariants.{QuotShape}
use Rattle.lk_rulebook.specs.Place.{Place, Block, BlockType, Ctor, regular}
use Rattle.lk_rulebook.specs.Names.{word, dotted, named, nat, nat_zero, nat_succ, string, string_mk, list_nil, list_cons, char, char_of_nat, eq, eq_refl, quot, quot_mk, quot_lift, quot_ind}
use Rattle.lk_rulebook.specs.Quotients.{prop}
use Rattle.lk_rulebook.specs.Units.{place_of, LibraryUnit, of_decl, of_block, Decl, as_axiom, as_def, as_quot}
use Rattle.lk_questions.specs.Query.{core, whnf, infer, same}
use Rattle.lk_questions.specs.Answer.{answered, refused, answer_to_depth, outcome_of, plain_answer}
use Rattle.lk_questions.specs.Declarations.{checked, unit_steps}
use Rattle.lk_questions.specs.Table.{steps}
use native.Mathlib.Decide.{ℕ_discrete}

abbrev nat_zero_ctor : Ctor
nat_zero_ctor = record { name = nat_zero; levels = []; type = (named nat); parent = nat; place = 0; parameters = 0; fields = 0 }

abbrev nat_succ_ctor : Ctor
nat_succ_ctor = record { name = nat_succ; levels = []; type = (pi (named nat) (named nat)); parent = nat; place = 1; parameters = 0; fields = 1 }

abbrev nat_type : BlockType
nat_type = record { name = nat; levels = []; type = (sort (succ_level zero_level)); parameters = 0; indices = 0; ctors = nat_zero_ctor ∷ nat_succ_ctor ∷ [] }

abbrev nat_block : Block
nat_block = record { types = nat_type ∷ [] }

abbrev bool_false_ctor : Ctor
bool_false_ctor = record { name = dotted "Bool" "false"; levels = []; type = (named (word "Bool")); parent = word "Bool"; place = 0; parameters = 0; fields = 0 }

abbrev bool_true_ctor : Ctor
bool_true_ctor = record { name = dotted "Bool" "true"; levels = []; type = (named (word "Bool")); parent = word "Bool"; place = 1; parameters = 0; fields = 0 }

abbrev bool_type : BlockType
bool_type = record { name = word "Bool"; levels = []; type = (sort (succ_level zero_level)); parameters = 0; indices = 0; ctors = bool_false_ctor ∷ bool_true_ctor ∷ [] }

abbrev bool_block : Block
bool_block = record { types = bool_type ∷ [] }

abbrev list_nil_ctor : Ctor
list_nil_ctor = record { name = list_nil; levels = (word "u") ∷ []; type = (pi (sort (succ_level (param (word "u")))) (app (const (word "List") ((param (word "u")) ∷ [])) (var 0))); parent = word "List"; place = 0; parameters = 1; fields = 0 }

abbrev list_cons_ctor : Ctor
list_cons_ctor = record { name = list_cons; levels = (word "u") ∷ []; type = (pi (sort (succ_level (param (word "u")))) (pi (var 0) (pi (app (const (word "List") ((param (word "u")) ∷ [])) (var 1)) (app (const (word "List") ((param (word "u")) ∷ [])) (var 2))))); parent = word "List"; place = 1; parameters = 1; fields = 2 }

abbrev list_type : BlockType
list_type = record { name = word "List"; levels = (word "u") ∷ []; type = (pi (sort (succ_level (param (word "u")))) (sort (succ_level (param (word "u"))))); parameters = 1; indices = 0; ctors = list_nil_ctor ∷ list_cons_ctor ∷ [] }

abbrev list_block : Block
list_block = record { types = list_type ∷ [] }

abbrev char_mk_ctor : Ctor
char_mk_ctor = record { name = dotted "Char" "mk"; levels = []; type = (pi (named nat) (named char)); parent = char; place = 0; parameters = 0; fields = 1 }

abbrev char_type : BlockType
char_type = record { name = char; levels = []; type = (sort (succ_level zero_level)); parameters = 0; indices = 0; ctors = char_mk_ctor ∷ [] }

abbrev char_block : Block
char_block = record { types = char_type ∷ [] }

abbrev string_mk_ctor : Ctor
string_mk_ctor = record { name = string_mk; levels = []; type = (pi (app (const (word "List") (zero_level ∷ [])) (named char)) (named string)); parent = string; place = 0; parameters = 0; fields = 1 }

abbrev string_type : BlockType
string_type = record { name = string; levels = []; type = (sort (succ_level zero_level)); parameters = 0; indices = 0; ctors = string_mk_ctor ∷ [] }

abbrev string_block : Block
string_block = record { types = string_type ∷ [] }

abbrev eq_refl_ctor : Ctor
eq_refl_ctor = record { name = eq_refl; levels = (word "u") ∷ []; type = (pi (sort (param (word "u"))) (pi (var 0) (app (app (app (const eq ((param (word "u")) ∷ [])) (var 1)) (var 0)) (var 0)))); parent = eq; place = 0; parameters = 2; fields = 0 }

abbrev eq_type : BlockType
eq_type = record { name = eq; levels = (word "u") ∷ []; type = (pi (sort (param (word "u"))) (pi (var 0) (pi (var 1) (sort zero_level)))); parameters = 2; indices = 1; ctors = eq_refl_ctor ∷ [] }

abbrev eq_block : Block
eq_block = record { types = eq_type ∷ [] }

abbrev one_mk_ctor : Ctor
one_mk_ctor = record { name = dotted "One" "mk"; levels = []; type = (named (word "One")); parent = word "One"; place = 0; parameters = 0; fields = 0 }

abbrev one_type : BlockType
one_type = record { name = word "One"; levels = []; type = (sort (succ_level zero_level)); parameters = 0; indices = 0; ctors = one_mk_ctor ∷ [] }

abbrev one_block : Block
one_block = record { types = one_type ∷ [] }

abbrev units : List LibraryUnit
units =
    of_block nat_block (record { name = dotted "Nat" "rec"; levels = (word "u") ∷ []; type = (pi (pi (named nat) (sort (param (word "u")))) (pi (app (var 0) (named nat_zero)) (pi (pi (named nat) (pi (app (var 2) (var 0)) (app (var 3) (app (named nat_succ) (var 1))))) (pi (named nat) (app (var 3) (var 0)))))); recursor = (record { parameters = 0; indices = 0; motives = 1; minors = 2; k = false; rules = record { ctor = nat_zero; fields = 0; value = (lam (pi (named nat) (sort (param (word "u")))) (lam (app (var 0) (named nat_zero)) (lam (pi (named nat) (pi (app (var 2) (var 0)) (app (var 3) (app (named nat_succ) (var 1))))) (var 1)))) } ∷ record { ctor = nat_succ; fields = 1; value = (lam (pi (named nat) (sort (param (word "u")))) (lam (app (var 0) (named nat_zero)) (lam (pi (named nat) (pi (app (var 2) (var 0)) (app (var 3) (app (named nat_succ) (var 1))))) (lam (named nat) (app (app (var 1) (var 0)) (app (app (app (app (const (dotted "Nat" "rec") ((param (word "u")) ∷ [])) (var 3)) (var 2)) (var 1)) (var 0))))))) } ∷ [] }) } ∷ [])
    ∷ of_block bool_block (record { name = dotted "Bool" "rec"; levels = (word "u") ∷ []; type = (pi (pi (named (word "Bool")) (sort (param (word "u")))) (pi (app (var 0) (named (dotted "Bool" "false"))) (pi (app (var 1) (named (dotted "Bool" "true"))) (pi (named (word "Bool")) (app (var 3) (var 0)))))); recursor = (record { parameters = 0; indices = 0; motives = 1; minors = 2; k = false; rules = record { ctor = dotted "Bool" "false"; fields = 0; value = (lam (pi (named (word "Bool")) (sort (param (word "u")))) (lam (app (var 0) (named (dotted "Bool" "false"))) (lam (app (var 1) (named (dotted "Bool" "true"))) (var 1)))) } ∷ record { ctor = dotted "Bool" "true"; fields = 0; value = (lam (pi (named (word "Bool")) (sort (param (word "u")))) (lam (app (var 0) (named (dotted "Bool" "false"))) (lam (app (var 1) (named (dotted "Bool" "true"))) (var 0)))) } ∷ [] }) } ∷ [])
    ∷ of_decl (record { name = dotted "Nat" "add"; levels = []; type = (pi (named nat) (pi (named nat) (named nat))); body = as_def (regular 1) (lam (named nat) (lam (named nat) (var 1))) })
    ∷ of_decl (record { name = dotted "Nat" "beq"; levels = []; type = (pi (named nat) (pi (named nat) (named (word "Bool")))); body = as_def (regular 1) (lam (named nat) (lam (named nat) (named (dotted "Bool" "true")))) })
    ∷ of_block list_block []
    ∷ of_block char_block []
    ∷ of_decl (record { name = char_of_nat; levels = []; type = (pi (named nat) (named char)); body = as_def (regular 1) (named (dotted "Char" "mk")) })
    ∷ of_block string_block []
    ∷ of_decl (record { name = quot; levels = (word "u") ∷ []; type = (pi (sort (param (word "u"))) (pi (pi (var 0) (pi (var 1) (sort zero_level))) (sort (param (word "u"))))); body = as_quot })
    ∷ of_decl (record { name = quot_mk; levels = (word "u") ∷ []; type = (pi (sort (param (word "u"))) (pi (pi (var 0) (pi (var 1) (sort zero_level))) (pi (var 1) (app (app (const quot ((param (word "u")) ∷ [])) (var 2)) (var 1))))); body = as_quot })
    ∷ of_block eq_block []
    ∷ of_decl (record { name = quot_lift; levels = (word "u") ∷ (word "v") ∷ []; type = (pi (sort (param (word "u"))) (pi (pi (var 0) (pi (var 1) (sort zero_level))) (pi (sort (param (word "v"))) (pi (pi (var 2) (var 1)) (pi (pi (var 3) (pi (var 4) (pi (app (app (var 4) (var 1)) (var 0)) (app (app (app (const eq ((param (word "v")) ∷ [])) (var 4)) (app (var 3) (var 2))) (app (var 3) (var 1)))))) (pi (app (app (const quot ((param (word "u")) ∷ [])) (var 4)) (var 3)) (var 3))))))); body = as_quot })
    ∷ of_decl (record { name = quot_ind; levels = (word "u") ∷ []; type = (pi (sort (param (word "u"))) (pi (pi (var 0) (pi (var 1) (sort zero_level))) (pi (pi (app (app (const quot ((param (word "u")) ∷ [])) (var 1)) (var 0)) (sort zero_level)) (pi (pi (var 2) (app (var 1) (app (app (app (const quot_mk ((param (word "u")) ∷ [])) (var 3)) (var 2)) (var 0)))) (pi (app (app (const quot ((param (word "u")) ∷ [])) (var 3)) (var 2)) (app (var 2) (var 0))))))); body = as_quot })
    ∷ of_block one_block []
    ∷ of_decl (record { name = word "n"; levels = []; type = (named nat); body = as_axiom })
    ∷ of_decl (record { name = word "a"; levels = []; type = (named (word "One")); body = as_axiom })
    ∷ of_decl (record { name = word "b"; levels = []; type = (named (word "One")); body = as_axiom })
    ∷ of_decl (record { name = word "r"; levels = []; type = (pi (named nat) (pi (named nat) (sort zero_level))); body = as_axiom })
    ∷ []

abbrev place : Place
place = place_of units 18 []

sum : plain_answer steps place (whnf (app (app (named (dotted "Nat" "add")) (lit 2)) (lit 3))) 6 ≡ answered (lit 5) 6 (Some 2)
unfolding answer_to_depth open_at close_at bound head args put_levels put_in_level level_for level_le is_utf8 chars encode_utf8 tree_discrete level_discrete name_discrete part_discrete list_discrete both_discrete ℕ_discrete
sum = refl

sum_of_zero : plain_answer steps place (whnf (app (app (named (dotted "Nat" "add")) (named nat_zero)) (app (app (named (dotted "Nat" "add")) (lit 1)) (lit 1)))) 10 ≡ answered (lit 2) 10 (Some 2)
unfolding answer_to_depth open_at close_at bound head args put_levels put_in_level level_for level_le is_utf8 chars encode_utf8 tree_discrete level_discrete name_discrete part_discrete list_discrete both_discrete ℕ_discrete
sum_of_zero = refl

successor : plain_answer steps place (whnf (app (named nat_succ) (lit 4))) 4 ≡ answered (lit 5) 4 (Some 0)
unfolding answer_to_depth open_at close_at bound head args put_levels put_in_level level_for level_le is_utf8 chars encode_utf8 tree_discrete level_discrete name_discrete part_discrete list_discrete both_discrete ℕ_discrete
successor = refl

test : plain_answer steps place (whnf (app (app (named (dotted "Nat" "beq")) (lit 2)) (lit 2))) 6 ≡ answered (named (dotted "Bool" "true")) 6 (Some 3)
unfolding answer_to_depth open_at close_at bound head args put_levels put_in_level level_for level_le is_utf8 chars encode_utf8 tree_discrete level_discrete name_discrete part_discrete list_discrete both_discrete ℕ_discrete
test = refl

too_large : plain_answer steps place (whnf (app (app (named (dotted "Nat" "add")) (lit 340282366920938463463374607431768211455)) (lit 1))) 9 ≡ answered (lit 340282366920938463463374607431768211455) 9 (Some 2)
unfolding answer_to_depth open_at close_at bound head args put_levels put_in_level level_for level_le is_utf8 chars encode_utf8 tree_discrete level_discrete name_discrete part_discrete list_discrete both_discrete ℕ_discrete
too_large = refl

stuck_sum : plain_answer steps place (whnf (app (app (named (dotted "Nat" "add")) (named (word "n"))) (lit 1))) 7 ≡ answered (named (word "n")) 7 (Some 14)
unfolding answer_to_depth open_at close_at bound head args put_levels put_in_level level_for level_le is_utf8 chars encode_utf8 tree_discrete level_discrete name_discrete part_discrete list_discrete both_discrete ℕ_discrete
stuck_sum = refl

literal_and_successor : plain_answer steps place (same (lit 2) (app (named nat_succ) (lit 1))) 10 ≡ answered true 10 (Some 0)
unfolding answer_to_depth open_at close_at bound head args put_levels put_in_level level_for level_le is_utf8 chars encode_utf8 tree_discrete level_discrete name_discrete part_discrete list_discrete both_discrete ℕ_discrete
literal_and_successor = refl

successor_and_literal : plain_answer steps place (same (app (named nat_succ) (named (word "n"))) (lit 2)) 24 ≡ answered false 24 (Some 14)
unfolding answer_to_depth open_at close_at bound head args put_levels put_in_level level_for level_le is_utf8 chars encode_utf8 tree_discrete level_discrete name_discrete part_discrete list_discrete both_discrete ℕ_discrete
successor_and_literal = refl

literal_and_variable : plain_answer steps place (same (lit 2) (app (named nat_succ) (named (word "n")))) 19 ≡ answered false 19 (Some 14)
unfolding answer_to_depth open_at close_at bound head args put_levels put_in_level level_for level_le is_utf8 chars encode_utf8 tree_discrete level_discrete name_discrete part_discrete list_discrete both_discrete ℕ_discrete
literal_and_variable = refl

zero_and_literal : plain_answer steps place (same (named nat_zero) (lit 0)) 7 ≡ answered true 7 (Some 0)
unfolding answer_to_depth open_at close_at bound head args put_levels put_in_level level_for level_le is_utf8 chars encode_utf8 tree_discrete level_discrete name_discrete part_discrete list_discrete both_discrete ℕ_discrete
zero_and_literal = refl

two_literals : plain_answer steps place (same (lit 2) (lit 3)) 1 ≡ answered false 1 None
unfolding answer_to_depth open_at close_at bound head args put_levels put_in_level level_for level_le is_utf8 chars encode_utf8 tree_discrete level_discrete name_discrete part_discrete list_discrete both_discrete ℕ_discrete
two_literals = refl

lifted : plain_answer steps place (core (app (app (app (app (app (app (const quot_lift ((succ_level zero_level) ∷ (succ_level zero_level) ∷ [])) (named nat)) (named (word "r"))) (named nat)) (named nat_succ)) (named (word "n"))) (app (app (app (const quot_mk ((succ_level zero_level) ∷ [])) (named nat)) (named (word "r"))) (lit 3)))) 4 ≡ answered (app (named nat_succ) (lit 3)) 4 (Some 11)
unfolding answer_to_depth open_at close_at bound head args put_levels put_in_level level_for level_le is_utf8 chars encode_utf8 tree_discrete level_discrete name_discrete part_discrete list_discrete both_discrete ℕ_discrete
lifted = refl

lifted_further : plain_answer steps place (core (app (app (app (app (app (const quot_ind ((succ_level zero_level) ∷ [])) (named nat)) (named (word "r"))) (lam (app (app (const quot ((succ_level zero_level) ∷ [])) (named nat)) (named (word "r"))) (sort zero_level))) (named nat_succ)) (app (app (app (const quot_mk ((succ_level zero_level) ∷ [])) (named nat)) (named (word "r"))) (lit 3)))) 4 ≡ answered (app (named nat_succ) (lit 3)) 4 (Some 12)
unfolding answer_to_depth open_at close_at bound head args put_levels put_in_level level_for level_le is_utf8 chars encode_utf8 tree_discrete level_discrete name_discrete part_discrete list_discrete both_discrete ℕ_discrete
lifted_further = refl

not_lifted : plain_answer steps place (core (app (app (app (app (app (app (const quot_lift ((succ_level zero_level) ∷ (succ_level zero_level) ∷ [])) (named nat)) (named (word "r"))) (named nat)) (named nat_succ)) (named (word "n"))) (named (word "n")))) 3 ≡ answered (app (app (app (app (app (app (const quot_lift ((succ_level zero_level) ∷ (succ_level zero_level) ∷ [])) (named nat)) (named (word "r"))) (named nat)) (named nat_succ)) (named (word "n"))) (named (word "n"))) 3 (Some 14)
unfolding answer_to_depth open_at close_at bound head args put_levels put_in_level level_for level_le is_utf8 chars encode_utf8 tree_discrete level_discrete name_discrete part_discrete list_discrete both_discrete ℕ_discrete
not_lifted = refl

number : plain_answer steps place (infer (lit 3)) 1 ≡ answered (named nat) 1 (Some 0)
unfolding answer_to_depth open_at close_at bound head args put_levels put_in_level level_for level_le is_utf8 chars encode_utf8 tree_discrete level_discrete name_discrete part_discrete list_discrete both_discrete ℕ_discrete
number = refl

a_text : plain_answer steps place (infer (str (codes "ab"))) 1 ≡ answered (named string) 1 (Some 7)
unfolding answer_to_depth open_at close_at bound head args put_levels put_in_level level_for level_le is_utf8 chars encode_utf8 tree_discrete level_discrete name_discrete part_discrete list_discrete both_discrete ℕ_discrete
a_text = refl

text_and_its_expansion : plain_answer steps place (same (str (codes "a")) (app (named string_mk) (app (app (app (const list_cons (zero_level ∷ [])) (named char)) (app (named char_of_nat) (lit 97))) (app (const list_nil (zero_level ∷ [])) (named char))))) 47 ≡ answered true 47 (Some 7)
unfolding answer_to_depth open_at close_at bound head args put_levels put_in_level level_for level_le is_utf8 chars encode_utf8 tree_discrete level_discrete name_discrete part_discrete list_discrete both_discrete ℕ_discrete
text_and_its_expansion = refl

empty_text_and_expansion : plain_answer steps place (same (app (named string_mk) (app (const list_nil (zero_level ∷ [])) (named char))) (str (codes ""))) 37 ≡ answered true 37 (Some 7)
unfolding answer_to_depth open_at close_at bound head args put_levels put_in_level level_for level_le is_utf8 chars encode_utf8 tree_discrete level_discrete name_discrete part_discrete list_discrete both_discrete ℕ_discrete
empty_text_and_expansion = refl

text_taken_apart : plain_answer steps place (core (proj (string) 0 (str (codes "")))) 4 ≡ answered (app (const list_nil (zero_level ∷ [])) (named char)) 4 (Some 7)
unfolding answer_to_depth open_at close_at bound head args put_levels put_in_level level_for level_le is_utf8 chars encode_utf8 tree_discrete level_discrete name_discrete part_discrete list_discrete both_discrete ℕ_discrete
text_taken_apart = refl

empty_structure : plain_answer steps place (same (named (word "a")) (named (word "b"))) 12 ≡ answered true 12 (Some 16)
unfolding answer_to_depth open_at close_at bound head args put_levels put_in_level level_for level_le is_utf8 chars encode_utf8 tree_discrete level_discrete name_discrete part_discrete list_discrete both_discrete ℕ_discrete
empty_structure = refl

recursion_on_literal : plain_answer steps place (core (app (app (app (app (const (dotted "Nat" "rec") ((succ_level zero_level) ∷ [])) (lam (named nat) (named nat))) (lit 7)) (lam (named nat) (lam (named nat) (var 0)))) (lit 1))) 10 ≡ answered (lit 7) 10 (Some 0)
unfolding answer_to_depth open_at close_at bound head args put_levels put_in_level level_for level_le is_utf8 chars encode_utf8 tree_discrete level_discrete name_discrete part_discrete list_discrete both_discrete ℕ_discrete
recursion_on_literal = refl

abbrev quot_unit : Decl
quot_unit = record { name = quot; levels = ((word "u") ∷ []); type = (pi (sort (param (word "u"))) (pi (pi (var 0) (pi (var 1) (sort zero_level))) (sort (param (word "u"))))); body = as_quot }

abbrev quot_mk_unit : Decl
quot_mk_unit = record { name = quot_mk; levels = ((word "u") ∷ []); type = (pi (sort (param (word "u"))) (pi (pi (var 0) (pi (var 1) (sort zero_level))) (pi (var 1) (app (app (const quot ((param (word "u")) ∷ [])) (var 2)) (var 1))))); body = as_quot }

abbrev quot_lift_unit : Decl
quot_lift_unit = record { name = quot_lift; levels = ((word "u") ∷ (word "v") ∷ []); type = (pi (sort (param (word "u"))) (pi (pi (var 0) (pi (var 1) (sort zero_level))) (pi (sort (param (word "v"))) (pi (pi (var 2) (var 1)) (pi (pi (var 3) (pi (var 4) (pi (app (app (var 4) (var 1)) (var 0)) (app (app (app (const eq ((param (word "v")) ∷ [])) (var 4)) (app (var 3) (var 2))) (app (var 3) (var 1)))))) (pi (app (app (const quot ((param (word "u")) ∷ [])) (var 4)) (var 3)) (var 3))))))); body = as_quot }

abbrev quot_ind_unit : Decl
quot_ind_unit = record { name = quot_ind; levels = ((word "u") ∷ []); type = (pi (sort (param (word "u"))) (pi (pi (var 0) (pi (var 1) (sort zero_level))) (pi (pi (app (app (const quot ((param (word "u")) ∷ [])) (var 1)) (var 0)) (sort zero_level)) (pi (pi (var 2) (app (var 1) (app (app (app (const quot_mk ((param (word "u")) ∷ [])) (var 3)) (var 2)) (var 0)))) (pi (app (app (const quot ((param (word "u")) ∷ [])) (var 3)) (var 2)) (app (var 2) (var 0))))))); body = as_quot }

quot_checked : outcome_of (place_of units 8 []) (plain_answer steps (place_of units 8 [])) 27 (unit_steps quot_unit) ≡ answered checked 27 None
unfolding answer_to_depth open_at close_at bound head args put_levels put_in_level level_for level_le is_utf8 chars encode_utf8 tree_discrete level_discrete name_discrete part_discrete list_discrete both_discrete ℕ_discrete
quot_checked = refl

quot_mk_checked : outcome_of (place_of units 9 []) (plain_answer steps (place_of units 9 [])) 43 (unit_steps quot_mk_unit) ≡ answered checked 43 (Some 8)
unfolding answer_to_depth open_at close_at bound head args put_levels put_in_level level_for level_le is_utf8 chars encode_utf8 tree_discrete level_discrete name_discrete part_discrete list_discrete both_discrete ℕ_discrete
quot_mk_checked = refl

quot_lift_checked : outcome_of (place_of units 11 []) (plain_answer steps (place_of units 11 [])) 120 (unit_steps quot_lift_unit) ≡ answered checked 120 (Some 10)
unfolding answer_to_depth open_at close_at bound head args put_levels put_in_level level_for level_le is_utf8 chars encode_utf8 tree_discrete level_discrete name_discrete part_discrete list_discrete both_discrete ℕ_discrete
quot_lift_checked = refl

quot_ind_checked : outcome_of (place_of units 12 []) (plain_answer steps (place_of units 12 [])) 102 (unit_steps quot_ind_unit) ≡ answered checked 102 (Some 9)
unfolding answer_to_depth open_at close_at bound head args put_levels put_in_level level_for level_le is_utf8 chars encode_utf8 tree_discrete level_discrete name_discrete part_discrete list_discrete both_discrete ℕ_discrete
quot_ind_checked = refl

-- without Eq
no_eq : outcome_of (place_of units 10 []) (plain_answer steps (place_of units 10 [])) 1000 (unit_steps quot_lift_unit) ≡ refused QuotShape
unfolding answer_to_depth open_at close_at bound head args put_levels put_in_level level_for level_le is_utf8 chars encode_utf8 tree_discrete level_discrete name_discrete part_discrete list_discrete both_discrete ℕ_discrete
no_eq = refl

-- where a tree of Eq's unit has a loose variable
abbrev flawed : List LibraryUnit
flawed = of_decl (record { name = quot; levels = []; type = prop; body = as_quot })
    ∷ of_decl (record { name = eq; levels = []; type = var 0; body = as_axiom })
    ∷ []

flawed_eq : outcome_of (place_of flawed 2 []) (plain_answer steps (place_of flawed 2 [])) 1000 (unit_steps quot_lift_unit) ≡ refused QuotShape
unfolding answer_to_depth open_at close_at bound head args put_levels put_in_level level_for level_le is_utf8 chars encode_utf8 tree_discrete level_discrete name_discrete part_discrete list_discrete both_discrete ℕ_discrete
flawed_eq = refl

-- Quot is no quotient type: else Quot.mk would give a type without members one
abbrev other_quot : List LibraryUnit
other_quot = of_decl (record { name = quot; levels = word "u" ∷ []; type = prop; body = as_axiom }) ∷ []

mk_of_other : outcome_of (place_of other_quot 1 []) (plain_answer steps (place_of other_quot 1 [])) 1000 (unit_steps quot_mk_unit) ≡ refused QuotShape
unfolding answer_to_depth open_at close_at bound head args put_levels put_in_level level_for level_le is_utf8 chars encode_utf8 tree_discrete level_discrete name_discrete part_discrete list_discrete both_discrete ℕ_discrete
mk_of_other = refl

other_type : outcome_of (place_of other_quot 1 []) (plain_answer steps (place_of other_quot 1 [])) 1000 (unit_steps (record { name = quot_mk; levels = word "u" ∷ []; type = prop; body = as_quot })) ≡ refused QuotShape
unfolding answer_to_depth open_at close_at bound head args put_levels put_in_level level_for level_le is_utf8 chars encode_utf8 tree_discrete level_discrete name_discrete part_discrete list_discrete both_discrete ℕ_discrete
other_type = refl
