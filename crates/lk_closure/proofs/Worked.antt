-- Names of kept units are looked up where the unit stands whose verdict is kept: a set of units that is closed only by what each unit
-- sees from its own place is too small.
use Rattle.std.proofs.Common.{ℕ, zero, suc, ◌≡◌, ◌<◌, ◌≤◌, nat_eq, nat_lt, Bool, true, false, [], ◌∷◌, None, inl, inr, refl, arith, if◌then◌else◌}
use Rattle.std.proofs.lemmas.Bool.Decides.{nat_tests}
use Rattle.lk_tree.specs.Tree.{Name, text, zero_level, succ_level, Tree, tree_discrete, level_discrete, name_discrete, part_discrete, sort, const}
use Rattle.lk_tree.specs.Decide.{list_discrete, both_discrete}
use Rattle.lk_tree.specs.Bind.{open_at, close_at, bound}
use Rattle.lk_tree.specs.LevelTest.{level_le}
use Rattle.lk_tree.specs.Operations.{Op, add, mul}
use Rattle.lk_tree.specs.Levels.{put_levels, put_in_level, level_for}
use Rattle.lk_tree.specs.Spine.{head, args}
use Rattle.lk_tree.specs.declared.rule.Rule.TheVariants.{UnknownConstant, NotAFunction, NoBuiltin}
use Rattle.lk_rulebook.specs.Place.{abbreviation}
use Rattle.lk_rulebook.specs.Names.{op_name}
use Rattle.lk_rulebook.specs.Units.{Body, as_axiom, as_def, LibraryUnit, of_decl, of_block, Library}
use Rattle.lk_inductive.proofs.Worked.{nat_block}
use Rattle.lk_questions.specs.Answer.{answer_to_depth}
use Rattle.lk_questions.specs.Table.{steps}
use Rattle.lk_verdict.specs.Verdict.{says_yes, says_no, plain_verdict}
use Rattle.lk_uses.specs.Closure.{kept, renumbered, IsInClosure, own_unit, of_builtin, of_used, KeepsClosure}
use Rattle.lk_closure.proofs.Least.{closure_earlier}
use native.Mathlib.Decide.{ℕ_discrete}

abbrev name : ℕ → Name
name c = text (c ∷ []) ∷ []

abbrev stated : ℕ → Tree → Body → LibraryUnit
stated c type body = of_decl (record { name = name c; levels = []; type = type; body = body })

-- axiom a : c, which nothing gives yet; def c : Type := Prop; axiom b : a
abbrev late : Library
late = stated 97 (const (name 99) []) as_axiom ∷ stated 99 (sort (succ_level zero_level)) (as_def abbreviation (sort zero_level)) ∷ stated 98 (const (name 97) []) as_axiom ∷ []

-- b mentions a, and from its own place a mentions nothing that is given
abbrev but_c : ℕ → Bool
but_c k = if nat_eq k 1 then false else true

late_no : plain_verdict steps late 0 10 ≡ says_no UnknownConstant
unfolding answer_to_depth open_at close_at bound head args put_levels put_in_level level_for tree_discrete level_discrete name_discrete part_discrete list_discrete both_discrete ℕ_discrete
late_no = refl

late_yes : plain_verdict steps late 2 10 ≡ says_yes
unfolding answer_to_depth open_at close_at bound head args put_levels put_in_level level_for tree_discrete level_discrete name_discrete part_discrete list_discrete both_discrete ℕ_discrete
late_yes = refl

without_c : plain_verdict steps (kept 0 but_c late) (renumbered 0 but_c 2) 10 ≡ says_no UnknownConstant
unfolding answer_to_depth open_at close_at bound head args put_levels put_in_level level_for tree_discrete level_discrete name_discrete part_discrete list_discrete both_discrete ℕ_discrete
without_c = refl

-- its closure is all of it, since c is looked up where b stands
all_three : ℕ → Bool
all_three k = nat_lt k 3

has_b : IsInClosure late 2 2
has_b = own_unit

has_a : IsInClosure late 2 0
unfolding name_discrete part_discrete list_discrete both_discrete ℕ_discrete
has_a = of_used 2 _ (name 97) (record { unit = 0; flaw = None; entry = _ }) has_b refl (inl (inl refl)) refl

has_c : IsInClosure late 2 1
unfolding name_discrete part_discrete list_discrete both_discrete ℕ_discrete
has_c = of_used 0 _ (name 99) (record { unit = 1; flaw = None; entry = _ }) has_a refl (inl (inl refl)) refl

only_three : (k : ℕ) → all_three k ≡ true → IsInClosure late 2 k
unfolding all_three
only_three zero h = has_a
only_three (suc zero) h = has_c
only_three (suc (suc zero)) h = has_b
only_three (suc (suc (suc k))) h = absurd (let l : suc (suc (suc k)) < 3 = grind (arith, nat_tests) in omega (arith, l))

below_three : (k : ℕ) → IsInClosure late 2 k → all_three k ≡ true
unfolding all_three
below_three k m = let l : k ≤ 2 = closure_earlier late 2 k m in grind (arith, nat_tests)

late_closure : KeepsClosure late 2 all_three
late_closure = record { each = below_three; only = only_three }

-- Nat, a def that is named as addition, and one that is named as multiplication: the laws of the last are stated by the first, though
-- no tree mentions it
abbrev named_as : Op → LibraryUnit
named_as op = of_decl (record { name = op_name op; levels = []; type = sort (succ_level zero_level); body = as_def abbreviation (sort zero_level) })

abbrev products : Library
products = of_block nat_block [] ∷ named_as add ∷ named_as mul ∷ []

products_no : plain_verdict steps products 2 100 ≡ says_no NotAFunction
unfolding answer_to_depth open_at close_at bound head args put_levels put_in_level level_for level_le tree_discrete level_discrete name_discrete part_discrete list_discrete both_discrete ℕ_discrete
products_no = refl

without_addition : plain_verdict steps (kept 0 but_c products) (renumbered 0 but_c 2) 100 ≡ says_no NoBuiltin
unfolding answer_to_depth open_at close_at bound head args put_levels put_in_level level_for level_le tree_discrete level_discrete name_discrete part_discrete list_discrete both_discrete ℕ_discrete
without_addition = refl

has_addition : IsInClosure products 2 1
unfolding name_discrete part_discrete list_discrete both_discrete ℕ_discrete
has_addition = of_builtin (op_name add) (record { unit = 1; flaw = None; entry = _ }) (inr (inr (inr (inr (inr (inr (inr (inr (inr (inr (inr (inr (inr (inr (inr (inl refl)))))))))))))))) refl
