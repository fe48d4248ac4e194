-- Verdicts of whole blocks: with a recursor, with a field of functions, with nested occurrences.
use Rattle.std.proofs.Common.{ℕ, zero, suc, ◌≡◌, ◌<◌, [], ◌∷◌, refl, arith}
use Rattle.lk_tree.specs.Tree.{zero_level, succ_level, Tree, tree_discrete, level_discrete, name_discrete, part_discrete, var, const, app, lam, pi}
use Rattle.lk_tree.specs.Operations.{add}
use Rattle.lk_tree.specs.Decide.{list_discrete, both_discrete}
use Rattle.lk_tree.specs.Bind.{open_at, close_at, bound}
use Rattle.lk_tree.specs.Levels.{put_levels, put_in_level, level_for}
use Rattle.lk_tree.specs.LevelTest.{level_le}
use Rattle.lk_tree.specs.Spine.{head, args}
use Rattle.lk_tree.specs.declared.rule.Rule.TheVariants.{DuplicateName, NotPositive, RecursorDiffers, NatLaw}
use Rattle.lk_rulebook.specs.Place.{abbreviation}
use Rattle.lk_rulebook.specs.Names.{dotted, nat, nat_zero, nat_succ, named, op_name}
use Rattle.lk_rulebook.specs.Units.{of_decl, of_block, as_def, Library}
use Rattle.lk_questions.specs.Answer.{answer_to_depth}
use Rattle.lk_questions.specs.Table.{steps}
use Rattle.lk_inductive.proofs.Worked.{nat_block}
use Rattle.lk_inductive.proofs.WorkedBlocks.{u, s_type, nat_rec_with, n_unit, t_name, t_block, of_functions}
use Rattle.lk_inductive.proofs.WorkedNested.{list_unit, tree_block, tree_recs}
use Rattle.lk_verdict.specs.GoodUnit.{IsGoodUnit}
use Rattle.lk_verdict.specs.Operations.{GivesOperation}
use Rattle.lk_claims.proofs.Pieces.{Some_inj}
use Rattle.lk_verdict.proofs.Spelled.{spelled_clear}
use Rattle.lk_table_sound.proofs.Derivations.{sound_steps}
use Rattle.lk_sound.proofs.GoodUnits.{good_of_yes}
use Rattle.lk_verdict.specs.Verdict.{says_yes, says_no, says_steps, plain_verdict}
use native.Mathlib.Decide.{ℕ_discrete}

-- Nat with Nat.rec, whose minor for succ is this
abbrev nats : Tree → Library
nats minor = of_block nat_block (nat_rec_with minor ∷ []) ∷ []

nat_yes : plain_verdict steps (nats s_type) 0 237 ≡ says_yes
unfolding answer_to_depth open_at close_at bound head args put_levels put_in_level level_for level_le tree_discrete level_discrete name_discrete list_discrete both_discrete part_discrete ℕ_discrete
nat_yes = refl

nat_short : plain_verdict steps (nats s_type) 0 236 ≡ says_steps
unfolding answer_to_depth open_at close_at bound head args put_levels put_in_level level_for level_le tree_discrete level_discrete name_discrete list_discrete both_discrete part_discrete ℕ_discrete
nat_short = refl

nat_no : plain_verdict steps (nats (pi (named nat) (app (var 2) (app (named nat_succ) (var 0))))) 0 1000 ≡ says_no RecursorDiffers
unfolding answer_to_depth open_at close_at bound head args put_levels put_in_level level_for level_le tree_discrete level_discrete name_discrete list_discrete both_discrete part_discrete ℕ_discrete
nat_no = refl

-- its recursor stated twice
rec_twice : plain_verdict steps (of_block nat_block (nat_rec_with s_type ∷ nat_rec_with s_type ∷ []) ∷ []) 0 1000 ≡ says_no DuplicateName
unfolding name_discrete list_discrete both_discrete part_discrete ℕ_discrete
rec_twice = refl

-- an axiom N, then mk : (N -> T) -> T, and mk : ((T -> N) -> T) -> T
functions_yes : plain_verdict steps (n_unit ∷ of_block of_functions [] ∷ []) 1 37 ≡ says_yes
unfolding answer_to_depth open_at close_at bound head args put_levels put_in_level level_for level_le tree_discrete level_discrete name_discrete list_discrete both_discrete part_discrete ℕ_discrete
functions_yes = refl

functions_no : plain_verdict steps (n_unit ∷ of_block (t_block (pi (pi (pi (named t_name) (named u)) (named t_name)) (named t_name))) [] ∷ []) 1 1000 ≡ says_no NotPositive
unfolding answer_to_depth open_at close_at bound head args put_levels put_in_level level_for level_le tree_discrete level_discrete name_discrete list_discrete both_discrete part_discrete ℕ_discrete
functions_no = refl

-- List, then Tree with node : List Tree -> Tree and both recursors
tree_yes : plain_verdict steps (list_unit ∷ of_block tree_block tree_recs ∷ []) 1 939 ≡ says_yes
unfolding answer_to_depth open_at close_at bound head args put_levels put_in_level level_for level_le tree_discrete level_discrete name_discrete list_discrete both_discrete part_discrete ℕ_discrete
tree_yes = refl

tree_short : plain_verdict steps (list_unit ∷ of_block tree_block tree_recs ∷ []) 1 938 ≡ says_steps
unfolding answer_to_depth open_at close_at bound head args put_levels put_in_level level_for level_le tree_discrete level_discrete name_discrete list_discrete both_discrete part_discrete ℕ_discrete
tree_short = refl

-- no operation on numbers comes before it
no_operation : (m : ℕ) → m < 1 → GivesOperation (list_unit ∷ of_block tree_block tree_recs ∷ []) m → ⊥
no_operation zero l g = let e : list_unit ≡ of_decl g.decl = Some_inj g.at in absurd cc
no_operation (suc m) l g = absurd (omega (arith, l))

-- so it is good
tree_good : IsGoodUnit (list_unit ∷ of_block tree_block tree_recs ∷ []) 1
unfolding open_at close_at bound head args put_levels put_in_level level_for tree_discrete level_discrete name_discrete list_discrete both_discrete part_discrete ℕ_discrete
tree_good = good_of_yes steps sound_steps (list_unit ∷ of_block tree_block tree_recs ∷ []) 1 939 (spelled_clear (list_unit ∷ of_block tree_block tree_recs ∷ []) refl) (λ m l g. absurd (no_operation m l g)) tree_yes

-- Nat, and def Nat.add with this value
abbrev additions : Tree → Library
additions value = of_block nat_block (nat_rec_with s_type ∷ [])
    ∷ of_decl (record { name = op_name add; levels = []; type = pi (named nat) (pi (named nat) (named nat)); body = as_def abbreviation value })
    ∷ []

-- fun x y => Nat.rec.{1} (fun t => Nat) x (fun n h => Nat.succ h) y
abbrev addition : Tree
addition = lam (named nat) (lam (named nat) (
    app (app (app (app (const (dotted "Nat" "rec") (succ_level zero_level ∷ [])) (lam (named nat) (named nat))) (var 1))
    (lam (named nat) (lam (named nat) (app (named nat_succ) (var 0))))) (var 0)
    ))

addition_yes : plain_verdict steps (additions addition) 1 1000 ≡ says_yes
unfolding answer_to_depth open_at close_at bound head args put_levels put_in_level level_for level_le tree_discrete level_discrete name_discrete list_discrete both_discrete part_discrete ℕ_discrete
addition_yes = refl

-- what is always one is no addition
faked_no : plain_verdict steps (additions (lam (named nat) (lam (named nat) (app (named nat_succ) (named nat_zero))))) 1 1000 ≡ says_no NatLaw
unfolding answer_to_depth open_at close_at bound head args put_levels put_in_level level_for level_le tree_discrete level_discrete name_discrete list_discrete both_discrete part_discrete ℕ_discrete
faked_no = refl
