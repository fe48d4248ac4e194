-- The walk that tells whether a field is positive, step by step.
use Rattle.std.specs.Prelude.{ℕ, ◌≡◌, true, suc, ◌<◌, List, [], ◌++◌, length, Option, Some, None, IfSome, if◌then◌else◌}
use Rattle.lk_tree.specs.Tree.{Name, Tree, pi, local}
use Rattle.lk_tree.specs.Bind.{opened}
use Rattle.lk_tree.specs.Spine.{head, args}
use Rattle.lk_tree.specs.Mentions.{mentions}
use Rattle.lk_tree.specs.declared.rule.Rule.TheVariants.{NotPositive}
use Rattle.lk_questions.specs.Query.{whnf}
use Rattle.lk_questions.specs.Program.{Program, done, refuse, asked, ◌>>=◌}
use Rattle.lk_store.specs.Contents.{Contents, tree_at}
use Rattle.lk_inductive.specs.Block.{Frame, FieldKind, plain, recursive, under}
use Rattle.lk_inductive.specs.BlockSteps.{as_member}
use Rattle.lk_block.specs.Members.{member_at, IsMemberIn}
use Rattle.lk_block.specs.declared.positive.Step.{Step}
use Rattle.lk_block.specs.declared.positive.Step.TheVariants.{Ends, Under}

-- the end of the walk, with the type of the block that it comes to, or the Local for a Pi's domain and the Pi's opened body
pub data Walked : Type 0 where
  ends : Option (Name × List Tree) → Walked
  goes_under : Tree → Tree → Walked

-- the kind of a field with these Locals
abbrev pub kind_with : List Tree → Option (Name × List Tree) → FieldKind
kind_with ys None = plain
kind_with ys (Some t) = recursive ys t.0 t.1

abbrev pub under_all : List Tree → FieldKind → FieldKind
under_all ys plain = plain
under_all ys (recursive zs T is) = recursive (ys ++ zs) T is

abbrev pub member_step : Option (Name × List Tree) → Program Walked
member_step (Some t) = done (ends (Some t))
member_step None = refuse NotPositive

abbrev pub under_step : Frame → ℕ → Tree → Tree → Program Walked
under_step F j D E = if mentions F.names D then refuse NotPositive else done (goes_under (local j D) (opened E (local j D)))

-- a weak head form that mentions a type of the block
abbrev pub inner_step : Frame → ℕ → Tree → Program Walked
inner_step F j (pi D E) = under_step F j D E
inner_step F j A = member_step (as_member F (head A) (args A))

abbrev pub form_step : Frame → ℕ → Tree → Program Walked
form_step F j A = if mentions F.names A then inner_step F j A else done (ends None)

abbrev pub walk_step : Frame → ℕ → Tree → Program Walked
walk_step F j A = asked (whnf A) >>= λ A'. form_step F j A'

-- how the walk goes on
abbrev pub followed : (ℕ → Tree → Program FieldKind) → ℕ → Walked → Program FieldKind
followed next j (ends o) = done (kind_with [] o)
followed next j (goes_under L E) = next (suc j) E >>= λ k. done (under L k)

abbrev pub step_at : Contents → Step → Walked
step_at c (Ends o) = ends (member_at c o)
step_at c (Under L E) = goes_under (tree_at c L) (tree_at c E)

abbrev pub IsStepIn : Contents → Step → Type 0
IsStepIn c (Ends o) = IfSome o (IsMemberIn c)
IsStepIn c (Under L E) = (L < length c.trees) × (E < length c.trees)

-- the body that is gone under mentions one of the names
abbrev pub GoesUnderMention : List Name → Contents → Step → Type 0
GoesUnderMention ns c (Ends o) = Unit {0}
GoesUnderMention ns c (Under L E) = mentions ns (tree_at c E) ≡ true
