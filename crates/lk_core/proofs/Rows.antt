-- What Core does at an application.
use Rattle.std.proofs.Common.{◌≡◌, sym, subst}
use Rattle.lk_tree.specs.Tree.{Tree, app}
use Rattle.lk_tree.specs.Spine.{head, args}
use Rattle.lk_questions.specs.Program.{Program}
use Rattle.lk_questions.specs.Core.{core_applied, core_steps}

-- it goes by its head and its arguments
pub app_row_is : (P : Program Tree → Type 0) (e f a : Tree) → app f a ≡ e → P (core_applied e (head e) (args e)) → P (core_steps e)
unfolding head args
app_row_is P e f a is h = subst (λ t. P (core_steps t)) is (subst (λ t. P (core_applied t (head t) (args t))) (sym is) h)
