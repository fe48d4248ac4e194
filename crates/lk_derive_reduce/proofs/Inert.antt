-- Applications whose heads are not reduced.
use Rattle.std.proofs.Common.{ℕ, ◌≡◌, List, Option, Some, None, refl, sym, subst, ◌∙◌}
use Rattle.lk_tree.specs.Tree.{Name, Level, Tree, const}
use Rattle.lk_tree.specs.Spine.{head, args}
use Rattle.lk_rulebook.specs.Place.{Place, Entry}
use Rattle.lk_questions.specs.Query.{core}
use Rattle.lk_questions.specs.Program.{Program, done, look}
use Rattle.lk_tree.specs.declared.rule.Rule.TheVariants.{UnknownConstant}
use Rattle.lk_questions.specs.Core.{core_steps, core_applied}
use Rattle.lk_questions.specs.Iota.{core_constant}
use Rattle.lk_store.specs.Contents.{Contents}
use Rattle.lk_step.specs.declared.step.Row.{Row}
use Rattle.lk_step.specs.Rows.{IsClaim}
use Rattle.lk_step.specs.Runs.{Runs, IsOpened}
use Rattle.lk_step.proofs.Runs.{opened_so}
use Rattle.lk_step.specs.Parts.{IsWhole, IsEmpty}
use Rattle.lk_derive_reduce.specs.Forms.{IsApp, IsInert}
use Rattle.lk_derive_reduce.proofs.CoreRuns.{app_steps}
use Rattle.lk_step.proofs.PartsIn.{itself_whole}
use Rattle.lk_derive_reduce.proofs.CoreRows.{stays_whole}

pub rigid_whole : (w : Place) (most : ℕ) (c : Contents) (r : Row) (e h : Tree) → IsApp e → h ≡ head e → ((z : Tree) (xs : List Tree) → core_applied z h xs ≡ done z) → IsEmpty r → IsClaim w (core e) most → IsWhole w c (core e) r
rigid_whole w most c r e h a eh rigid empty k = stays_whole w most c r e (app_steps e a ∙ subst (λ z. core_applied e z (args e) ≡ done e) eh (rigid e (args e))) empty k

pub inert_whole : (w : Place) (most : ℕ) (c : Contents) (r : Row) (e : Tree) (f : Name) (ls : List Level) (o : Option Entry) → IsApp e → const f ls ≡ head e → w.means f ≡ o → ((g : Entry) → o ≡ Some g → IsInert g.kind) → IsEmpty r → IsClaim w (core e) most → IsWhole w c (core e) r
inert_whole w most c r e f ls o a eh m inert empty k =
    let op : IsOpened w (core e) k.answer k.cost = opened_so w (core e) k.answer k.cost k.answered in
    let is : core_steps e ≡ look UnknownConstant f (λ g. core_constant e f ls (args e) g g.kind) = app_steps e a ∙ subst (λ z. core_applied e z (args e) ≡ look UnknownConstant f (λ g. core_constant e f ls (args e) g g.kind)) eh refl in
    let run = subst (λ (p : Program Tree). Runs w p k.answer op.0) is op.2 in
    let last : Runs w (done e) k.answer op.0 = subst (λ (p : Program Tree). Runs w p k.answer op.0) (inert run.0 (sym m ∙ run.1) e f ls (args e) run.0) run.2 in
    itself_whole w most c r e empty k (sym last.0) op.0 op.1

pub is_meant : (w : Place) (most : ℕ) (e : Tree) (f : Name) (ls : List Level) → IsApp e → const f ls ≡ head e → IsClaim w (core e) most → w.means f ≡ None → ⊥
is_meant w most e f ls a eh k none =
    let op : IsOpened w (core e) k.answer k.cost = opened_so w (core e) k.answer k.cost k.answered in
    let is : core_steps e ≡ look UnknownConstant f (λ g. core_constant e f ls (args e) g g.kind) = app_steps e a ∙ subst (λ z. core_applied e z (args e) ≡ look UnknownConstant f (λ g. core_constant e f ls (args e) g g.kind)) eh refl in
    let run = subst (λ (p : Program Tree). Runs w p k.answer op.0) is op.2 in
    let some : w.means f ≡ Some run.0 = run.1 in
    absurd cc
