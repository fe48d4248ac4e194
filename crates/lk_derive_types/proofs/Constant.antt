-- Rows of constants and literals.
use Rattle.std.proofs.Common.{ℕ, ◌≡◌, ◌<◌, true, false, nat_eq, length, List, [], Some, None, subst, sym, ◌∙◌, arith}
use Rattle.std.proofs.lemmas.Bool.Decides.{nat_tests}
use Rattle.lk_store.specs.Contents.{Contents, tree_at, Extends}
use Rattle.lk_env.specs.declared.entry.Entry.{Entry as StoredEntry}
use Rattle.lk_env.specs.declared.unit.Unit.{Unit as StoredUnit}
use Rattle.lk_env.specs.Entries.{plain_entry}
use Rattle.lk_ask.proofs.Entries.{entry_type}
use Rattle.lk_tree.specs.Tree.{Tree, Name, Level, const, lit, str}
use Rattle.lk_tree.specs.Levels.{put_levels}
use Rattle.lk_tree.specs.WellFormed.{IsWellFormed}
use Rattle.lk_tree.specs.declared.rule.Rule.TheVariants.{LevelCount}
use Rattle.lk_rulebook.specs.Place.{Place, Entry}
use Rattle.lk_rulebook.specs.WellStated.{WellStated}
use Rattle.lk_rulebook.specs.Names.{named, nat, string}
use Rattle.lk_rulebook.specs.Rules.{IsGivenAt}
use Rattle.lk_questions.specs.Query.{infer}
use Rattle.lk_questions.specs.Program.{done}
use Rattle.lk_questions.specs.Steps.{with_levels}
use Rattle.lk_questions.specs.Shapes.{nat_shape, string_shape}
use Rattle.lk_questions.specs.Tests.{found}
use Rattle.lk_claims.proofs.Pieces.{Some_inj}
use Rattle.lk_written.specs.Line.{const_rule, lit_rule, str_rule}
use Rattle.lk_step.specs.Rows.{IsAnswered}
use Rattle.lk_step.specs.Runs.{Runs, IsOpened, RunsOn}
use Rattle.lk_step.specs.Shaped.{IsShapedAnswer}
use Rattle.lk_step.proofs.Runs.{opened_so, runs_on}
use Rattle.lk_step.proofs.Shapes.{shaped_answer}
use Rattle.lk_step.proofs.TypingSteps.{typing_steps}
use Rattle.lk_derive_types.specs.TypeRows.{IsTypedRow, HasType}
use Rattle.lk_derive_types.proofs.RunParts.{given_run, quiet_run}
use Rattle.lk_derive_types.proofs.NoQuestions.{atom_row}
use Rattle.lk_derive_types.proofs.QuietShapes.{quiet_nat, quiet_string}

pub numbers_equal : (m n : ℕ) → nat_eq m n ≡ true → m ≡ n
numbers_equal m n e = grind (arith, nat_tests)

const_run : (w : Place) (g : Entry) (ls : List Level) (T : Tree) (n : ℕ) → Runs w (with_levels g ls g.type) T n → (nat_eq (length ls) (length g.levels) ≡ true) × (put_levels g.levels ls g.type ≡ T)
const_run w g ls T n h =
    let x : (nat_eq (length ls) (length g.levels) ≡ true) × Runs w (done (put_levels g.levels ls g.type)) T n = given_run w (nat_eq (length ls) (length g.levels)) LevelCount (done (put_levels g.levels ls g.type)) T n h in
    (x.0, x.1.0)

pub const_typed : (w : Place) → WellStated w → (c : Name) (ls : List Level) → HasType w (const c ls) → (g : Entry) → w.means c ≡ Some g →
    (nat_eq (length ls) (length g.levels) ≡ true) × IsTypedRow w const_rule (const c ls) (put_levels g.levels ls g.type) [] []
const_typed w ok c ls h g m =
    let o : IsOpened w (infer (const c ls)) h.0 h.1 = opened_so w (infer (const c ls)) h.0 h.1 h.2 in
    let same : o.2.0 ≡ g = Some_inj (sym o.2.1 ∙ m) in
    let run : Runs w (with_levels g ls g.type) h.0 o.0 = subst (λ (e : Entry). Runs w (with_levels e ls e.type) h.0 o.0) same o.2.2 in
    let x : (nat_eq (length ls) (length g.levels) ≡ true) × (put_levels g.levels ls g.type ≡ h.0) = const_run w g ls h.0 o.0 run in
    let a : IsAnswered w (infer (const c ls)) (put_levels g.levels ls g.type) h.1 = subst (λ z. IsAnswered w (infer (const c ls)) z h.1) (sym x.1) h.2 in
    let s : IsShapedAnswer (infer (const c ls)) (put_levels g.levels ls g.type) = shaped_answer w ok (infer (const c ls)) (put_levels g.levels ls g.type) h.1 tt a in
    let i : IsGivenAt w c ls = record { entry = g; given = m; levels_are = numbers_equal (length ls) (length g.levels) x.0 } in
    (x.0, atom_row w const_rule (const c ls) (put_levels g.levels ls g.type) h.1 a ((typing_steps w).consts c ls i s.0.1))

-- a constant that has a type means something, and has as many levels as are stated
pub const_means : (w : Place) (c : Name) (ls : List Level) → HasType w (const c ls) → w.means c ≡ None → ⊥
const_means w c ls h m =
    let o : IsOpened w (infer (const c ls)) h.0 h.1 = opened_so w (infer (const c ls)) h.0 h.1 h.2 in
    let e : Some o.2.0 ≡ None = sym o.2.1 ∙ m in
    absurd cc

pub const_levels : (w : Place) → WellStated w → (c : Name) (ls : List Level) → HasType w (const c ls) → (g : Entry) → w.means c ≡ Some g → nat_eq (length ls) (length g.levels) ≡ false → ⊥
const_levels w ok c ls h g m f =
    let e : nat_eq (length ls) (length g.levels) ≡ true = (const_typed w ok c ls h g m).0 in
    absurd cc

-- what an entry states is its type, also in a store above the library's
pub stated_at : (b c : Contents) (us : List StoredUnit) (e : StoredEntry) (g : Entry) → Extends b c → e.stated < length b.trees → plain_entry b us e ≡ Some g → tree_at c e.stated ≡ g.type
stated_at b c us e g x l h = x.trees.same e.stated l ∙ sym (entry_type b us e g h)

pub lit_typed : (w : Place) (n : ℕ) → IsWellFormed (lit n) → HasType w (lit n) → IsTypedRow w lit_rule (lit n) (named nat) [] []
lit_typed w n f h =
    let o : IsOpened w (infer (lit n)) h.0 h.1 = opened_so w (infer (lit n)) h.0 h.1 h.2 in
    let r : RunsOn w nat_shape (λ u. done (named nat)) h.0 o.0 = runs_on w nat_shape (λ u. done (named nat)) h.0 o.0 o.2 in
    let q : (found w nat_shape ≡ Some r.value) × (r.first ≡ 0) = quiet_run w nat_shape r.value r.first quiet_nat r.runs in
    let e : named nat ≡ h.0 = r.then_runs.0 in
    atom_row w lit_rule (lit n) (named nat) h.1 (subst (λ z. IsAnswered w (infer (lit n)) z h.1) (sym e) h.2) ((typing_steps w).lits n q.0 f)

pub str_typed : (w : Place) (s : List ℕ) → HasType w (str s) → IsTypedRow w str_rule (str s) (named string) [] []
str_typed w s h =
    let o : IsOpened w (infer (str s)) h.0 h.1 = opened_so w (infer (str s)) h.0 h.1 h.2 in
    let r : RunsOn w string_shape (λ u. done (named string)) h.0 o.0 = runs_on w string_shape (λ u. done (named string)) h.0 o.0 o.2 in
    let q : (found w string_shape ≡ Some r.value) × (r.first ≡ 0) = quiet_run w string_shape r.value r.first quiet_string r.runs in
    let e : named string ≡ h.0 = r.then_runs.0 in
    atom_row w str_rule (str s) (named string) h.1 (subst (λ z. IsAnswered w (infer (str s)) z h.1) (sym e) h.2) ((typing_steps w).strs s q.0)
