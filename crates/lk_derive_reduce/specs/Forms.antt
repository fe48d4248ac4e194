-- Forms of trees, and what a run of Core says of each.
use Rattle.std.specs.Prelude.{ℕ, ◌≡◌, ◌<◌, ◌≤◌, ◌+◌, true, false, List, [], ◌∷◌, length, Option, Some, None}
use Rattle.lk_tree.specs.Tree.{Name, Level, Tree, const, app, lam, let_in, proj}
use Rattle.lk_tree.specs.Spine.{apply, head, args}
use Rattle.lk_tree.specs.WellFormed.{IsWellFormed}
use Rattle.lk_rulebook.specs.Place.{Place, Entry, Kind}
use Rattle.lk_rulebook.specs.Claims.{Claim, reduces}
use Rattle.lk_questions.specs.Query.{core, whnf}
use Rattle.lk_questions.specs.Core.{core_applied, core_steps, unfolded, whnf_headed}
use Rattle.lk_questions.specs.Iota.{core_constant}
use Rattle.lk_questions.specs.LiteralLines.{step_of}
use Rattle.lk_questions.specs.Steps.{is_same_tree, value_of}
use Rattle.lk_written.specs.Line.{ReductionRule, delta_rule}
use Rattle.lk_questions.specs.Program.{done}
use Rattle.lk_store.specs.Contents.{Contents, name_at, list_at, tree_at}
use Rattle.lk_env.specs.declared.entry.Entry.{Entry as StoredEntry}
use Rattle.lk_ask.specs.Looks.{Basis, entry_at}
use Rattle.lk_ask.specs.declared.query.Query.TheVariants.{Core}
use Rattle.lk_ask.specs.declared.next.Next.TheVariants.{Ask}
use Rattle.lk_core.specs.declared.core_form.CoreStep.{CoreStep}
use Rattle.lk_core.specs.declared.core_form.CoreStep.TheVariants.{Goes}
use Rattle.lk_step.specs.declared.step.Row.{Row}
use Rattle.lk_step.specs.Steps.{reduction, StepHolds}
use Rattle.lk_step.specs.Rows.{IsAnswered, IsThere}
use Rattle.lk_step.specs.Runs.{Runs}
use Rattle.lk_step.specs.Told.{IsAnsweredWithin}
use Rattle.lk_derive_reduce.specs.declared.forms.Constant.{Constant}
use Rattle.lk_derive_reduce.specs.declared.rows.CoreForm.{CoreForm}
use Rattle.lk_derive_reduce.specs.declared.rows.CoreForm.TheVariants.{Applied, Bound, Projected, Itself}
use Rattle.lk_derive_reduce.specs.declared.rows.HeadForm.{HeadForm}
use Rattle.lk_derive_reduce.specs.declared.rows.HeadForm.TheVariants.{Lambda, Stuck, Named, Rigid}
use Rattle.lk_step.specs.Parts.{IsNext, IsPartIn}
use Rattle.lk_derive_reduce.specs.Projections.{IsProjOf}

abbrev pub IsApp : Tree → Type 0
IsApp (app f a) = Unit {0}
IsApp _ = ⊥

abbrev pub IsLam : Tree → Type 0
IsLam (lam A b) = Unit {0}
IsLam _ = ⊥

-- a head that is asked for its own Core
abbrev pub IsStuck : Tree → Type 0
IsStuck (let_in A v b) = Unit {0}
IsStuck (proj S i s) = Unit {0}
IsStuck _ = ⊥

-- e is a let of this value and this body
pub record IsLetOf (e v b : Tree) : Type 0 where
  pub domain : Tree
  pub is : e ≡ let_in domain v b

-- e is Core of r by a step of this rule, which rests on nothing; r may be asked for within the budget
pub record Opens (w : Place) (most : ℕ) (rule : ReductionRule) (e r : Tree) : Type 0 where
  pub fine : IsWellFormed r
  pub holds : StepHolds w (reduction rule e r [])
  pub next : IsNext w e r
  pub within : IsAnsweredWithin w (core r) most

-- what Core of an application asks of Core of its head, which is stuck, and after it
pub record HeadRun (w : Place) (most : ℕ) (e : Tree) : Type 0 where
  pub value : Tree
  pub cost : ℕ
  pub answered : IsAnswered w (core e) value cost
  pub within : cost ≤ most
  pub form : Tree
  pub first : ℕ
  pub headed : IsAnswered w (core (head e)) form first
  pub second : ℕ
  pub paid : first + second < cost
  pub stays : is_same_tree form (head e) ≡ true → value ≡ e
  pub moves : is_same_tree form (head e) ≡ false →
      IsAnswered w (core (apply form (args e))) value second

-- the row stated that the head of e reduces to f, and states that e reduces to Core of f applied
pub record HeadGoes (w : Place) (c d : Contents) (old new : Row) (e f : Tree) : Type 0 where
  pub value : Tree
  pub cost : ℕ
  pub answered : IsAnswered w (core (apply f (args e))) value cost
  pub goes : IsApp e → is_same_tree f (head e) ≡ false → IsWellFormed e →
      IsWellFormed (apply f (args e)) → IsWellFormed value →
      (stated : List Claim) (spent : ℕ) → IsThere stated (reduces (head e) f) →
      IsPartIn w c old stated spent → IsPartIn w d new (reduces e value ∷ []) (spent + cost)

-- what the first step of Core asks for, where that is Core
abbrev pub asked_core : CoreStep → Option ℕ
asked_core (Goes (Ask (Core r) s)) = Some r
asked_core _ = None

-- what Whnf of e does behind Core, which is c: it asks for Whnf of n, to which c reduces by its value
pub record DeltaRun (w : Place) (d : Contents) (r : Row) (most : ℕ) (e c n : Tree) : Type 0 where
  pub value : Tree
  pub cost : ℕ
  pub answered : IsAnswered w (whnf e) value cost
  pub within : cost ≤ most
  pub fine : IsWellFormed e
  pub core_fine : IsWellFormed c
  pub next_fine : IsWellFormed n
  pub holds : StepHolds w (reduction delta_rule c n [])
  pub first : ℕ
  pub second : ℕ
  pub paid : first + second < cost
  pub part : IsPartIn w d r (reduces e c ∷ []) first
  pub next : IsAnswered w (whnf n) value second

-- it unfolds the head of c, a constant of this entry and these levels, where it has a value
pub record Unfolds (w : Place) (d : Contents) (r : Row) (most : ℕ) (e c : Tree) (g : Entry)
    (ls : List Level) : Type 0 where
  pub value : Tree
  pub cost : ℕ
  pub answered : IsAnswered w (whnf e) value cost
  pub within : cost ≤ most
  pub fine : IsWellFormed e
  pub core_fine : IsWellFormed c
  pub first : ℕ
  pub second : ℕ
  pub paid : first + second < cost
  pub part : IsPartIn w d r (reduces e c ∷ []) first
  pub name : Name
  pub head_is : head c ≡ const name ls
  pub given : w.means name ≡ Some g
  pub runs : Runs w (unfolded g (const name ls) c (value_of g.kind)) value second

-- the same of an entry of the library
pub record UnfoldsBy {B : Type 0} (b : Basis B) (d : Contents) (r : Row) (most : ℕ) (e c : Tree)
    (entry : StoredEntry) (ls : List Level) : Type 0 where
  pub plain : Entry
  pub is : entry_at b entry ≡ Some plain
  pub unfolds : Unfolds b.place d r most e c plain ls

-- Core of e is c, which the row states; what Whnf of e does behind it
pub record AtCore (w : Place) (d : Contents) (r : Row) (most : ℕ) (e c : Tree) : Type 0 where
  pub value : Tree
  pub cost : ℕ
  pub answered : IsAnswered w (whnf e) value cost
  pub within : cost ≤ most
  pub fine : IsWellFormed e
  pub core_fine : IsWellFormed c
  pub first : ℕ
  pub second : ℕ
  pub paid : first + second < cost
  pub part : IsPartIn w d r (reduces e c ∷ []) first
  pub runs : Runs w (whnf_headed c (head c)) value second

-- no run of the literal step of c gives a value
pub record ComputesNothing (w : Place) (c : Tree) : Type 0 where
  pub nothing : (r : Option Tree) (n : ℕ) → Runs w (step_of c (head c)) r n → r ≡ None

-- the tree is this constant, or no constant is there to look up
abbrev pub IsConstantAt : Contents → Tree → Option Constant → Type 0
IsConstantAt d h (Some k) =
    (k.name < length d.names) × (k.levels < length d.lists)
    × (const (name_at d k.name) (list_at d k.levels) ≡ h)
IsConstantAt d h None = (c : Tree) → whnf_headed c h ≡ done c

-- what Core does first at a tree
abbrev pub IsCoreForm : Contents → Tree → CoreForm → Type 0
IsCoreForm d t Applied = IsApp t
IsCoreForm d t (Bound v b) =
    (v < length d.trees) × (b < length d.trees) × IsLetOf t (tree_at d v) (tree_at d b)
IsCoreForm d t (Projected s) = (s < length d.trees) × IsProjOf t (tree_at d s)
IsCoreForm d t Itself = core_steps t ≡ done t

-- what Core of an application does first, by its head
abbrev pub IsHeadForm : Contents → Tree → HeadForm → Type 0
IsHeadForm d h Lambda = IsLam h
IsHeadForm d h Stuck = IsStuck h
IsHeadForm d h (Named k) =
    (k.name < length d.names) × (k.levels < length d.lists)
    × (const (name_at d k.name) (list_at d k.levels) ≡ h)
IsHeadForm d h Rigid = (e : Tree) (xs : List Tree) → core_applied e h xs ≡ done e

-- a constant of this kind is never at the head of what Core reduces
abbrev pub IsInert : Kind → Type 0
IsInert k =
    (e : Tree) (c : Name) (ls : List Level) (xs : List Tree) (g : Entry)
    → core_constant e c ls xs g k ≡ done e
