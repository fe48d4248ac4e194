-- How far Core of a recursor that is applied has come, and its row with it.
use Rattle.std.specs.Prelude.{ℕ, ◌≡◌, ◌<◌, ◌≤◌, ◌+◌, true, List, [], ◌∷◌, length, drop, slice_get}
use Rattle.std.specs.Prelude.{Option, Some, None}
use Rattle.lk_tree.specs.Tree.{Level, Tree, const}
use Rattle.lk_tree.specs.Spine.{head, apply}
use Rattle.lk_tree.specs.WellFormed.{IsWellFormed}
use Rattle.lk_rulebook.specs.Place.{Place, RecRule, a_ctor}
use Rattle.lk_rulebook.specs.Structures.{RecApp, on_major}
use Rattle.lk_rulebook.specs.Claims.{reduces}
use Rattle.lk_questions.specs.Query.{core}
use Rattle.lk_questions.specs.Program.{Program, asked, ◌>>=◌}
use Rattle.lk_questions.specs.Iota.{CtorApp, levels_at, k_from, to_ctor_when_k, builds_structure}
use Rattle.lk_questions.specs.Iota.{expand_at, to_ctor_when_structure, iota_at_ctor, iota_of}
use Rattle.lk_questions.specs.Iota.{fitting_rule}
use Rattle.lk_questions.specs.Iota.{iota_after_k, iota}
use Rattle.lk_written.specs.Line.{iota_rule, major_rule}
use Rattle.lk_spine.specs.Reading.{AreTrees}
use Rattle.lk_store.specs.Contents.{Contents, IsTree}
use Rattle.lk_env.specs.StoredLibrary.{StoredLibrary}
use Rattle.lk_step.specs.declared.step.Row.{Row}
use Rattle.lk_step.specs.Rows.{IsAnswered}
use Rattle.lk_step.specs.Steps.{reduction, StepHolds}
use Rattle.lk_step.specs.Runs.{Runs}
use Rattle.lk_step.specs.Parts.{IsPartIn}
use Rattle.lk_derive_iota.specs.declared.redexes.Redex.{Redex}
use Rattle.lk_derive_iota.specs.Only.{IsOnly, IfOnly}
use Rattle.lk_derive_iota.specs.Redexes.{IsRedex}

-- what Core is about to look at
pub data Stage : Type 0 where
  -- the recursor
  starts : Stage
  -- its only constructor, where it has K
  by_only : Option CtorApp → Stage
  -- the levels of the major premise's type, where it has K
  by_type : CtorApp → Tree → Option (List Level) → Stage
  -- the major premise, which K does not change
  at_major : Stage
  -- what stands for the major premise
  at_subject : Tree → Stage
  -- the only constructor, where that is none
  by_structure : Tree → Option CtorApp → Stage
  -- the levels of its type
  by_levels : Tree → CtorApp → Tree → Option (List Level) → Stage
  -- the constructor that stands for the major premise
  at_ctor : Option CtorApp → Stage
  -- what R on m reduces to by the rule at this place
  at_rule : ℕ → Tree → Tree → Stage

-- what it does then, where e is R on m, and then applied to these
abbrev pub program_of : {w : Place} → RecApp w → Tree → Tree → List Tree → Stage → Program Tree
program_of R e m rest starts =
    iota e R.entry R.levels R.recursor R.front (Some m) rest
program_of R e m rest (by_only b) = do
  d ← to_ctor_when_k R.recursor m b
  iota_after_k e R.entry R.levels R.recursor R.front m rest d
program_of R e m rest (by_type b T ks) = do
  d ← k_from b T ks
  iota_after_k e R.entry R.levels R.recursor R.front m rest d
program_of R e m rest at_major =
    iota_after_k e R.entry R.levels R.recursor R.front m rest None
program_of R e m rest (at_subject n) =
    iota_of e R.entry R.levels R.recursor R.front rest n
program_of R e m rest (by_structure n k) = do
  c ← to_ctor_when_structure n k
  iota_at_ctor e R.entry R.levels R.recursor R.front rest c
program_of R e m rest (by_levels n k T ls) = do
  c ← expand_at k n T ls
  iota_at_ctor e R.entry R.levels R.recursor R.front rest c
program_of R e m rest (at_ctor c) =
    iota_at_ctor e R.entry R.levels R.recursor R.front rest c
program_of R e m rest (at_rule i n v) = asked (core (apply v rest))

-- what was found before
abbrev pub FactsOf : {w : Place} → RecApp w → Stage → Type 0
FactsOf R starts = Unit {0}
FactsOf {w = w} R (by_only b) = (R.recursor.k ≡ true) × IfOnly w R.recursor b
FactsOf {w = w} R (by_type b T ks) =
    (R.recursor.k ≡ true) × IsOnly w R.recursor b × (levels_at b.ind.name (head T) ≡ ks)
FactsOf R at_major = Unit {0}
FactsOf R (at_subject n) = Unit {0}
FactsOf {w = w} R (by_structure n k) = IfOnly w R.recursor k
FactsOf {w = w} R (by_levels n k T ls) =
    IsOnly w R.recursor k × (builds_structure k ≡ true) × (levels_at k.ind.name (head T) ≡ ls)
FactsOf R (at_ctor c) = Unit {0}
FactsOf {w = w} R (at_rule i n v) =
    StepHolds w (reduction (iota_rule i) (on_major R n) v []) × IsWellFormed v

-- The row states that R on its major premise reduces to R on m, and Core of all goes on at this
-- stage. What the row asked, what was answered beside it, at this cost, and what comes behind cost
-- less together than all.
pub record IsUnderWay (w : Place) (l : StoredLibrary) (c : Contents) (r : Row) (most : ℕ)
    (u : Redex) (m : Tree) (s : Stage) (beside : ℕ) : Type 0 where
  pub R : RecApp w
  pub e : Tree
  pub first : Tree
  pub rest : List Tree
  pub redex : IsRedex c l u R e first rest
  pub e_is : apply (on_major R first) rest ≡ e
  pub value : Tree
  pub cost : ℕ
  pub answered : IsAnswered w (core e) value cost
  pub within : cost ≤ most
  pub fine : IsWellFormed e
  pub fine_at : IsWellFormed m
  pub spent : ℕ
  pub second : ℕ
  pub paid : spent + beside + second < cost
  pub part : IsPartIn w c r (reduces (on_major R first) (on_major R m) ∷ []) spent
  pub facts : FactsOf R s
  pub runs : Runs w (program_of R e first rest s) value second

-- The row states that R on its major premise reduces to v, and Core of all is that of v, applied to
-- what comes behind.
pub record IsReduced (w : Place) (c : Contents) (r : Row) (most : ℕ) (u : Redex) (v : Tree)
    : Type 0 where
  pub e : Tree
  pub from : Tree
  pub rest : List Tree
  pub application_is : IsTree c u.application e
  pub reached_is : IsTree c u.reached from
  pub behind_are : AreTrees c u.behind.items rest
  pub e_is : apply from rest ≡ e
  pub value : Tree
  pub cost : ℕ
  pub answered : IsAnswered w (core e) value cost
  pub within : cost ≤ most
  pub fine : IsWellFormed e
  pub fine_at : IsWellFormed v
  pub spent : ℕ
  pub second : ℕ
  pub paid : spent + second < cost
  pub part : IsPartIn w c r (reduces from v ∷ []) spent
  pub next : IsAnswered w (core (apply v rest)) value second

-- the row states that all of it reduces to v, whose Core it has
pub record IsBefore (w : Place) (c : Contents) (r : Row) (most : ℕ) (u : Redex) (v : Tree)
    : Type 0 where
  pub e : Tree
  pub application_is : IsTree c u.application e
  pub value : Tree
  pub cost : ℕ
  pub answered : IsAnswered w (core e) value cost
  pub within : cost ≤ most
  pub fine : IsWellFormed e
  pub fine_at : IsWellFormed v
  pub spent : ℕ
  pub second : ℕ
  pub paid : spent + second < cost
  pub part : IsPartIn w c r (reduces e v ∷ []) spent
  pub next : IsAnswered w (core v) value second

-- m is the constructor b applied
pub record IsBuilt (w : Place) (m : Tree) (b : CtorApp) : Type 0 where
  pub tree_is : m ≡ apply (const b.name b.levels) b.args
  pub given : w.means b.name ≡ Some b.entry
  pub kind : b.entry.kind ≡ a_ctor b.block b.ind b.ctor

-- the rule at this place is the one for the constructor m, which has these fields
pub record IsFitting (w : Place) (l : StoredLibrary) (c : Contents) (r : Row) (most : ℕ) (u : Redex)
    (m : Tree) (place : ℕ) (rule : RecRule) (fields : List Tree) : Type 0 where
  pub b : CtorApp
  pub built : IsBuilt w m b
  pub under : IsUnderWay w l c r most u m (at_ctor (Some b)) 0
  pub placed : slice_get under.R.recursor.rules place ≡ Some rule
  pub fits : fitting_rule under.R.recursor.rules b.name b.ctor.parameters (length b.args)
      ≡ Some rule
  pub fields_are : drop b.ctor.parameters b.args ≡ fields

-- the row states that the major premise reduces to W, which reads as n
pub record HasRead (w : Place) (l : StoredLibrary) (c : Contents) (r : Row) (most : ℕ) (u : Redex)
    (W n : Tree) : Type 0 where
  pub m : Tree
  pub under : IsUnderWay w l c r most u m (at_subject n) 0
  pub stated : IsPartIn w c r (reduces under.first W ∷ []) under.spent
  pub fine_read : IsWellFormed n
  pub holds : StepHolds w (reduction major_rule (on_major under.R under.first)
      (on_major under.R n) (reduces under.first W ∷ []))
