-- Runs of a projection, up to its structure's parameters.
use Rattle.std.proofs.Common.{ℕ, suc, ◌≡◌, ◌≤◌, ◌<◌, ◌+◌, Bool, true, ◌&&◌, nat_eq, nat_lt, List, [], ◌∷◌, length, Option, Some, None, refl, subst, sym, arith}
use Rattle.std.proofs.lemmas.Bool.{and_parts}
use Rattle.std.proofs.lemmas.Bool.Decides.{nat_tests}
use Rattle.lk_tree.specs.Tree.{Name, Level, Tree, sort, proj}
use Rattle.lk_tree.specs.Level.{is_zero_level}
use Rattle.lk_tree.specs.Levels.{put_levels}
use Rattle.lk_tree.specs.Spine.{head, args}
use Rattle.lk_tree.specs.declared.rule.Rule.TheVariants.{BadProjection, LevelCount}
use Rattle.lk_rulebook.specs.Place.{Place, Entry, Kind, Block, BlockType, Ctor, a_type}
use Rattle.lk_questions.specs.Query.{infer, whnf}
use Rattle.lk_questions.specs.Program.{Program, done, ask, ◌>>=◌}
use Rattle.lk_questions.specs.Steps.{sort_of, with_params}
use Rattle.lk_questions.specs.Iota.{levels_at}
use Rattle.lk_questions.specs.Projections.{past_parameters, field_type, of_struct, of_kind, of_type}
use Rattle.lk_step.specs.Rows.{IsAnswered}
use Rattle.lk_step.specs.Runs.{Runs, IsOpened, RunsOn, AreOne}
use Rattle.lk_step.specs.Told.{IsAnsweredWithin, IsType, IsForm}
use Rattle.lk_step.proofs.Runs.{opened_so, one_answer, runs_on}
use Rattle.lk_derive_types.specs.Parts.{IsSortedWithin}
use Rattle.lk_derive_types.specs.Projections.{projected}
use Rattle.lk_derive_types.specs.Subjects.{IsStructureType, constructor_type, IsFormedWithin}
use Rattle.lk_derive_types.proofs.RunParts.{SortRun, sort_run, given_run}
use Rattle.lk_derive_types.proofs.Constant.{numbers_equal}
use Rattle.lk_derive_types.proofs.FieldRuns.{level_is}

-- what a run says once the type of the subject is there
record StructureRun (w : Place) (S : Name) (i : ℕ) (s T R : Tree) (n : ℕ) : Type 0 where
  structure : IsStructureType w S T
  below : i < structure.ctor.fields
  between : Tree
  level : Level
  first : ℕ
  second : ℕ
  left : ℕ
  typed : IsAnswered w (infer T) between first
  sorted : IsAnswered w (whnf between) (sort level) second
  runs : Runs w (projected S i s (is_zero_level level) (args T) structure.ind.parameters (constructor_type structure)) R left
  paid : n ≡ first + (second + left)

less_number : (m n : ℕ) → nat_lt m n ≡ true → m < n
less_number m n e = grind (arith, nat_tests)

module _ (w : Place) (S : Name) (i : ℕ) (s T R : Tree) (n : ℕ) (ls : List Level) (levels_are : levels_at S (head T) ≡ Some ls) (g : Entry) (given_is : w.means S ≡ Some g) where
  -- what is done with the level of the structure
  abbrev behind_sort : BlockType → Ctor → Level → Program Tree
  behind_sort ind c l = with_params c.levels ls c.type >>= (λ r. past_parameters (args T) ind.parameters r >>= field_type S s (is_zero_level l) 0 i)

  by_ctors : (block : Block) (ind : BlockType) → g.kind ≡ a_type block ind → (cs : List Ctor) → ind.ctors ≡ cs → Runs w (of_struct S i s T ls ind cs) R n → StructureRun w S i s T R n
  by_ctors block ind k [] e h = absurd h
  by_ctors block ind k (c ∷ d ∷ ds) e h = absurd h
  by_ctors block ind k (c ∷ []) e h =
      let counts : Bool = nat_eq (length (args T)) (ind.parameters + ind.indices) && nat_lt i c.fields in
      let u : (counts ≡ true) × Runs w (sort_of T >>= behind_sort ind c) R n = given_run w counts BadProjection (sort_of T >>= behind_sort ind c) R n h in
      let both = and_parts (nat_eq (length (args T)) (ind.parameters + ind.indices)) (nat_lt i c.fields) u.0 in
      let r : SortRun w T (behind_sort ind c) R n = sort_run w T (behind_sort ind c) R n u.1 in
      let k₁ : Tree → Program Tree = λ t. past_parameters (args T) ind.parameters t >>= field_type S s (is_zero_level r.level) 0 i in
      let o : RunsOn w (with_params c.levels ls c.type) k₁ R r.more = runs_on w (with_params c.levels ls c.type) k₁ R r.more r.then_runs in
      let v : (nat_eq (length ls) (length c.levels) ≡ true) × Runs w (done (put_levels c.levels ls c.type)) o.value o.first = given_run w (nat_eq (length ls) (length c.levels)) LevelCount (done (put_levels c.levels ls c.type)) o.value o.first o.runs in
      let value_is : put_levels c.levels ls c.type ≡ o.value = v.1.0 in
      let nothing : o.first ≡ 0 = v.1.1 in
      let p : n ≡ r.first + (r.second + r.more) = r.paid in
      let q : r.more ≡ o.first + o.second = o.paid in
      record {
        structure = record {
          levels = ls;
          entry = g;
          block = block;
          ind = ind;
          ctor = c;
          levels_are = levels_are;
          given = given_is;
          kind = k;
          one_ctor = e;
          level_count = numbers_equal (length ls) (length c.levels) v.0;
          count = numbers_equal (length (args T)) (ind.parameters + ind.indices) both.0;
        };
        below = less_number i c.fields both.1;
        between = r.between;
        level = r.level;
        first = r.first;
        second = r.second;
        left = o.second;
        typed = r.typed;
        sorted = r.reduced;
        runs = subst (λ z. Runs w (projected S i s (is_zero_level r.level) (args T) ind.parameters z) R o.second) (sym value_is) o.then_runs;
        paid = omega (arith, p, q, nothing);
      }

  by_kind : (k : Kind) → g.kind ≡ k → Runs w (of_kind S i s T ls k) R n → StructureRun w S i s T R n
  by_kind (a_type block ind) e h = by_ctors block ind e ind.ctors refl h
  by_kind _ e h = absurd h

by_type : (w : Place) (S : Name) (i : ℕ) (s T R : Tree) (n : ℕ) (o : Option (List Level)) → levels_at S (head T) ≡ o → Runs w (of_type S i s T o) R n → StructureRun w S i s T R n
by_type w S i s T R n None e h = absurd h
by_type w S i s T R n (Some ls) e h = by_kind w S i s T R n ls e h.0 h.1 (h.0).kind refl h.2

-- what a run says, by the answers that its row is told
pub record ProjectionRun (w : Place) (S : Name) (i : ℕ) (s T₀ T Z : Tree) (l : Level) (R : Tree) (most : ℕ) : Type 0 where
  pub cost : ℕ
  pub answered : IsAnswered w (infer (proj S i s)) R cost
  pub first : ℕ
  pub second : ℕ
  pub third : ℕ
  pub fourth : ℕ
  pub left : ℕ
  pub typed : IsAnswered w (infer s) T₀ first
  pub reduced : IsAnswered w (whnf T₀) T second
  pub structure : IsStructureType w S T
  pub below : i < structure.ctor.fields
  pub sort_typed : IsAnswered w (infer T) Z third
  pub sorted : IsAnswered w (whnf Z) (sort l) fourth
  pub runs : Runs w (projected S i s (is_zero_level l) (args T) structure.ind.parameters (constructor_type structure)) R left
  pub paid : cost ≡ suc (first + (second + (third + (fourth + left))))
  pub within : cost ≤ most

pub record SomeRun (w : Place) (S : Name) (i : ℕ) (s : Tree) (most : ℕ) : Type 0 where
  pub between : Tree
  pub form : Tree
  pub sort_type : Tree
  pub level : Level
  pub type : Tree
  pub run : ProjectionRun w S i s between form sort_type level type most

pub some_run : (w : Place) (S : Name) (i : ℕ) (s : Tree) (most : ℕ) → IsAnsweredWithin w (infer (proj S i s)) most → SomeRun w S i s most
some_run w S i s most h =
    let o : IsOpened w (infer (proj S i s)) h.0 h.1 = opened_so w (infer (proj S i s)) h.0 h.1 h.2 in
    let r : Runs w (ask (infer s) (λ U. ask (whnf U) (λ T. of_type S i s T (levels_at S (head T))))) h.0 o.0 = o.2 in
    let q : Runs w (ask (whnf r.0) (λ T. of_type S i s T (levels_at S (head T)))) h.0 r.2 = r.4 in
    let t : StructureRun w S i s q.0 h.0 q.2 = by_type w S i s q.0 h.0 q.2 (levels_at S (head q.0)) refl q.4 in
    let a : h.1 ≡ suc o.0 = o.1 in
    let b : o.0 ≡ r.1 + r.2 = r.5 in
    let d : r.2 ≡ q.1 + q.2 = q.5 in
    let e : q.2 ≡ t.first + (t.second + t.left) = t.paid in
    record {
      between = r.0;
      form = q.0;
      sort_type = t.between;
      level = t.level;
      type = h.0;
      run = record {
        cost = h.1;
        answered = h.2;
        first = r.1;
        second = q.1;
        third = t.first;
        fourth = t.second;
        left = t.left;
        typed = r.3;
        reduced = q.3;
        structure = t.structure;
        below = t.below;
        sort_typed = t.typed;
        sorted = t.sorted;
        runs = t.runs;
        paid = omega (arith, a, b, d, e);
        within = h.3;
      };
    }

-- the answers that are told are the run's
pub subject_told : (w : Place) (S : Name) (i : ℕ) (s T₀ T Z U₀ U : Tree) (l : Level) (R : Tree) (most : ℕ) → ProjectionRun w S i s T₀ T Z l R most → IsType w s U₀ → IsForm w U₀ U → ProjectionRun w S i s U₀ U Z l R most
subject_told w S i s T₀ T Z U₀ U l R most r t f =
    let o : AreOne U₀ T₀ t.cost r.first = one_answer w (infer s) U₀ T₀ t.cost r.first t.answered r.typed in
    let r₁ : ProjectionRun w S i s U₀ T Z l R most = subst (λ z. ProjectionRun w S i s z T Z l R most) (sym o.answer) r in
    let u : AreOne U T f.cost r₁.second = one_answer w (whnf U₀) U T f.cost r₁.second f.answered r₁.reduced in
    subst (λ z. ProjectionRun w S i s U₀ z Z l R most) (sym u.answer) r₁

pub sort_told : (w : Place) (S : Name) (i : ℕ) (s T₀ T Z Y : Tree) (l m : Level) (R : Tree) (most : ℕ) → ProjectionRun w S i s T₀ T Z l R most → IsType w T Y → IsForm w Y (sort m) → ProjectionRun w S i s T₀ T Y m R most
sort_told w S i s T₀ T Z Y l m R most r t f =
    let o : AreOne Y Z t.cost r.third = one_answer w (infer T) Y Z t.cost r.third t.answered r.sort_typed in
    let r₁ : ProjectionRun w S i s T₀ T Y l R most = subst (λ z. ProjectionRun w S i s T₀ T z l R most) (sym o.answer) r in
    let u : AreOne (sort m) (sort l) f.cost r₁.fourth = one_answer w (whnf Y) (sort m) (sort l) f.cost r₁.fourth f.answered r₁.sorted in
    subst (λ z. ProjectionRun w S i s T₀ T Y z R most) (sym (level_is m l u.answer)) r₁

-- what may be asked for
pub subject_formed : (w : Place) (S : Name) (i : ℕ) (s : Tree) (most : ℕ) → IsAnsweredWithin w (infer (proj S i s)) most → IsFormedWithin w s most
subject_formed w S i s most h =
    let o : SomeRun w S i s most = some_run w S i s most h in
    let r : ProjectionRun w S i s o.between o.form o.sort_type o.level o.type most = o.run in
    let p : r.cost ≡ suc (r.first + (r.second + (r.third + (r.fourth + r.left)))) = r.paid in
    let l : r.cost ≤ most = r.within in
    record { between = o.between; form = o.form; first = r.first; second = r.second; typed = r.typed; reduced = r.reduced; first_within = omega (arith, p, l); second_within = omega (arith, p, l) }

pub structure_sorted : (w : Place) (S : Name) (i : ℕ) (s T₀ T Z : Tree) (l : Level) (R : Tree) (most : ℕ) → ProjectionRun w S i s T₀ T Z l R most → IsSortedWithin w T most
structure_sorted w S i s T₀ T Z l R most r =
    let p : r.cost ≡ suc (r.first + (r.second + (r.third + (r.fourth + r.left)))) = r.paid in
    let e : r.cost ≤ most = r.within in
    record { between = Z; level = l; first = r.third; second = r.fourth; typed = r.sort_typed; reduced = r.sorted; first_within = omega (arith, p, e); second_within = omega (arith, p, e) }
