-- Rows of Whnf.
use Rattle.std.proofs.Common.{ℕ, ◌≡◌, ◌<◌, ◌≤◌, ◌+◌, Bool, true, false, nat_eq, List, [], ◌∷◌, length, Option, Some, None, refl, sym, subst, arith}
use Rattle.std.proofs.lemmas.Bool.Decides.{nat_tests}
use Rattle.lk_tree.specs.Tree.{Name, Level, Tree, const}
use Rattle.lk_tree.specs.Levels.{put_levels}
use Rattle.lk_tree.specs.Spine.{apply, head, args}
use Rattle.lk_tree.specs.WellFormed.{IsWellFormed, IsStated}
use Rattle.lk_tree.proofs.Spines.{fine_apply, well_formed_of_apply}
use Rattle.lk_tree.proofs.Within.{apply_head_args, fine_put_levels}
use Rattle.lk_tree.specs.declared.rule.Rule.TheVariants.{LevelCount}
use Rattle.lk_rulebook.specs.Place.{Place, Entry}
use Rattle.lk_rulebook.specs.WellStated.{WellStated}
use Rattle.lk_rulebook.specs.Claims.{reduces}
use Rattle.lk_rulebook.specs.Rules.{IsGivenAt}
use Rattle.lk_questions.specs.Query.{whnf}
use Rattle.lk_questions.specs.Program.{done, asked, ◌>>=◌}
use Rattle.lk_questions.specs.Steps.{given, value_of}
use Rattle.lk_questions.specs.Core.{unfolded}
use Rattle.lk_claims.proofs.Pieces.{has_value, value_stated}
use Rattle.lk_written.specs.Line.{delta_rule}
use Rattle.lk_store.specs.Contents.{Contents, Extends}
use Rattle.lk_step.specs.declared.step.Row.{Row}
use Rattle.lk_step.specs.Steps.{reduction, StepHolds}
use Rattle.lk_step.specs.Rows.{IsAnswered}
use Rattle.lk_step.specs.Runs.{Runs, AreOne}
use Rattle.lk_step.specs.Shaped.{IsShapedAnswer}
use Rattle.lk_step.specs.Told.{IsAnsweredWithin}
use Rattle.lk_step.proofs.Runs.{one_answer, runs_asked}
use Rattle.lk_step.proofs.Shapes.{shaped_answer}
use Rattle.lk_step.proofs.ReductionSteps.{reduction_steps}
use Rattle.lk_step.specs.Parts.{IsPartIn, States, Chains, FollowsForm, IsWhole}
use Rattle.lk_derive_reduce.specs.Forms.{DeltaRun, Unfolds}
use Rattle.lk_step.proofs.Parts.{first, behind}
use Rattle.lk_step.proofs.PartsIn.{part_stays, part_whole}

pub delta_within : (w : Place) (d : Contents) (r : Row) (most : ℕ) (e c n : Tree) → DeltaRun w d r most e c n → IsAnsweredWithin w (whnf n) most
delta_within w d r most e c n h =
    let paid : h.first + h.second < h.cost = h.paid in
    let within : h.cost ≤ most = h.within in
    (h.value, h.second, h.next, omega arith)

pub delta_whole : (w : Place) (most : ℕ) (c0 d : Contents) (old one two new : Row) (e c n : Tree) → WellStated w → DeltaRun w c0 old most e c n → (StepHolds w (reduction delta_rule c n []) → States w c0 old one [] (reduces c n)) → Chains c0 one two e c n →
    FollowsForm w c0 d two new e n → IsWhole w d (whnf e) new
delta_whole w most c0 d old one two new e c n ok h s k f =
    let same : AreOne f.value h.value f.cost h.second = one_answer w (whnf n) f.value h.value f.cost h.second f.answered h.next in
    let paid : h.first + h.second < h.cost = h.paid in
    let cost : f.cost ≡ h.second = same.cost in
    let shape : IsShapedAnswer (whnf n) f.value = shaped_answer w ok (whnf n) f.value f.cost h.next_fine f.answered in
    let p : IsPartIn w c0 one (reduces c n ∷ reduces e c ∷ []) h.first = s h.holds (reduces e c ∷ []) h.first tt h.part in
    let q : IsPartIn w c0 two (reduces e n ∷ reduces c n ∷ reduces e c ∷ []) h.first =
    k.states w h.fine h.next_fine (reduces c n ∷ reduces e c ∷ []) h.first (behind (reduces c n) (reduces e c ∷ []) (reduces e c) (first (reduces e c) []), (first (reduces c n) (reduces e c ∷ []), tt)) p in
    let last : IsPartIn w d new (reduces e f.value ∷ []) (h.first + f.cost) = f.goes h.fine h.next_fine shape.0.1 (reduces e n ∷ reduces c n ∷ reduces e c ∷ []) h.first (first (reduces e n) (reduces c n ∷ reduces e c ∷ [])) q in
    part_whole w d new (whnf e) f.value h.cost (h.first + f.cost) [] (subst (λ u. IsAnswered w (whnf e) u h.cost) (sym same.answer) h.answered) tt (omega arith) last

-- a run that unfolds by a value
pub record ByValue (w : Place) (g : Entry) (ls : List Level) (c v value : Tree) (n : ℕ) : Type 0 where
  pub count : nat_eq (length ls) (length g.levels) ≡ true
  pub answered : IsAnswered w (whnf (apply (put_levels g.levels ls v) (args c))) value n

pub value_run : (w : Place) (g : Entry) (f : Name) (ls : List Level) (c v value : Tree) (n : ℕ) → Runs w (unfolded g (const f ls) c (Some v)) value n → ByValue w g ls c v value n
value_run w g f ls c v value n h = go (nat_eq (length ls) (length g.levels)) refl h
  where
    go : (b : Bool) → nat_eq (length ls) (length g.levels) ≡ b → Runs w (given b LevelCount (done (put_levels g.levels ls v)) >>= λ u. asked (whnf (apply u (args c)))) value n → ByValue w g ls c v value n
    go true t r = record { count = t; answered = runs_asked w (whnf (apply (put_levels g.levels ls v) (args c))) value n r }
    go false t r = absurd r

-- the run, at a store that has grown
pub delta_run : (w w' : Place) (most : ℕ) (c0 d : Contents) (r : Row) (e e' c c' v n : Tree) (g : Entry) (ls : List Level) → w' ≡ w → e' ≡ e → c' ≡ c → n ≡ apply (put_levels g.levels ls v) (args c) → WellStated w → Extends c0 d → value_of g.kind ≡ Some v →
    Unfolds w c0 r most e c g ls → DeltaRun w' d r most e' c' n
delta_run w w' most c0 d r e e' c c' v n g ls ew ee ec en ok x is u =
    let runs : Runs w (unfolded g (const u.name ls) c (Some v)) u.value u.second = subst (λ (o : Option Tree). Runs w (unfolded g (const u.name ls) c o) u.value u.second) is u.runs in
    let b : ByValue w g ls c v u.value u.second = value_run w g u.name ls c v u.value u.second runs in
    let count : length ls ≡ length g.levels = grind (arith, nat_tests, b.count) in
    let at : IsGivenAt w u.name ls = record { entry = g; given = u.given; levels_are = count } in
    let eq : apply (head c) (args c) ≡ c = apply_head_args c in
    let eq' : apply (const u.name ls) (args c) ≡ c = subst (λ z. apply z (args c) ≡ c) u.head_is eq in
    let fc : IsWellFormed (apply (const u.name ls) (args c)) = subst IsWellFormed (sym eq') u.core_fine in
    let s : IsStated v = value_stated g.kind v (ok u.name g u.given).1 is in
    let fn : IsWellFormed (apply (put_levels g.levels ls v) (args c)) = fine_apply (put_levels g.levels ls v) (args c) (fine_put_levels g.levels ls 0 v s.0) (well_formed_of_apply (const u.name ls) (args c) fc).1 in
    let holds : StepHolds w (reduction delta_rule (apply (const u.name ls) (args c)) (apply (put_levels g.levels ls v) (args c)) []) = (reduction_steps w).delta u.name ls at v (args c) (has_value g g.kind v refl is) fc fn in
    let run : DeltaRun w d r most e c (apply (put_levels g.levels ls v) (args c)) = record {
      value = u.value;
      cost = u.cost;
      answered = u.answered;
      within = u.within;
      fine = u.fine;
      core_fine = u.core_fine;
      next_fine = fn;
      holds = subst (λ z. StepHolds w (reduction delta_rule z (apply (put_levels g.levels ls v) (args c)) [])) eq' holds;
      first = u.first;
      second = u.second;
      paid = u.paid;
      part = part_stays w c0 d x r (reduces e c ∷ []) u.first u.part;
      next = b.answered;
    } in
    subst (λ z. DeltaRun z d r most e' c' n) (sym ew)
    (subst (λ z. DeltaRun w d r most z c' n) (sym ee)
    (subst (λ z. DeltaRun w d r most e z n) (sym ec)
    (subst (λ z. DeltaRun w d r most e c z) (sym en) run)))

-- without a value the tree is its own weak head form
pub no_value_whole : (w : Place) (most : ℕ) (c0 : Contents) (r : Row) (e c : Tree) (g : Entry) (ls : List Level) → value_of g.kind ≡ None → Unfolds w c0 r most e c g ls → IsWhole w c0 (whnf e) r
no_value_whole w most c0 r e c g ls is u =
    let runs : Runs w (done c) u.value u.second = subst (λ (o : Option Tree). Runs w (unfolded g (const u.name ls) c o) u.value u.second) is u.runs in
    let paid : u.first + u.second < u.cost = u.paid in
    part_whole w c0 r (whnf e) c u.cost u.first [] (subst (λ z. IsAnswered w (whnf e) z u.cost) (sym runs.0) u.answered) tt (omega arith) u.part

pub count_of : (w : Place) (most : ℕ) (c0 : Contents) (r : Row) (e c v : Tree) (g : Entry) (ls : List Level) → value_of g.kind ≡ Some v → Unfolds w c0 r most e c g ls → nat_eq (length ls) (length g.levels) ≡ true
count_of w most c0 r e c v g ls is u =
    (value_run w g u.name ls c v u.value u.second (subst (λ (o : Option Tree). Runs w (unfolded g (const u.name ls) c o) u.value u.second) is u.runs)).count
