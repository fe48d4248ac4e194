-- Core of a projection.
use Rattle.std.proofs.Common.{ℕ, suc, ◌≡◌, ◌<◌, ◌≤◌, ◌+◌, inl, Bool, true, false, List, [], ◌∷◌, Option, Some, None, refl, sym, subst, ap, ◌∙◌, arith, if◌then◌else◌}
use Rattle.std.specs.Prelude.{slice_get, Result, OnOk}
use Rattle.lk_tree.specs.Tree.{Name, Level, Tree, const, proj}
use Rattle.lk_tree.specs.Spine.{apply, head, args}
use Rattle.lk_tree.specs.Mentions.{same_name}
use Rattle.lk_tree.specs.WellFormed.{IsWellFormed}
use Rattle.lk_tree.proofs.Lists.{fine_at}
use Rattle.lk_tree.proofs.Spines.{well_formed_of_apply}
use Rattle.lk_tree.proofs.Within.{apply_head_args}
use Rattle.lk_rulebook.specs.Place.{Place, Entry, Kind, a_ctor}
use Rattle.lk_rulebook.specs.WellStated.{WellStated}
use Rattle.lk_rulebook.specs.Claims.{reduces}
use Rattle.lk_rulebook.specs.Literals.{ReadsText}
use Rattle.lk_rulebook.specs.Structures as book
use Rattle.lk_rulebook.proofs.Texts.{text_fine}
use Rattle.lk_claims.proofs.Pieces.{same_name_right}
use Rattle.lk_claims.proofs.Readings.{sound_text_to_ctor}
use Rattle.lk_questions.specs.Query.{core, whnf}
use Rattle.lk_questions.specs.Program.{Program, done}
use Rattle.lk_questions.specs.Erased.{a_tree, erased}
use Rattle.lk_questions.specs.Iota.{CtorApp, ctor_app_by, ctor_app_of, core_field, picked}
use Rattle.lk_questions.specs.Sound.{IsSound}
use Rattle.lk_questions.specs.Strings.{text_to_ctor}
use Rattle.lk_questions.specs.Tests.{found}
use Rattle.lk_written.specs.Line.{field_rule}
use Rattle.lk_store.specs.Contents.{Contents, Extends}
use Rattle.lk_proj.specs.Reductions.{subject_rest, head_rest}
use Rattle.lk_step.specs.declared.step.Row.{Row}
use Rattle.lk_step.specs.Steps.{reduction, StepHolds}
use Rattle.lk_step.specs.Rows.{IsAnswered, IsClaim}
use Rattle.lk_step.specs.Runs.{Runs, IsOpened, AreOne}
use Rattle.lk_step.specs.Nexts.{core_asked}
use Rattle.lk_step.specs.Shaped.{IsShapedAnswer}
use Rattle.lk_step.specs.Told.{IsAnsweredWithin}
use Rattle.lk_step.proofs.ReductionSteps.{reduction_steps}
use Rattle.lk_step.proofs.Runs.{opened_so, one_answer, runs_asked}
use Rattle.lk_step.proofs.Shapes.{shaped_answer}
use Rattle.lk_step.specs.Parts.{IsPartIn, States, IsWhole, IsEmpty, AsksForm, FollowsCore}
use Rattle.lk_derive_reduce.specs.Projections.{IsProjOf, field_at, Picks, AtSubject}
use Rattle.lk_step.proofs.Parts.{first}
use Rattle.lk_step.proofs.PartsIn.{part_none, part_stays, part_these, part_whole}
use Rattle.lk_step.proofs.Quiet.{Quietly, quietly, quiet_text, quiet_ctor_app}
use Rattle.lk_claims.proofs.Facts.{same_self}

-- m is the constructor b applied
record IsBuilt (w : Place) (m : Tree) (b : CtorApp) : Type 0 where
  tree_is : m ≡ apply (const b.name b.levels) b.args
  given : w.means b.name ≡ Some b.entry
  kind : b.entry.kind ≡ a_ctor b.block b.ind b.ctor

abbrev given_app : {w : Place} {m : Tree} (b : CtorApp) → IsBuilt w m b → book.CtorApp w
given_app b j = record { name = b.name; levels = b.levels; args = b.args; entry = b.entry; block = b.block; ind = b.ind; ctor = b.ctor; given = j.given; kind = j.kind }

abbrev IfBuilt : Place → Tree → Option CtorApp → Type 0
IfBuilt w m None = Unit {0}
IfBuilt w m (Some b) = IsBuilt w m b

built_by : (w : Place) (m : Tree) (c : Name) (ks : List Level) (xs : List Tree) (g : Entry) → m ≡ apply (const c ks) xs → w.means c ≡ Some g → (k : Kind) → g.kind ≡ k → IfBuilt w m (ctor_app_by c ks xs g k)
built_by w m c ks xs g t n (a_ctor b i k) e = record { tree_is = t; given = n; kind = e }
built_by w m c ks xs g t n _ e = tt

sound_built : (w : Place) (m h : Tree) (xs : List Tree) → m ≡ apply h xs → IsSound w (ctor_app_of h xs) (IfBuilt w m)
sound_built w m (const c ks) xs t = λ g n. built_by w m c ks xs g t n g.kind refl
sound_built w m _ xs t = tt

-- what the program does next is what Core of e goes on with
record Goes (w : Place) (e s W v : Tree) (n : ℕ) (last : Option ℕ) (p : Program Tree) : Type 0 where
  picks : Picks w e s W v n (core_asked (erased w a_tree last p))

step_there : (w : Place) (S : Name) (i : ℕ) (s W m x : Tree) (b : CtorApp) (j : IsBuilt w m b) → b.ind.name ≡ S → found w (text_to_ctor W) ≡ Some m → slice_get b.args (b.ctor.parameters + i) ≡ Some x → IsWellFormed s → IsWellFormed x →
    StepHolds w (reduction field_rule (proj S i s) x (reduces s W ∷ []))
step_there w S i s W m x b j e f at fs fx =
    let c : book.CtorApp w = given_app b j in
    let there : found w (text_to_ctor W) ≡ Some (book.ctor_app c) = f ∙ ap (λ z. Some z) j.tree_is in
    subst (λ N. StepHolds w (reduction field_rule (proj N i s) x (reduces s W ∷ []))) e ((reduction_steps w).field c i s W x there at fs fx)

goes_picked : (w : Place) (S : Name) (i : ℕ) (s W m v : Tree) (n : ℕ) (last : Option ℕ) (b : CtorApp) → IsBuilt w m b → b.ind.name ≡ S → found w (text_to_ctor W) ≡ Some m → IsWellFormed s → IsWellFormed m →
    (o : Option Tree) → slice_get b.args (b.ctor.parameters + i) ≡ o → Runs w (picked (proj S i s) o) v n → Goes w (proj S i s) s W v n last (picked (proj S i s) o)
goes_picked w S i s W m v n last b j e f fs fm None at r = record { picks = sym r.0 }
goes_picked w S i s W m v n last b j e f fs fm (Some x) at r =
    let fa : IsWellFormed (apply (const b.name b.levels) b.args) = subst IsWellFormed j.tree_is fm in
    let fx : IsWellFormed x = fine_at (b.ctor.parameters + i) b.args x (well_formed_of_apply (const b.name b.levels) b.args fa).1 at in
    record { picks = (runs_asked w (core x) v n r, fx, step_there w S i s W m x b j e f at fs fx) }

goes_field : (w : Place) (S : Name) (i : ℕ) (s W m v : Tree) (n : ℕ) (last : Option ℕ) → found w (text_to_ctor W) ≡ Some m → IsWellFormed s → IsWellFormed m → (o : Option CtorApp) → IfBuilt w m o →
    Runs w (core_field (proj S i s) S i o) v n → Goes w (proj S i s) s W v n last (core_field (proj S i s) S i o)
goes_field w S i s W m v n last f fs fm None j r = record { picks = sym r.0 }
goes_field w S i s W m v n last f fs fm (Some b) j r = go (same_name b.ind.name S) refl r
  where
    go : (y : Bool) → same_name b.ind.name S ≡ y → Runs w (if y then picked (proj S i s) (slice_get b.args (b.ctor.parameters + i)) else done (proj S i s)) v n →
        Goes w (proj S i s) s W v n last (if y then picked (proj S i s) (slice_get b.args (b.ctor.parameters + i)) else done (proj S i s))
    go true t r = goes_picked w S i s W m v n last b j (same_name_right b.ind.name S t) f fs fm (slice_get b.args (b.ctor.parameters + i)) refl r
    go false t r = record { picks = sym r.0 }

goes_subject : (w : Place) (S : Name) (i : ℕ) (s W v : Tree) (n : ℕ) (last : Option ℕ) → IsWellFormed s → IsWellFormed W → Runs w (subject_rest (proj S i s) W) v n → Picks w (proj S i s) s W v n (field_at w last (proj S i s) W)
goes_subject w S i s W v n last fs fW r =
    let e : Tree = proj S i s in
    let q : Quietly w (ReadsText w W) (text_to_ctor W) (head_rest e S i) v n last = quietly w (ReadsText w W) (text_to_ctor W) (head_rest e S i) v n last (quiet_text W) (sound_text_to_ctor w W) r in
    let m : Tree = q.value in
    let fm : IsWellFormed m = text_fine q.holds fW in
    let k : Quietly w (IfBuilt w m) (ctor_app_of (head m) (args m)) (core_field e S i) v n q.next =
    quietly w (IfBuilt w m) (ctor_app_of (head m) (args m)) (core_field e S i) v n q.next (quiet_ctor_app (head m) (args m)) (sound_built w m (head m) (args m) (sym (apply_head_args m))) q.after in
    let g : Goes w e s W v n k.next (core_field e S i k.value) = goes_field w S i s W m v n k.next q.found_is fs fm k.value k.holds k.after in
    subst (λ z. Picks w e s W v n (core_asked z)) (sym (q.same ∙ k.same)) g.picks

-- the subject is asked for first
record SubjectRun (w : Place) (e s v : Tree) (n : ℕ) : Type 0 where
  form : Tree
  first : ℕ
  second : ℕ
  formed : IsAnswered w (whnf s) form first
  runs : Runs w (subject_rest e form) v second
  paid : first + second < n

subject_run : (w : Place) (S : Name) (i : ℕ) (s v : Tree) (n : ℕ) → IsAnswered w (core (proj S i s)) v n → SubjectRun w (proj S i s) s v n
subject_run w S i s v n h =
    let o : IsOpened w (core (proj S i s)) v n = opened_so w (core (proj S i s)) v n h in
    let run = o.2 in
    let paid : n ≡ suc o.0 = o.1 in
    let spent : o.0 ≡ run.1 + run.2 = run.5 in
    record { form = run.0; first = run.1; second = run.2; formed = run.3; runs = run.4; paid = omega arith }

pub subject_within : (w : Place) (most : ℕ) (e s : Tree) → IsProjOf e s → IsClaim w (core e) most → IsAnsweredWithin w (whnf s) most
subject_within w most e s i k =
    let r : SubjectRun w (proj i.structure i.field s) s k.answer k.cost = subject_run w i.structure i.field s k.answer k.cost (subst (λ z. IsAnswered w (core z) k.answer k.cost) i.is k.answered) in
    let paid : r.first + r.second < k.cost = r.paid in
    let within : k.cost ≤ most = k.within in
    (r.form, r.first, r.formed, omega arith)

pub at_subject : (w : Place) (most : ℕ) (c m d : Contents) (old new : Row) (e s W : Tree) (last : Option ℕ) → WellStated w → IsEmpty old → IsProjOf e s → IsClaim w (core e) most → AsksForm w c m old new s W → Extends m d →
    AtSubject w d new most e s W (field_at w last e W)
at_subject w most c m d old new e s W last ok empty i k a x =
    let p : Tree = proj i.structure i.field s in
    let r : SubjectRun w p s k.answer k.cost = subject_run w i.structure i.field s k.answer k.cost (subst (λ z. IsAnswered w (core z) k.answer k.cost) i.is k.answered) in
    let one : AreOne r.form W r.first a.cost = one_answer w (whnf s) r.form W r.first a.cost r.formed a.answered in
    let cost : r.first ≡ a.cost = one.cost in
    let paid : r.first + r.second < k.cost = r.paid in
    let fp : IsWellFormed p = subst IsWellFormed i.is k.askable in
    let shape : IsShapedAnswer (whnf s) W = shaped_answer w ok (whnf s) W a.cost fp a.answered in
    let run : Runs w (subject_rest p W) k.answer r.second = subst (λ z. Runs w (subject_rest p z) k.answer r.second) one.answer r.runs in
    let picks : Picks w p s W k.answer r.second (field_at w last p W) = goes_subject w i.structure i.field s W k.answer r.second last fp shape.0.1 run in
    record {
      value = k.answer;
      cost = k.cost;
      answered = k.answered;
      within = k.within;
      fine = k.askable;
      first = 0 + a.cost;
      second = r.second;
      paid = omega arith;
      part = part_stays w m d x new (reduces s W ∷ []) (0 + a.cost) (a.asks fp [] 0 (part_none w c old empty));
      picks = subst (λ z. Picks w z s W k.answer r.second (field_at w last z W)) (sym i.is) picks;
    }

pub projection_stays : (w : Place) (d : Contents) (r : Row) (most : ℕ) (e s W : Tree) → AtSubject w d r most e s W None → IsWhole w d (core e) r
projection_stays w d r most e s W a =
    let paid : a.first + a.second < a.cost = a.paid in
    part_whole w d r (core e) e a.cost a.first [] (subst (λ u. IsAnswered w (core e) u a.cost) a.picks a.answered) tt (omega arith)
    (part_these w d r (reduces s W ∷ []) (reduces e e ∷ []) a.first a.first (inl (same_self e), tt) (omega arith) a.part)

pub field_within : (w : Place) (d : Contents) (r : Row) (most : ℕ) (e s W x : Tree) → AtSubject w d r most e s W (Some x) → IsAnsweredWithin w (core x) most
field_within w d r most e s W x a =
    let paid : a.first + a.second < a.cost = a.paid in
    let within : a.cost ≤ most = a.within in
    (a.value, a.second, a.picks.0, omega arith)

pub field_whole : (w : Place) (most : ℕ) (c d : Contents) (old mid new : Row) (e s W x : Tree) → WellStated w → AtSubject w c old most e s W (Some x) →
    (StepHolds w (reduction field_rule e x (reduces s W ∷ [])) → States w c old mid (reduces s W ∷ []) (reduces e x)) → FollowsCore w c d mid new e x → IsWhole w d (core e) new
field_whole w most c d old mid new e s W x ok a states g =
    let one : AreOne g.value a.value g.cost a.second = one_answer w (core x) g.value a.value g.cost a.second g.answered a.picks.0 in
    let cost : g.cost ≡ a.second = one.cost in
    let paid : a.first + a.second < a.cost = a.paid in
    let shape : IsShapedAnswer (core x) g.value = shaped_answer w ok (core x) g.value g.cost a.picks.1 g.answered in
    let p : IsPartIn w c mid (reduces e x ∷ reduces s W ∷ []) a.first = states a.picks.2 (reduces s W ∷ []) a.first (first (reduces s W) [], tt) a.part in
    let q : IsPartIn w d new (reduces e g.value ∷ []) (a.first + g.cost) = g.goes a.fine a.picks.1 shape.0.1 (reduces e x ∷ reduces s W ∷ []) a.first (first (reduces e x) (reduces s W ∷ [])) p in
    part_whole w d new (core e) g.value a.cost (a.first + g.cost) [] (subst (λ u. IsAnswered w (core e) u a.cost) (sym one.answer) a.answered) tt (omega arith) q

-- the same at another store
pub subject_at : (w w' : Place) (d : Contents) (r : Row) (most : ℕ) (e e' s s' W W' : Tree) (o o' : Option Tree) → w' ≡ w → e' ≡ e → s' ≡ s → W' ≡ W → o' ≡ o → AtSubject w d r most e s W o → AtSubject w' d r most e' s' W' o'
subject_at w w' d r most e e' s s' W W' o o' ew ee es eW eo a =
    subst (λ z. AtSubject z d r most e' s' W' o') (sym ew)
    (subst (λ z. AtSubject w d r most z s' W' o') (sym ee)
    (subst (λ z. AtSubject w d r most e z W' o') (sym es)
    (subst (λ z. AtSubject w d r most e s z o') (sym eW)
    (subst (λ z. AtSubject w d r most e s W z) (sym eo) a))))

pub whole_at : {T E : Type 0} (w w' : Place) (d : Contents) (r : Row) (result : Result T E) (e e' : Tree) → w' ≡ w → e' ≡ e → OnOk result (IsWhole w' d (core e') r) → OnOk result (IsWhole w d (core e) r)
whole_at w w' d r result e e' ew ee h = subst (λ z. OnOk result (IsWhole w d (core z) r)) ee (subst (λ z. OnOk result (IsWhole z d (core e') r)) ew h)
