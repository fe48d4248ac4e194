-- Rows of Core by numbers.
use Rattle.std.proofs.Common.{ℕ, ◌≡◌, ◌<◌, ◌≤◌, ◌+◌, true, false, inl, List, [], ◌∷◌, sym, subst, ap, ◌∙◌, arith}
use Rattle.lk_tree.specs.Tree.{Tree}
use Rattle.lk_tree.specs.Spine.{apply, head, args}
use Rattle.lk_tree.specs.WellFormed.{IsWellFormed, AllWellFormed}
use Rattle.lk_tree.proofs.Spines.{fine_apply, well_formed_of_apply}
use Rattle.lk_tree.proofs.Within.{apply_head_args}
use Rattle.lk_rulebook.specs.Place.{Place}
use Rattle.lk_rulebook.specs.WellStated.{WellStated}
use Rattle.lk_rulebook.specs.Claims.{Claim, reduces}
use Rattle.lk_questions.specs.Query.{core}
use Rattle.lk_questions.specs.Program.{Program, done}
use Rattle.lk_questions.specs.Steps.{is_same_tree}
use Rattle.lk_questions.specs.Core.{core_steps}
use Rattle.lk_claims.proofs.Facts.{same_self}
use Rattle.lk_written.specs.Line.{ReductionRule, head_rule}
use Rattle.lk_store.specs.Contents.{Contents, Extends}
use Rattle.lk_store.proofs.Extending.{Extends-trans}
use Rattle.lk_ask.specs.Looks.{Sight}
use Rattle.lk_step.specs.declared.step.Row.{Row}
use Rattle.lk_step.specs.Steps.{reduction, StepHolds}
use Rattle.lk_step.specs.Rows.{IsAnswered, IsClaim}
use Rattle.lk_step.specs.Runs.{Runs, IsOpened, AreOne}
use Rattle.lk_step.specs.Shaped.{IsShapedAnswer}
use Rattle.lk_step.specs.Told.{IsAnsweredWithin, Leaves}
use Rattle.lk_step.proofs.Runs.{opened_so, one_answer}
use Rattle.lk_step.proofs.Shapes.{shaped_answer}
use Rattle.lk_step.specs.Parts.{IsPartIn, States, IsWhole, IsEmpty, AsksCore, FollowsCore, StepGoes}
use Rattle.lk_derive_reduce.specs.Forms.{IsApp, Opens, HeadRun, HeadGoes}
use Rattle.lk_step.proofs.Parts.{first}
use Rattle.lk_step.proofs.PartsIn.{part_none, part_these, part_whole}
use Rattle.lk_derive_reduce.proofs.CoreRuns.{head_holds}

-- what is left as it is, over more than one call
pub leaves_trans : {S R B : Type 0} (contents : S → Contents) (rest : S → R) (sight : R → Sight B) (old mid new : S) → Leaves contents rest sight old mid → Leaves contents rest sight mid new → Leaves contents rest sight old new
leaves_trans contents rest sight old mid new h k = record {
  keeps = Extends-trans (contents old) (contents mid) (contents new) h.keeps k.keeps;
  library = k.library ∙ h.library;
  place = k.place ∙ h.place;
  beside = k.beside ∙ h.beside;
}

pub leaves_made : {S R B : Type 0} (contents : S → Contents) (rest : S → R) (sight : R → Sight B) (old new : S) → Extends (contents old) (contents new) → rest new ≡ rest old → Leaves contents rest sight old new
leaves_made contents rest sight old new x e = record {
  keeps = x;
  library = ap (λ r. (sight r).basis.library) e;
  place = ap (λ r. (sight r).basis.place) e;
  beside = ap (λ r. (sight r).basis.beside) e;
}

-- the row of a step that rests on nothing
pub answered_at : (w w' : Place) (most : ℕ) (r r' : Tree) → w' ≡ w → r' ≡ r → IsAnsweredWithin w (core r) most → IsAnsweredWithin w' (core r') most
answered_at w w' most r r' ew er o = subst (λ z. IsAnsweredWithin z (core r') most) (sym ew) (subst (λ z. IsAnsweredWithin w (core z) most) (sym er) o)

pub follows_at : (w w' : Place) (m d : Contents) (mid new : Row) (e e' r r' : Tree) → w' ≡ w → e' ≡ e → r' ≡ r → FollowsCore w' m d mid new e' r' → FollowsCore w m d mid new e r
follows_at w w' m d mid new e e' r r' ew ee er h =
    let one : FollowsCore w m d mid new e' r' = subst (λ z. FollowsCore z m d mid new e' r') ew h in
    let two : FollowsCore w m d mid new e r' = subst (λ z. FollowsCore w m d mid new z r') ee one in
    subst (λ z. FollowsCore w m d mid new e z) er two

pub opens_within : (w w' : Place) (most : ℕ) (rule : ReductionRule) (e r r' : Tree) → w' ≡ w → r' ≡ r → Opens w most rule e r → IsAnsweredWithin w' (core r') most
opens_within w w' most rule e r r' ew er o = subst (λ z. IsAnsweredWithin z (core r') most) (sym ew) (subst (λ z. IsAnsweredWithin w (core z) most) (sym er) o.within)

pub opens_whole : (w w' : Place) (most : ℕ) (d : Contents) (old new : Row) (rule : ReductionRule) (e e' r r' : Tree) → w' ≡ w → e' ≡ e → r' ≡ r → WellStated w → IsEmpty old → IsClaim w (core e) most → Opens w most rule e r →
    StepGoes w' d old new rule e' r' → IsWhole w d (core e) new
opens_whole w w' most d old new rule e e' r r' ew ee er ok empty k o g =
    let one : StepGoes w d old new rule e' r' = subst (λ z. StepGoes z d old new rule e' r') ew g in
    let two : StepGoes w d old new rule e r' = subst (λ z. StepGoes w d old new rule z r') ee one in
    let three : StepGoes w d old new rule e r = subst (λ z. StepGoes w d old new rule e z) er two in
    three.whole empty ok k.askable o.fine o.holds o.next

-- a tree that is its own Core
pub stays_whole : (w : Place) (most : ℕ) (c : Contents) (r : Row) (e : Tree) → core_steps e ≡ done e → IsEmpty r → IsClaim w (core e) most → IsWhole w c (core e) r
stays_whole w most c r e stays empty k =
    let o : IsOpened w (core e) k.answer k.cost = opened_so w (core e) k.answer k.cost k.answered in
    let run : Runs w (done e) k.answer o.0 = subst (λ (p : Program Tree). Runs w p k.answer o.0) stays o.2 in
    let paid : k.cost ≡ _ = o.1 in
    let same : k.answer ≡ e = sym run.0 in
    part_whole w c r (core e) e k.cost 0 [] (subst (λ u. IsAnswered w (core e) u k.cost) same k.answered) tt (omega arith)
    (part_these w c r [] (reduces e e ∷ []) 0 0 (inl (same_self e), tt) (omega arith) (part_none w c r empty))

-- a head that moved
pub head_goes : (w : Place) (c m d : Contents) (old mid new : Row) (e f : Tree) → ((xs : List Claim) (n : ℕ) → IsPartIn w c old xs n → IsPartIn w m old xs n) →
    (StepHolds w (reduction head_rule e (apply f (args e)) (reduces (head e) f ∷ [])) → States w m old mid (reduces (head e) f ∷ []) (reduces e (apply f (args e)))) → FollowsCore w m d mid new e (apply f (args e)) → HeadGoes w c d old new e f
head_goes w c m d old mid new e f stay s g = record {
  value = g.value;
  cost = g.cost;
  answered = g.answered;
  goes = λ a t fe fr fv xs n there p.
      g.goes fe fr fv (reduces e (apply f (args e)) ∷ xs) n (first (reduces e (apply f (args e))) xs) (s (head_holds w e f a t fe fr) xs n (there, tt) (stay xs n p));
}

head_fine : (e : Tree) → IsWellFormed e → IsWellFormed (head e) × AllWellFormed (args e)
head_fine e f = well_formed_of_apply (head e) (args e) (subst IsWellFormed (sym (apply_head_args e)) f)

-- Core of the head is the head itself
pub head_stays_whole : (w : Place) (most : ℕ) (c d : Contents) (old new : Row) (e f : Tree) → IsEmpty old → IsClaim w (core e) most → HeadRun w most e → AsksCore w c d old new (head e) f → is_same_tree f (head e) ≡ true → IsWhole w d (core e) new
head_stays_whole w most c d old new e f empty k h a t =
    let one : AreOne f h.form a.cost h.first = one_answer w (core (head e)) f h.form a.cost h.first a.answered h.headed in
    let same : h.value ≡ e = h.stays (subst (λ z. is_same_tree z (head e) ≡ true) one.answer t) in
    let paid : h.first + h.second < h.cost = h.paid in
    let cost : a.cost ≡ h.first = one.cost in
    let p : IsPartIn w d new (reduces (head e) f ∷ []) (0 + a.cost) = a.asks (head_fine e k.askable).0 [] 0 (part_none w c old empty) in
    part_whole w d new (core e) e h.cost (0 + a.cost) [] (subst (λ u. IsAnswered w (core e) u h.cost) same h.answered) tt (omega arith)
    (part_these w d new (reduces (head e) f ∷ []) (reduces e e ∷ []) (0 + a.cost) (0 + a.cost) (inl (same_self e), tt) (omega arith) p)

-- what is asked next, where it moved
pub head_asks : (w : Place) (most : ℕ) (c d : Contents) (old new : Row) (e f : Tree) → HeadRun w most e → AsksCore w c d old new (head e) f → is_same_tree f (head e) ≡ false → IsAnsweredWithin w (core (apply f (args e))) most
head_asks w most c d old new e f h a t =
    let one : AreOne f h.form a.cost h.first = one_answer w (core (head e)) f h.form a.cost h.first a.answered h.headed in
    let next : IsAnswered w (core (apply h.form (args e))) h.value h.second = h.moves (subst (λ z. is_same_tree z (head e) ≡ false) one.answer t) in
    let paid : h.first + h.second < h.cost = h.paid in
    let within : h.cost ≤ most = h.within in
    (h.value, h.second, subst (λ z. IsAnswered w (core (apply z (args e))) h.value h.second) (sym one.answer) next, omega arith)

pub head_moves_whole : (w : Place) (most : ℕ) (c m d : Contents) (old mid new : Row) (e f : Tree) → WellStated w → IsEmpty old → IsApp e → IsClaim w (core e) most → HeadRun w most e → AsksCore w c m old mid (head e) f → is_same_tree f (head e) ≡ false →
    HeadGoes w m d mid new e f → IsWhole w d (core e) new
head_moves_whole w most c m d old mid new e f ok empty is k h a t g =
    let one : AreOne f h.form a.cost h.first = one_answer w (core (head e)) f h.form a.cost h.first a.answered h.headed in
    let next : IsAnswered w (core (apply h.form (args e))) h.value h.second = h.moves (subst (λ z. is_same_tree z (head e) ≡ false) one.answer t) in
    let next' : IsAnswered w (core (apply f (args e))) h.value h.second = subst (λ z. IsAnswered w (core (apply z (args e))) h.value h.second) (sym one.answer) next in
    let two : AreOne g.value h.value g.cost h.second = one_answer w (core (apply f (args e))) g.value h.value g.cost h.second g.answered next' in
    let paid : h.first + h.second < h.cost = h.paid in
    let c1 : a.cost ≡ h.first = one.cost in
    let c2 : g.cost ≡ h.second = two.cost in
    let fine : IsWellFormed (head e) × AllWellFormed (args e) = head_fine e k.askable in
    let shape : IsShapedAnswer (core (head e)) f = shaped_answer w ok (core (head e)) f a.cost fine.0 a.answered in
    let fr : IsWellFormed (apply f (args e)) = fine_apply f (args e) shape.0.1 fine.1 in
    let last : IsShapedAnswer (core (apply f (args e))) g.value = shaped_answer w ok (core (apply f (args e))) g.value g.cost fr g.answered in
    let p : IsPartIn w m mid (reduces (head e) f ∷ []) (0 + a.cost) = a.asks fine.0 [] 0 (part_none w c old empty) in
    let q : IsPartIn w d new (reduces e g.value ∷ []) (0 + a.cost + g.cost) = g.goes is t k.askable fr last.0.1 (reduces (head e) f ∷ []) (0 + a.cost) (first (reduces (head e) f) []) p in
    part_whole w d new (core e) g.value h.cost (0 + a.cost + g.cost) [] (subst (λ u. IsAnswered w (core e) u h.cost) (sym two.answer) h.answered) tt (omega arith) q

pub heads_at : (w w' : Place) (c d : Contents) (old new : Row) (e e' f : Tree) → w' ≡ w → e' ≡ e → HeadGoes w' c d old new e' f → HeadGoes w c d old new e f
heads_at w w' c d old new e e' f ew ee h = subst (λ z. HeadGoes w c d old new z f) ee (subst (λ z. HeadGoes z c d old new e' f) ew h)

pub asks_of : (w : Place) (c d : Contents) (old new : Row) (e e' f : Tree) → e' ≡ e → AsksCore w c d old new e' f → AsksCore w c d old new e f
asks_of w c d old new e e' f ee h = subst (λ z. AsksCore w c d old new z f) ee h

pub head_within : (w : Place) (most : ℕ) (e h : Tree) → h ≡ head e → HeadRun w most e → IsAnsweredWithin w (core h) most
head_within w most e h eh r =
    let paid : r.first + r.second < r.cost = r.paid in
    let within : r.cost ≤ most = r.within in
    subst (λ z. IsAnsweredWithin w (core z) most) (sym eh) (r.form, r.first, r.headed, omega arith)
