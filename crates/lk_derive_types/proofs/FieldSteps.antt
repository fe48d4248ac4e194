-- One field after another, while the store grows.
use Rattle.std.proofs.Common.{ℕ, zero, ◌≡◌, ◌≤◌, ◌+◌, Bool, true, List, [], ◌∷◌, ◌++◌, refl, subst, sym, ◌∙◌, arith}
use Rattle.std.proofs.lemmas.List.{append-nil}
use Rattle.lk_tree.specs.Tree.{Name, Tree, pi, proj}
use Rattle.lk_tree.specs.WellFormed.{IsWellFormed}
use Rattle.lk_tree.specs.declared.rule.Rule.{Rule}
use Rattle.lk_tree.specs.declared.rule.Rule.TheVariants.{BadProjection}
use Rattle.lk_rulebook.specs.Place.{Place}
use Rattle.lk_rulebook.specs.WellStated.{WellStated}
use Rattle.lk_rulebook.specs.Claims.{Claim, IsShaped, reduces}
use Rattle.lk_questions.specs.Query.{Query, whnf}
use Rattle.lk_questions.specs.Program.{Program, done, ask, ◌>>=◌}
use Rattle.lk_questions.specs.Steps.{as_pi}
use Rattle.lk_questions.specs.Projections.{field_type}
use Rattle.lk_written.specs.Line.{proj_rule}
use Rattle.lk_trace.specs.declared.rules.TypingRule.TheVariants.{Project}
use Rattle.lk_store.specs.Contents.{Contents, tree_at, Extends, IsTree}
use Rattle.lk_store.proofs.Extending.{Extends-trans}
use Rattle.lk_step.specs.Rows.{IsAnswered, a_claim, no_claim}
use Rattle.lk_step.specs.Runs.{Runs, AreOne}
use Rattle.lk_step.specs.Shaped.{IsShapedAnswer}
use Rattle.lk_step.specs.Typing.{PropPremises, FieldPremises, this_field}
use Rattle.lk_step.proofs.Runs.{one_answer}
use Rattle.lk_step.proofs.Shapes.{shaped_answer}
use Rattle.lk_derive_types.specs.declared.asked.Asked.{Asked}
use Rattle.lk_derive_types.specs.declared.parts.Function.{Function}
use Rattle.lk_derive_types.specs.declared.fields.Projected.{Projected}
use Rattle.lk_derive_types.specs.Asked.{NotesForm, AreAsked}
use Rattle.lk_derive_types.specs.Parts.{IsSortedWithin, IsPiWithin, IsPiRead}
use Rattle.lk_derive_types.specs.Projections.{NotesProp, FieldsFinish, IsFieldAt}
use Rattle.lk_derive_types.specs.TypeRows.{IsTypedRow, IsTypedBy}
use Rattle.lk_derive_types.proofs.RunParts.{PiRun, pi_run}
use Rattle.lk_derive_types.proofs.AskedSoFar.{there, asked_later, form_asked}
use Rattle.lk_derive_types.proofs.SpineRuns.{pi_left, pi_right}
use Rattle.lk_derive_types.proofs.ParameterRuns.{one_more}
use Rattle.lk_derive_types.proofs.FieldRuns.{prop_then, prop_within, PropNoted, prop_noted}

-- the Pi that was read is the run's
pub record PiTold (w : Place) (F A B : Tree) (k : Tree × Tree → Program Tree) (T : Tree) (m : ℕ) : Type 0 where
  pub first : ℕ
  pub left : ℕ
  pub answered : IsAnswered w (whnf F) (pi A B) first
  pub runs : Runs w (k (A, B)) T left
  pub shaped : IsShaped (reduces F (pi A B))
  pub paid : m ≡ first + left

pub pi_told : (w : Place) → WellStated w → (c : Contents) (r : Rule) (F : Tree) (k : Tree × Tree → Program Tree) (T : Tree) (m : ℕ) (f : Function) → IsWellFormed F → Runs w (ask (whnf F) (λ S. as_pi r S >>= k)) T m →
    (h : IsPiRead w c F f) → PiTold w F h.domain h.body k T m
pi_told w ok c r F k T m f fF run h =
    let p : PiRun w F k T m = pi_run w r F k T m run in
    let A : Tree = h.domain in
    let B : Tree = h.body in
    let o : AreOne (pi A B) (pi p.domain p.body) h.reduced.cost p.first = one_answer w (whnf F) (pi A B) (pi p.domain p.body) h.reduced.cost p.first h.reduced.answered p.reduced in
    let dA : A ≡ p.domain = pi_left A B p.domain p.body o.answer in
    let dB : B ≡ p.body = pi_right A B p.domain p.body o.answer in
    let s : IsShapedAnswer (whnf F) (pi A B) = shaped_answer w ok (whnf F) (pi A B) h.reduced.cost fF h.reduced.answered in
    let e : h.reduced.cost ≡ p.first = o.cost in
    let q : m ≡ p.first + p.more = p.paid in
    record {
      first = h.reduced.cost;
      left = p.more;
      answered = h.reduced.answered;
      runs = subst (λ z. Runs w (k (z, B)) T p.more) (sym dA) (subst (λ z. Runs w (k (p.domain, z)) T p.more) (sym dB) p.then_runs);
      shaped = s.0;
      paid = omega (arith, e, q);
    }

-- the last field: nothing is ahead
last_runs : (w : Place) (S : Name) (s : Tree) (q : Bool) (j n : ℕ) (F T : Tree) (m : ℕ) → n ≡ 0 → Runs w (field_type S s q j n F) T m → Runs w (field_type S s q j zero F) T m
last_runs w S s q j n F T m e h = subst (λ z. Runs w (field_type S s q j z F) T m) e h

pub last_function : (w : Place) (c : Contents) (p : Projected) (most at : ℕ) (a : Asked) → IsFieldAt w c p most p.field at a → IsPiWithin w (tree_at c at) most
last_function w c p most at a h =
    let n : p.field ≡ p.field + h.ahead = h.count in
    let k : Tree × Tree → Program Tree = λ u. prop_then p.prop u.0 (done u.0) in
    let r : PiRun w h.function k h.type h.left = pi_run w BadProjection h.function k h.type h.left (last_runs w h.name h.subject p.prop p.field h.ahead h.function h.type h.left (omega (arith, n)) h.runs) in
    let q : h.left ≡ r.first + r.more = r.paid in
    let l : h.left ≤ most = h.within in
    subst (λ z. IsPiWithin w z most) (sym h.at_is.is) (record { domain = r.domain; body = r.body; cost = r.first; reduced = r.reduced; within = omega (arith, q, l) })

pub last_sorted : (w u : Place) → WellStated w → (c d : Contents) (p : Projected) (most at : ℕ) (a : Asked) (f : Function) → u ≡ w → IsFieldAt w c p most p.field at a → IsPiRead w d (tree_at c at) f → p.prop ≡ true → IsSortedWithin u (tree_at d f.domain) most
last_sorted w u ok c d p most at a f place h i e =
    let n : p.field ≡ p.field + h.ahead = h.count in
    let k : Tree × Tree → Program Tree = λ u. prop_then p.prop u.0 (done u.0) in
    let j : IsPiRead w d h.function f = subst (λ z. IsPiRead w d z f) h.at_is.is i in
    let r : PiTold w h.function j.domain j.body k h.type h.left = pi_told w ok d BadProjection h.function k h.type h.left f h.fine (last_runs w h.name h.subject p.prop p.field h.ahead h.function h.type h.left (omega (arith, n)) h.runs) j in
    let q : h.left ≡ r.first + r.left = r.paid in
    let l : h.left ≤ most = h.within in
    subst (λ v. IsSortedWithin v (tree_at d f.domain) most) (sym place) (subst (λ z. IsSortedWithin w z most) (sym j.domain_is.is) (prop_within w p.prop j.domain (done j.domain) h.type r.left most r.runs (omega (arith, q, l)) e))

pub last_typed : (w u : Place) → WellStated w → (c d g : Contents) (p : Projected) (most at : ℕ) (a b b₁ : Asked) (f : Function) → u ≡ w → Extends c d → Extends d g → IsFieldAt w c p most p.field at a → IsPiRead w d (tree_at c at) f → NotesForm a b at f.pi →
    NotesProp u g p.prop (tree_at d f.domain) b b₁ f.domain → IsTypedBy w g Project p.whole f.domain b₁ (tree_at c p.whole)
last_typed w u ok c d g p most at a b b₁ f place x y h i m e =
    let n : p.field ≡ p.field + h.ahead = h.count in
    let none : h.ahead ≡ 0 = omega (arith, n) in
    let k : Tree × Tree → Program Tree = λ u. prop_then p.prop u.0 (done u.0) in
    let F : Tree = h.function in
    let j : IsPiRead w d F f = subst (λ z. IsPiRead w d z f) h.at_is.is i in
    let A : Tree = j.domain in
    let P : Tree = pi A j.body in
    let r : PiTold w F A j.body k h.type h.left = pi_told w ok d BadProjection F k h.type h.left f h.fine (last_runs w h.name h.subject p.prop p.field h.ahead F h.type h.left none h.runs) j in
    let z : Extends c g = Extends-trans c d g x y in
    let q : h.left ≡ r.first + r.left = r.paid in
    let qs : List Query = h.queries ++ (whnf F ∷ []) in
    let ks : List Claim = h.claims ++ (reduces F P ∷ []) in
    let asked : AreAsked g b qs ks = form_asked g a b h.queries h.claims at f.pi F P m (there c g at F z h.at_is) (there d g f.pi P y j.pi_is) (asked_later c g a h.queries h.claims z h.asked_are) in
    let e₁ : NotesProp w g p.prop A b b₁ f.domain = subst (λ v. NotesProp v g p.prop A b b₁ f.domain) place (subst (λ t. NotesProp u g p.prop t b b₁ f.domain) j.domain_is.is e) in
    let s : PropNoted w g p.prop A (done A) h.type r.left b₁ qs ks = prop_noted w ok g p.prop A (done A) h.type r.left b b₁ f.domain qs ks r.shaped.1.0 r.runs e₁ (there d g f.domain A y j.domain_is) asked in
    let is : A ≡ h.type = s.next.runs.0 in
    let premises : PropPremises p.prop A (s.claims ++ []) [] = s.next.premises [] in
    let c₁ = s.next.claims [] [] 0 no_claim (omega arith) in
    let less : c₁.0 ≤ r.left = c₁.2 in
    let finish : FieldsFinish w h.name p.field h.subject p.prop p.field zero F h.type h.left h.queries h.claims = subst (λ v. FieldsFinish w h.name p.field h.subject p.prop p.field v F h.type h.left h.queries h.claims) none h.finish in
    let us : List Query = whnf F ∷ (s.queries ++ []) in
    let js : List Claim = reduces F P ∷ (s.claims ++ []) in
    let row : IsTypedRow w proj_rule (proj h.name p.field h.subject) h.type (h.queries ++ us) (h.claims ++ js) =
    finish us js (r.first + c₁.0) (subst (λ v. FieldPremises h.name h.subject p.prop p.field zero F js v) is (this_field premises)) (r.shaped, s.next.shaped [] tt) (a_claim {n = c₁.0} (whnf F) P r.first h.fine r.answered tt c₁.1) (omega (arith, q, less)) in
    let row₁ : IsTypedRow w proj_rule (proj h.name p.field h.subject) h.type (qs ++ s.queries) (ks ++ s.claims) =
    subst (λ v. IsTypedRow w proj_rule (proj h.name p.field h.subject) h.type (qs ++ s.queries) (ks ++ v)) (append-nil s.claims)
    (subst (λ v. IsTypedRow w proj_rule (proj h.name p.field h.subject) h.type (qs ++ v) (ks ++ (s.claims ++ []))) (append-nil s.queries)
    (subst (λ v. IsTypedRow w proj_rule (proj h.name p.field h.subject) h.type v (ks ++ (s.claims ++ []))) (one_more h.queries (whnf F) (s.queries ++ []))
    (subst (λ v. IsTypedRow w proj_rule (proj h.name p.field h.subject) h.type (h.queries ++ us) v) (one_more h.claims (reduces F P) (s.claims ++ [])) row))) in
    let whole : IsTree g p.whole (proj h.name p.field h.subject) = there c g p.whole (proj h.name p.field h.subject) z h.whole_is in
    record {
      type = h.type;
      plain_rule = proj_rule;
      queries = qs ++ s.queries;
      claims = ks ++ s.claims;
      rule_in = tt;
      rule_is = refl;
      left_is = record { known = whole.known; is = whole.is ∙ sym h.whole_is.is };
      right_is = let v = there d g f.domain A y j.domain_is in record { known = v.known; is = v.is ∙ is };
      asked_are = s.asked_are;
      row = subst (λ v. IsTypedRow w proj_rule v h.type (qs ++ s.queries) (ks ++ s.claims)) (sym h.whole_is.is) row₁;
    }
