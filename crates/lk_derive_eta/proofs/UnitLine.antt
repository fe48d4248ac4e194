-- Two trees of a type with one value.
use Rattle.std.proofs.Common.{ℕ, ◌≡◌, ◌+◌, Bool, true, false, ◌&&◌, nat_eq, List, [], ◌∷◌, length, Option, Some, None, refl, sym, ◌∙◌, ap, subst, if◌then◌else◌, arith}
use Rattle.lk_tree.specs.Tree.{Name, Level, Tree, const}
use Rattle.lk_tree.specs.Spine.{apply, head, args}
use Rattle.lk_tree.proofs.Within.{apply_head_args}
use Rattle.lk_rulebook.specs.Place.{Place, Entry, Kind, Block, BlockType, Ctor, a_type}
use Rattle.lk_rulebook.specs.Structures.{UnitLike, is_structure_like}
use Rattle.lk_rulebook.specs.Claims.{types, reduces, equals}
use Rattle.lk_claims.proofs.Pieces.{halves, equal_numbers}
use Rattle.lk_questions.specs.Query.{infer, whnf, same}
use Rattle.lk_questions.specs.Program.{done, ask, asked, ◌>>=◌}
use Rattle.lk_questions.specs.Pairs.{Line, answers, goes_on}
use Rattle.lk_questions.specs.Eta.{is_unit_like, is_unit_like_at, eta_unit, by_unit_eta}
use Rattle.lk_questions.specs.Tests.{◌>>=◌ as ◌then◌}
use Rattle.lk_written.specs.Line.{unit_rule}
use Rattle.lk_written.specs.Premises.{as_const}
use Rattle.lk_step.specs.Steps.{equality}
use Rattle.lk_step.specs.Equal.{unit_claims}
use Rattle.lk_step.specs.Rows.{no_claim, a_claim}
use Rattle.lk_step.specs.Runs.{Runs}
use Rattle.lk_step.specs.Told.{IsAnsweredWithin, IsForm, IsType}
use Rattle.lk_step.specs.Tests.{AreReduced}
use Rattle.lk_step.specs.Tells.{IsBasis}
use Rattle.lk_step.proofs.EqualitySteps.{equality_steps}
use Rattle.lk_step.proofs.Shapes.{shaped_answer}
use Rattle.lk_step.proofs.Following.{Followed, follow, asks_within, run_on, run_followed}
use Rattle.lk_step.proofs.Bases.{one_step}
use Rattle.lk_derive_eta.specs.Open.{IsNotNo}
use Rattle.lk_derive_eta.specs.Units.{is_one_value, has_one_value}
use Rattle.lk_derive_eta.proofs.Opens.{open_run, says_yes}

-- what a head means
abbrev means_at : Place → Tree → Option ((Name × List Level) × Entry)
means_at w h = as_const h then λ c. w.means c.0 then λ g. Some (c, g)

-- the types are compared
abbrev compared : Tree → Tree → Line
compared b A = ask (infer b) (λ B. ask (same A B) (λ y. done (Some y)))

-- where the test is b's, at this kind
abbrev by_kind : Tree → Tree → Bool → Line
by_kind b A one = if one then (asked (infer b) >>= λ B. answers (asked (same A B))) else goes_on

-- h is a constant of this unit-like type, which has as many parameters as there are bs
record IsUnitHead (w : Place) (h : Tree) (bs : List Tree) : Type 0 where
  unit : UnitLike w
  levels : List Level
  head_is : h ≡ const unit.name levels
  count : length bs ≡ unit.ind.parameters

unit_by : (w : Place) (J : Name) (ls : List Level) (g : Entry) → w.means J ≡ Some g → (block : Block) (t : BlockType) → g.kind ≡ a_type block t →
    (cs : List Ctor) → t.ctors ≡ cs → (bs : List Tree) → is_unit_like block t cs bs ≡ true → IsUnitHead w (const J ls) bs
unit_by w J ls g m block t k (c ∷ []) e bs h =
    let both : ((is_structure_like block t c && nat_eq c.fields 0) ≡ true) × (nat_eq (length bs) t.parameters ≡ true) = halves (is_structure_like block t c && nat_eq c.fields 0) (nat_eq (length bs) t.parameters) h in
    let more : (is_structure_like block t c ≡ true) × (nat_eq c.fields 0 ≡ true) = halves (is_structure_like block t c) (nat_eq c.fields 0) both.0 in
    record {
      unit = record { name = J; block = block; ind = t; ctor = c; one_ctor = e; like = more.0; no_fields = equal_numbers c.fields 0 more.1; entry = g; given = m; kind = k };
      levels = ls;
      head_is = refl;
      count = equal_numbers (length bs) t.parameters both.1;
    }
unit_by w J ls g m block t k [] e bs h = absurd cc
unit_by w J ls g m block t k (c ∷ d ∷ cs) e bs h = absurd cc

unit_at : (w : Place) (J : Name) (ls : List Level) (g : Entry) → w.means J ≡ Some g → (k : Kind) → g.kind ≡ k → (bs : List Tree) → is_unit_like_at k bs ≡ true → IsUnitHead w (const J ls) bs
unit_at w J ls g m (a_type block t) k bs h = unit_by w J ls g m block t k t.ctors refl bs h
unit_at w J ls g m _ k bs h = absurd cc

-- the test at a type whose head is h
record IsTested (w : Place) (b A h : Tree) (bs : List Tree) (v : Option Bool) (n : ℕ) : Type 0 where
  head : IsUnitHead w h bs
  runs : Runs w (compared b A) v n

other_at : (w : Place) (a b A h : Tree) (bs : List Tree) (v : Option Bool) (n : ℕ) → is_one_value bs (means_at w h) ≡ false → Runs w (eta_unit a b A h bs) v n → v ≡ None
other_at w a b A (const J ls) bs v n e r =
    let one : is_unit_like_at r.0.kind bs ≡ false = subst (λ o. is_one_value bs (o then λ g. Some ((J, ls), g)) ≡ false) r.1 e in
    let o : Runs w goes_on v n = subst (λ z. Runs w (by_kind b A z) v n) one r.2 in
    sym o.0
other_at w a b A _ bs v n e r = sym r.0

one_at : (w : Place) (a b A h : Tree) (bs : List Tree) (v : Option Bool) (n : ℕ) → is_one_value bs (means_at w h) ≡ true → Runs w (eta_unit a b A h bs) v n → IsTested w b A h bs v n
one_at w a b A (const J ls) bs v n e r =
    let one : is_unit_like_at r.0.kind bs ≡ true = subst (λ o. is_one_value bs (o then λ g. Some ((J, ls), g)) ≡ true) r.1 e in
    record { head = unit_at w J ls r.0 r.1 r.0.kind refl bs one; runs = subst (λ z. Runs w (by_kind b A z) v n) one r.2 }
one_at w a b A _ bs v n e r = absurd cc

pub unit_type : (w : Place) (a b : Tree) (most : ℕ) → IsNotNo w (by_unit_eta a b) most → IsAnsweredWithin w (infer a) most
unit_type w a b most o = asks_within w (infer a) (λ A. ask (whnf A) (λ T. eta_unit a b A (head T) (args T))) most (open_run o)

pub unit_form : (w : Place) (a b A : Tree) (most : ℕ) → IsNotNo w (by_unit_eta a b) most → IsType w a A → IsAnsweredWithin w (whnf A) most
unit_form w a b A most o t =
    asks_within w (whnf A) (λ T. eta_unit a b A (head T) (args T)) most
    (run_on w (infer a) (λ A. ask (whnf A) (λ T. eta_unit a b A (head T) (args T))) most A t.cost (open_run o) t.answered)

module _ (w : Place) (a b A T : Tree) (t : IsType w a A) (f : IsForm w A T) where
  at_form : (v : Option Bool) (n : ℕ) → Runs w (by_unit_eta a b) v n → Followed w (eta_unit a b A (head T) (args T)) v n (t.cost + f.cost)
  at_form v n h =
      let one : Followed w (ask (whnf A) (λ T. eta_unit a b A (head T) (args T))) v n t.cost = follow w (infer a) (λ A. ask (whnf A) (λ T. eta_unit a b A (head T) (args T))) v n A t.cost h t.answered in
      let two : Followed w (eta_unit a b A (head T) (args T)) v one.left f.cost = follow w (whnf A) (λ T. eta_unit a b A (head T) (args T)) v one.left T f.cost one.runs f.answered in
      let first : n ≡ t.cost + one.left = one.paid in
      let second : one.left ≡ f.cost + two.left = two.paid in
      record { left = two.left; runs = two.runs; paid = omega (arith, first, second) }

  pub unit_other : has_one_value w T ≡ false → (v : Option Bool) (n : ℕ) → Runs w (by_unit_eta a b) v n → v ≡ None
  unit_other e v n h =
      let r = at_form v n h in
      other_at w a b A (head T) (args T) v r.left e r.runs

  module _ (e : has_one_value w T ≡ true) where
    tested : (v : Option Bool) (n : ℕ) → Runs w (by_unit_eta a b) v n → Followed w (compared b A) v n (t.cost + f.cost)
    tested v n h =
        let r = at_form v n h in
        record { left = r.left; runs = (one_at w a b A (head T) (args T) v r.left e r.runs).runs; paid = r.paid }

    pub unit_right : (most : ℕ) → IsNotNo w (by_unit_eta a b) most → IsAnsweredWithin w (infer b) most
    unit_right most o = asks_within w (infer b) (λ B. ask (same A B) (λ y. done (Some y))) most (run_followed (open_run o) (tested o.value o.cost o.runs))

    pub unit_basis : (B : Tree) → IsType w b B → AreReduced w a b → (most : ℕ) → IsNotNo w (by_unit_eta a b) most → (v : Option Bool) (n : ℕ) → Runs w (by_unit_eta a b) v n →
        IsBasis w (equals a b) n (infer a ∷ whnf A ∷ infer b ∷ same A B ∷ []) (equality unit_rule a b (types a A ∷ reduces A T ∷ types b B ∷ equals A B ∷ []) ∷ [])
    unit_basis B u p most o v n h =
        let r = at_form v n h in
        let c = one_at w a b A (head T) (args T) v r.left e r.runs in
        let g : Followed w (ask (same A B) (λ y. done (Some y))) v r.left u.cost = follow w (infer b) (λ B. ask (same A B) (λ y. done (Some y))) v r.left B u.cost c.runs u.answered in
        let s : Runs w (ask (same A B) (λ y. done (Some y))) v g.left = g.runs in
        let yes : s.0 ≡ true = says_yes o v n h s.0 s.4.0 in
        let first : n ≡ (t.cost + f.cost) + r.left = r.paid in
        let second : r.left ≡ u.cost + g.left = g.paid in
        let third : g.left ≡ s.1 + s.2 = s.5 in
        let fA = (shaped_answer w p.stated (infer a) A t.cost p.left t.answered).0.1 in
        let fB = (shaped_answer w p.stated (infer b) B u.cost p.right u.answered).0.1 in
        let k = c.head in
        let is : T ≡ apply (const k.unit.name k.levels) (args T) = sym (apply_head_args T) ∙ ap (λ x. apply x (args T)) k.head_is in
        subst (λ X. IsBasis w (equals a b) n (infer a ∷ whnf A ∷ infer b ∷ same A B ∷ []) (equality unit_rule a b (types a A ∷ reduces A X ∷ types b B ∷ equals A B ∷ []) ∷ [])) (sym is)
        (one_step w (equality unit_rule a b (unit_claims a b A B (apply (const k.unit.name k.levels) (args T)))) (infer a ∷ whnf A ∷ infer b ∷ same A B ∷ []) (unit_claims a b A B (apply (const k.unit.name k.levels) (args T)))
        (t.cost + (f.cost + (u.cost + (s.1 + 0)))) n
        (a_claim (infer a) A t.cost p.left t.answered tt
        (a_claim (whnf A) (apply (const k.unit.name k.levels) (args T)) f.cost fA (subst (λ X. IsForm w A X) is f).answered tt
        (a_claim (infer b) B u.cost p.right u.answered tt
        (a_claim (same A B) s.0 s.1 (fA, fB) s.3 yes no_claim))))
        (omega (arith, first, second, third))
        ((equality_steps w).unit k.unit k.levels (args T) a b A B p.left_normal p.right_normal k.count p.left p.right)
        refl)
