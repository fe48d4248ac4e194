-- Two trees by texts.
use Rattle.std.proofs.Common.{ℕ, ◌≡◌, ◌+◌, ◌≤◌, Bool, true, false, List, [], ◌∷◌, Option, Some, None, refl, sym, ap, subst, if◌then◌else◌, arith}
use Rattle.std.specs.Prelude.{option_map}
use Rattle.std.specs.Str.{chars}
use Rattle.lk_tree.specs.Tree.{Tree, str}
use Rattle.lk_tree.specs.Spine.{head, args}
use Rattle.lk_tree.specs.WellFormed.{IsWellFormed}
use Rattle.lk_rulebook.specs.Place.{Place}
use Rattle.lk_rulebook.specs.Claims.{equals}
use Rattle.lk_rulebook.specs.Literals.{expansion}
use Rattle.lk_rulebook.proofs.Texts.{expansion_fine}
use Rattle.lk_claims.proofs.Readings.{IfExpands, sound_expansion_of}
use Rattle.lk_questions.specs.Query.{same}
use Rattle.lk_questions.specs.Program.{Program, done, ◌>>=◌}
use Rattle.lk_questions.specs.Erased.{Steps, truth, erased}
use Rattle.lk_questions.specs.LiteralLines.{is_made, same_first, same_second, text_second}
use Rattle.lk_questions.specs.Pairs.{goes_on, ◌or_else◌, ◌or_line◌}
use Rattle.lk_questions.specs.Strings.{expansion_of, tree_or}
use Rattle.lk_questions.specs.Tests.{found}
use Rattle.lk_table_sound.proofs.Soundness.{IsQuiet}
use Rattle.lk_written.specs.Line.{EqualityRule, str_left_rule, str_right_rule}
use Rattle.lk_ask.specs.declared.sheet.Pair.{Pair}
use Rattle.lk_ask.specs.declared.query.Query.TheVariants as queries
use Rattle.lk_ask.specs.declared.next.Next.{Next}
use Rattle.lk_ask.specs.declared.next.Next.TheVariants.{Ask, Done, No}
use Rattle.lk_ask.specs.declared.next.Line.{Line}
use Rattle.lk_ask.specs.declared.next.Line.TheVariants.{Goes, Behind}
use Rattle.lk_ask.specs.Sheets.{map_pair}
use Rattle.lk_lit.specs.declared.answer.AnswerSheet.{AnswerSheet}
use Rattle.lk_lit.specs.Answers.{texts_line}
use Rattle.lk_step.specs.Steps.{equality, StepHolds}
use Rattle.lk_step.specs.Rows.{IsAnswered, no_claim, a_claim}
use Rattle.lk_step.specs.Runs.{Runs}
use Rattle.lk_step.specs.Tests.{IsYes, AreReduced}
use Rattle.lk_step.specs.Tells.{IsBasis}
use Rattle.lk_step.proofs.EqualitySteps.{equality_steps}
use Rattle.lk_step.proofs.Quiet.{quiet_text}
use Rattle.lk_step.proofs.Bases.{one_step}
use Rattle.lk_derive_eta.specs.Texts.{pair_asked, texts_alone, texts_pair, numbers_asked, text_rule}
use Rattle.lk_derive_eta.proofs.Reaching.{quiet_first, Reached, reach}

quiet_expansion : (s : List ℕ) → IsQuiet (expansion_of s)
quiet_expansion s = quiet_first (expansion_of s) (λ x. done (tree_or x (str s))) (quiet_text (str s))

-- the two are the same, for no more than n, and so are a and b by this rule
pub record SaysText (w : Place) (rule : EqualityRule) (a b : Tree) (n : ℕ) (p : Pair Tree) : Type 0 where
  pub cost : ℕ
  pub answered : IsAnswered w (same p.left p.right) true cost
  pub within : cost ≤ n
  pub left : IsWellFormed p.left
  pub right : IsWellFormed p.right
  pub holds : StepHolds w (equality rule a b (equals p.left p.right ∷ []))

abbrev TextSays : Place → EqualityRule → Tree → Tree → ℕ → Option (Pair Tree) → Type 0
TextSays w rule a b n None = ⊥
TextSays w rule a b n (Some p) = SaysText w rule a b n p

-- the two of a question that says yes
abbrev pair_of : Tree → Tree → Pair Tree
pair_of x y = record { left = x; right = y }

-- what stands around the expansion of the first, and of the second
abbrev around_first : Tree → Tree → Program (Option Tree) → Program Bool
around_first a b p = ((p >>= λ x. same_first x b) or_line text_second a b) or_else done false

abbrev around_second : Tree → Program (Option Tree) → Program Bool
around_second a p = (p >>= λ x. same_second a x) or_else done false

-- nothing is left to say yes
nothing_more : (w : Place) (s : List ℕ) (b : Tree) (n : ℕ) → Runs w (text_second (str s) b or_else done false) true n → ⊥
unfolding head args
nothing_more w s (str z) n h = let e : false ≡ true = h.0 in absurd cc
nothing_more w s _ n h = let e : false ≡ true = h.0 in absurd cc

first_by : (w : Place) (s : List ℕ) (b : Tree) (n : ℕ) (last : Option ℕ) → IsWellFormed b → (o : Option Tree) → found w (expansion_of s) ≡ Some o → IfExpands w s o → Runs w (around_first (str s) b (done o)) true n →
    TextSays w str_left_rule (str s) b n (pair_asked (erased w truth last (around_first (str s) b (done o))))
first_by w s b n last fb None f i h = absurd (nothing_more w s b n h)
first_by w s b n last fb (Some x) f i h =
    let e : x ≡ expansion (chars s) = i.1 in
    let paid : n ≡ h.1 + h.2 = h.5 in
    let yes : h.0 ≡ true = h.4.0 in
    record {
      cost = h.1;
      answered = subst (λ y. IsAnswered w (same x b) y h.1) yes h.3;
      within = omega (arith, paid);
      left = subst IsWellFormed (sym e) (expansion_fine i.0);
      right = fb;
      holds = subst (λ z. StepHolds w (equality str_left_rule (str s) b (equals z b ∷ []))) (sym e) ((equality_steps w).str_left s b (subst (λ z. found w (expansion_of s) ≡ Some (Some z)) e f) fb);
    }

second_by : (w : Place) (a : Tree) (s : List ℕ) (n : ℕ) (last : Option ℕ) → IsWellFormed a → (o : Option Tree) → found w (expansion_of s) ≡ Some o → IfExpands w s o → Runs w (around_second a (done o)) true n →
    TextSays w str_right_rule a (str s) n (pair_asked (erased w truth last (around_second a (done o))))
second_by w a s n last fa None f i h = let e : false ≡ true = h.0 in absurd cc
second_by w a s n last fa (Some x) f i h =
    let e : x ≡ expansion (chars s) = i.1 in
    let paid : n ≡ h.1 + h.2 = h.5 in
    let yes : h.0 ≡ true = h.4.0 in
    record {
      cost = h.1;
      answered = subst (λ y. IsAnswered w (same a x) y h.1) yes h.3;
      within = omega (arith, paid);
      left = fa;
      right = subst IsWellFormed (sym e) (expansion_fine i.0);
      holds = subst (λ z. StepHolds w (equality str_right_rule a (str s) (equals a z ∷ []))) (sym e) ((equality_steps w).str_right s a (subst (λ z. found w (expansion_of s) ≡ Some (Some z)) e f) fa);
    }

first_yes : (w : Place) (s : List ℕ) (b : Tree) (n : ℕ) (last : Option ℕ) → IsWellFormed b → (z : Bool) →
    Runs w (((if z then (expansion_of s >>= λ x. same_first x b) else goes_on) or_line text_second (str s) b) or_else done false) true n →
    TextSays w str_left_rule (str s) b n (pair_asked (erased w truth last (((if z then (expansion_of s >>= λ x. same_first x b) else goes_on) or_line text_second (str s) b) or_else done false)))
first_yes w s b n last fb false h = absurd (nothing_more w s b n h)
first_yes w s b n last fb true h =
    let r : Reached w (around_first (str s) b) (IfExpands w s) (expansion_of s) true n last =
    reach w (around_first (str s) b) (IfExpands w s) (λ r c k. refl) (λ r. refl) (expansion_of s) true n last (quiet_expansion s) (sound_expansion_of w s) h in
    subst (λ z. TextSays w str_left_rule (str s) b n (pair_asked z)) (sym r.same) (first_by w s b n r.next fb r.value r.found_is r.holds r.runs)

second_yes : (w : Place) (a : Tree) (s : List ℕ) (n : ℕ) (last : Option ℕ) → IsWellFormed a → (z : Bool) →
    Runs w ((if z then (expansion_of s >>= λ x. same_second a x) else goes_on) or_else done false) true n →
    TextSays w str_right_rule a (str s) n (pair_asked (erased w truth last ((if z then (expansion_of s >>= λ x. same_second a x) else goes_on) or_else done false)))
second_yes w a s n last fa false h = let e : false ≡ true = h.0 in absurd cc
second_yes w a s n last fa true h =
    let r : Reached w (around_second a) (IfExpands w s) (expansion_of s) true n last =
    reach w (around_second a) (IfExpands w s) (λ r c k. refl) (λ r. refl) (expansion_of s) true n last (quiet_expansion s) (sound_expansion_of w s) h in
    subst (λ z. TextSays w str_right_rule a (str s) n (pair_asked z)) (sym r.same) (second_by w a s n r.next fa r.value r.found_is r.holds r.runs)

-- the second may be a text
by_second : (w : Place) (a b : Tree) (n : ℕ) (last : Option ℕ) → IsWellFormed a → Runs w (text_second a b or_else done false) true n →
    TextSays w str_right_rule a b n (pair_asked (erased w truth last (text_second a b or_else done false)))
by_second w a (str s) n last fa h = second_yes w a s n last fa (is_made (head a) (args a)) h
by_second w a _ n last fa h = let e : false ≡ true = h.0 in absurd cc

text_says : (w : Place) (a b : Tree) (n : ℕ) (last : Option ℕ) → IsWellFormed a → IsWellFormed b → Runs w (texts_alone a b) true n → TextSays w (text_rule a) a b n (texts_pair w last a b)
text_says w (str s) b n last fa fb h = first_yes w s b n last fb (is_made (head b) (args b)) h
text_says w a b n last fa fb h = by_second w a b n last fa h

says_text : {w : Place} {rule : EqualityRule} {a b : Tree} {n : ℕ} {o : Option (Pair Tree)} (p : Pair Tree) → Some p ≡ o → TextSays w rule a b n o → SaysText w rule a b n p
says_text {w} {rule} {a} {b} {n} p e h = subst (λ o. TextSays w rule a b n o) (sym e) h

-- something is compared, and the row rests on that
pub text_some : (w : Place) (a b : Tree) (most : ℕ) (last : Option ℕ) → AreReduced w a b → IsYes w (texts_alone a b) most → None ≡ texts_pair w last a b → ⊥
text_some w a b most last p y e = subst (λ o. TextSays w (text_rule a) a b y.cost o) (sym e) (text_says w a b y.cost last p.left p.right y.runs)

pub text_basis : (w : Place) (a b : Tree) (last : Option ℕ) → AreReduced w a b → (q : Pair Tree) → Some q ≡ texts_pair w last a b → (n : ℕ) → Runs w (texts_alone a b) true n →
    IsBasis w (equals a b) n (same q.left q.right ∷ []) (equality (text_rule a) a b (equals q.left q.right ∷ []) ∷ [])
text_basis w a b last p q e n h =
    let s : SaysText w (text_rule a) a b n q = says_text q e (text_says w a b n last p.left p.right h) in
    let within : s.cost ≤ n = s.within in
    one_step w (equality (text_rule a) a b (equals q.left q.right ∷ [])) (same q.left q.right ∷ []) (equals q.left q.right ∷ []) (s.cost + 0) n
    (a_claim (same q.left q.right) true s.cost (s.left, s.right) s.answered refl no_claim) (omega (arith, within)) s.holds refl

-- what a line asks for
next_pair : (t : ℕ → Tree) (w : Place) (last : Option ℕ) (next : Next ℕ AnswerSheet) (does : Steps) → texts_line (λ a b. done false) w t last (Goes next) ≡ does → option_map (map_pair t) (numbers_asked (Goes next)) ≡ pair_asked does
next_pair t w last (Ask (queries.Core r) s) does h = ap pair_asked h
next_pair t w last (Ask (queries.Whnf r) s) does h = ap pair_asked h
next_pair t w last (Ask (queries.Infer r) s) does h = ap pair_asked h
next_pair t w last (Ask (queries.Same r u) s) does h = ap pair_asked h
next_pair t w last (Done v) does h = ap pair_asked h
next_pair t w last (No r) does h = ap pair_asked h

pub line_pair : (t : ℕ → Tree) (w : Place) (last : Option ℕ) (line : Line ℕ AnswerSheet) (does : Steps) → texts_line (λ a b. done false) w t last line ≡ does → option_map (map_pair t) (numbers_asked line) ≡ pair_asked does
line_pair t w last (Goes next) does h = next_pair t w last next does h
line_pair t w last (Behind a b) does h = ap pair_asked h
