-- Same's lines on literals are sound.
use Rattle.std.proofs.Common.{ℕ, zero, suc, ◌≡◌, ◌<◌, Bool, true, false, List, [], Option, Some, None, refl, arith, if◌then◌else◌}
use Rattle.lk_tree.specs.Tree.{Name, Tree, const, app, lit, str}
use Rattle.lk_tree.specs.Spine.{apply, head, args}
use Rattle.lk_tree.specs.WellFormed.{IsWellFormed}
use Rattle.lk_tree.proofs.Spines.{well_formed_of_apply}
use Rattle.lk_tree.proofs.Within.{apply_head_args}
use Rattle.lk_table_sound.proofs.Book.{Book, r_refl, IsDefEq, e_reduce, e_zero_left, e_zero_right, e_succ_left, e_succ_right, e_str_left, e_str_right, well_formed_of_reduct, IsSound}
use Rattle.lk_rulebook.specs.Names.{named, nat_zero, nat_succ}
use Rattle.lk_tree.specs.Mentions.{same_name}
use Rattle.lk_rulebook.proofs.Texts.{expansion_fine}
use Rattle.lk_questions.specs.Query.{same}
use Rattle.lk_questions.specs.Program.{asked}
use Rattle.lk_questions.specs.Strings.{expansion_of}
use Rattle.lk_questions.specs.Pairs.{goes_on}
use Rattle.lk_questions.specs.LiteralLines.{step_of, same_first, same_second, NatCtor, is_zero, is_succ, nat_ctor, lit_first, lit_second, same_numbers, step_first, step_second, by_literals, is_made, text_first, text_second, by_string}
use Rattle.lk_table_sound.proofs.Soundness.{sound_bind}
use Rattle.lk_claims.proofs.Pieces.{same_name_right, if_yes_map}
use Rattle.lk_table_sound.proofs.Goes.{sound_if}
use Rattle.lk_claims.proofs.Facts.{IfAnswers}
use Rattle.lk_table_sound.proofs.Lines.{SoundLine, sound_or_line, sound_answers}
use Rattle.lk_table_sound.proofs.LiteralSteps.{IfStep, sound_literal_step}
use Rattle.lk_table_sound.proofs.Shaped.{IfExpands, sound_expansion_of}

sound_step_of : (w : Book) (e h : Tree) → IsWellFormed e → apply h (args e) ≡ e → IsSound w (step_of e h) (IfStep w e)
sound_step_of w e (const f ls) fe eq = λ g m. sound_literal_step w e f ls g m eq (well_formed_of_apply (const f ls) (args e) (rw eq fe)).1
sound_step_of w e _ fe eq = tt

sound_first : (w : Book) (a b : Tree) → IsWellFormed b → (o : Option Tree) → IfStep w a o → SoundLine w (same_first o b) (IsDefEq w a b)
sound_first w a b fb None i = tt
sound_first w a b fb (Some r) i = sound_answers w (asked (same r b)) (IsDefEq w a b)
    (((well_formed_of_reduct i.0).1, fb), λ e m. if_yes_map e (λ c. e_reduce i.0 (r_refl fb) c) m)

sound_second : (w : Book) (a b : Tree) → IsWellFormed a → (o : Option Tree) → IfStep w b o → SoundLine w (same_second a o) (IsDefEq w a b)
sound_second w a b fa None i = tt
sound_second w a b fa (Some r) i = sound_answers w (asked (same a r)) (IsDefEq w a b)
    ((fa, (well_formed_of_reduct i.0).1), λ e m. if_yes_map e (λ c. e_reduce (r_refl fa) i.0 c) m)

sound_step_first : (w : Book) (a b : Tree) → IsWellFormed a → IsWellFormed b → SoundLine w (step_first a b) (IsDefEq w a b)
sound_step_first w a b fa fb = sound_bind w (step_of a (head a)) (λ r. same_first r b) (IfStep w a) (λ o. IfAnswers o (IsDefEq w a b))
    (sound_step_of w a (head a) fa (apply_head_args a)) (sound_first w a b fb)

sound_step_second : (w : Book) (a b : Tree) → IsWellFormed a → IsWellFormed b → SoundLine w (step_second a b) (IsDefEq w a b)
sound_step_second w a b fa fb = sound_bind w (step_of b (head b)) (λ r. same_second a r) (IfStep w b) (λ o. IfAnswers o (IsDefEq w a b))
    (sound_step_of w b (head b) fb (apply_head_args b)) (sound_second w a b fa)

-- the tree is zero or a successor
abbrev IfNatCtor : Tree → Option NatCtor → Type 0
IfNatCtor e None = Unit {0}
IfNatCtor e (Some is_zero) = e ≡ named nat_zero
IfNatCtor e (Some (is_succ x)) = e ≡ app (named nat_succ) x

zero_right : (c : Name) (b : Bool) → same_name c nat_zero ≡ b → IfNatCtor (const c []) (if b then Some is_zero else None)
zero_right c true h = let e : c ≡ nat_zero = same_name_right c nat_zero h in rw e refl
zero_right c false h = tt

succ_right : (c : Name) (x : Tree) (b : Bool) → same_name c nat_succ ≡ b → IfNatCtor (app (const c []) x) (if b then Some (is_succ x) else None)
succ_right c x true h = let e : c ≡ nat_succ = same_name_right c nat_succ h in rw e refl
succ_right c x false h = tt

nat_ctor_right : (e : Tree) → IfNatCtor e (nat_ctor e)
nat_ctor_right (const c []) = zero_right c (same_name c nat_zero) refl
nat_ctor_right (app (const c []) x) = succ_right c x (same_name c nat_succ) refl
nat_ctor_right _ = tt

one_less : (n top : ℕ) → suc n < top → n < top
one_less n top h = omega arith

sound_lit_first : (w : Book) (n : ℕ) (b : Tree) → IsWellFormed (lit n) → IsWellFormed b → (o : Option NatCtor) → IfNatCtor b o → SoundLine w (lit_first n o) (IsDefEq w (lit n) b)
sound_lit_first w zero b fn fb (Some is_zero) i = rw i e_zero_left
sound_lit_first w (suc n) b fn fb (Some (is_succ x)) i =
    let f : IsWellFormed (app (named nat_succ) x) = rw i at fb in
    sound_answers w (asked (same (lit n) x)) (IsDefEq w (lit (suc n)) b)
    ((one_less n _ fn, f.1), λ e m. if_yes_map e (λ c. rw i (e_succ_left fn c)) m)
sound_lit_first w zero b fn fb (Some (is_succ x)) i = tt
sound_lit_first w (suc n) b fn fb (Some is_zero) i = tt
sound_lit_first w n b fn fb None i = tt

sound_lit_second : (w : Book) (n : ℕ) (a : Tree) → IsWellFormed (lit n) → IsWellFormed a → (o : Option NatCtor) → IfNatCtor a o → SoundLine w (lit_second o n) (IsDefEq w a (lit n))
sound_lit_second w zero a fn fa (Some is_zero) i = rw i e_zero_right
sound_lit_second w (suc n) a fn fa (Some (is_succ x)) i =
    let f : IsWellFormed (app (named nat_succ) x) = rw i at fa in
    sound_answers w (asked (same x (lit n))) (IsDefEq w a (lit (suc n)))
    ((f.1, one_less n _ fn), λ e m. if_yes_map e (λ c. rw i (e_succ_right fn c)) m)
sound_lit_second w zero a fn fa (Some (is_succ x)) i = tt
sound_lit_second w (suc n) a fn fa (Some is_zero) i = tt
sound_lit_second w n a fn fa None i = tt

sound_numbers : (w : Book) (a b : Tree) → IsWellFormed a → IsWellFormed b → SoundLine w (same_numbers a b) (IsDefEq w a b)
sound_numbers w (lit n) b fa fb = sound_lit_first w n b fa fb (nat_ctor b) (nat_ctor_right b)
sound_numbers w a (lit n) fa fb = sound_lit_second w n a fb fa (nat_ctor a) (nat_ctor_right a)
sound_numbers w _ _ fa fb = tt

pub sound_by_literals : (w : Book) (a b : Tree) → IsWellFormed a → IsWellFormed b → SoundLine w (by_literals a b) (IsDefEq w a b)
sound_by_literals w a b fa fb = sound_or_line w (step_first a b) _ (IsDefEq w a b) (sound_step_first w a b fa fb)
    (sound_or_line w (step_second a b) (same_numbers a b) (IsDefEq w a b) (sound_step_second w a b fa fb) (sound_numbers w a b fa fb))

-- a text on one side
text_left : (w : Book) (s : List ℕ) (b : Tree) → IsWellFormed b → (o : Option Tree) → IfExpands w s o → SoundLine w (same_first o b) (IsDefEq w (str s) b)
text_left w s b fb None i = tt
text_left w s b fb (Some x) i = sound_answers w (asked (same x b)) (IsDefEq w (str s) b)
    ((rw i.1 (expansion_fine i.0.rule), fb), λ e m. if_yes_map e (λ c. e_str_left i.0 (rw i.1 at c)) m)

text_right : (w : Book) (s : List ℕ) (a : Tree) → IsWellFormed a → (o : Option Tree) → IfExpands w s o → SoundLine w (same_second a o) (IsDefEq w a (str s))
text_right w s a fa None i = tt
text_right w s a fa (Some x) i = sound_answers w (asked (same a x)) (IsDefEq w a (str s))
    ((fa, rw i.1 (expansion_fine i.0.rule)), λ e m. if_yes_map e (λ c. e_str_right i.0 (rw i.1 at c)) m)

sound_text_first : (w : Book) (a b : Tree) → IsWellFormed a → IsWellFormed b → SoundLine w (text_first a b) (IsDefEq w a b)
sound_text_first w (str s) b fa fb =
    sound_if w (is_made (head b) (args b)) _ goes_on (λ o. IfAnswers o (IsDefEq w (str s) b))
    (λ t. sound_bind w (expansion_of s) (λ x. same_first x b) (IfExpands w s) (λ o. IfAnswers o (IsDefEq w (str s) b)) (sound_expansion_of w s) (text_left w s b fb))
    (λ t. tt)
sound_text_first w _ b fa fb = tt

sound_text_second : (w : Book) (a b : Tree) → IsWellFormed a → IsWellFormed b → SoundLine w (text_second a b) (IsDefEq w a b)
sound_text_second w a (str s) fa fb =
    sound_if w (is_made (head a) (args a)) _ goes_on (λ o. IfAnswers o (IsDefEq w a (str s)))
    (λ t. sound_bind w (expansion_of s) (λ x. same_second a x) (IfExpands w s) (λ o. IfAnswers o (IsDefEq w a (str s))) (sound_expansion_of w s) (text_right w s a fa))
    (λ t. tt)
sound_text_second w a _ fa fb = tt

pub sound_by_string : (w : Book) (a b : Tree) → IsWellFormed a → IsWellFormed b → SoundLine w (by_string a b) (IsDefEq w a b)
sound_by_string w a b fa fb = sound_or_line w (text_first a b) (text_second a b) (IsDefEq w a b) (sound_text_first w a b fa fb) (sound_text_second w a b fa fb)
