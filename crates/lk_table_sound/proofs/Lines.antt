-- Soundness of what compares levels, pairs and lists, and of lines.
use Rattle.std.proofs.Common.{ℕ, ◌≡◌, ◌≤◌, Bool, true, false, nat_eq, List, [], ◌∷◌, length, Option, Some, None, if◌then◌else◌}
use Rattle.lk_tree.specs.Tree.{Level, Tree, app, local}
use Rattle.lk_table_sound.proofs.Book.{SameLevel, Book, IsDefEq, e_app, SameLevels, none, more, IsLevelTest, IsSound}
use Rattle.lk_tree.specs.Bind.{opened, bound}
use Rattle.lk_tree.specs.Spine.{apply, IsNeutral}
use Rattle.lk_tree.specs.WellFormed.{IsWellFormed, IsWellFormedUnder, AllWellFormed}
use Rattle.lk_tree.proofs.Spines.{well_formed_of_apply}
use Rattle.lk_questions.specs.Query.{same}
use Rattle.lk_questions.specs.Program.{Program, done, asked}
use Rattle.lk_questions.specs.Levels.{LevelTest, level_pairs_equal, levels_equal}
use Rattle.lk_questions.specs.Pairs.{same_bodies, same_all, Line, otherwise, answers, answers_yes, yes_alone, ◌or_else◌, unless, ◌or_line◌}
use Rattle.lk_questions.specs.Sound.{IfYes}
use Rattle.lk_table_sound.proofs.Soundness.{sound_bind, sound_map}
use Rattle.lk_claims.proofs.Pieces.{of_yes, if_yes_map}
use Rattle.lk_claims.proofs.Facts.{body_fine}
use Rattle.lk_table_sound.proofs.Goes.{sound_if}
use Rattle.lk_claims.proofs.Facts.{IfAnswers}

sound_level_pairs : (test : LevelTest) → IsLevelTest test → (w : Book) (ls ms : List Level) → IsSound w (level_pairs_equal test ls ms) (λ b. IfYes b (SameLevels ls ms))
sound_level_pairs test ok w [] [] = none
sound_level_pairs test ok w (l ∷ ls) (m ∷ ms) =
    sound_bind w (test l m) (λ equal. if equal then level_pairs_equal test ls ms else done false) (λ b. IfYes b (SameLevel l m)) (λ b. IfYes b (SameLevels (l ∷ ls) (m ∷ ms)))
    (ok w l m)
    (λ equal h. sound_if w equal (level_pairs_equal test ls ms) (done false) (λ b. IfYes b (SameLevels (l ∷ ls) (m ∷ ms)))
    (λ t. sound_map w (level_pairs_equal test ls ms) (λ b. IfYes b (SameLevels ls ms)) (λ b. IfYes b (SameLevels (l ∷ ls) (m ∷ ms)))
    (λ b. if_yes_map b (more (of_yes equal t h))) (sound_level_pairs test ok w ls ms))
    (λ t. tt))
sound_level_pairs test ok w [] (m ∷ ms) = tt
sound_level_pairs test ok w (l ∷ ls) [] = tt

pub sound_levels_equal : (test : LevelTest) → IsLevelTest test → (w : Book) (ls ms : List Level) → IsSound w (levels_equal test ls ms) (λ b. IfYes b (SameLevels ls ms))
sound_levels_equal test ok w ls ms =
    sound_if w (nat_eq (length ls) (length ms)) (level_pairs_equal test ls ms) (done false) (λ b. IfYes b (SameLevels ls ms))
    (λ t. sound_level_pairs test ok w ls ms) (λ t. tt)

-- domains, then bodies
pub sound_bodies : (w : Book) (k : ℕ) (A b A' b' : Tree) (Q : Type 0) → IsWellFormed A → IsWellFormedUnder 1 b → IsWellFormed A' → IsWellFormedUnder 1 b' → bound A ≤ k →
    (IsDefEq w A A' → IsDefEq w (opened b (local k A)) (opened b' (local k A)) → Q) → IsSound w (same_bodies k A b A' b') (λ e. IfYes e Q)
sound_bodies w k A b A' b' Q fA fb fA' fb' h q = (
  (fA, fA'),
  λ equal m. sound_if w equal (asked (same (opened b (local k A)) (opened b' (local k A)))) (done false) (λ e. IfYes e Q)
      (λ t. ((body_fine k A b fA fb h, body_fine k A b' fA fb' h), λ e n. if_yes_map e (q (of_yes equal t m)) n))
      (λ t. tt),
)

-- two lists, pair by pair
pub data AllConvert (w : Book) : List Tree → List Tree → Type 0 where
  no_pair : AllConvert w [] []
  pair : {a b : Tree} {xs ys : List Tree} → IsDefEq w a b → AllConvert w xs ys → AllConvert w (a ∷ xs) (b ∷ ys)

pub sound_all : (w : Book) (xs ys : List Tree) → AllWellFormed xs → AllWellFormed ys → IsSound w (same_all xs ys) (λ e. IfYes e (AllConvert w xs ys))
sound_all w [] [] f g = no_pair
sound_all w (a ∷ xs) (b ∷ ys) f g = (
  (f.0, g.0),
  λ equal m. sound_if w equal (same_all xs ys) (done false) (λ e. IfYes e (AllConvert w (a ∷ xs) (b ∷ ys)))
      (λ t. sound_map w (same_all xs ys) (λ e. IfYes e (AllConvert w xs ys)) (λ e. IfYes e (AllConvert w (a ∷ xs) (b ∷ ys)))
      (λ e. if_yes_map e (pair (of_yes equal t m))) (sound_all w xs ys f.1 g.1))
      (λ t. tt),
)
sound_all w [] (b ∷ ys) f g = tt
sound_all w (a ∷ xs) [] f g = tt

pub applied_convert : (w : Book) (h h' : Tree) (xs ys : List Tree) → IsNeutral h → IsNeutral h' → IsDefEq w h h' → AllConvert w xs ys → IsDefEq w (apply h xs) (apply h' ys)
applied_convert w h h' _ _ n o c no_pair = c
applied_convert w h h' _ _ n o c (pair {a = a} {b = b} {xs = xs} {ys = ys} d r) = applied_convert w (app h a) (app h' b) xs ys n o (e_app n o c d) r

pub all_convert : (w : Book) (h h' : Tree) (xs ys : List Tree) → IsNeutral h → IsNeutral h' → AllConvert w (h ∷ xs) (h' ∷ ys) → IsDefEq w (apply h xs) (apply h' ys)
all_convert w h h' xs ys n o (pair c r) = applied_convert w h h' xs ys n o c r

SameAs : Book → Tree → Tree → Bool → Type 0
SameAs w a b e = IfYes e (IsDefEq w a b)

-- the line answers rightly, where it answers
abbrev pub SoundLine : Book → Line → Type 0 → Type 0
SoundLine w line C = IsSound w line (λ o. IfAnswers o C)

pub sound_or_else : (w : Book) (line : Line) (next : Program Bool) (C : Type 0) → SoundLine w line C → IsSound w next (λ b. IfYes b C) → IsSound w (line or_else next) (λ b. IfYes b C)
sound_or_else w line next C h i = sound_bind w line (λ o. otherwise o next) (λ o. IfAnswers o C) (λ b. IfYes b C) h (go i)
  where
    go : IsSound w next (λ b. IfYes b C) → (o : Option Bool) → IfAnswers o C → IsSound w (otherwise o next) (λ b. IfYes b C)
    go i (Some b) a = a
    go i None a = i

pub sound_or_line : (w : Book) (line next : Line) (C : Type 0) → SoundLine w line C → SoundLine w next C → SoundLine w (line or_line next) C
sound_or_line w line next C h i = sound_bind w line (λ o. unless o next) (λ o. IfAnswers o C) (λ o. IfAnswers o C) h (go i)
  where
    go : SoundLine w next C → (o : Option Bool) → IfAnswers o C → SoundLine w (unless o next) C
    go i (Some b) a = a
    go i None a = i

pub sound_answers : (w : Book) (p : Program Bool) (C : Type 0) → IsSound w p (λ b. IfYes b C) → SoundLine w (answers p) C
sound_answers w p C h = sound_bind w p (λ b. done (Some b)) (λ b. IfYes b C) (λ o. IfAnswers o C) h (λ b a. a)

yes_alone_if : (C : Type 0) (b : Bool) → IfYes b C → IfAnswers (yes_alone b) C
yes_alone_if C true a = a
yes_alone_if C false a = tt

pub sound_answers_yes : (w : Book) (p : Program Bool) (C : Type 0) → IsSound w p (λ b. IfYes b C) → SoundLine w (answers_yes p) C
sound_answers_yes w p C h = sound_bind w p (λ b. done (yes_alone b)) (λ b. IfYes b C) (λ o. IfAnswers o C) h (yes_alone_if C)

pub lists_same : (w : Book) (a b h h' : Tree) (xs ys : List Tree) → apply h xs ≡ a → apply h' ys ≡ b → IsWellFormed a → IsWellFormed b → IsNeutral h → IsNeutral h' →
    IsSound w (same_all (h ∷ xs) (h' ∷ ys)) (λ e. IfYes e (IsDefEq w a b))
lists_same w a b h h' xs ys ea eb fa fb n o =
    let ra : IsWellFormed h × AllWellFormed xs = well_formed_of_apply h xs (rw ea fa) in
    let rb : IsWellFormed h' × AllWellFormed ys = well_formed_of_apply h' ys (rw eb fb) in
    sound_map w (same_all (h ∷ xs) (h' ∷ ys)) (λ e. IfYes e (AllConvert w (h ∷ xs) (h' ∷ ys))) (λ e. IfYes e (IsDefEq w a b))
    (λ e. if_yes_map e (λ c. rw (← ea, ← eb) (all_convert w h h' xs ys n o c))) (sound_all w (h ∷ xs) (h' ∷ ys) ra rb)
