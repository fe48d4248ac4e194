-- Two trees of one kind, compared part by part, and any two by their Core.
use Rattle.std.proofs.Common.{ℕ, ◌≡◌, ◌≤◌, max, Bool, true, ◌&&◌, List, ◌∷◌, arith, subst}
use Rattle.lk_tree.specs.Tree.{Name, Level, Tree, sort, const, app, lam, pi}
use Rattle.lk_table_sound.proofs.Book.{SameLevel, Book, IsDefEq, e_reduce, e_sort, e_const, e_lam, e_pi, SameLevels, well_formed_of_reduct, IsSound, IsJustified, IsLevelTest}
use Rattle.lk_tree.specs.Bind.{bound}
use Rattle.lk_tree.specs.Spine.{head, args, IsNeutral, IsHeadNormal}
use Rattle.lk_tree.specs.WellFormed.{IsWellFormed}
use Rattle.lk_tree.proofs.Spines.{neutral_head}
use Rattle.lk_tree.proofs.Within.{apply_head_args}
use Rattle.lk_questions.specs.Query.{same}
use Rattle.lk_questions.specs.Program.{Program, asked}
use Rattle.lk_questions.specs.Sound.{IfYes}
use Rattle.lk_table_sound.proofs.Soundness.{sound_map}
use Rattle.lk_questions.specs.Steps.{is_same_tree}
use Rattle.lk_questions.specs.Levels.{LevelTest, levels_equal}
use Rattle.lk_questions.specs.Pairs.{same_bodies, by_core, same_all}
use Rattle.lk_claims.proofs.Pieces.{same_tree, halves, if_yes_map}
use Rattle.lk_claims.proofs.Facts.{bound_left, pi_bound_left}
use Rattle.lk_table_sound.proofs.Goes.{sound_if}
use Rattle.lk_table_sound.proofs.Lines.{sound_levels_equal, sound_bodies, lists_same}

pub sorts_same : (test : LevelTest) → IsLevelTest test → (w : Book) (l m : Level) → IsSound w (test l m) (IsJustified w (same (sort l) (sort m)))
sorts_same test ok w l m =
    sound_map w (test l m) (λ e. IfYes e (SameLevel l m)) (IsJustified w (same (sort l) (sort m))) (λ e. if_yes_map e (λ s. e_sort s)) (ok w l m)

pub constants_same : (test : LevelTest) → IsLevelTest test → (w : Book) (c d : Name) (ls ms : List Level) → c ≡ d →
    IsSound w (levels_equal test ls ms) (IsJustified w (same (const c ls) (const d ms)))
constants_same test ok w c d ls ms e =
    sound_map w (levels_equal test ls ms) (λ b. IfYes b (SameLevels ls ms)) (IsJustified w (same (const c ls) (const d ms)))
    (λ b. if_yes_map b (λ s. rw e (e_const s))) (sound_levels_equal test ok w ls ms)

pub applications_same : (w : Book) (f a g b : Tree) → IsWellFormed (app f a) → IsWellFormed (app g b) → IsNeutral (app f a) → IsNeutral (app g b) →
    IsSound w (same_all (head f ∷ args (app f a)) (head g ∷ args (app g b))) (IsJustified w (same (app f a) (app g b)))
unfolding head
applications_same w f a g b ff fg na nb =
    lists_same w (app f a) (app g b) (head (app f a)) (head (app g b)) (args (app f a)) (args (app g b)) (apply_head_args (app f a)) (apply_head_args (app g b)) ff fg
    (neutral_head (app f a) na) (neutral_head (app g b) nb)

bounds : (x y : ℕ) → (x ≤ max x y) × (y ≤ max x y)
bounds x y = (omega arith, omega arith)

pub lambdas_same : (w : Book) (A b A' b' : Tree) → IsWellFormed (lam A b) → IsWellFormed (lam A' b') →
    IsSound w (same_bodies (max (bound (lam A b)) (bound (lam A' b'))) A b A' b') (IsJustified w (same (lam A b) (lam A' b')))
lambdas_same w A b A' b' f g =
    let k : ℕ = max (bound (lam A b)) (bound (lam A' b')) in
    let o : (bound (lam A b) ≤ k) × (bound (lam A' b') ≤ k) = bounds (bound (lam A b)) (bound (lam A' b')) in
    sound_bodies w k A b A' b' (IsDefEq w (lam A b) (lam A' b')) f.0 f.1 g.0 g.1 (bound_left A b k o.0) (λ c d. e_lam (o.0, (o.1, tt)) c d)

pub pis_same : (w : Book) (A b A' b' : Tree) → IsWellFormed (pi A b) → IsWellFormed (pi A' b') →
    IsSound w (same_bodies (max (bound (pi A b)) (bound (pi A' b'))) A b A' b') (IsJustified w (same (pi A b) (pi A' b')))
pis_same w A b A' b' f g =
    let k : ℕ = max (bound (pi A b)) (bound (pi A' b')) in
    let o : (bound (pi A b) ≤ k) × (bound (pi A' b') ≤ k) = bounds (bound (pi A b)) (bound (pi A' b')) in
    sound_bodies w k A b A' b' (IsDefEq w (pi A b) (pi A' b')) f.0 f.1 g.0 g.1 (pi_bound_left A b k o.0) (λ c d. e_pi (o.0, (o.1, tt)) c d)

-- where both are their own Core, what comes next has head normal trees
pub cores_same : (w : Book) (a b : Tree) (next : Program Bool) → IsWellFormed a → IsWellFormed b →
    (IsHeadNormal a → IsHeadNormal b → IsSound w next (IsJustified w (same a b))) → IsSound w (by_core a b next) (IsJustified w (same a b))
cores_same w a b next fa fb h = (
  fa,
  λ a' ma. (
    fb,
    λ b' mb. sound_if w (is_same_tree a' a && is_same_tree b' b) next (asked (same a' b')) (IsJustified w (same a b))
        (λ t. let both : (is_same_tree a' a ≡ true) × (is_same_tree b' b ≡ true) = halves (is_same_tree a' a) (is_same_tree b' b) t in
        h (subst IsHeadNormal (same_tree a' a both.0) ma.1) (subst IsHeadNormal (same_tree b' b both.1) mb.1))
        (λ t. (((well_formed_of_reduct ma.0.0).1, (well_formed_of_reduct mb.0.0).1), λ e n. if_yes_map e (λ c. e_reduce ma.0.0 mb.0.0 c) n)),
  ),
)
