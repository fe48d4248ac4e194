-- What a tree goes to, in parts.
use Rattle.std.proofs.Common.{ℕ, suc, ◌≡◌, inl, inr, Bool, true, false, length, List, [], ◌∷◌, Some, refl, if◌then◌else◌}
use Rattle.lk_tree.specs.Tree.{Name, Level, Tree, const, app, lam}
use Rattle.lk_tree.specs.Bind.{opened}
use Rattle.lk_tree.specs.Levels.{put_levels}
use Rattle.lk_tree.specs.Spine.{apply}
use Rattle.lk_tree.specs.WellFormed.{IsWellFormed, AllWellFormed, LocalsWithin}
use Rattle.lk_tree.proofs.Spines.{well_formed_of_apply}
use Rattle.lk_tree.proofs.Within.{within_refl, within_trans, within_open, within_apply, no_local, bound_put_levels, fine_put_levels}
use Rattle.lk_table_sound.proofs.Book.{Book, Reduces, r_refl, r_trans, r_head, r_beta, r_delta, well_formed_of_reduct, IsSound, IsJustified, WellStated}
use Rattle.lk_rulebook.specs.Place.{Entry}
use Rattle.lk_questions.specs.Program.{Program}
use Rattle.lk_questions.specs.Steps.{value_of}
use Rattle.lk_questions.specs.Core.{beta}
use Rattle.lk_questions.specs.Sound.{IsStated}
use Rattle.lk_questions.specs.Query.{core}
use Rattle.lk_claims.proofs.Pieces.{has_value, value_stated}
use Rattle.lk_claims.proofs.Facts.{IsCore}

pub reduct_apply : (w : Book) (h h' : Tree) (xs : List Tree) → Reduces w h h' → AllWellFormed xs → Reduces w (apply h xs) (apply h' xs)
reduct_apply w h h' [] c f = c
reduct_apply w h h' (a ∷ xs) c f = reduct_apply w (app h a) (app h' a) xs (r_head c f.0) f.1

-- e goes to v: it reduces to it, and v has no Local of its own
abbrev pub GoesTo : Book → Tree → Tree → Type 0
GoesTo w e v = Reduces w e v × LocalsWithin e v

pub stays : (w : Book) (e : Tree) → IsWellFormed e → GoesTo w e e
stays w e f = (r_refl f, within_refl e)

pub goes_on : (w : Book) (e v u : Tree) → GoesTo w e v → GoesTo w v u → GoesTo w e u
goes_on w e v u g h = (r_trans g.0 h.0, within_trans e v u g.1 h.1)

pub core_stays : (w : Book) (e : Tree) → IsCore e → IsJustified w (core e) e
core_stays w e f = (stays w e f.0, f.1)

pub core_on : (w : Book) (e v u : Tree) → GoesTo w e v → IsJustified w (core v) u → IsJustified w (core e) u
core_on w e v u g h = (goes_on w e v u g h.0, h.1)

pub goes_applied : (w : Book) (h h' : Tree) (xs : List Tree) → AllWellFormed xs → GoesTo w h h' → GoesTo w (apply h xs) (apply h' xs)
goes_applied w h h' xs f g = (reduct_apply w h h' xs g.0 f, within_apply h h' xs g.1)

one_beta : (w : Book) (A b a : Tree) → IsWellFormed (app (lam A b) a) → GoesTo w (app (lam A b) a) (opened b a)
one_beta w A b a f = (r_beta f, within_open (app (lam A b) a) b a (λ k T m. inl (inr m)) (λ k T m. inr m))

pub beta_goes : (w : Book) (n : ℕ) (h : Tree) (xs : List Tree) → IsWellFormed (apply h xs) → GoesTo w (apply h xs) (beta n h xs)
beta_goes w (suc n) (lam A b) (a ∷ rest) f =
    let r : IsWellFormed (app (lam A b) a) × AllWellFormed rest = well_formed_of_apply (app (lam A b) a) rest f in
    let g : GoesTo w (apply (app (lam A b) a) rest) (apply (opened b a) rest) = goes_applied w (app (lam A b) a) (opened b a) rest r.1 (one_beta w A b a r.0) in
    goes_on w (apply (app (lam A b) a) rest) (apply (opened b a) rest) (beta n (opened b a) rest) g (beta_goes w n (opened b a) rest (well_formed_of_reduct g.0).1)
beta_goes w _ h rest f = stays w (apply h rest) f

pub sound_if : {A : Type 0} (w : Book) (b : Bool) (p q : Program A) (P : A → Type 0) → (b ≡ true → IsSound w p P) → (b ≡ false → IsSound w q P) → IsSound w (if b then p else q) P
sound_if w true p q P h i = h refl
sound_if w false p q P h i = i refl

-- a constant goes to its value
pub unfolds : (w : Book) → WellStated w → (c : Name) (ls : List Level) (g : Entry) (v : Tree) → w.place.means c ≡ Some g → value_of g.kind ≡ Some v →
    length ls ≡ length g.levels → GoesTo w (const c ls) (put_levels g.levels ls v)
unfolds w ok c ls g v m h count =
    let s : IsStated v = value_stated g.kind v (ok c g m).1 h in (
      r_delta (record { entry = g; given = m; levels_are = count }) (has_value g g.kind v refl h) (fine_put_levels g.levels ls 0 v s.0),
      no_local (const c ls) (put_levels g.levels ls v) (rw (bound_put_levels g.levels ls v) s.1),
    )
