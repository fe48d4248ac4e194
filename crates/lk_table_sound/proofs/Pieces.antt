-- Soundness of the shared pieces.
use Rattle.std.proofs.Common.{◌≡◌, Bool, true, false, nat_eq, length, List, Option, Some, None, refl, arith}
use Rattle.std.proofs.lemmas.Bool.Decides.{nat_tests}
use Rattle.lk_tree.specs.Tree.{Name, Level, Tree, sort, pi}
use Rattle.lk_table_sound.proofs.Book.{SameLevel, level_tested, Book, HasType, HasSort, has_sort, Reduces, well_formed_of_type, well_formed_of_reduct, IsSound}
use Rattle.lk_tree.specs.LevelTest.{level_test}
use Rattle.lk_questions.specs.Levels.{tested}
use Rattle.lk_tree.specs.declared.rule.Rule.{Rule}
use Rattle.lk_tree.specs.Levels.{put_levels}
use Rattle.lk_tree.specs.WellFormed.{IsWellFormed}
use Rattle.lk_rulebook.specs.Place.{Entry}
use Rattle.lk_questions.specs.Program.{Program, done, ◌>>=◌}
use Rattle.lk_questions.specs.Steps.{given, as_sort, as_pi, sort_of, with_params, with_levels}
use Rattle.lk_questions.specs.Sound.{IfYes}

pub sound_given : {A : Type 0} (w : Book) (b : Bool) (r : Rule) (p : Program A) (P : A → Type 0) → (b ≡ true → IsSound w p P) → IsSound w (given b r p) P
sound_given w true r p P h = h refl
sound_given w false r p P h = tt

-- the type of e reduces to T
pub record TypesTo (w : Book) (e T : Tree) : Type 0 where
  pub between : Tree
  pub types : HasType w e between
  pub reduces : Reduces w between T

pub well_formed_of_to : {w : Book} {e T : Tree} → TypesTo w e T → IsWellFormed T
well_formed_of_to h = (well_formed_of_reduct h.reduces).1

as_sort_sound : (w : Book) (e T S : Tree) → HasType w e T → Reduces w T S → IsSound w (as_sort S) (λ l. HasSort w e l)
as_sort_sound w e T (sort l) h r = has_sort h r
as_sort_sound w e T _ h r = tt

pub sound_sort_of : (w : Book) (e : Tree) → IsWellFormed e → IsSound w (sort_of e) (λ l. HasSort w e l)
sound_sort_of w e f = (f, λ T m. ((well_formed_of_type m.0).1, λ S n. as_sort_sound w e T S m.0 n.0))

pub sound_pi : {A : Type 0} (w : Book) (r : Rule) (S : Tree) (k : Tree × Tree → Program A) (P : A → Type 0) →
    ((A B : Tree) → S ≡ pi A B → IsSound w (k (A, B)) P) → IsSound w (as_pi r S >>= k) P
sound_pi w r (pi A B) k P h = h A B refl
sound_pi w r _ k P h = tt

pub sound_with_params : (w : Book) (ps : List Name) (ls : List Level) (t : Tree) (P : Tree → Type 0) →
    (length ls ≡ length ps → P (put_levels ps ls t)) → IsSound w (with_params ps ls t) P
sound_with_params w ps ls t P h =
    sound_given w (nat_eq (length ls) (length ps)) _ (done (put_levels ps ls t)) P (λ e. h (grind (arith, nat_tests, e)))

pub sound_with_levels : (w : Book) (g : Entry) (ls : List Level) (t : Tree) (P : Tree → Type 0) →
    (length ls ≡ length g.levels → P (put_levels g.levels ls t)) → IsSound w (with_levels g ls t) P
sound_with_levels w g ls t P h = sound_with_params w g.levels ls t P h

level_test_yes : (l m : Level) (b : Bool) → level_test l m ≡ Some b → IfYes b (SameLevel l m)
level_test_yes l m true h = level_tested l m h
level_test_yes l m false h = tt

pub sound_tested : (w : Book) (l m : Level) (o : Option Bool) → level_test l m ≡ o → IsSound w (tested o) (λ b. IfYes b (SameLevel l m))
sound_tested w l m (Some b) h = level_test_yes l m b h
sound_tested w l m None h = tt
