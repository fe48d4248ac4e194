-- Soundness of the shared pieces.
use Rattle.std.proofs.Common.{ℕ, ◌≡◌, ◌<◌, Bool, true, false, ◌&&◌, nat_eq, nat_lt, length, List, [], ◌∷◌, Option, Some, None, refl, ap, subst, ◌∙◌}
use Rattle.std.proofs.lemmas.Bool.Decides.{nat_tests}
use Rattle.std.proofs.Common.{arith}
use Rattle.lk_tree.specs.Tree.{Name, name_discrete, Level, Tree, tree_discrete, sort, pi}
use Rattle.lk_tree.specs.Level.{SameLevel}
use Rattle.lk_tree.specs.LevelTest.{level_test}
use Rattle.lk_tree.proofs.LevelTests.{level_test_right}
use Rattle.lk_tree.specs.Mentions.{same_name}
use Rattle.lk_questions.specs.Levels.{tested}
use Rattle.lk_tree.specs.declared.rule.Rule.{Rule}
use Rattle.lk_tree.specs.Levels.{put_levels}
use Rattle.lk_tree.specs.WellFormed.{IsWellFormed}
use Rattle.lk_rulebook.specs.Place.{Place, Entry, Kind, a_def, a_thm, an_axiom, an_opaque, a_quot, a_type, a_ctor, a_rec}
use Rattle.lk_rulebook.specs.Rules.{HasType, HasSort, has_sort, Reduces, HasValue, of_def, of_thm}
use Rattle.lk_rulebook.proofs.Scopes.{well_formed_of_type, well_formed_of_reduct}
use Rattle.lk_questions.specs.Program.{Program, done, ◌>>=◌}
use Rattle.lk_questions.specs.Steps.{given, as_sort, as_pi, sort_of, with_params, with_levels, value_of, decided, is_same_tree}
use Rattle.lk_questions.specs.Sound.{IfYes, IsSound, IsStated, KindStated}

pub sound_given : {A : Type 0} (w : Place) (b : Bool) (r : Rule) (p : Program A) (P : A → Type 0) → (b ≡ true → IsSound w p P) → IsSound w (given b r p) P
sound_given w true r p P h = h refl
sound_given w false r p P h = tt

pub of_yes : {P : Type 0} (b : Bool) → b ≡ true → IfYes b P → P
of_yes {P} b e h = subst (λ x. IfYes x P) e h

-- the type of e reduces to T
pub record TypesTo (w : Place) (e T : Tree) : Type 0 where
  pub between : Tree
  pub types : HasType w e between
  pub reduces : Reduces w between T

pub well_formed_of_to : {w : Place} {e T : Tree} → TypesTo w e T → IsWellFormed T
well_formed_of_to h = (well_formed_of_reduct h.reduces).1

as_sort_sound : (w : Place) (e T S : Tree) → HasType w e T → Reduces w T S → IsSound w (as_sort S) (λ l. HasSort w e l)
as_sort_sound w e T (sort l) h r = has_sort h r
as_sort_sound w e T _ h r = tt

pub sound_sort_of : (w : Place) (e : Tree) → IsWellFormed e → IsSound w (sort_of e) (λ l. HasSort w e l)
sound_sort_of w e f = (f, λ T m. ((well_formed_of_type m.0).1, λ S n. as_sort_sound w e T S m.0 n.0))

pub sound_pi : {A : Type 0} (w : Place) (r : Rule) (S : Tree) (k : Tree × Tree → Program A) (P : A → Type 0) →
    ((A B : Tree) → S ≡ pi A B → IsSound w (k (A, B)) P) → IsSound w (as_pi r S >>= k) P
sound_pi w r (pi A B) k P h = h A B refl
sound_pi w r _ k P h = tt

pub same_tree : (a b : Tree) → is_same_tree a b ≡ true → a ≡ b
same_tree a b = go (tree_discrete a b)
  where
    go : (d : Dec (a ≡ b)) → decided d ≡ true → a ≡ b
    go (yes e) h = e
    go (no f) h = absurd (cc)

pub sound_with_params : (w : Place) (ps : List Name) (ls : List Level) (t : Tree) (P : Tree → Type 0) →
    (length ls ≡ length ps → P (put_levels ps ls t)) → IsSound w (with_params ps ls t) P
sound_with_params w ps ls t P h =
    sound_given w (nat_eq (length ls) (length ps)) _ (done (put_levels ps ls t)) P (λ e. h (grind (arith, nat_tests, e)))

pub sound_with_levels : (w : Place) (g : Entry) (ls : List Level) (t : Tree) (P : Tree → Type 0) →
    (length ls ≡ length g.levels → P (put_levels g.levels ls t)) → IsSound w (with_levels g ls t) P
sound_with_levels w g ls t P h = sound_with_params w g.levels ls t P h

pub Some_inj : {A : Type 0} {a b : A} → Some a ≡ Some b → a ≡ b
Some_inj e = cc

pub has_value : (g : Entry) (k : Kind) (v : Tree) → g.kind ≡ k → value_of k ≡ Some v → HasValue g v
has_value g (a_def h u) v k e = of_def (k ∙ ap (a_def h) (Some_inj e))
has_value g (a_thm u) v k e = of_thm (k ∙ ap a_thm (Some_inj e))
has_value g an_axiom v k e = absurd cc
has_value g (an_opaque u) v k e = absurd cc
has_value g a_quot v k e = absurd cc
has_value g (a_type b i) v k e = absurd cc
has_value g (a_ctor b i c) v k e = absurd cc
has_value g (a_rec r) v k e = absurd cc

pub value_stated : (k : Kind) (v : Tree) → KindStated k → value_of k ≡ Some v → IsStated v
value_stated (a_def h u) v s e = let i : u ≡ v = Some_inj e in rw (← i) s
value_stated (a_thm u) v s e = let i : u ≡ v = Some_inj e in rw (← i) s
value_stated an_axiom v s e = absurd cc
value_stated (an_opaque u) v s e = absurd cc
value_stated a_quot v s e = absurd cc
value_stated (a_type b i) v s e = absurd cc
value_stated (a_ctor b i c) v s e = absurd cc
value_stated (a_rec r) v s e = absurd cc

pub halves : (a b : Bool) → (a && b) ≡ true → (a ≡ true) × (b ≡ true)
halves true true h = (refl, refl)
halves true false h = absurd cc
halves false b h = absurd cc

pub equal_numbers : (m n : ℕ) → nat_eq m n ≡ true → m ≡ n
equal_numbers m n h = grind (arith, nat_tests)

pub less_number : (m n : ℕ) → nat_lt m n ≡ true → m < n
less_number m n h = grind (arith, nat_tests)

pub no_item : {A : Type 0} (xs : List A) → length xs ≡ 0 → xs ≡ []
no_item [] h = refl
no_item (x ∷ xs) h = absurd (omega arith)

pub same_name_right : (c d : Name) → same_name c d ≡ true → c ≡ d
same_name_right c d = go (name_discrete c d)
  where
    go : (x : Dec (c ≡ d)) → (elim x [ yes e ↦ true | no f ↦ false ]) ≡ true → c ≡ d
    go (yes e) h = e
    go (no f) h = absurd cc

pub of_decided : {A : Type 0} (d : Dec A) → decided d ≡ true → A
of_decided (yes a) h = a
of_decided (no f) h = absurd cc

level_test_yes : (l m : Level) (b : Bool) → level_test l m ≡ Some b → IfYes b (SameLevel l m)
level_test_yes l m true h = level_test_right l m h
level_test_yes l m false h = tt

pub sound_tested : (w : Place) (l m : Level) (o : Option Bool) → level_test l m ≡ o → IsSound w (tested o) (λ b. IfYes b (SameLevel l m))
sound_tested w l m (Some b) h = level_test_yes l m b h
sound_tested w l m None h = tt

pub if_yes_map : {P Q : Type 0} (b : Bool) → (P → Q) → IfYes b P → IfYes b Q
if_yes_map true f h = f h
if_yes_map false f h = tt
