-- Small facts about trees, tests and programs at a place.
use Rattle.std.proofs.Common.{ℕ, ◌≡◌, ◌≤◌, inl, inr, Bool, true, false, List, [], ◌∷◌, Option, Some, None, refl, ◌∙◌, arith, if◌then◌else◌}
use Rattle.lk_tree.specs.Tree.{Name, Level, Tree, tree_discrete, var, sort, const, app, lam, pi, let_in, proj, lit, wide, str, local}
use Rattle.lk_tree.specs.Bind.{opened, bound}
use Rattle.lk_tree.specs.Level.{SameLevel}
use Rattle.lk_tree.specs.LevelTest.{level_test}
use Rattle.lk_tree.specs.Mentions.{same_name}
use Rattle.lk_tree.specs.Spine.{head, IsHeadNormal}
use Rattle.lk_tree.specs.WellFormed.{IsWellFormed, IsWellFormedUnder, LocalsWithin}
use Rattle.lk_tree.proofs.Binding.{open_fine}
use Rattle.lk_tree.proofs.LevelTests.{level_test_right}
use Rattle.lk_rulebook.specs.Place.{Place, Entry, Kind, Block, BlockType, Ctor, a_quot, a_ctor}
use Rattle.lk_rulebook.specs.WellStated.{IsListed, KindStated}
use Rattle.lk_rulebook.specs.Rules.{SameLevels, none, more}
use Rattle.lk_questions.specs.Program.{Program, done, refuse, ask, look}
use Rattle.lk_questions.specs.Sound.{IsSound, IfYes}
use Rattle.lk_questions.specs.Steps.{decided, is_same_tree}
use Rattle.lk_questions.specs.Iota.{has_one_ctor, levels_at}
use Rattle.lk_questions.specs.Quotients.{by_quot}
use Rattle.lk_questions.specs.Tests.{◌>>=◌, test, passes, found, is_true, same_levels}
use Rattle.lk_claims.proofs.Pieces.{Some_inj, halves, same_name_right}

pub sound_if : {A : Type 0} (w : Place) (b : Bool) (p q : Program A) (P : A → Type 0) → (b ≡ true → IsSound w p P) → (b ≡ false → IsSound w q P) → IsSound w (if b then p else q) P
sound_if w true p q P h i = h refl
sound_if w false p q P h i = i refl

-- what may be Core's answer for itself
abbrev pub IsCore : Tree → Type 0
IsCore e = IsWellFormed e × IsHeadNormal e

-- closed, and with Locals of s alone
abbrev pub Kept : Tree → Tree → Type 0
Kept s r = IsWellFormed r × LocalsWithin s r

abbrev pub IfAnswers : Option Bool → Type 0 → Type 0
IfAnswers (Some b) P = IfYes b P
IfAnswers None P = Unit {0}

pub quot_kind : (k : Kind) → by_quot k ≡ true → k ≡ a_quot
quot_kind a_quot h = refl
quot_kind _ h = absurd cc

pub bound_left : (A b : Tree) (k : ℕ) → bound (lam A b) ≤ k → bound A ≤ k
unfolding bound
bound_left A b k h = omega arith

pub bound_right : (A b : Tree) (k : ℕ) → bound (lam A b) ≤ k → bound b ≤ k
unfolding bound
bound_right A b k h = omega arith

pub pi_bound_left : (A B : Tree) (k : ℕ) → bound (pi A B) ≤ k → bound A ≤ k
unfolding bound
pi_bound_left A B k h = omega arith

pub body_fine : (k : ℕ) (A b : Tree) → IsWellFormed A → IsWellFormedUnder 1 b → bound A ≤ k → IsWellFormed (opened b (local k A))
body_fine k A b fA fb h = open_fine 0 (local k A) b fb (fA, h)

pub the_ctor : (c : Ctor) (cs : List Ctor) → has_one_ctor cs ≡ true → IsListed c cs → cs ≡ c ∷ []
the_ctor c (d ∷ []) h (inl e) = rw e refl
the_ctor c (d ∷ []) h (inr e) = absurd e
the_ctor c [] h e = absurd cc
the_ctor c (d ∷ f ∷ cs) h e = absurd cc

pub listed_of : (g : Entry) (b : Block) (i : BlockType) (c : Ctor) → g.kind ≡ a_ctor b i c → KindStated g.kind → IsListed c i.ctors
listed_of g b i c e s = let t : KindStated (a_ctor b i c) = rw e at s in t.1

pub same_name_levels : (J : Name) (T : Tree) (ks : List Level) → (h : Tree) → head T ≡ h → levels_at J h ≡ Some ks → head T ≡ const J ks
same_name_levels J T ks (const c ls) e h = e ∙ go (same_name J c) refl h
  where
    go : (b : Bool) → same_name J c ≡ b → (if b then Some ls else None) ≡ Some ks → const c ls ≡ const J ks
    go true t i = let x : J ≡ c = same_name_right J c t in let y : ls ≡ ks = Some_inj i in rw (x, y) refl
    go false t i = absurd cc
same_name_levels J T ks (var i) e h = absurd cc
same_name_levels J T ks (sort l) e h = absurd cc
same_name_levels J T ks (app f a) e h = absurd cc
same_name_levels J T ks (lam A b) e h = absurd cc
same_name_levels J T ks (pi A b) e h = absurd cc
same_name_levels J T ks (let_in A v b) e h = absurd cc
same_name_levels J T ks (proj S i s) e h = absurd cc
same_name_levels J T ks (lit n) e h = absurd cc
same_name_levels J T ks wide e h = absurd cc
same_name_levels J T ks (str s) e h = absurd cc
same_name_levels J T ks (local k S) e h = absurd cc

pub same_self : (a : Tree) → is_same_tree a a ≡ true
same_self a = go (tree_discrete a a)
  where
    go : (d : Dec (a ≡ a)) → decided d ≡ true
    go (yes e) = refl
    go (no f) = absurd (f refl)

pub pass_test : (b : Bool) → b ≡ true → passes (test b) ≡ true
pass_test true e = refl
pass_test false e = absurd cc

pub some_on : {A B : Type 0} (o : Option A) (v : A) (k : A → Option B) (u : B) → o ≡ Some v → k v ≡ Some u → (o >>= k) ≡ Some u
some_on (Some x) v k u e h = let i : x ≡ v = Some_inj e in rw i h
some_on None v k u e h = absurd cc

pub level_right : (l m : Level) → is_true (level_test l m) ≡ true → SameLevel l m
level_right l m h = go (level_test l m) refl h
  where
    go : (o : Option Bool) → level_test l m ≡ o → is_true o ≡ true → SameLevel l m
    go (Some true) e h = level_test_right l m e
    go (Some false) e h = absurd cc
    go None e h = absurd cc

pub levels_right : (ls ms : List Level) → same_levels ls ms ≡ true → SameLevels ls ms
levels_right [] [] h = none
levels_right [] (m ∷ ms) h = absurd cc
levels_right (l ∷ ls) [] h = absurd cc
levels_right (l ∷ ls) (m ∷ ms) h =
    let x : (is_true (level_test l m) ≡ true) × (same_levels ls ms ≡ true) = halves (is_true (level_test l m)) (same_levels ls ms) h in
    more (level_right l m x.0) (levels_right ls ms x.1)

-- what a sound program that asks nothing is done with
pub found_holds : {A : Type 0} (w : Place) (p : Program A) (P : A → Type 0) (v : A) → IsSound w p P → found w p ≡ Some v → P v
found_holds w (done u) P v s e = let i : u ≡ v = Some_inj e in rw (← i) s
found_holds w (refuse r) P v s e = absurd cc
found_holds w (ask q k) P v s e = absurd cc
found_holds w (look r c k) P v s e = go (w.means c) refl (λ g m h. found_holds w (k g) P v (s g m) h) e
  where
    go : (o : Option Entry) → w.means c ≡ o → ((g : Entry) → w.means c ≡ Some g → found w (k g) ≡ Some v → P v) → (o >>= λ g. found w (k g)) ≡ Some v → P v
    go (Some g) m f h = f g m h
    go None m f h = absurd cc
