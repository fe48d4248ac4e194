-- The shared pieces keep to a set of names.
use Rattle.std.proofs.Common.{length, nat_eq, Bool, true, false, List, [], ◌∷◌, Some, None, Option, if◌then◌else◌}
use Rattle.lk_tree.specs.Tree.{Name, Level, Tree, sort, pi}
use Rattle.lk_tree.specs.declared.rule.Rule.{Rule}
use Rattle.lk_tree.specs.LevelTest.{level_test}
use Rattle.lk_rulebook.specs.Place.{Entry}
use Rattle.lk_questions.specs.Program.{Program, done, refuse, ask, look, ◌>>=◌}
use Rattle.lk_questions.specs.Steps.{given, as_sort, as_pi, sort_of, with_params, with_levels}
use Rattle.lk_questions.specs.Levels.{LevelTest, complete_test, tested, level_pairs_equal, levels_equal}
use Rattle.lk_closure.proofs.Names.{Over}
use Rattle.lk_closure.proofs.Within.{Within}
use Rattle.lk_closure.proofs.Trees.{over_levels}

abbrev pub Any : {A : Type 0} → A → Type 0
Any v = Unit {0}

pub within_bind : {A B : Type 0} (P : Name → Type 0) (p : Program A) (k : A → Program B) (R : A → Type 0) (Q : B → Type 0) → Within P p R → ((v : A) → R v → Within P (k v) Q) → Within P (p >>= k) Q
within_bind P (done v) k R Q h f = f v h
within_bind P (refuse r) k R Q h f = tt
within_bind P (ask q g) k R Q h f = (h.0, λ v a. within_bind P (g v) k R Q (h.1 v a) f)
within_bind P (look r c g) k R Q h f = (h.0, λ e o. within_bind P (g e) k R Q (h.1 e o) f)

pub within_given : {A : Type 0} (P : Name → Type 0) (b : Bool) (r : Rule) (p : Program A) (Q : A → Type 0) → Within P p Q → Within P (given b r p) Q
within_given P true r p Q h = h
within_given P false r p Q h = tt

pub within_if : {A : Type 0} (P : Name → Type 0) (b : Bool) (p q : Program A) (Q : A → Type 0) → Within P p Q → Within P q Q → Within P (if b then p else q) Q
within_if P true p q Q h i = h
within_if P false p q Q h i = i

as_sort_within : (P : Name → Type 0) (S : Tree) → Within P (as_sort S) Any
as_sort_within P (sort l) = tt
as_sort_within P _ = tt

pub within_sort_of : (P : Name → Type 0) (e : Tree) → Over P e → Within P (sort_of e) Any
within_sort_of P e h = (h, λ T t. (t, λ S s. as_sort_within P S))

abbrev pub PairOver : (Name → Type 0) → Tree × Tree → Type 0
PairOver P p = Over P p.0 × Over P p.1

pub within_pi : (P : Name → Type 0) (r : Rule) (S : Tree) → Over P S → Within P (as_pi r S) (PairOver P)
within_pi P r (pi A B) h = h
within_pi P r _ h = tt

pub within_with_params : (P : Name → Type 0) (ps : List Name) (ls : List Level) (t : Tree) → Over P t → Within P (with_params ps ls t) (Over P)
within_with_params P ps ls t h = within_given P (nat_eq (length ls) (length ps)) _ (done _) (Over P) (over_levels P ps ls t h)

pub within_with_levels : (P : Name → Type 0) (g : Entry) (ls : List Level) (t : Tree) → Over P t → Within P (with_levels g ls t) (Over P)
within_with_levels P g ls t h = within_with_params P g.levels ls t h

pub within_tested : (P : Name → Type 0) (o : Option Bool) → Within P (tested o) Any
within_tested P (Some b) = tt
within_tested P None = tt

-- a test of levels that keeps to the names
abbrev pub WithinTest : (Name → Type 0) → LevelTest → Type 0
WithinTest P test = (l m : Level) → Within P (test l m) Any

pub within_complete : (P : Name → Type 0) → WithinTest P complete_test
within_complete P l m = within_tested P (level_test l m)

within_pairs : (P : Name → Type 0) (test : LevelTest) → WithinTest P test → (ls ms : List Level) → Within P (level_pairs_equal test ls ms) Any
within_pairs P test t [] [] = tt
within_pairs P test t (l ∷ ls) (m ∷ ms) =
    within_bind P (test l m) (λ equal. if equal then level_pairs_equal test ls ms else done false) Any Any (t l m)
    (λ equal a. within_if P equal (level_pairs_equal test ls ms) (done false) Any (within_pairs P test t ls ms) tt)
within_pairs P test t [] (m ∷ ms) = tt
within_pairs P test t (l ∷ ls) [] = tt

pub within_levels_equal : (P : Name → Type 0) (test : LevelTest) → WithinTest P test → (ls ms : List Level) → Within P (levels_equal test ls ms) Any
within_levels_equal P test t ls ms = within_if P (nat_eq (length ls) (length ms)) (level_pairs_equal test ls ms) (done false) Any (within_pairs P test t ls ms) tt
