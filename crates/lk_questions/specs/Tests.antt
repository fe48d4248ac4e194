-- Tests in place of what the rules ask of levels, of shapes and of literals.
use Rattle.std.specs.Prelude.{zero, suc, Bool, true, false, ◌&&◌, List, [], ◌∷◌, Option, Some, None}
use Rattle.std.specs.Prelude.{if◌then◌else◌}
use Rattle.lk_tree.specs.Tree.{Level, Tree, app, lit, str}
use Rattle.lk_tree.specs.LevelTest.{level_test}
use Rattle.lk_rulebook.specs.Place.{Place}
use Rattle.lk_rulebook.specs.Names.{named, nat_zero, nat_succ}
use Rattle.lk_questions.specs.Program.{Program, done, refuse, ask, look}
use Rattle.lk_questions.specs.Steps.{is_same_tree}
use Rattle.lk_questions.specs.Strings.{text_to_ctor}

infixl 20 ◌>>=◌
abbrev pub ◌>>=◌ : {A B : Type 0} → Option A → (A → Option B) → Option B
◌>>=◌ (Some v) k = k v
◌>>=◌ None k = None

abbrev pub test : Bool → Option (Unit {0})
test true = Some tt
test false = None

abbrev pub passes : {A : Type 0} → Option A → Bool
passes (Some v) = true
passes None = false

-- what a program that asks nothing is done with at w
abbrev pub found : {A : Type 0} → Place → Program A → Option A
found w (done v) = Some v
found w (refuse r) = None
found w (ask q k) = None
found w (look r c k) = w.means c >>= λ g. found w (k g)

-- the levels are equal; LevelWidth does not pass
abbrev pub is_true : Option Bool → Bool
is_true (Some b) = b
is_true None = false

abbrev pub same_levels : List Level → List Level → Bool
same_levels [] [] = true
same_levels (l ∷ ls) (m ∷ ms) = is_true (level_test l m) && same_levels ls ms
same_levels [] (m ∷ ms) = false
same_levels (l ∷ ls) [] = false

-- m reads as n: they are the same, or n is its expansion, zero or successor
abbrev pub reads_as : Place → Tree → Tree → Option (Unit {0})
reads_as w (lit zero) n = test (is_same_tree n (named nat_zero))
reads_as w (lit (suc k)) n = test (is_same_tree n (app (named nat_succ) (lit k)))
reads_as w (str s) n = do
  x ← found w (text_to_ctor (str s))
  test (is_same_tree n x)
reads_as w m n = None

abbrev pub reads : Place → Tree → Tree → Option (Unit {0})
reads w m n = if is_same_tree n m then Some tt else reads_as w m n
