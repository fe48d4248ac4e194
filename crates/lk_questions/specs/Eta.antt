-- Same by structure eta, and by eta of unit-like types.
use Rattle.std.specs.Prelude.{ℕ, suc, ◌+◌, Bool, true, false, ◌&&◌, nat_eq, List, [], ◌∷◌, length, drop, Option, Some, None, if◌then◌else◌}
use Rattle.lk_tree.specs.Tree.{Name, Tree, const, proj}
use Rattle.lk_tree.specs.Spine.{head, args}
use Rattle.lk_tree.specs.declared.rule.Rule.TheVariants.{UnknownConstant}
use Rattle.lk_rulebook.specs.Place.{Kind, Block, BlockType, Ctor, a_type}
use Rattle.lk_rulebook.specs.Structures.{is_structure_like}
use Rattle.lk_questions.specs.Query.{whnf, infer, same}
use Rattle.lk_questions.specs.Program.{Program, done, look, asked, ◌>>=◌}
use Rattle.lk_questions.specs.Iota.{CtorApp, ctor_app_of, has_one_ctor}
use Rattle.lk_questions.specs.Pairs.{Line, answers, answers_yes, goes_on}

-- Proj(J, j, a) is the same as x, for each x, up to the first no
abbrev pub same_fields : Name → Tree → ℕ → List Tree → Program Bool
same_fields J a j [] = done true
same_fields J a j (x ∷ xs) = do
  equal ← asked (same (proj J j a) x)
  if equal then same_fields J a (suc j) xs else done false

-- b is this constructor applied
abbrev pub eta_struct : Tree → Tree → Option CtorApp → Line
eta_struct a b None = goes_on
eta_struct a b (Some k) =
    if nat_eq (length k.args) (k.ctor.parameters + k.ctor.fields) && (has_one_ctor k.ind.ctors && is_structure_like k.block k.ind k.ctor) then (do
      A ← asked (infer a)
      B ← asked (infer b)
      equal ← asked (same A B)
      if equal then answers_yes (same_fields k.ind.name a 0 (drop k.ctor.parameters k.args)) else goes_on)
    else goes_on

-- structure eta, where b is the constructor applied
abbrev pub by_structure_eta : Tree → Tree → Line
by_structure_eta a b = do
  k ← ctor_app_of (head b) (args b)
  eta_struct a b k

-- T is this type, unit-like (structure-like and without fields), at exactly its parameters
abbrev pub is_unit_like : Block → BlockType → List Ctor → List Tree → Bool
is_unit_like block t (c ∷ []) bs = (is_structure_like block t c && nat_eq c.fields 0) && nat_eq (length bs) t.parameters
is_unit_like block t _ bs = false

abbrev pub is_unit_like_at : Kind → List Tree → Bool
is_unit_like_at (a_type block t) bs = is_unit_like block t t.ctors bs
is_unit_like_at _ bs = false

-- a has the type A, which is h bs in weak head form
abbrev pub eta_unit : Tree → Tree → Tree → Tree → List Tree → Line
eta_unit a b A (const J ls) bs = look UnknownConstant J λ g.
    (if is_unit_like_at g.kind bs then (do
      B ← asked (infer b)
      answers (asked (same A B)))
    else goes_on)
eta_unit a b A _ bs = goes_on

-- any two trees of a unit-like type are the same
abbrev pub by_unit_eta : Tree → Tree → Line
by_unit_eta a b = do
  A ← asked (infer a)
  T ← asked (whnf A)
  eta_unit a b A (head T) (args T)
