-- A tree, and a constructor of a structure with all its arguments.
use Rattle.std.specs.Prelude.{◌≡◌, ℕ, Bool, ◌&&◌, List, drop, Option, IfOk, Result, option_map}
use Rattle.std.specs.Borrow.{Bor}
use Rattle.lk_tree.specs.Tree.{Name, Tree}
use Rattle.lk_tree.specs.Spine.{args}
use Rattle.lk_rulebook.specs.Place.{a_ctor}
use Rattle.lk_rulebook.specs.Claims.{Claim}
use Rattle.lk_questions.specs.Iota.{CtorApp}
use Rattle.lk_questions.specs.Tests.{◌>>=◌, test}
use Rattle.lk_written.specs.Premises.{Left, ends, typed, equal}
use Rattle.lk_written.specs.Equal.{is_head_normal, fields_equal}
use Rattle.lk_store.specs.declared.memory.NoMemory.{NoMemory}
use Rattle.lk_store.specs.Contents.{Contents, Extends}
use Rattle.lk_eta.specs.Structures.{is_full}

-- numbers stand for what they stood for, all else is as it was, and these premises are left, if any
pub record ReadsOn {S R : Type 0} (contents : S → Contents) (standing : S → R) (old new : S)
    (result : Result (Option (Bor (List ℕ))) NoMemory) (read : Option Left) : Type 0 where
  pub keeps : Extends (contents old) (contents new)
  pub stays : standing new ≡ standing old
  pub ok : IfOk result (λ o. read ≡ option_map (λ r. r.now) o)

-- a => A, b => B, A == B
unfoldable pub types_read : List Claim → Left → Tree → Tree → Option Left
types_read ps js a b = do
  A ← typed ps js a
  B ← typed ps A.1 b
  equal ps B.1 A.0 B.0

-- Proj(J, j, a) == x for each field x
unfoldable pub fields_after : List Claim → Left → Name → Tree → List Tree → Option (Unit {0})
fields_after ps js J a xs = do
  s ← fields_equal ps js J a 0 xs
  ends s

-- the same, where the types are equal
abbrev pub full_and : List Claim → Left → Tree → Tree → Name → List Tree → Option (Unit {0})
full_and ps js a b J xs = do
  r ← types_read ps js a b
  fields_after ps r J a xs

-- the head of a takes no step, and b is this constructor of a structure with all its arguments
abbrev pub are_full : Tree → Tree → CtorApp → Bool
are_full a b k = is_head_normal a && is_full (a_ctor k.block k.ind k.ctor) (args b)

-- the same, the types are equal, and so is each field
abbrev pub constructor_and : List Claim → Left → Tree → Tree → CtorApp → Option (Unit {0})
constructor_and ps js a b k = do
  u ← test (are_full a b k)
  full_and ps js a b k.ind.name (drop k.ctor.parameters (args b))
