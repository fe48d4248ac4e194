-- What is read of premises.
use Rattle.std.specs.Prelude.{List, Option, Some}
use Rattle.lk_tree.specs.Tree.{Tree}
use Rattle.lk_rulebook.specs.Claims.{Claim as PlainClaim}
use Rattle.lk_questions.specs.Tests.{◌>>=◌, test}
use Rattle.lk_questions.specs.Steps.{is_same_tree}
use Rattle.lk_written.specs.Premises.{Left, Stated as PlainStated, typing, reduction, equality}
use Rattle.lk_written.specs.Premises.{equal, ends}
use Rattle.lk_store.specs.Contents.{Contents, tree_at}
use Rattle.lk_premises.specs.Claims.{claim_at}
use Rattle.lk_premises.specs.declared.claims.Relation.{Relation}
use Rattle.lk_premises.specs.declared.claims.Relation.TheVariants.{Typing, Reduction, Equality}
use Rattle.lk_premises.specs.declared.premises.Next.{Next}
use Rattle.lk_premises.specs.declared.premises.Stated.{Stated}
use Rattle.lk_premises.specs.declared.premises.Read.{Read}

abbrev pub next_at : Contents → Next → PlainClaim × Left
next_at c n = (claim_at c n.claim, n.after.now)

abbrev pub stated_at : Contents → Stated → PlainStated
stated_at c s = record {
  left = tree_at c s.left;
  right = tree_at c s.right;
  after = s.after.now;
}

abbrev pub read_at : Contents → Read → Tree × Left
read_at c r = (tree_at c r.tree, r.after.now)

-- the next premise, where it states this relation
abbrev pub stated_by : Relation → List PlainClaim → Left → Option PlainStated
stated_by Typing ps js = typing ps js
stated_by Reduction ps js = reduction ps js
stated_by Equality ps js = equality ps js

-- the same, of the tree e: the other tree, and the premises after it
abbrev pub read_by : Relation → List PlainClaim → Left → Tree → Option (Tree × Left)
read_by r ps js e = do
  s ← stated_by r ps js
  u ← test (is_same_tree s.left e)
  Some (s.right, s.after)

-- a == b, and no premise is left
unfoldable pub ends_equal : List PlainClaim → Left → Tree → Tree → Option (Unit {0})
ends_equal ps js a b = do
  r ← equal ps js a b
  ends r
