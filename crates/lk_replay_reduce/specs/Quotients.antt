-- Quot.lift and Quot.ind on an element of a quotient.
use Rattle.std.specs.Prelude.{◌<◌, ℕ, List, [], ◌∷◌, codes, length, Option, Some}
use Rattle.lk_tree.specs.Tree.{Name, text, Tree, app}
use Rattle.lk_tree.specs.Mentions.{same_name}
use Rattle.lk_rulebook.specs.Place.{Place}
use Rattle.lk_rulebook.specs.Claims.{Claim}
use Rattle.lk_questions.specs.Tests.{◌>>=◌, test, passes}
use Rattle.lk_written.specs.Premises.{Left, reduced}
use Rattle.lk_written.specs.Reducing.{is_quot}
use Rattle.lk_written.specs.Typing.{comes_to}
use Rattle.lk_store.specs.Contents.{Contents, name_at, tree_at}
use Rattle.lk_replay_reduce.specs.Applications.{as_app, constant_name}
use Rattle.lk_replay_reduce.specs.declared.quotients.Front.{Front}
use Rattle.lk_replay_reduce.specs.declared.quotients.Redex.{Redex}

-- a constant with four arguments: its name, and the last of them
abbrev pub four_parts : Tree → Option (Name × Tree)
four_parts t = do
  p ← as_app t
  q ← as_app p.0
  r ← as_app q.0
  s ← as_app r.0
  c ← constant_name s.0
  Some (c, p.1)

-- a constant with six arguments: its name, the fourth and the last of them
abbrev pub lift_parts : Tree → Option (Name × Tree × Tree)
lift_parts t = do
  p ← as_app t
  q ← as_app p.0
  r ← four_parts q.0
  Some (r.0, r.1, p.1)

-- the same with five
abbrev pub ind_parts : Tree → Option (Name × Tree × Tree)
ind_parts t = do
  p ← as_app t
  r ← four_parts p.0
  Some (r.0, r.1, p.1)

-- the last argument of the constant mk with three
abbrev pub element : Name → Tree → Option Tree
element mk t = do
  p ← as_app t
  q ← as_app p.0
  r ← as_app q.0
  c ← constant_name r.0
  u ← test (same_name c mk)
  Some p.1

abbrev pub front_at : Contents → Front → Name × Tree
front_at c f = (name_at c f.name, tree_at c f.function)

abbrev pub redex_at : Contents → Redex → Name × Tree × Tree
redex_at c r = (name_at c r.name, tree_at c r.function, tree_at c r.major)

-- its numbers are those of the store
pub record IsFrontIn (c : Contents) (f : Front) : Type 0 where
  pub name_in : f.name < length c.names
  pub function_in : f.function < length c.trees

pub record IsRedexIn (c : Contents) (r : Redex) : Type 0 where
  pub name_in : r.name < length c.names
  pub function_in : r.function < length c.trees
  pub major_in : r.major < length c.trees

-- b is f x, and no premise is left
abbrev pub applied_is : Left → Tree → Tree → Tree → Option (Unit {0})
applied_is js f x b = comes_to b (app f x) js

-- m >> the constructor mk on an element, and b is f on that
abbrev pub element_read : List Claim → Left → Name → Name × Tree × Tree → Tree → Option (Unit {0})
element_read ps js mk p b = do
  n ← reduced ps js p.2
  a ← element mk n.0
  applied_is n.1 p.1 a b

-- the same, where quotient units give the constant q and mk
abbrev pub quot_read : Place → List Claim → Left → Name → Name → Name × Tree × Tree → Tree →
    Option (Unit {0})
quot_read w ps js q mk p b = do
  u ← test (same_name p.0 q)
  v ← test (passes (is_quot w q))
  x ← test (passes (is_quot w mk))
  element_read ps js mk p b

-- the name of this word behind Quot
abbrev pub quot_name : List ℕ → Name
quot_name word = text (codes "Quot") ∷ text word ∷ []
