-- A node whose parts are known by other numbers.
use Rattle.std.specs.Prelude.{List, [], ◌∷◌}
use Rattle.lk_store.specs.declared.node.NameNode.{NameNode}
use Rattle.lk_store.specs.declared.node.NameNode.TheVariants as n
use Rattle.lk_store.specs.declared.node.LevelNode.{LevelNode}
use Rattle.lk_store.specs.declared.node.LevelNode.TheVariants as l
use Rattle.lk_store.specs.declared.node.ListNode.{ListNode}
use Rattle.lk_store.specs.declared.node.ListNode.TheVariants as q
use Rattle.lk_store.specs.declared.node.Node.{Node}
use Rattle.lk_store.specs.declared.node.Node.TheVariants as t
use Rattle.lk_spell.specs.declared.part.Part.{Part}
use Rattle.lk_spell.specs.declared.part.Part.TheVariants.{Name, Text, Level, List as Levels, Term}
use Rattle.lk_spell.specs.declared.spelled.OwnNode.{OwnNode}
use Rattle.lk_spell.specs.declared.spelled.OwnNode.TheVariants as own
use Rattle.lk_spell.specs.declared.numbers.Numbers.{Numbers}
use Rattle.lk_spell.specs.Numbers.{IsDone, number_or}

-- each has a number
abbrev pub AreDone : Numbers → List Part → Type 0
AreDone m [] = Unit {0}
AreDone m (p ∷ ps) = IsDone m p × AreDone m ps

abbrev pub moved_name : Numbers → NameNode → NameNode
moved_name m n.Anonymous = n.Anonymous
moved_name m (n.Text a s) = n.Text (number_or m (Name a)) (number_or m (Text s))
moved_name m (n.Number a i) = n.Number (number_or m (Name a)) i

abbrev pub moved_level : Numbers → LevelNode → LevelNode
moved_level m l.Zero = l.Zero
moved_level m (l.Succ i) = l.Succ (number_or m (Level i))
moved_level m (l.Max i j) = l.Max (number_or m (Level i)) (number_or m (Level j))
moved_level m (l.IMax i j) = l.IMax (number_or m (Level i)) (number_or m (Level j))
moved_level m (l.Param a) = l.Param (number_or m (Name a))

abbrev pub moved_list : Numbers → ListNode → ListNode
moved_list m q.Empty = q.Empty
moved_list m (q.Cons i j) = q.Cons (number_or m (Level i)) (number_or m (Levels j))

abbrev pub moved_term : Numbers → Node → Node
moved_term m (t.Var i) = t.Var i
moved_term m (t.Sort i) = t.Sort (number_or m (Level i))
moved_term m (t.Const a i) = t.Const (number_or m (Name a)) (number_or m (Levels i))
moved_term m (t.App f a) = t.App (number_or m (Term f)) (number_or m (Term a))
moved_term m (t.Lam A b) = t.Lam (number_or m (Term A)) (number_or m (Term b))
moved_term m (t.Pi A B) = t.Pi (number_or m (Term A)) (number_or m (Term B))
moved_term m (t.Let A v b) = t.Let (number_or m (Term A)) (number_or m (Term v)) (number_or m (Term b))
moved_term m (t.Proj S i s) = t.Proj (number_or m (Name S)) i (number_or m (Term s))
moved_term m (t.Lit i) = t.Lit i
moved_term m t.Wide = t.Wide
moved_term m (t.Str s) = t.Str (number_or m (Text s))
moved_term m (t.Local k T) = t.Local k (number_or m (Term T))

abbrev pub moved : Numbers → OwnNode → OwnNode
moved m (own.Name x) = own.Name (moved_name m x)
moved m (own.Text s) = own.Text s
moved m (own.Level x) = own.Level (moved_level m x)
moved m (own.List x) = own.List (moved_list m x)
moved m (own.Term x) = own.Term (moved_term m x)
