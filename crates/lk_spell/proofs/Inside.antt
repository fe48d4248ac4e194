-- The parts of a node that is there are there.
use Rattle.std.proofs.Common.{List, [], ◌∷◌}
use Rattle.lk_store.specs.Contents.{Contents, IsNameIn, IsLevelIn, IsListIn, IsIn}
use Rattle.lk_store.specs.declared.node.NameNode.{NameNode}
use Rattle.lk_store.specs.declared.node.NameNode.TheVariants as n
use Rattle.lk_store.specs.declared.node.LevelNode.{LevelNode}
use Rattle.lk_store.specs.declared.node.LevelNode.TheVariants as l
use Rattle.lk_store.specs.declared.node.ListNode.{ListNode}
use Rattle.lk_store.specs.declared.node.ListNode.TheVariants as q
use Rattle.lk_store.specs.declared.node.Node.{Node}
use Rattle.lk_store.specs.declared.node.Node.TheVariants as t
use Rattle.lk_spell.specs.Opened.{name_parts, level_parts, list_parts, term_parts}
use Rattle.lk_spell.specs.Parts.{IsPartIn}
use Rattle.lk_spell.specs.Spelled.{IsOwnIn}
use Rattle.lk_spell.specs.Standing.{own_parts}
use Rattle.lk_spell.specs.declared.part.Part.{Part}
use Rattle.lk_spell.specs.declared.spelled.OwnNode.{OwnNode}
use Rattle.lk_spell.specs.declared.spelled.OwnNode.TheVariants as own

abbrev pub AreIn : Contents → List Part → Type 0
AreIn c [] = Unit {0}
AreIn c (p ∷ ps) = IsPartIn c p × AreIn c ps

pub name_in : (c : Contents) (x : NameNode) → IsNameIn c x → AreIn c (name_parts x)
name_in c n.Anonymous h = tt
name_in c (n.Text a s) h = (h.1, (h.0, tt))
name_in c (n.Number a i) h = (h, tt)

pub level_in : (c : Contents) (x : LevelNode) → IsLevelIn c x → AreIn c (level_parts x)
level_in c l.Zero h = tt
level_in c (l.Succ i) h = (h, tt)
level_in c (l.Max i j) h = (h.1, (h.0, tt))
level_in c (l.IMax i j) h = (h.1, (h.0, tt))
level_in c (l.Param i) h = (h, tt)

pub list_in : (c : Contents) (x : ListNode) → IsListIn c x → AreIn c (list_parts x)
list_in c q.Empty h = tt
list_in c (q.Cons i j) h = (h.1, (h.0, tt))

pub term_in : (c : Contents) (x : Node) → IsIn c x → AreIn c (term_parts x)
term_in c (t.Var i) h = tt
term_in c (t.Sort i) h = (h, tt)
term_in c (t.Const a i) h = (h.1, (h.0, tt))
term_in c (t.App f a) h = (h.1, (h.0, tt))
term_in c (t.Lam f a) h = (h.1, (h.0, tt))
term_in c (t.Pi f a) h = (h.1, (h.0, tt))
term_in c (t.Let f v a) h = (h.2, (h.1, (h.0, tt)))
term_in c (t.Proj a i s) h = (h.1, (h.0, tt))
term_in c (t.Lit i) h = tt
term_in c t.Wide h = tt
term_in c (t.Str s) h = (h, tt)
term_in c (t.Local i T) h = (h, tt)

pub own_in : (c : Contents) (x : OwnNode) → IsOwnIn c x → AreIn c (own_parts x)
own_in c (own.Name x) h = name_in c x h
own_in c (own.Text s) h = tt
own_in c (own.Level x) h = level_in c x h
own_in c (own.List x) h = list_in c x h
own_in c (own.Term x) h = term_in c x h
