-- A part with its node, and the parts of that.
use Rattle.std.specs.Prelude.{◌≡◌, ◌<◌, List, [], ◌∷◌, length}
use Rattle.lk_store.specs.Contents.{Contents, name_at, level_at, list_at, tree_at}
use Rattle.lk_store.specs.Contents.{name_of, level_of, list_of, tree_of}
use Rattle.lk_store.specs.Contents.{IsNameIn, IsLevelIn, IsListIn, IsIn}
use Rattle.lk_store.specs.declared.node.NameNode.{NameNode}
use Rattle.lk_store.specs.declared.node.NameNode.TheVariants as name
use Rattle.lk_store.specs.declared.node.LevelNode.{LevelNode}
use Rattle.lk_store.specs.declared.node.LevelNode.TheVariants as level
use Rattle.lk_store.specs.declared.node.ListNode.{ListNode}
use Rattle.lk_store.specs.declared.node.ListNode.TheVariants as list
use Rattle.lk_store.specs.declared.node.Node.{Node}
use Rattle.lk_store.specs.declared.node.Node.TheVariants as node
use Rattle.lk_spell.specs.declared.part.Part.{Part}
use Rattle.lk_spell.specs.declared.part.Part.TheVariants as part
use Rattle.lk_spell.specs.declared.open.Opened.{Opened}
use Rattle.lk_spell.specs.declared.open.Opened.TheVariants.{Name, Text, Level, List as Levels, Term}

-- the part itself
abbrev pub part_of : Opened → Part
part_of (Name n x) = part.Name n
part_of (Text s) = part.Text s
part_of (Level l x) = part.Level l
part_of (Levels ls x) = part.List ls
part_of (Term e x) = part.Term e

-- the node is there, and is that of the part
abbrev pub IsOpenedIn : Contents → Opened → Type 0
IsOpenedIn c (Name n x) = (n < length c.names) × IsNameIn c x × (name_of c x ≡ name_at c n)
IsOpenedIn c (Text s) = s < length c.texts
IsOpenedIn c (Level l x) = (l < length c.levels) × IsLevelIn c x × (level_of c x ≡ level_at c l)
IsOpenedIn c (Levels ls x) = (ls < length c.lists) × IsListIn c x × (list_of c x ≡ list_at c ls)
IsOpenedIn c (Term e x) = (e < length c.trees) × IsIn c x × (tree_of c x ≡ tree_at c e)

-- the parts of a node, from the last to the first
abbrev pub name_parts : NameNode → List Part
name_parts name.Anonymous = []
name_parts (name.Text n s) = part.Text s ∷ part.Name n ∷ []
name_parts (name.Number n i) = part.Name n ∷ []

abbrev pub level_parts : LevelNode → List Part
level_parts level.Zero = []
level_parts (level.Succ l) = part.Level l ∷ []
level_parts (level.Max l m) = part.Level m ∷ part.Level l ∷ []
level_parts (level.IMax l m) = part.Level m ∷ part.Level l ∷ []
level_parts (level.Param n) = part.Name n ∷ []

abbrev pub list_parts : ListNode → List Part
list_parts list.Empty = []
list_parts (list.Cons l ls) = part.List ls ∷ part.Level l ∷ []

-- the type of a Local is one of its parts
abbrev pub term_parts : Node → List Part
term_parts (node.Var i) = []
term_parts (node.Sort l) = part.Level l ∷ []
term_parts (node.Const n ls) = part.List ls ∷ part.Name n ∷ []
term_parts (node.App f a) = part.Term a ∷ part.Term f ∷ []
term_parts (node.Lam A b) = part.Term b ∷ part.Term A ∷ []
term_parts (node.Pi A B) = part.Term B ∷ part.Term A ∷ []
term_parts (node.Let A v b) = part.Term b ∷ part.Term v ∷ part.Term A ∷ []
term_parts (node.Proj S i s) = part.Term s ∷ part.Name S ∷ []
term_parts (node.Lit n) = []
term_parts node.Wide = []
term_parts (node.Str s) = part.Text s ∷ []
term_parts (node.Local k T) = part.Term T ∷ []

abbrev pub parts_back : Opened → List Part
parts_back (Name n x) = name_parts x
parts_back (Text s) = []
parts_back (Level l x) = level_parts x
parts_back (Levels ls x) = list_parts x
parts_back (Term e x) = term_parts x
