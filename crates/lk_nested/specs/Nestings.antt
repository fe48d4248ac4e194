-- The walk of a tree for a nested occurrence: what is found at its parts, and what is kept of them.
use Rattle.std.specs.Prelude.{◌≡◌, ℕ, ◌<◌, Bool, true, false, List, length, All, Option, Some, None, Ok, Err, Result}
use Rattle.lk_tree.specs.Tree.{Name, Tree, const, app, lam, pi, let_in, proj}
use Rattle.lk_tree.specs.Spine.{head, args}
use Rattle.lk_rulebook.specs.Place.{Place}
use Rattle.lk_questions.specs.Program.{Program}
use Rattle.lk_inductive.specs.Nested.{holds_head, holds_nested}
use Rattle.lk_store.specs.Contents.{Contents, tree_at}
use Rattle.lk_store.specs.declared.node.Node.{Node}
use Rattle.lk_store.specs.declared.node.Node.TheVariants as node
use Rattle.lk_seek.specs.Sought.{Findings, Sought}
use Rattle.lk_seek.specs.Trees.{in_trees}
use Rattle.lk_mentions.specs.declared.part.Met.{Met}
use Rattle.lk_mentions.specs.Names.{names_at}
use Rattle.lk_ask.specs.declared.stop.Stop.{Stop}
use Rattle.lk_nested.specs.declared.spines.Spine.{Spine}
use Rattle.lk_nested.specs.declared.nested.Walked.{Walked}
use Rattle.lk_nested.specs.Findings.{Finding, found, finding, then_held, FindsNothing}

-- the name of a constant
abbrev pub constant_name : Tree → Option Name
constant_name (const n ls) = Some n
constant_name _ = None

abbrev pub constant_in : Node → Option ℕ
constant_in (node.Const n ls) = Some n
constant_in _ = None

-- the function of an application
abbrev pub function_of : Tree → Option Tree
function_of (app f a) = Some f
function_of _ = None

abbrev pub function_at : Contents → Option ℕ → Option Tree
function_at c (Some f) = Some (tree_at c f)
function_at c None = None

abbrev pub function_in : Node → Option ℕ
function_in (node.App f a) = Some f
function_in _ = None

-- the number of arguments, and the head
pub record IsSpine (c : Contents) (e : ℕ) (s : Spine) : Type 0 where
  pub head_in : s.head < length c.trees
  pub head_is : tree_at c s.head ≡ head (tree_at c e)
  pub count_is : s.count ≡ length (args (tree_at c e))

abbrev pub AreSpines : Contents → List Spine → Type 0
AreSpines c spines = All (λ (s : Spine). IsSpine c s.tree s) spines

-- whether a tree holds a nested occurrence
abbrev pub nested_in : Place → List Name → Tree → Finding Bool
nested_in w ns e = finding w (holds_nested ns e)

-- the same of its parts, in order
abbrev pub nested_below : Place → List Name → Tree → Finding Bool
nested_below w ns (app f a) = then_held (nested_in w ns f) (nested_in w ns a)
nested_below w ns (lam A b) = then_held (nested_in w ns A) (nested_in w ns b)
nested_below w ns (pi A B) = then_held (nested_in w ns A) (nested_in w ns B)
nested_below w ns (let_in A v b) = then_held (nested_in w ns A) (then_held (nested_in w ns v) (nested_in w ns b))
nested_below w ns (proj S i s) = nested_in w ns s
nested_below w ns e = found false

-- whether h applied to xs is a nested occurrence, whatever is found at its parts
abbrev pub IsHeadTest : Place → List Name → Tree → List Tree → Result Bool Stop → Type 0
IsHeadTest w ns h xs (Ok true) = (next : Program Bool) → finding w (holds_head ns h xs next) ≡ found true
IsHeadTest w ns h xs (Ok false) = (next : Program Bool) → finding w (holds_head ns h xs next) ≡ finding w next
IsHeadTest w ns h xs (Err stop) = (next : Program Bool) → FindsNothing (finding w (holds_head ns h xs next)) stop

-- whether a tree is a nested occurrence; where it is not, its parts decide
abbrev pub IsTreeTest : Place → List Name → Tree → Result Bool Stop → Type 0
IsTreeTest w ns e (Ok true) = nested_in w ns e ≡ found true
IsTreeTest w ns e (Ok false) = nested_in w ns e ≡ nested_below w ns e
IsTreeTest w ns e (Err stop) = FindsNothing (nested_in w ns e) stop

-- what may be found: a nested occurrence, or the refusal of a look-up
abbrev pub nestings : Findings Stop
nestings = record { Found = Finding Bool; found = found; then = then_held; stops = FindsNothing }

-- what the walk looks for in the trees of a store
abbrev pub nested : Place → List Name → Contents → Sought ℕ Stop
nested w ns c = in_trees nestings (nested_in w ns) c

-- each tree that was walked holds no nested occurrence
abbrev pub AreFlat : Place → List Name → Contents → List Met → Type 0
AreFlat w ns c met = All (λ (m : Met). nested_in w ns (tree_at c m.tree) ≡ found false) met

-- what is kept of the trees that were walked
pub record AreWalked (w : Place) (c : Contents) (ks : List ℕ) (t : Walked) : Type 0 where
  pub flat : AreFlat w (names_at c ks) c t.flat
  pub spines : AreSpines c t.spines
