-- A node over other numbers stands for the same.
use Rattle.std.proofs.Common.{◌≡◌, ℕ, true, false, Some, None, refl}
use Rattle.std.specs.declared.option.Option.{Option}
use Rattle.std.specs.Prelude.{IsSome}
use Rattle.lk_store.specs.Contents.{Contents, name_of, level_of, list_of, tree_of}
use Rattle.lk_store.specs.Contents.{IsNameIn, IsLevelIn, IsListIn, IsIn}
use Rattle.lk_store.specs.declared.node.NameNode.{NameNode}
use Rattle.lk_store.specs.declared.node.NameNode.TheVariants as n
use Rattle.lk_store.specs.declared.node.LevelNode.{LevelNode}
use Rattle.lk_store.specs.declared.node.LevelNode.TheVariants as l
use Rattle.lk_store.specs.declared.node.ListNode.{ListNode}
use Rattle.lk_store.specs.declared.node.ListNode.TheVariants as q
use Rattle.lk_store.specs.declared.node.Node.{Node}
use Rattle.lk_store.specs.declared.node.Node.TheVariants as t
use Rattle.lk_spell.specs.Parts.{IsSame}
use Rattle.lk_spell.specs.Opened.{name_parts, level_parts, list_parts, term_parts}
use Rattle.lk_spell.specs.Moved.{AreDone, moved, moved_name, moved_level, moved_list, moved_term}
use Rattle.lk_spell.specs.Spelled.{IsOwnIn}
use Rattle.lk_spell.specs.Standing.{own_parts, IsNumberOf}
use Rattle.lk_spell.specs.declared.spelled.OwnNode.{OwnNode}
use Rattle.lk_spell.specs.declared.spelled.OwnNode.TheVariants as own
use Rattle.lk_spell.specs.Numbers.{number_in, number_or, or_zero, IsDone, Translates}
use Rattle.lk_spell.specs.declared.part.Part.{Part}
use Rattle.lk_spell.specs.declared.part.Part.TheVariants.{Name, Text, Level, List as Levels, Term}
use Rattle.lk_spell.specs.declared.numbers.Numbers.{Numbers}

there : (o : Option ℕ) → IsSome o → o ≡ Some (or_zero o)
there (Some n) h = refl
there None h = absurd (let bad : false ≡ true = h in cc)

module _ (c d : Contents) (m : Numbers) (is : Translates c d m) where
  pub same : (p : Part) → IsDone m p → IsSame c d p (number_or m p)
  same p h = is p (number_or m p) (there (number_in m p) h)

  pub moves_name : (x : NameNode) → AreDone m (name_parts x) → IsNameIn d (moved_name m x) × (name_of d (moved_name m x) ≡ name_of c x)
  moves_name n.Anonymous h = (tt, refl)
  moves_name (n.Text a s) h = let u = same (Name a) h.1.0 in let v = same (Text s) h.0 in ((u.1.known, v.1.known), rw (u.1.is, v.1.is) refl)
  moves_name (n.Number a i) h = let u = same (Name a) h.0 in (u.1.known, rw u.1.is refl)

  pub moves_level : (x : LevelNode) → AreDone m (level_parts x) → IsLevelIn d (moved_level m x) × (level_of d (moved_level m x) ≡ level_of c x)
  moves_level l.Zero h = (tt, refl)
  moves_level (l.Succ i) h = let u = same (Level i) h.0 in (u.1.known, rw u.1.is refl)
  moves_level (l.Max i j) h = let u = same (Level i) h.1.0 in let v = same (Level j) h.0 in ((u.1.known, v.1.known), rw (u.1.is, v.1.is) refl)
  moves_level (l.IMax i j) h = let u = same (Level i) h.1.0 in let v = same (Level j) h.0 in ((u.1.known, v.1.known), rw (u.1.is, v.1.is) refl)
  moves_level (l.Param a) h = let u = same (Name a) h.0 in (u.1.known, rw u.1.is refl)

  pub moves_list : (x : ListNode) → AreDone m (list_parts x) → IsListIn d (moved_list m x) × (list_of d (moved_list m x) ≡ list_of c x)
  moves_list q.Empty h = (tt, refl)
  moves_list (q.Cons i j) h = let u = same (Level i) h.1.0 in let v = same (Levels j) h.0 in ((u.1.known, v.1.known), rw (u.1.is, v.1.is) refl)

  pub moves_term : (x : Node) → AreDone m (term_parts x) → IsIn d (moved_term m x) × (tree_of d (moved_term m x) ≡ tree_of c x)
  moves_term (t.Var i) h = (tt, refl)
  moves_term (t.Sort i) h = let u = same (Level i) h.0 in (u.1.known, rw u.1.is refl)
  moves_term (t.Const a i) h = let u = same (Name a) h.1.0 in let v = same (Levels i) h.0 in ((u.1.known, v.1.known), rw (u.1.is, v.1.is) refl)
  moves_term (t.App f a) h = let u = same (Term f) h.1.0 in let v = same (Term a) h.0 in ((u.1.known, v.1.known), rw (u.1.is, v.1.is) refl)
  moves_term (t.Lam f a) h = let u = same (Term f) h.1.0 in let v = same (Term a) h.0 in ((u.1.known, v.1.known), rw (u.1.is, v.1.is) refl)
  moves_term (t.Pi f a) h = let u = same (Term f) h.1.0 in let v = same (Term a) h.0 in ((u.1.known, v.1.known), rw (u.1.is, v.1.is) refl)
  moves_term (t.Let f g a) h = let u = same (Term f) h.1.1.0 in let w = same (Term g) h.1.0 in let v = same (Term a) h.0 in ((u.1.known, w.1.known, v.1.known), rw (u.1.is, w.1.is, v.1.is) refl)
  moves_term (t.Proj a i s) h = let u = same (Name a) h.1.0 in let v = same (Term s) h.0 in ((u.1.known, v.1.known), rw (u.1.is, v.1.is) refl)
  moves_term (t.Lit i) h = (tt, refl)
  moves_term t.Wide h = (tt, refl)
  moves_term (t.Str s) h = let u = same (Text s) h.0 in (u.1.known, rw u.1.is refl)
  moves_term (t.Local k T) h = let u = same (Term T) h.0 in (u.1.known, rw u.1.is refl)

  -- an own node over other numbers stands for the same
  pub moves : (x : OwnNode) → AreDone m (own_parts x) → IsOwnIn d (moved m x)
      × ((d' : Contents) (k : ℕ) → IsNumberOf d d' (moved m x) k → IsNumberOf c d' x k)
  moves (own.Name x) h = let r = moves_name x h in (r.0, λ d' k is. rw (← r.1) is)
  moves (own.Text s) h = (tt, λ d' k is. is)
  moves (own.Level x) h = let r = moves_level x h in (r.0, λ d' k is. rw (← r.1) is)
  moves (own.List x) h = let r = moves_list x h in (r.0, λ d' k is. rw (← r.1) is)
  moves (own.Term x) h = let r = moves_term x h in (r.0, λ d' k is. rw (← r.1) is)
