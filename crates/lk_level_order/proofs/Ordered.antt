-- Parameters in the order in which they first stand.
use Rattle.std.proofs.Common.{ℕ, ◌≡◌, ◌<◌, Bool, true, false, List, [], ◌∷◌, ◌++◌, map, take, get_or, length, ◌+◌, refl, sym, ap, subst, ◌∙◌, All, append_assoc, append-nil}
use Rattle.std.proofs.lemmas.List.Elements.{All-map}
use Rattle.std.proofs.lemmas.List.{map_more}
use Rattle.lk_tree.specs.Tree.{Name, Level, zero_level, succ_level, param}
use Rattle.lk_tree.specs.Mentions.{is_one_of}
use Rattle.lk_tree.proofs.LevelTests.{in_first, in_rest, name_same}
use Rattle.lk_store.specs.Contents.{Contents, name_at, level_at, level_of}
use Rattle.lk_store.specs.declared.node.LevelNode.{LevelNode}
use Rattle.lk_store.specs.declared.node.LevelNode.TheVariants.{Zero, Param}
use Rattle.lk_level_order.specs.declared.parameters.Parameter.{Parameter}
use Rattle.lk_level_order.specs.declared.gathering.Side.{Side}
use Rattle.lk_level_order.specs.declared.gathering.Turn.{Turn}
use Rattle.lk_level_order.specs.Parameters.{IsWithin, names_of, AreParameters, wanted, with_name, with_names, numbers}
use Rattle.lk_level_order.specs.Gathering.{wanted_of, AreGathered, IsMet, own_param, turn_wanted, turns_wanted}
use Rattle.lk_level_order.proofs.Gathered.{names_push, met_within, no_parameters, opened_at, closed_at}

with_names_append : (ns xs ys : List Name) → with_names ns (xs ++ ys) ≡ with_names (with_names ns xs) ys
with_names_append ns [] ys = refl
with_names_append ns (x ∷ xs) ys = with_names_append (with_name ns x) xs ys

with_there : (ns : List Name) (n : Name) → is_one_of ns n ≡ true → with_name ns n ≡ ns
with_there ns n h = rw h refl

with_new : (ns : List Name) (n : Name) → is_one_of ns n ≡ false → with_name ns n ≡ ns ++ n ∷ []
with_new ns n h = rw h refl

pub with_one : (ns : List Name) (n : Name) → IsWithin (n ∷ []) ns → ns ≡ with_name ns n
with_one ns n h = sym (with_there ns n (h.each n (in_first n [] n (name_same n))))

with_within : (ns ws : List Name) → IsWithin ws ns → with_names ns ws ≡ ns
with_within ns [] h = refl
with_within ns (w ∷ ws) h =
    ap (λ (xs : List Name). with_names xs ws) (with_there ns w (h.each w (in_first w ws w (name_same w)))) ∙ with_within ns ws (record { each = λ n i. h.each n (in_rest w ws n i) })

pub pushed_name : (c : Contents) (ps : List Parameter) (p : Parameter) → is_one_of (names_of c ps) (name_at c p.name) ≡ false → names_of c (ps ++ p ∷ []) ≡ with_name (names_of c ps) (name_at c p.name)
pushed_name c ps p h = names_push c ps p ∙ sym (with_new (names_of c ps) (name_at c p.name) h)

-- the stack
turns_push : (c : Contents) (ts : List Turn) (t : Turn) → turns_wanted c (ts ++ t ∷ []) ≡ turn_wanted c t ++ turns_wanted c ts
turns_push c [] t = sym (append-nil (turn_wanted c t))
turns_push c (x ∷ xs) t = ap (λ (ws : List Name). ws ++ turn_wanted c x) (turns_push c xs t) ∙ append_assoc (turn_wanted c t) (turns_wanted c xs) (turn_wanted c x)

zero_own : (b : Bool) → own_param b zero_level ≡ wanted b zero_level
zero_own true = refl
zero_own false = refl

param_own : (b : Bool) (n : Name) → own_param b (param n) ≡ wanted b (param n)
param_own true n = refl
param_own false n = refl

pub own_zero : (b : Bool) (c : Contents) (node : LevelNode) (l : Level) → node ≡ Zero → level_of c node ≡ l → own_param b l ≡ wanted b l
own_zero b c node l e is = let z : zero_level ≡ l = sym (ap (level_of c) e) ∙ is in subst (λ (l : Level). own_param b l ≡ wanted b l) z (zero_own b)

pub own_of_param : (b : Bool) (c : Contents) (node : LevelNode) (n : ℕ) (l : Level) → node ≡ Param n → level_of c node ≡ l → own_param b l ≡ wanted b l
own_of_param b c node n l e is =
    let z : param (name_at c n) ≡ l = sym (ap (level_of c) e) ∙ is in subst (λ (l : Level). own_param b l ≡ wanted b l) z (param_own b (name_at c n))

pub wanted_succ : (b : Bool) (l : Level) → wanted b (succ_level l) ≡ wanted b l
wanted_succ true l = refl
wanted_succ false l = refl

module _ (c : Contents) (stack : List Turn) (side : Side) where
  abbrev own : List Name
  own = own_param side.inside (level_at c side.level)

  pub one_on_top : own_param side.inside (level_at c side.level) ≡ wanted_of c side → turns_wanted c (stack ++ opened_at side ∷ []) ≡ wanted_of c side ++ turns_wanted c stack
  one_on_top e = turns_push c stack (opened_at side) ∙ ap (λ (ws : List Name). ws ++ turns_wanted c stack) e

  opened_empty : own ≡ [] → turns_wanted c (stack ++ opened_at side ∷ []) ≡ turns_wanted c stack
  opened_empty e = turns_push c stack (opened_at side) ∙ ap (λ (ws : List Name). ws ++ turns_wanted c stack) e

  pub two_on_top : (part : Side) → own_param side.inside (level_at c side.level) ≡ [] → wanted_of c side ≡ wanted_of c part
      → turns_wanted c ((stack ++ opened_at side ∷ []) ++ closed_at part ∷ []) ≡ wanted_of c side ++ turns_wanted c stack
  two_on_top part e is =
      turns_push c (stack ++ opened_at side ∷ []) (closed_at part) ∙ ap (λ (ws : List Name). wanted_of c part ++ ws) (opened_empty e) ∙ ap (λ (ws : List Name). ws ++ turns_wanted c stack) (sym is)

  pub three_on_top : (left right : Side) → own_param side.inside (level_at c side.level) ≡ [] → wanted_of c side ≡ wanted_of c left ++ wanted_of c right
      → turns_wanted c (((stack ++ opened_at side ∷ []) ++ closed_at right ∷ []) ++ closed_at left ∷ []) ≡ wanted_of c side ++ turns_wanted c stack
  three_on_top left right e is =
      turns_push c ((stack ++ opened_at side ∷ []) ++ closed_at right ∷ []) (closed_at left)
      ∙ ap (λ (ws : List Name). wanted_of c left ++ ws) (turns_push c (stack ++ opened_at side ∷ []) (closed_at right) ∙ ap (λ (ws : List Name). wanted_of c right ++ ws) (opened_empty e))
      ∙ sym (append_assoc (wanted_of c left) (wanted_of c right) (turns_wanted c stack))
      ∙ ap (λ (ws : List Name). ws ++ turns_wanted c stack) (sym is)

-- the walk
module _ (c : Contents) (names : List Parameter) (stack rest : List Turn) (t : Turn) (all : List Name) (popped : stack ≡ rest ++ t ∷ [])
    (h : with_names (names_of c names) (turns_wanted c stack) ≡ all) where
  top_first : with_names (names_of c names) (turn_wanted c t ++ turns_wanted c rest) ≡ all
  top_first = ap (with_names (names_of c names)) (sym (ap (turns_wanted c) popped ∙ turns_push c rest t)) ∙ h

  opened_first : t.opened ≡ true → with_names (names_of c names) (own_param t.side.inside (level_at c t.side.level) ++ turns_wanted c rest) ≡ all
  opened_first e = rw e at top_first

  closed_first : t.opened ≡ false → with_names (names_of c names) (wanted_of c t.side ++ turns_wanted c rest) ≡ all
  closed_first e = rw e at top_first

  pub order_closed : (new : List Parameter) → t.opened ≡ true → names_of c new ≡ with_names (names_of c names) (own_param t.side.inside (level_at c t.side.level))
      → with_names (names_of c new) (turns_wanted c rest) ≡ all
  order_closed new e is =
      ap (λ (ns : List Name). with_names ns (turns_wanted c rest)) is
      ∙ sym (with_names_append (names_of c names) (own_param t.side.inside (level_at c t.side.level)) (turns_wanted c rest)) ∙ opened_first e

  pub order_opened : (new : List Turn) → t.opened ≡ false → turns_wanted c new ≡ wanted_of c t.side ++ turns_wanted c rest → with_names (names_of c names) (turns_wanted c new) ≡ all
  order_opened new e is = ap (with_names (names_of c names)) is ∙ closed_first e

  pub order_skipped : (met : List Side) → t.opened ≡ false → IsMet t.side met → AreGathered c names met → with_names (names_of c names) (turns_wanted c rest) ≡ all
  order_skipped met e m g =
      ap (λ (ns : List Name). with_names ns (turns_wanted c rest)) (sym (with_within (names_of c names) (wanted_of c t.side) (met_within c names met t.side m g)))
      ∙ sym (with_names_append (names_of c names) (wanted_of c t.side) (turns_wanted c rest)) ∙ closed_first e

-- the names by their numbers
pub names_by_numbers : (c : Contents) (ps : List Parameter) → map (name_at c) (numbers ps) ≡ names_of c ps
names_by_numbers c [] = refl
names_by_numbers c (p ∷ ps) = ap (λ (ns : List Name). name_at c p.name ∷ ns) (names_by_numbers c ps)

pub numbers_known : (c : Contents) (ps : List Parameter) → AreParameters c ps → All (λ (n : ℕ). n < length c.names) (numbers ps)
numbers_known c ps h = All-map (λ (n : ℕ). n < length c.names) (λ (p : Parameter). p.name) ps h.known

pub number_more : (xs : List ℕ) (x : ℕ) (ps : List Parameter) (i : ℕ) (d : Parameter) → i < length ps → xs ≡ numbers (take i ps) → x ≡ (get_or ps i d).name → xs ++ x ∷ [] ≡ numbers (take (i + 1) ps)
number_more xs x ps i d h before here = rw (before, here) (sym (map_more (λ (p : Parameter). p.name) ps i d h))

-- the parameters of a level alone
pub listed : (c : Contents) (none ps : List Parameter) (wanted : List Name) → none ≡ [] → (AreParameters c none → names_of c ps ≡ with_names (names_of c none) wanted) → names_of c ps ≡ with_names [] wanted
listed c none ps wanted empty h = h (no_parameters c none empty) ∙ rw empty refl
