-- The stack of the walk.
use Rattle.std.proofs.Common.{◌≡◌, ℕ, ◌+◌, ◌<◌, List, [], ◌∷◌, ◌++◌, map, refl, sym, subst, ◌∙◌, arith, inl, inr, ◌⊎◌}
use Rattle.std.proofs.lemmas.List.{append-nil}
use Rattle.std.proofs.lemmas.Grind.{common_steps}
use Rattle.lk_store.specs.Contents.{Contents, name_at, level_at, list_at, tree_at, name_of, level_of, list_of, tree_of}
use Rattle.lk_store.specs.declared.node.NameNode.{NameNode}
use Rattle.lk_store.specs.declared.node.NameNode.TheVariants as n
use Rattle.lk_store.specs.declared.node.LevelNode.{LevelNode}
use Rattle.lk_store.specs.declared.node.LevelNode.TheVariants as l
use Rattle.lk_store.specs.declared.node.ListNode.{ListNode}
use Rattle.lk_store.specs.declared.node.ListNode.TheVariants as q
use Rattle.lk_store.specs.declared.node.Node.{Node}
use Rattle.lk_store.specs.declared.node.Node.TheVariants as t
use Rattle.lk_spell.specs.declared.numbers.Numbers.{Numbers}
use Rattle.lk_spell.specs.declared.open.Opened.{Opened}
use Rattle.lk_spell.specs.declared.open.Opened.TheVariants as opened
use Rattle.lk_spell.specs.declared.open.Visit.{Visit}
use Rattle.lk_spell.specs.declared.open.Visit.TheVariants.{Enter, Leave}
use Rattle.lk_spell.specs.declared.part.Part.{Part}
use Rattle.lk_spell.specs.Moved.{AreDone}
use Rattle.lk_spell.specs.Numbers.{IsDone}
use Rattle.lk_spell.specs.Opened.{part_of, parts_back, IsOpenedIn}
use Rattle.lk_spell.specs.Parts.{IsPartIn}
use Rattle.lk_spell.proofs.Inside.{AreIn, name_in, level_in, list_in, term_in}
use Rattle.lk_spell.specs.Waiting.{name_cost, level_cost, levels_cost, tree_cost, cost, turns, Waits, Come, AreWaiting, IsEntered}

turns_append : (c : Contents) (xs ys : List Visit) → turns c (xs ++ ys) ≡ turns c xs + turns c ys
turns_append c [] ys = omega arith
turns_append c (Enter p ∷ xs) ys = let e = turns_append c xs ys in omega arith
turns_append c (Leave o ∷ xs) ys = let e = turns_append c xs ys in omega arith

-- the parts of an opened part take fewer turns than it does
name_turns : (c : Contents) (k : ℕ) (x : NameNode) → name_of c x ≡ name_at c k → turns c (map Enter (parts_back (opened.Name k x))) < name_cost (name_at c k)
name_turns c k n.Anonymous is = omega arith
name_turns c k (n.Text a s) is = rw (← is) (grind (arith, common_steps))
name_turns c k (n.Number a i) is = rw (← is) (grind (arith, common_steps))

level_turns : (c : Contents) (k : ℕ) (x : LevelNode) → level_of c x ≡ level_at c k → turns c (map Enter (parts_back (opened.Level k x))) < level_cost (level_at c k)
level_turns c k l.Zero is = rw (← is) (omega arith)
level_turns c k (l.Succ i) is = rw (← is) (omega arith)
level_turns c k (l.Max i j) is = rw (← is) (omega arith)
level_turns c k (l.IMax i j) is = rw (← is) (omega arith)
level_turns c k (l.Param i) is = rw (← is) (omega arith)

list_turns : (c : Contents) (k : ℕ) (x : ListNode) → list_of c x ≡ list_at c k → turns c (map Enter (parts_back (opened.List k x))) < levels_cost (list_at c k)
list_turns c k q.Empty is = rw (← is) (omega arith)
list_turns c k (q.Cons i j) is = rw (← is) (omega arith)

term_turns : (c : Contents) (k : ℕ) (x : Node) → tree_of c x ≡ tree_at c k → turns c (map Enter (parts_back (opened.Term k x))) < tree_cost (tree_at c k)
term_turns c k (t.Var i) is = rw (← is) (omega arith)
term_turns c k (t.Sort i) is = rw (← is) (omega arith)
term_turns c k (t.Const a i) is = rw (← is) (omega arith)
term_turns c k (t.App f a) is = rw (← is) (omega arith)
term_turns c k (t.Lam f a) is = rw (← is) (omega arith)
term_turns c k (t.Pi f a) is = rw (← is) (omega arith)
term_turns c k (t.Let f v a) is = rw (← is) (omega arith)
term_turns c k (t.Proj a i s) is = rw (← is) (omega arith)
term_turns c k (t.Lit i) is = rw (← is) (omega arith)
term_turns c k t.Wide is = rw (← is) (omega arith)
term_turns c k (t.Str s) is = rw (← is) (omega arith)
term_turns c k (t.Local i T) is = rw (← is) (omega arith)

opened_turns : (c : Contents) (o : Opened) → IsOpenedIn c o → turns c (map Enter (parts_back o)) < cost c (part_of o)
opened_turns c (opened.Name k x) h = name_turns c k x h.2
opened_turns c (opened.Text s) h = omega arith
opened_turns c (opened.Level k x) h = level_turns c k x h.2
opened_turns c (opened.List k x) h = list_turns c k x h.2
opened_turns c (opened.Term k x) h = term_turns c k x h.2

-- the parts of an opened part are there
parts_in : (c : Contents) (o : Opened) → IsOpenedIn c o → AreIn c (parts_back o)
parts_in c (opened.Name k x) h = name_in c x h.1
parts_in c (opened.Text s) h = tt
parts_in c (opened.Level k x) h = level_in c x h.1
parts_in c (opened.List k x) h = list_in c x h.1
parts_in c (opened.Term k x) h = term_in c x h.1

entered_in : (c : Contents) (m : Numbers) (ps : List Part) → AreIn c ps → AreWaiting c m (map Enter ps)
entered_in c m [] h = tt
entered_in c m (p ∷ ps) h = (h.0, entered_in c m ps h.1)

come_more : (m : Numbers) (vs : List Visit) (v : Visit) (ps : List Part) → Come m vs ps → Come m (v ∷ vs) ps
come_more m vs v [] h = tt
come_more m vs v (p ∷ ps) h = (elim h.0 [ inl d ↦ inl d | inr w ↦ inr (more v w) ], come_more m vs v ps h.1)
  where
    more : (v : Visit) → Waits vs p → Waits (v ∷ vs) p
    more (Enter q) w = inr w
    more (Leave o) w = inr w

entered_come : (m : Numbers) (ps : List Part) → Come m (map Enter ps) ps
entered_come m [] = tt
entered_come m (p ∷ ps) = (inr (inl refl), come_more m (map Enter ps) (Enter p) ps (entered_come m ps))

-- What stands above is replaced, and more parts have numbers.
module _ (c : Contents) (m m' : Numbers) (ys zs : List Visit) (stays : (p : Part) → IsDone m p → IsDone m' p)
    (come : (p : Part) → Waits ys p → IsDone m' p ⊎ Waits zs p) (above : AreWaiting c m' zs) where
  waits_on : (xs : List Visit) (p : Part) → Waits (xs ++ ys) p → IsDone m' p ⊎ Waits (xs ++ zs) p
  waits_on [] p w = come p w
  waits_on (Enter q ∷ xs) p (inl e) = inr (inl e)
  waits_on (Enter q ∷ xs) p (inr w) = elim (waits_on xs p w) [ inl d ↦ inl d | inr v ↦ inr (inr v) ]
  waits_on (Leave o ∷ xs) p (inl e) = inr (inl e)
  waits_on (Leave o ∷ xs) p (inr w) = elim (waits_on xs p w) [ inl d ↦ inl d | inr v ↦ inr (inr v) ]

  pub comes_on : (xs : List Visit) (p : Part) → IsDone m p ⊎ Waits (xs ++ ys) p → IsDone m' p ⊎ Waits (xs ++ zs) p
  comes_on xs p (inl d) = inl (stays p d)
  comes_on xs p (inr w) = waits_on xs p w

  all_come_on : (xs : List Visit) (ps : List Part) → Come m (xs ++ ys) ps → Come m' (xs ++ zs) ps
  all_come_on xs [] h = tt
  all_come_on xs (p ∷ ps) h = (comes_on xs p h.0, all_come_on xs ps h.1)

  pub replaced : (xs : List Visit) → AreWaiting c m (xs ++ ys) → AreWaiting c m' (xs ++ zs)
  replaced [] h = above
  replaced (Enter p ∷ xs) h = (h.0, replaced xs h.1)
  replaced (Leave o ∷ xs) h = (h.0, all_come_on xs (parts_back o) h.1, replaced xs h.2)

top : (c : Contents) (m : Numbers) (xs : List Visit) (v : Visit) → AreWaiting c m (xs ++ v ∷ []) → AreWaiting c m (v ∷ [])
top c m [] v h = h
top c m (Enter p ∷ xs) v h = top c m xs v h.1
top c m (Leave o ∷ xs) v h = top c m xs v h.2

done : (m : Numbers) (ps : List Part) → Come m [] ps → AreDone m ps
done m [] h = tt
done m (p ∷ ps) h = (elim h.0 [ inl d ↦ d | inr w ↦ absurd w ], done m ps h.1)

-- the walk goes on: the part that it is for has a number or waits
pub record IsUnderWay (c : Contents) (m : Numbers) (part : Part) (stack : List Visit) : Type 0 where
  pub waiting : AreWaiting c m stack
  pub comes : IsDone m part ⊎ Waits stack part

pub begun : (c : Contents) (m : Numbers) (root : Part) (stack : List Visit) → stack ≡ Enter root ∷ [] → IsPartIn c root → IsUnderWay c m root stack
begun c m root stack is there = rw is (record { waiting = (there, tt); comes = inr (inl refl) })

module _ (c : Contents) (m : Numbers) (root : Part) (stack rest : List Visit) where
  -- a part is entered
  module _ (p : Part) (popped : stack ≡ rest ++ Enter p ∷ []) where
    pub enters_known : IsUnderWay c m root stack → IsPartIn c p
    enters_known u = (top c m rest (Enter p) (subst (AreWaiting c m) popped u.waiting)).0

    goes_on : (zs : List Visit) → IsUnderWay c m root stack → ((q : Part) → Waits (Enter p ∷ []) q → IsDone m q ⊎ Waits zs q) → AreWaiting c m zs
        → IsUnderWay c m root (rest ++ zs)
    goes_on zs u come above = record {
      waiting = replaced c m m (Enter p ∷ []) zs (λ q d. d) come above rest (subst (AreWaiting c m) popped u.waiting);
      comes = comes_on c m m (Enter p ∷ []) zs (λ q d. d) come above rest root (subst (λ vs. IsDone m root ⊎ Waits vs root) popped u.comes);
    }

    pub entered : (new : List Visit) → IsUnderWay c m root stack → IsEntered c m p rest new → IsUnderWay c m root new
    entered new u (inl h) =
        subst (IsUnderWay c m root) (append-nil rest ∙ sym h.0)
        (goes_on [] u (λ q w. elim w [ inl e ↦ inl (subst (IsDone m) e h.1) | inr none ↦ absurd none ]) tt)
    entered new u (inr h) =
        subst (IsUnderWay c m root) (sym h.pushed)
        (goes_on (Leave h.opened ∷ map Enter (parts_back h.opened)) u
        (λ q w. elim w [ inl e ↦ inr (inl (h.is ∙ e)) | inr none ↦ absurd none ])
        (h.there, entered_come m (parts_back h.opened), entered_in c m (parts_back h.opened) (parts_in c h.opened h.there)))

    pub entered_less : (new : List Visit) → IsEntered c m p rest new → turns c new < turns c stack
    entered_less new (inl h) = let a = turns_append c rest (Enter p ∷ []) in rw (h.0, popped) (omega arith)
    entered_less new (inr h) =
        let a = turns_append c rest (Enter p ∷ []) in
        let b = turns_append c rest (Leave h.opened ∷ map Enter (parts_back h.opened)) in
        let d : turns c (map Enter (parts_back h.opened)) < cost c p = subst (λ q. turns c (map Enter (parts_back h.opened)) < cost c q) h.is (opened_turns c h.opened h.there) in
        rw (h.pushed, popped) (omega arith)

  -- a part is left
  module _ (o : Opened) (popped : stack ≡ rest ++ Leave o ∷ []) (u : IsUnderWay c m root stack) where
    waits_alone : AreWaiting c m (Leave o ∷ [])
    waits_alone = top c m rest (Leave o) (subst (AreWaiting c m) popped u.waiting)

    pub leaves_opened : IsOpenedIn c o
    leaves_opened = waits_alone.0

    pub leaves_done : AreDone m (parts_back o)
    leaves_done = done m (parts_back o) waits_alone.1

    pub left : (m' : Numbers) → ((q : Part) → IsDone m q → IsDone m' q) → IsDone m' (part_of o) → IsUnderWay c m' root rest
    left m' stays now =
        let come : (q : Part) → Waits (Leave o ∷ []) q → IsDone m' q ⊎ Waits [] q =
        λ q w. elim w [ inl e ↦ inl (subst (IsDone m') e now) | inr none ↦ absurd none ] in
        subst (IsUnderWay c m' root) (append-nil rest) (record {
          waiting = replaced c m m' (Leave o ∷ []) [] stays come tt rest (subst (AreWaiting c m) popped u.waiting);
          comes = comes_on c m m' (Leave o ∷ []) [] stays come tt rest root (subst (λ vs. IsDone m root ⊎ Waits vs root) popped u.comes);
        })

  pub left_less : (o : Opened) → stack ≡ rest ++ Leave o ∷ [] → turns c rest < turns c stack
  left_less o popped = let a = turns_append c rest (Leave o ∷ []) in rw popped (omega arith)
