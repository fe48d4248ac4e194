-- A walk that is under way: what waits on its stack.
use Rattle.std.proofs.Common.{ℕ, ◌≡◌, ◌+◌, ◌<◌, ◌⊎◌, inl, inr, List, [], ◌∷◌, ◌++◌, map, length, refl, sym, ap, subst, ◌∙◌, arith}
use Rattle.std.proofs.lemmas.List.{append-nil}
use Rattle.lk_store.specs.Contents.{Contents, tree_at, tree_of, IsIn}
use Rattle.lk_store.specs.declared.node.Node.{Node}
use Rattle.lk_store.specs.declared.node.Node.TheVariants as node
use Rattle.lk_seek.specs.Costs.{tree_cost}
use Rattle.lk_seek.specs.Trees.{parts_back}
use Rattle.lk_axioms.specs.declared.finding.Finding.{Finding}
use Rattle.lk_axioms.specs.declared.visit.Visit.{Visit}
use Rattle.lk_axioms.specs.declared.visit.Visit.TheVariants.{Enter, Leave}
use Rattle.lk_axioms.specs.Gives.{IsKnown, AreKnown}
use Rattle.lk_axioms.specs.Walks.{IsNodeOf, IsEntered}

-- a tree waits on the stack
abbrev pub Waits : ℕ → List Visit → Type 0
Waits q [] = ⊥
Waits q (Enter e ∷ vs) = (e ≡ q) ⊎ Waits q vs
Waits q (Leave e d ∷ vs) = (e ≡ q) ⊎ Waits q vs

-- it is known, or it waits
abbrev pub IsSeenTo : ℕ → List Finding → List Visit → ℕ → Type 0
IsSeenTo n cells vs q = IsKnown n cells q ⊎ Waits q vs

abbrev pub AreSeenTo : ℕ → List Finding → List Visit → List ℕ → Type 0
AreSeenTo n cells vs [] = Unit {0}
AreSeenTo n cells vs (q ∷ qs) = IsSeenTo n cells vs q × AreSeenTo n cells vs qs

-- the parts of a tree that the walk leaves are seen to above it
abbrev pub IsStack : Contents → ℕ → List Finding → List Visit → Type 0
IsStack c n cells [] = Unit {0}
IsStack c n cells (Enter e ∷ vs) = (e < length c.trees) × IsStack c n cells vs
IsStack c n cells (Leave e d ∷ vs) = (IsNodeOf c e d × AreSeenTo n cells vs (parts_back d)) × IsStack c n cells vs

-- the turns that are left
abbrev pub turns : Contents → List Visit → ℕ
turns c [] = 0
turns c (Enter e ∷ vs) = tree_cost (tree_at c e) + 1 + turns c vs
turns c (Leave e d ∷ vs) = 1 + turns c vs

pub record IsUnderWay (c : Contents) (n : ℕ) (cells : List Finding) (stack : List Visit) (root : ℕ) : Type 0 where
  pub stack_is : IsStack c n cells stack
  pub seen_to : IsSeenTo n cells stack root

turns_append : (c : Contents) (xs ys : List Visit) → turns c (xs ++ ys) ≡ turns c xs + turns c ys
turns_append c [] ys = omega arith
turns_append c (Enter e ∷ xs) ys = let i = turns_append c xs ys in omega arith
turns_append c (Leave e d ∷ xs) ys = let i = turns_append c xs ys in omega arith

waits_left : (q : ℕ) (xs ys : List Visit) → Waits q xs → Waits q (xs ++ ys)
waits_left q [] ys h = absurd h
waits_left q (Enter e ∷ xs) ys (inl i) = inl i
waits_left q (Enter e ∷ xs) ys (inr h) = inr (waits_left q xs ys h)
waits_left q (Leave e d ∷ xs) ys (inl i) = inl i
waits_left q (Leave e d ∷ xs) ys (inr h) = inr (waits_left q xs ys h)

waits_right : (q : ℕ) (xs ys : List Visit) → Waits q ys → Waits q (xs ++ ys)
waits_right q [] ys h = h
waits_right q (Enter e ∷ xs) ys h = inr (waits_right q xs ys h)
waits_right q (Leave e d ∷ xs) ys h = inr (waits_right q xs ys h)

waits_cases : (q : ℕ) (xs ys : List Visit) → Waits q (xs ++ ys) → Waits q xs ⊎ Waits q ys
waits_cases q [] ys h = inr h
waits_cases q (Enter e ∷ xs) ys (inl i) = inl (inl i)
waits_cases q (Enter e ∷ xs) ys (inr h) = elim (waits_cases q xs ys h) [ inl i ↦ inl (inr i) | inr i ↦ inr i ]
waits_cases q (Leave e d ∷ xs) ys (inl i) = inl (inl i)
waits_cases q (Leave e d ∷ xs) ys (inr h) = elim (waits_cases q xs ys h) [ inl i ↦ inl (inr i) | inr i ↦ inr i ]

-- What stands on top is replaced: what waited there is known now, or waits in what stands there now.
module _ (c : Contents) (n : ℕ) (old new : List Finding) (ys zs : List Visit) (more : (q : ℕ) → IsKnown n old q → IsKnown n new q) (instead : (q : ℕ) → Waits q ys → IsSeenTo n new zs q) where
  seen_to_on : (xs : List Visit) (q : ℕ) → IsSeenTo n old (xs ++ ys) q → IsSeenTo n new (xs ++ zs) q
  seen_to_on xs q (inl k) = inl (more q k)
  seen_to_on xs q (inr h) = elim (waits_cases q xs ys h) [
    | inl i ↦ inr (waits_left q xs zs i)
    | inr i ↦ elim (instead q i) [ inl k ↦ inl k | inr j ↦ inr (waits_right q xs zs j) ]
  ]

  all_seen_to : (xs : List Visit) (qs : List ℕ) → AreSeenTo n old (xs ++ ys) qs → AreSeenTo n new (xs ++ zs) qs
  all_seen_to xs [] h = tt
  all_seen_to xs (q ∷ qs) h = (seen_to_on xs q h.0, all_seen_to xs qs h.1)

  stack_on : (xs : List Visit) → IsStack c n new zs → IsStack c n old (xs ++ ys) → IsStack c n new (xs ++ zs)
  stack_on [] z h = z
  stack_on (Enter e ∷ xs) z h = (h.0, stack_on xs z h.1)
  stack_on (Leave e d ∷ xs) z h = ((h.0.0, all_seen_to xs (parts_back d) h.0.1), stack_on xs z h.1)

  pub goes_on : (xs : List Visit) (root : ℕ) → IsStack c n new zs → IsUnderWay c n old (xs ++ ys) root → IsUnderWay c n new (xs ++ zs) root
  goes_on xs root z u = record { stack_is = stack_on xs z u.stack_is; seen_to = seen_to_on xs root u.seen_to }

top : (c : Contents) (n : ℕ) (cells : List Finding) (xs : List Visit) (v : Visit) → IsStack c n cells (xs ++ v ∷ []) → IsStack c n cells (v ∷ [])
top c n cells [] v h = h
top c n cells (Enter e ∷ xs) v h = top c n cells xs v h.1
top c n cells (Leave e d ∷ xs) v h = top c n cells xs v h.1

pub begins : (c : Contents) (n : ℕ) (cells : List Finding) (root : ℕ) → root < length c.trees → IsUnderWay c n cells (Enter root ∷ []) root
begins c n cells root l = record { stack_is = (l, tt); seen_to = inr (inl refl) }

pub ends : (c : Contents) (n : ℕ) (cells : List Finding) (root : ℕ) → IsUnderWay c n cells [] root → IsKnown n cells root
ends c n cells root u = elim (u.seen_to) [ inl k ↦ k | inr h ↦ absurd h ]

-- The tree on top is entered.
module _ (c : Contents) (n : ℕ) (cells : List Finding) (stack rest : List Visit) (e : ℕ) (popped : stack ≡ rest ++ Enter e ∷ []) where
  pub enters_in : (root : ℕ) → IsUnderWay c n cells stack root → e < length c.trees
  enters_in root u = (top c n cells rest (Enter e) (subst (IsStack c n cells) popped u.stack_is)).0

  entered_turns : turns c stack ≡ turns c rest + (tree_cost (tree_at c e) + 1)
  entered_turns = let a = ap (turns c) popped ∙ turns_append c rest (Enter e ∷ []) in omega arith

-- the parts of a node take fewer turns
parts_turns : (c : Contents) (d : Node) → turns c (map Enter (parts_back d)) < tree_cost (tree_of c d)
parts_turns c (node.Var i) = omega arith
parts_turns c (node.Sort l) = omega arith
parts_turns c (node.Const x ls) = omega arith
parts_turns c (node.App f a) = omega arith
parts_turns c (node.Lam A b) = omega arith
parts_turns c (node.Pi A B) = omega arith
parts_turns c (node.Let A v b) = omega arith
parts_turns c (node.Proj x i s) = omega arith
parts_turns c (node.Lit k) = omega arith
parts_turns c node.Wide = omega arith
parts_turns c (node.Str s) = omega arith
parts_turns c (node.Local k T) = omega arith

-- they are on top
parts_stand : (c : Contents) (n : ℕ) (cells : List Finding) (d : Node) → IsIn c d → IsStack c n cells (map Enter (parts_back d))
parts_stand c n cells (node.Var i) h = tt
parts_stand c n cells (node.Sort l) h = tt
parts_stand c n cells (node.Const x ls) h = tt
parts_stand c n cells (node.App f a) h = (h.1, (h.0, tt))
parts_stand c n cells (node.Lam A b) h = (h.1, (h.0, tt))
parts_stand c n cells (node.Pi A B) h = (h.1, (h.0, tt))
parts_stand c n cells (node.Let A v b) h = (h.2, (h.1, (h.0, tt)))
parts_stand c n cells (node.Proj x i s) h = (h.1, tt)
parts_stand c n cells (node.Lit k) h = tt
parts_stand c n cells node.Wide h = tt
parts_stand c n cells (node.Str s) h = tt
parts_stand c n cells (node.Local k T) h = tt

parts_wait : (n : ℕ) (cells : List Finding) (d : Node) → AreSeenTo n cells (map Enter (parts_back d)) (parts_back d)
parts_wait n cells (node.Var i) = tt
parts_wait n cells (node.Sort l) = tt
parts_wait n cells (node.Const x ls) = tt
parts_wait n cells (node.App f a) = (inr (inl refl), (inr (inr (inl refl)), tt))
parts_wait n cells (node.Lam A b) = (inr (inl refl), (inr (inr (inl refl)), tt))
parts_wait n cells (node.Pi A B) = (inr (inl refl), (inr (inr (inl refl)), tt))
parts_wait n cells (node.Let A v b) = (inr (inl refl), (inr (inr (inl refl)), (inr (inr (inr (inl refl))), tt)))
parts_wait n cells (node.Proj x i s) = (inr (inl refl), tt)
parts_wait n cells (node.Lit k) = tt
parts_wait n cells node.Wide = tt
parts_wait n cells (node.Str s) = tt
parts_wait n cells (node.Local k T) = tt

module _ (c : Contents) (n : ℕ) (cells : List Finding) (stack rest : List Visit) (e : ℕ) (popped : stack ≡ rest ++ Enter e ∷ []) (after : List Visit) (entered : IsEntered c n cells e rest after) where
  pub entered_less : turns c after < turns c stack
  entered_less = go entered
    where
      go : IsEntered c n cells e rest after → turns c after < turns c stack
      go (inl h) = let a = ap (turns c) h.1 in let b = entered_turns c n cells stack rest e popped in omega arith
      go (inr h) =
          let a = ap (turns c) h.pushed ∙ turns_append c rest (Leave e h.node ∷ map Enter (parts_back h.node)) in
          let b = entered_turns c n cells stack rest e popped in
          let d = parts_turns c h.node in
          let t : tree_cost (tree_of c h.node) ≡ tree_cost (tree_at c e) = ap tree_cost h.is_node.tree in
          omega arith

  pub enters : (root : ℕ) → IsUnderWay c n cells stack root → IsUnderWay c n cells after root
  enters root u = go entered
    where
      before : IsUnderWay c n cells (rest ++ Enter e ∷ []) root
      before = subst (λ s. IsUnderWay c n cells s root) popped u

      known : IsKnown n cells e → (q : ℕ) → Waits q (Enter e ∷ []) → IsSeenTo n cells [] q
      known k q (inl i) = inl (subst (IsKnown n cells) i k)
      known k q (inr h) = absurd h

      opened : (zs : List Visit) (d : Node) (q : ℕ) → Waits q (Enter e ∷ []) → IsSeenTo n cells (Leave e d ∷ zs) q
      opened zs d q (inl i) = inr (inl i)
      opened zs d q (inr h) = absurd h

      go : IsEntered c n cells e rest after → IsUnderWay c n cells after root
      go (inl h) =
          let u : IsUnderWay c n cells (rest ++ []) root = goes_on c n cells cells (Enter e ∷ []) [] (λ q k. k) (known h.0) rest root tt before in
          subst (λ s. IsUnderWay c n cells s root) (append-nil rest ∙ sym h.1) u
      go (inr h) =
          let zs : List Visit = map Enter (parts_back h.node) in
          subst (λ s. IsUnderWay c n cells s root) (sym h.pushed)
          (goes_on c n cells cells (Enter e ∷ []) (Leave e h.node ∷ zs) (λ q k. k) (opened zs h.node) rest root ((h.is_node, parts_wait n cells h.node), parts_stand c n cells h.node h.is_node.node_in) before)

-- The tree on top is left.
module _ (c : Contents) (n : ℕ) (cells : List Finding) (stack rest : List Visit) (e : ℕ) (d : Node) (popped : stack ≡ rest ++ Leave e d ∷ []) (root : ℕ) (u : IsUnderWay c n cells stack root) where
  on_top : IsNodeOf c e d × AreSeenTo n cells [] (parts_back d)
  on_top = (top c n cells rest (Leave e d) (subst (IsStack c n cells) popped u.stack_is)).0

  pub leaves_node : IsNodeOf c e d
  leaves_node = on_top.0

  pub leaves_parts : AreKnown n cells (parts_back d)
  leaves_parts = go (parts_back d) on_top.1
    where
      go : (qs : List ℕ) → AreSeenTo n cells [] qs → AreKnown n cells qs
      go [] h = tt
      go (q ∷ qs) h = (elim (h.0) [ inl k ↦ k | inr w ↦ absurd w ], go qs h.1)

  pub leaves : (new : List Finding) → ((q : ℕ) → IsKnown n cells q → IsKnown n new q) → IsKnown n new e → IsUnderWay c n new rest root
  leaves new more k =
      let v : IsUnderWay c n new (rest ++ []) root = goes_on c n cells new (Leave e d ∷ []) [] more known rest root tt (subst (λ s. IsUnderWay c n cells s root) popped u) in
      subst (λ s. IsUnderWay c n new s root) (append-nil rest) v
    where
      known : (q : ℕ) → Waits q (Leave e d ∷ []) → IsSeenTo n new [] q
      known q (inl i) = inl (subst (IsKnown n new) i k)
      known q (inr h) = absurd h

pub leaves_less : (c : Contents) (stack rest : List Visit) (e : ℕ) (d : Node) → stack ≡ rest ++ Leave e d ∷ [] → turns c rest < turns c stack
leaves_less c stack rest e d popped = let a = ap (turns c) popped ∙ turns_append c rest (Leave e d ∷ []) in omega arith
