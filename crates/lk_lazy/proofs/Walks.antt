-- Facts on two spines that are walked down at once.
use Rattle.std.proofs.Common.{◌≡◌, ◌+◌, ◌<◌, ℕ, true, false, List, [], ◌∷◌, ◌++◌, length, map, refl, sym, ◌∙◌, ap, subst, arith, append_assoc, eq-eqb}
use Rattle.std.specs.Prelude.{nat_eq, reverse}
use Rattle.std.proofs.lemmas.Bool.Decides.{nat_tests}
use Rattle.std.proofs.lemmas.List.{append-nil, map-append, reverse-append, length-reverse, length-map, length-append}
use Rattle.std.proofs.lemmas.List.Elements.{All-nil, All-push}
use Rattle.lk_tree.specs.Tree.{Tree, app}
use Rattle.lk_tree.specs.Spine.{head, args}
use Rattle.lk_store.specs.Contents.{Contents, tree_at, tree_of}
use Rattle.lk_store.specs.declared.node.Node.{Node}
use Rattle.lk_store.specs.declared.node.Node.TheVariants.{Var, Sort, Const, App, Lam, Pi, Let, Proj, Lit, Wide, Str, Local}
use Rattle.lk_ask.specs.declared.sheet.Pair.{Pair}
use Rattle.lk_ask.specs.Sheets.{map_pair, IsKnownPair}
use Rattle.lk_lazy.specs.declared.spines.Paired.{Paired}
use Rattle.lk_ask.specs.Lines.{lefts, rights}
use Rattle.lk_lazy.specs.Spines.{IsSpineWalk, IsPaired}

pub args-app : (f a : Tree) → args (app f a) ≡ args f ++ a ∷ []
unfolding args
args-app f a = refl

head-app : (f a : Tree) → head (app f a) ≡ head f
unfolding head
head-app f a = refl

-- no argument, and the head is the tree itself
pub record IsBare (t : Tree) : Type 0 where
  pub no_args : args t ≡ []
  pub own_head : head t ≡ t

bare : (c : Contents) (node : Node) → ((f a : ℕ) → node ≡ App f a → ⊥) → IsBare (tree_of c node)
unfolding args head
bare c (App f a) h = absurd (h f a refl)
bare c (Var i) h = record { no_args = refl; own_head = refl }
bare c (Sort i) h = record { no_args = refl; own_head = refl }
bare c (Const n l) h = record { no_args = refl; own_head = refl }
bare c (Lam f a) h = record { no_args = refl; own_head = refl }
bare c (Pi f a) h = record { no_args = refl; own_head = refl }
bare c (Let f v a) h = record { no_args = refl; own_head = refl }
bare c (Proj n i s) h = record { no_args = refl; own_head = refl }
bare c (Lit n) h = record { no_args = refl; own_head = refl }
bare c Wide h = record { no_args = refl; own_head = refl }
bare c (Str s) h = record { no_args = refl; own_head = refl }
bare c (Local k T) h = record { no_args = refl; own_head = refl }

lefts-push : (ps : List (Pair Tree)) (p : Pair Tree) → lefts (ps ++ p ∷ []) ≡ p.left ∷ lefts ps
lefts-push ps p = ap (map (λ (q : Pair Tree). q.left)) (reverse-append ps (p ∷ []))

rights-push : (ps : List (Pair Tree)) (p : Pair Tree) → rights (ps ++ p ∷ []) ≡ p.right ∷ rights ps
rights-push ps p = ap (map (λ (q : Pair Tree). q.right)) (reverse-append ps (p ∷ []))

length-lefts : (ps : List (Pair Tree)) → length (lefts ps) ≡ length ps
length-lefts ps = length-map (reverse ps) (λ (q : Pair Tree). q.left) ∙ length-reverse ps

length-rights : (ps : List (Pair Tree)) → length (rights ps) ≡ length ps
length-rights ps = length-map (reverse ps) (λ (q : Pair Tree). q.right) ∙ length-reverse ps

-- the walk begins with the two themselves
pub walk_begins : (c : Contents) (a b : ℕ) → a < length c.trees → b < length c.trees → IsSpineWalk c a b a b []
walk_begins c a b h k = record {
  left_in = h;
  right_in = k;
  pairs_in = All-nil (IsKnownPair (length c.trees));
  left_head = refl;
  right_head = refl;
  left_args = append-nil (args (tree_at c a));
  right_args = append-nil (args (tree_at c b));
}

module _ {c : Contents} {a b left right : ℕ} {pairs : List (Pair ℕ)} (h : IsSpineWalk c a b left right pairs) where
  -- both are applications
  pub walk_down : (f x g y : ℕ) → (f < length c.trees) × (x < length c.trees) → (g < length c.trees) × (y < length c.trees)
      → tree_of c (App f x) ≡ tree_at c left → tree_of c (App g y) ≡ tree_at c right
      → IsSpineWalk c a b f g (pairs ++ record { left = x; right = y } ∷ [])
  walk_down f x g y k l is_left is_right =
      let p : Pair ℕ = record { left = x; right = y } in
      let ps = map (map_pair (tree_at c)) pairs in
      let mapped : map (map_pair (tree_at c)) (pairs ++ p ∷ []) ≡ ps ++ map_pair (tree_at c) p ∷ [] = map-append (map_pair (tree_at c)) pairs (p ∷ []) in
      let more_lefts : lefts (map (map_pair (tree_at c)) (pairs ++ p ∷ [])) ≡ tree_at c x ∷ lefts ps = ap lefts mapped ∙ lefts-push ps (map_pair (tree_at c) p) in
      let more_rights : rights (map (map_pair (tree_at c)) (pairs ++ p ∷ [])) ≡ tree_at c y ∷ rights ps = ap rights mapped ∙ rights-push ps (map_pair (tree_at c) p) in
      record {
        left_in = k.0;
        right_in = l.0;
        pairs_in = All-push (IsKnownPair (length c.trees)) pairs p h.pairs_in (record { left_in = k.1; right_in = l.1 });
        left_head = sym (head-app (tree_at c f) (tree_at c x)) ∙ ap head is_left ∙ h.left_head;
        right_head = sym (head-app (tree_at c g) (tree_at c y)) ∙ ap head is_right ∙ h.right_head;
        left_args = rw more_lefts (sym (append_assoc (args (tree_at c f)) (tree_at c x ∷ []) (lefts ps)) ∙ (rw (← args-app (tree_at c f) (tree_at c x), is_left) h.left_args));
        right_args = rw more_rights (sym (append_assoc (args (tree_at c g)) (tree_at c y ∷ []) (rights ps)) ∙ (rw (← args-app (tree_at c g) (tree_at c y), is_right) h.right_args));
      }

  left_count : length (args (tree_at c a)) ≡ length (args (tree_at c left)) + length pairs
  left_count =
      let ps = map (map_pair (tree_at c)) pairs in
      let all = ap length (sym h.left_args) ∙ length-append (args (tree_at c left)) (lefts ps) in
      let few : length (lefts ps) ≡ length pairs = length-lefts ps ∙ length-map pairs (map_pair (tree_at c)) in
      rw few at all

  right_count : length (args (tree_at c b)) ≡ length (args (tree_at c right)) + length pairs
  right_count =
      let ps = map (map_pair (tree_at c)) pairs in
      let all = ap length (sym h.right_args) ∙ length-append (args (tree_at c right)) (rights ps) in
      let few : length (rights ps) ≡ length pairs = length-rights ps ∙ length-map pairs (map_pair (tree_at c)) in
      rw few at all

  left_bare : (node : Node) → ((f x : ℕ) → node ≡ App f x → ⊥) → tree_of c node ≡ tree_at c left → IsBare (tree_at c left)
  left_bare node none is = subst IsBare is (bare c node none)

  right_bare : (node : Node) → ((f x : ℕ) → node ≡ App f x → ⊥) → tree_of c node ≡ tree_at c right → IsBare (tree_at c right)
  right_bare node none is = subst IsBare is (bare c node none)

  -- the left spine is longer
  pub walk_left_on : (f x : ℕ) → tree_of c (App f x) ≡ tree_at c left → (node : Node) → ((g y : ℕ) → node ≡ App g y → ⊥) → tree_of c node ≡ tree_at c right
      → nat_eq (length (args (tree_at c a))) (length (args (tree_at c b))) ≡ false
  walk_left_on f x is node none is_right =
      let p = left_count in
      let q = right_count in
      let long : length (args (tree_at c left)) ≡ length (args (tree_at c f)) + 1 =
      ap (λ t. length (args t)) (sym is) ∙ ap length (args-app (tree_at c f) (tree_at c x)) ∙ length-append (args (tree_at c f)) (tree_at c x ∷ []) in
      let short : length (args (tree_at c right)) ≡ 0 = ap length ((right_bare node none is_right).no_args) in
      grind (arith, nat_tests)

  -- the right spine is longer
  pub walk_right_on : (g y : ℕ) → tree_of c (App g y) ≡ tree_at c right → (node : Node) → ((f x : ℕ) → node ≡ App f x → ⊥) → tree_of c node ≡ tree_at c left
      → nat_eq (length (args (tree_at c a))) (length (args (tree_at c b))) ≡ false
  walk_right_on g y is node none is_left =
      let p = left_count in
      let q = right_count in
      let long : length (args (tree_at c right)) ≡ length (args (tree_at c g)) + 1 =
      ap (λ t. length (args t)) (sym is) ∙ ap length (args-app (tree_at c g) (tree_at c y)) ∙ length-append (args (tree_at c g)) (tree_at c y ∷ []) in
      let short : length (args (tree_at c left)) ≡ 0 = ap length ((left_bare node none is_left).no_args) in
      grind (arith, nat_tests)

  -- both are at their heads
  pub walk_ends : (p : Paired) → p.left ≡ left → p.right ≡ right → p.pairs.items ≡ pairs → (node : Node) → ((f x : ℕ) → node ≡ App f x → ⊥) → tree_of c node ≡ tree_at c left
      → (other : Node) → ((g y : ℕ) → other ≡ App g y → ⊥) → tree_of c other ≡ tree_at c right → IsPaired c a b p
  walk_ends p pl pr pp node none is other other_none other_is =
      let l = left_bare node none is in
      let r = right_bare other other_none other_is in
      let ps = map (map_pair (tree_at c)) pairs in
      let left_args : args (tree_at c a) ≡ lefts ps = sym h.left_args ∙ ap (λ xs. xs ++ lefts ps) l.no_args in
      let right_args : args (tree_at c b) ≡ rights ps = sym h.right_args ∙ ap (λ xs. xs ++ rights ps) r.no_args in
      let even : nat_eq (length (lefts ps)) (length (rights ps)) ≡ true = eq-eqb _ _ (length-lefts ps ∙ sym (length-rights ps)) in
      record {
        left_in = rw pl h.left_in;
        right_in = rw pr h.right_in;
        pairs_in = rw pp h.pairs_in;
        left_head = sym h.left_head ∙ l.own_head ∙ ap (tree_at c) (sym pl);
        right_head = sym h.right_head ∙ r.own_head ∙ ap (tree_at c) (sym pr);
        left_args = rw pp left_args;
        right_args = rw pp right_args;
        as_many = rw (left_args, right_args) even;
      }
