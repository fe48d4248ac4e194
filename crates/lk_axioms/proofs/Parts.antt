-- What is found in a node, by what is known of its parts.
use Rattle.std.proofs.Common.{ℕ, ◌≡◌, ◌<◌, [], ◌∷◌, length, Result, Ok, Err, refl, sym, ap, subst}
use Rattle.std.specs.Prelude.{IfOk}
use Rattle.lk_tree.specs.Tree.{Tree, const, app}
use Rattle.lk_tree.specs.Mentions.{mentions}
use Rattle.lk_rulebook.specs.Units.{Library}
use Rattle.lk_store.specs.Contents.{Contents, name_at, list_at, tree_at, tree_of, IsIn}
use Rattle.lk_store.specs.declared.memory.NoMemory.{NoMemory}
use Rattle.lk_store.specs.declared.node.Node.{Node}
use Rattle.lk_store.specs.declared.node.Node.TheVariants as node
use Rattle.lk_seek.specs.Trees.{parts_back}
use Rattle.lk_axioms.specs.declared.finding.Finding.{Finding}
use Rattle.lk_axioms.specs.declared.gathering.Gathering.{Gathering}
use Rattle.lk_axioms.specs.Gives.{NameGives, TreeGives, IsFinding, cell_at, AreKnown}
use Rattle.lk_axioms.specs.Gathered.{IsRight, IsMade, AreJoined}
use Rattle.lk_axioms.proofs.Listed.{still}
use Rattle.lk_axioms.proofs.Nodes.{or_assoc, IsLike, found_name, made_here, made_as, made_two, made_after}

pub if_ok : {A : Type 0} (P Q : A → Type 0) (r : Result A NoMemory) → ((x : A) → P x → Q x) → IfOk r P → IfOk r Q
if_ok P Q (Ok x) f h = f x h
if_ok P Q (Err e) f h = tt

module _ (c : Contents) (us : Library) (n : ℕ) (g : Gathering) (right : IsRight c us n g) (d : Node) where
  -- what the finding of a node is
  abbrev pub Makes : Gathering → Finding → Type 0
  Makes new f = IsMade (TreeGives us (tree_of c d)) n g new f

  pub const_made : (x ls : ℕ) (f : Finding) → d ≡ node.Const x ls → IsFinding (NameGives us (name_at c x)) n g.sets f → n < f.below → Makes g f
  const_made x ls f e i l = rw e (made_here us (const (name_at c x) (list_at c ls)) n g f (found_name us (name_at c x) (list_at c ls) n g.sets f i) l)

  module _ (node_in : IsIn c d) (parts : AreKnown n g.cells.items (parts_back d)) where
    pub proj_made : (x i s : ℕ) (new : Gathering) (f : Finding) (r : Result Finding NoMemory) → d ≡ node.Proj x i s → IsFinding (NameGives us (name_at c x)) n g.sets f → n < f.below
        → IfOk r (AreJoined g new f (cell_at g.cells.items s)) → IfOk r (Makes new)
    proj_made x i s new f r e h l j =
        let here : (x < length c.names) × (s < length c.trees) = rw e at node_in in
        let known : (n < (cell_at g.cells.items s).below) × Unit {0} = rw e at parts in
        rw e (if_ok (AreJoined g new f (cell_at g.cells.items s)) (IsMade (TreeGives us (tree_of c (node.Proj x i s))) n g new) r
        (λ y k. made_as us (tree_of c (node.Proj x i s)) (app (const (name_at c x) []) (tree_at c s)) (record { mentioned = λ z. refl }) n g new y
        (made_two us (const (name_at c x) []) (tree_at c s) n g new f (cell_at g.cells.items s) y (found_name us (name_at c x) [] n g.sets f h) l (right.cells s here.1) known.0 k)) j)

    pair : (e : Tree) (a b : ℕ) (new : Gathering) (r : Result Finding NoMemory) → IsLike e (app (tree_at c a) (tree_at c b)) → (a < length c.trees) × (b < length c.trees) → (n < (cell_at g.cells.items b).below) × ((n < (cell_at g.cells.items a).below) × Unit {0})
        → IfOk r (AreJoined g new (cell_at g.cells.items a) (cell_at g.cells.items b)) → IfOk r (IsMade (TreeGives us e) n g new)
    pair e a b new r same here known j =
        if_ok (AreJoined g new (cell_at g.cells.items a) (cell_at g.cells.items b)) (IsMade (TreeGives us e) n g new) r
        (λ y k. made_as us e (app (tree_at c a) (tree_at c b)) same n g new y
        (made_two us (tree_at c a) (tree_at c b) n g new (cell_at g.cells.items a) (cell_at g.cells.items b) y (right.cells a here.0) known.1.0 (right.cells b here.1) known.0 k)) j

    pub app_made : (a b : ℕ) (new : Gathering) (r : Result Finding NoMemory) → d ≡ node.App a b → IfOk r (AreJoined g new (cell_at g.cells.items a) (cell_at g.cells.items b)) → IfOk r (Makes new)
    app_made a b new r e j = rw e (pair (tree_of c (node.App a b)) a b new r (record { mentioned = λ z. refl }) (rw e at node_in) (rw e at parts) j)

    pub lam_made : (a b : ℕ) (new : Gathering) (r : Result Finding NoMemory) → d ≡ node.Lam a b → IfOk r (AreJoined g new (cell_at g.cells.items a) (cell_at g.cells.items b)) → IfOk r (Makes new)
    lam_made a b new r e j = rw e (pair (tree_of c (node.Lam a b)) a b new r (record { mentioned = λ z. refl }) (rw e at node_in) (rw e at parts) j)

    pub pi_made : (a b : ℕ) (new : Gathering) (r : Result Finding NoMemory) → d ≡ node.Pi a b → IfOk r (AreJoined g new (cell_at g.cells.items a) (cell_at g.cells.items b)) → IfOk r (Makes new)
    pi_made a b new r e j = rw e (pair (tree_of c (node.Pi a b)) a b new r (record { mentioned = λ z. refl }) (rw e at node_in) (rw e at parts) j)

    -- its parts are joined one after another
    pub let_made : (x v b : ℕ) (mid new : Gathering) (two : Finding) (r : Result Finding NoMemory) → d ≡ node.Let x v b → AreJoined g mid (cell_at g.cells.items x) (cell_at g.cells.items v) two
        → IfOk r (AreJoined mid new two (cell_at mid.cells.items b)) → IfOk r (Makes new)
    let_made x v b mid new two r e j k =
        let here : (x < length c.trees) × (v < length c.trees) × (b < length c.trees) = rw e at node_in in
        let known : (n < (cell_at g.cells.items b).below) × ((n < (cell_at g.cells.items v).below) × ((n < (cell_at g.cells.items x).below) × Unit {0})) = rw e at parts in
        let first : Tree = app (tree_at c x) (tree_at c v) in
        let whole : Tree = tree_of c (node.Let x v b) in
        let made : IsMade (TreeGives us first) n g mid two =
        made_two us (tree_at c x) (tree_at c v) n g mid (cell_at g.cells.items x) (cell_at g.cells.items v) two (right.cells x here.0) known.1.1.0 (right.cells v here.1) known.1.0 j in
        let same : cell_at mid.cells.items b ≡ cell_at g.cells.items b = ap (λ cells. cell_at cells b) made.cells in
        let last : IsFinding (TreeGives us (tree_at c b)) n mid.sets (cell_at mid.cells.items b) =
        subst (IsFinding (TreeGives us (tree_at c b)) n mid.sets) (sym same) (still (TreeGives us (tree_at c b)) n g.sets mid.sets (cell_at g.cells.items b) made.keeps (right.cells b here.2)) in
        let below : n < (cell_at mid.cells.items b).below = subst (λ f. n < f.below) (sym same) known.0 in
        let like : IsLike whole (app first (tree_at c b)) = record { mentioned = λ z. or_assoc (mentions (z ∷ []) (tree_at c x)) (mentions (z ∷ []) (tree_at c v)) (mentions (z ∷ []) (tree_at c b)) } in
        rw e (if_ok (AreJoined mid new two (cell_at mid.cells.items b)) (IsMade (TreeGives us whole) n g new) r
        (λ y l. made_as us whole (app first (tree_at c b)) like n g new y
        (made_after us first (app first (tree_at c b)) n g mid new two y made
        (made_two us first (tree_at c b) n mid new two (cell_at mid.cells.items b) y made.finding made.known last below l))) k)
