-- Two trees of different shapes are compared by their Core.
use Rattle.std.proofs.Common.{◌≡◌, ℕ, List, refl, subst}
use Rattle.lk_tree.specs.Tree.{Level, Tree, sort, lam, pi, lit, str}
use Rattle.lk_questions.specs.Same.{by_reduction, by_shape}
use Rattle.lk_store.specs.Contents.{Contents, tree_of}
use Rattle.lk_store.specs.declared.node.Node.{Node}
use Rattle.lk_store.specs.declared.node.Node.TheVariants.{Var, Sort, Const, App, Lam, Pi, Let, Proj, Lit, Wide, Str, Local}

-- their shapes are no case of their own
abbrev pub AreUnlike : Tree → Tree → Type 0
AreUnlike a b = by_reduction a b ≡ by_shape a b

sort_unlike : (c : Contents) (l : Level) (node : Node) → ((m : ℕ) → node ≡ Sort m → ⊥) → AreUnlike (sort l) (tree_of c node)
sort_unlike c l (Var i) h = refl
sort_unlike c l (Sort m) h = absurd (h m refl)
sort_unlike c l (Const n ls) h = refl
sort_unlike c l (App f x) h = refl
sort_unlike c l (Lam A e) h = refl
sort_unlike c l (Pi A e) h = refl
sort_unlike c l (Let A v e) h = refl
sort_unlike c l (Proj S i s) h = refl
sort_unlike c l (Lit k) h = refl
sort_unlike c l Wide h = refl
sort_unlike c l (Str s) h = refl
sort_unlike c l (Local k T) h = refl

lambda_unlike : (c : Contents) (D f : Tree) (node : Node) → ((A e : ℕ) → node ≡ Lam A e → ⊥) → AreUnlike (lam D f) (tree_of c node)
lambda_unlike c D f (Var i) h = refl
lambda_unlike c D f (Sort m) h = refl
lambda_unlike c D f (Const n ls) h = refl
lambda_unlike c D f (App f' x) h = refl
lambda_unlike c D f (Lam A e) h = absurd (h A e refl)
lambda_unlike c D f (Pi A e) h = refl
lambda_unlike c D f (Let A v e) h = refl
lambda_unlike c D f (Proj S i s) h = refl
lambda_unlike c D f (Lit k) h = refl
lambda_unlike c D f Wide h = refl
lambda_unlike c D f (Str s) h = refl
lambda_unlike c D f (Local k T) h = refl

pi_unlike : (c : Contents) (D f : Tree) (node : Node) → ((A e : ℕ) → node ≡ Pi A e → ⊥) → AreUnlike (pi D f) (tree_of c node)
pi_unlike c D f (Var i) h = refl
pi_unlike c D f (Sort m) h = refl
pi_unlike c D f (Const n ls) h = refl
pi_unlike c D f (App f' x) h = refl
pi_unlike c D f (Lam A e) h = refl
pi_unlike c D f (Pi A e) h = absurd (h A e refl)
pi_unlike c D f (Let A v e) h = refl
pi_unlike c D f (Proj S i s) h = refl
pi_unlike c D f (Lit k) h = refl
pi_unlike c D f Wide h = refl
pi_unlike c D f (Str s) h = refl
pi_unlike c D f (Local k T) h = refl

number_unlike : (c : Contents) (n : ℕ) (node : Node) → ((k : ℕ) → node ≡ Lit k → ⊥) → AreUnlike (lit n) (tree_of c node)
number_unlike c n (Var i) h = refl
number_unlike c n (Sort m) h = refl
number_unlike c n (Const n' ls) h = refl
number_unlike c n (App f x) h = refl
number_unlike c n (Lam A e) h = refl
number_unlike c n (Pi A e) h = refl
number_unlike c n (Let A v e) h = refl
number_unlike c n (Proj S i s) h = refl
number_unlike c n (Lit k) h = absurd (h k refl)
number_unlike c n Wide h = refl
number_unlike c n (Str s) h = refl
number_unlike c n (Local k T) h = refl

text_unlike : (c : Contents) (x : List ℕ) (node : Node) → ((s : ℕ) → node ≡ Str s → ⊥) → AreUnlike (str x) (tree_of c node)
text_unlike c x (Var i) h = refl
text_unlike c x (Sort m) h = refl
text_unlike c x (Const n ls) h = refl
text_unlike c x (App f x') h = refl
text_unlike c x (Lam A e) h = refl
text_unlike c x (Pi A e) h = refl
text_unlike c x (Let A v e) h = refl
text_unlike c x (Proj S i s) h = refl
text_unlike c x (Lit k) h = refl
text_unlike c x Wide h = refl
text_unlike c x (Str s) h = absurd (h s refl)
text_unlike c x (Local k T) h = refl

-- the tree of a node of another kind
pub sort_and_other : (c : Contents) (l : Level) (node : Node) (a b : Tree) → ((m : ℕ) → node ≡ Sort m → ⊥) → sort l ≡ a → tree_of c node ≡ b → AreUnlike a b
sort_and_other c l node a b h is other = subst (λ t. AreUnlike t b) is (subst (AreUnlike (sort l)) other (sort_unlike c l node h))

pub lambda_and_other : (c : Contents) (D f : Tree) (node : Node) (a b : Tree) → ((A e : ℕ) → node ≡ Lam A e → ⊥) → lam D f ≡ a → tree_of c node ≡ b → AreUnlike a b
lambda_and_other c D f node a b h is other = subst (λ t. AreUnlike t b) is (subst (AreUnlike (lam D f)) other (lambda_unlike c D f node h))

pub pi_and_other : (c : Contents) (D f : Tree) (node : Node) (a b : Tree) → ((A e : ℕ) → node ≡ Pi A e → ⊥) → pi D f ≡ a → tree_of c node ≡ b → AreUnlike a b
pi_and_other c D f node a b h is other = subst (λ t. AreUnlike t b) is (subst (AreUnlike (pi D f)) other (pi_unlike c D f node h))

pub number_and_other : (c : Contents) (n : ℕ) (node : Node) (a b : Tree) → ((k : ℕ) → node ≡ Lit k → ⊥) → lit n ≡ a → tree_of c node ≡ b → AreUnlike a b
number_and_other c n node a b h is other = subst (λ t. AreUnlike t b) is (subst (AreUnlike (lit n)) other (number_unlike c n node h))

pub text_and_other : (c : Contents) (x : List ℕ) (node : Node) (a b : Tree) → ((s : ℕ) → node ≡ Str s → ⊥) → str x ≡ a → tree_of c node ≡ b → AreUnlike a b
text_and_other c x node a b h is other = subst (λ t. AreUnlike t b) is (subst (AreUnlike (str x)) other (text_unlike c x node h))

-- neither a sort, a binder nor a literal
module _ (c : Contents) (b : Tree) where
  other_unlike : (node : Node) → ((m : ℕ) → node ≡ Sort m → ⊥) → ((A e : ℕ) → node ≡ Lam A e → ⊥) → ((A e : ℕ) → node ≡ Pi A e → ⊥) → ((k : ℕ) → node ≡ Lit k → ⊥) → ((s : ℕ) → node ≡ Str s → ⊥) → AreUnlike (tree_of c node) b
  other_unlike (Var i) h1 h2 h3 h4 h5 = refl
  other_unlike (Sort m) h1 h2 h3 h4 h5 = absurd (h1 m refl)
  other_unlike (Const n ls) h1 h2 h3 h4 h5 = refl
  other_unlike (App f x) h1 h2 h3 h4 h5 = refl
  other_unlike (Lam A e) h1 h2 h3 h4 h5 = absurd (h2 A e refl)
  other_unlike (Pi A e) h1 h2 h3 h4 h5 = absurd (h3 A e refl)
  other_unlike (Let A v e) h1 h2 h3 h4 h5 = refl
  other_unlike (Proj S i s) h1 h2 h3 h4 h5 = refl
  other_unlike (Lit k) h1 h2 h3 h4 h5 = absurd (h4 k refl)
  other_unlike Wide h1 h2 h3 h4 h5 = refl
  other_unlike (Str s) h1 h2 h3 h4 h5 = absurd (h5 s refl)
  other_unlike (Local k T) h1 h2 h3 h4 h5 = refl

  pub other_and : (node : Node) (a : Tree) → ((m : ℕ) → node ≡ Sort m → ⊥) → ((A e : ℕ) → node ≡ Lam A e → ⊥) → ((A e : ℕ) → node ≡ Pi A e → ⊥) → ((k : ℕ) → node ≡ Lit k → ⊥) → ((s : ℕ) → node ≡ Str s → ⊥) → tree_of c node ≡ a → AreUnlike a b
  other_and node a h1 h2 h3 h4 h5 is = subst (λ t. AreUnlike t b) is (other_unlike node h1 h2 h3 h4 h5)
