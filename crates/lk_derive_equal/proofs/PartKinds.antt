-- Trees of different kinds have no parts to compare.
use Rattle.std.proofs.Common.{ℕ, ◌≡◌, Bool, List, Option, None, refl, sym, subst}
use Rattle.lk_tree.specs.Tree.{Name, Level, Tree, const, proj}
use Rattle.lk_rulebook.specs.Place.{Place}
use Rattle.lk_questions.specs.Same.{by_parts}
use Rattle.lk_store.specs.Contents.{Contents, tree_of}
use Rattle.lk_store.specs.declared.node.Node.{Node}
use Rattle.lk_store.specs.declared.node.Node.TheVariants.{Const, App, Proj}
use Rattle.lk_step.specs.Runs.{Runs}

-- the test says nothing
abbrev pub SaysNothing : Place → Tree → Tree → Type 0
SaysNothing w a b = (v : Option Bool) (n : ℕ) → Runs w (by_parts a b) v n → v ≡ None

const_node : (w : Place) (c : Contents) (x : Name) (ls : List Level) (node : Node) → ((m ks : ℕ) → node ≡ Const m ks → ⊥) → SaysNothing w (const x ls) (tree_of c node)
const_node w c x ls (Const m ks) other v n h = absurd (other m ks refl)
const_node w c x ls node other v n h = sym h.0

pub const_other : (w : Place) (c : Contents) (x : Name) (ls : List Level) (node : Node) (a b : Tree) → ((m ks : ℕ) → node ≡ Const m ks → ⊥) → const x ls ≡ a → tree_of c node ≡ b → SaysNothing w a b
const_other w c x ls node a b other ea eb = subst (λ a. SaysNothing w a b) ea (subst (λ b. SaysNothing w (const x ls) b) eb (const_node w c x ls node other))

proj_node : (w : Place) (c : Contents) (S : Name) (i : ℕ) (s : Tree) (node : Node) → ((T j t : ℕ) → node ≡ Proj T j t → ⊥) → SaysNothing w (proj S i s) (tree_of c node)
proj_node w c S i s (Proj T j t) other v n h = absurd (other T j t refl)
proj_node w c S i s node other v n h = sym h.0

pub proj_other : (w : Place) (c : Contents) (S : Name) (i : ℕ) (s : Tree) (node : Node) (a b : Tree) → ((T j t : ℕ) → node ≡ Proj T j t → ⊥) → proj S i s ≡ a → tree_of c node ≡ b → SaysNothing w a b
proj_other w c S i s node a b other ea eb = subst (λ a. SaysNothing w a b) ea (subst (λ b. SaysNothing w (proj S i s) b) eb (proj_node w c S i s node other))

part_node : (w : Place) (c : Contents) (b : Tree) (node : Node) → ((m ks : ℕ) → node ≡ Const m ks → ⊥) → ((T j t : ℕ) → node ≡ Proj T j t → ⊥) → ((f x : ℕ) → node ≡ App f x → ⊥) → SaysNothing w (tree_of c node) b
part_node w c b (Const m ks) no_const no_proj no_app v n h = absurd (no_const m ks refl)
part_node w c b (Proj T j t) no_const no_proj no_app v n h = absurd (no_proj T j t refl)
part_node w c b (App f x) no_const no_proj no_app v n h = absurd (no_app f x refl)
part_node w c b node no_const no_proj no_app v n h = sym h.0

pub part_other : (w : Place) (c : Contents) (a b : Tree) (node : Node) → ((m ks : ℕ) → node ≡ Const m ks → ⊥) → ((T j t : ℕ) → node ≡ Proj T j t → ⊥) → ((f x : ℕ) → node ≡ App f x → ⊥) → tree_of c node ≡ a → SaysNothing w a b
part_other w c a b node no_const no_proj no_app ea = subst (λ a. SaysNothing w a b) ea (part_node w c b node no_const no_proj no_app)
