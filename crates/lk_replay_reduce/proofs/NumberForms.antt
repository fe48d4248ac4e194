-- Operations on numbers that are computed.
use Rattle.std.proofs.Common.{◌≡◌, ℕ, suc, ◌+◌, ◌^◌, nat_lt, Bool, true, false, List, [], ◌∷◌, ◌++◌, length, Option, Some, None, refl, sym, ap, ◌∙◌, arith, if◌then◌else◌}
use Rattle.std.specs.Prelude.{IfSome}
use Rattle.std.proofs.lemmas.List.{length-append}
use Rattle.lk_tree.specs.Tree.{Name, Level, Tree, const, app, lit}
use Rattle.lk_tree.specs.Operations.{Op, Value, number, truth, op_value}
use Rattle.lk_tree.specs.Mentions.{same_name}
use Rattle.lk_tree.specs.Spine.{head, args}
use Rattle.lk_rulebook.specs.Names.{named, nat_zero, bool_name}
use Rattle.lk_rulebook.specs.Literals.{may_give}
use Rattle.lk_rulebook.specs.Place.{Place, Entry, Kind}
use Rattle.lk_rulebook.specs.Claims.{Claim}
use Rattle.lk_questions.specs.Literals.{ops, op_named, numeral_of}
use Rattle.lk_questions.specs.Steps.{is_same_tree}
use Rattle.lk_questions.specs.Tests.{◌>>=◌, test, passes}
use Rattle.lk_written.specs.Premises.{Left, as_const, reduced}
use Rattle.lk_written.specs.Reducing.{no_levels, tree_in, numbers, red_operation}
use Rattle.lk_written.specs.Typing.{comes_to}
use Rattle.lk_op.specs.Ops.{unary_at, binary_at, fitting}
use Rattle.lk_op.specs.declared.op.UnaryOp.{UnaryOp}
use Rattle.lk_op.specs.declared.op.UnaryOp.TheVariants.{Succ, Log2}
use Rattle.lk_op.specs.declared.op.BinaryOp.{BinaryOp}
use Rattle.lk_op.specs.declared.op.BinaryOp.TheVariants.{Add, Sub, Mul, Div, Mod, Gcd, Beq, Ble, Land, Lor, Xor, ShiftLeft, ShiftRight, Pow}
use Rattle.lk_lit.specs.Operations.{named_op}
use Rattle.lk_lit.proofs.Naming.{one_name, two_names}
use Rattle.lk_premises.proofs.Binding.{bind_same}
use Rattle.lk_replay_reduce.specs.Numbers.{number_read, number_is, truth_read, value_read, unary_read, binary_read, operation_read, shaped_read, entry_read}
use Rattle.lk_premises.proofs.Comparing.{same_tree, one_tree}
use Rattle.lk_premises.proofs.Passing.{behind}

-- what the name means is looked up first
swapped : {A B C D : Type 0} (o : Option A) (p : Option B) (q : Option C) (k : B → C → Option D) →
    (o >>= λ x. p >>= λ y. q >>= λ z. k y z) ≡ (q >>= λ z. o >>= λ x. p >>= λ y. k y z)
swapped (Some x) (Some y) (Some z) k = refl
swapped (Some x) (Some y) None k = refl
swapped (Some x) None (Some z) k = refl
swapped (Some x) None None k = refl
swapped None p (Some z) k = refl
swapped None p None k = refl

pub operation_is : (w : Place) (ps : List Claim) (js : Left) (a b : Tree) →
    red_operation w ps js a b ≡ (as_const (head a) >>= λ c. w.means c.0 >>= λ g. entry_read w ps js c.0 c.1 g.kind a b)
unfolding named_op value_read
operation_is w ps js a b =
    bind_same (as_const (head a)) _ _
    (λ c. swapped (no_levels c.1) (op_named ops c.0) (w.means c.0) (λ op g. test (may_give op g.kind) >>= λ v. shaped_read w ps js op a b))

-- a numeral that is a constant
pub const_numeral : (c : Name) (ls : List Level) (b : Bool) → is_same_tree (const c ls) (named nat_zero) ≡ b → numeral_of (const c ls) ≡ (if b then Some 0 else None)
const_numeral c [] true h =
    let e : const c [] ≡ named nat_zero = same_tree (const c []) (named nat_zero) h in
    let n : c ≡ nat_zero = cc in
    ap (λ z. if z then Some 0 else None) (one_name c nat_zero n)
const_numeral c [] false h =
    ap (λ z. if z then Some 0 else None)
    (two_names c nat_zero (λ e. let t : is_same_tree (const c []) (named nat_zero) ≡ true = one_tree (const c []) (named nat_zero) (ap (λ n. const n []) e) in absurd (cc)))
const_numeral c (l ∷ ls) true h = let e : const c (l ∷ ls) ≡ named nat_zero = same_tree (const c (l ∷ ls)) (named nat_zero) h in absurd (cc)
const_numeral c (l ∷ ls) false h = refl

-- the tree of a value
module _ (w : Place) (js : Left) (b : Tree) where
  pub value_number : (n : ℕ) (o : Option Value) → Some (number n) ≡ fitting o → value_read w js b o ≡ number_is js b n
  unfolding value_read
  value_number n (Some (number k)) h = go (nat_lt k (2 ^ 128)) h
    where
      go : (t : Bool) → Some (number n) ≡ (if t then Some (number k) else None) →
          (Some (if t then Some (lit k) else None) >>= λ o. tree_in o >>= λ r. comes_to b r js) ≡ number_is js b n
      go true i = let e : n ≡ k = cc in ap (λ m. number_is js b m) (sym e)
      go false i = absurd (cc)
  value_number n (Some (truth t)) h = absurd (cc)
  value_number n None h = absurd (cc)

  pub value_truth : (t : Bool) (o : Option Value) → Some (truth t) ≡ fitting o → value_read w js b o ≡ truth_read w js b (bool_name t)
  unfolding value_read
  value_truth t (Some (number k)) h = go (nat_lt k (2 ^ 128)) h
    where
      go : (s : Bool) → Some (truth t) ≡ (if s then Some (number k) else None) →
          (Some (if s then Some (lit k) else None) >>= λ o. tree_in o >>= λ r. comes_to b r js) ≡ truth_read w js b (bool_name t)
      go true i = absurd (cc)
      go false i = absurd (cc)
  value_truth t (Some (truth s)) h = let e : t ≡ s = cc in go (w.means (bool_name s)) ∙ ap (λ z. truth_read w js b (bool_name z)) (sym e)
    where
      go : (o : Option Entry) → ((o >>= λ g. Some (Some (named (bool_name s)))) >>= λ o. tree_in o >>= λ r. comes_to b r js) ≡ (o >>= λ g. comes_to b (named (bool_name s)) js)
      go (Some g) = refl
      go None = refl
  value_truth t None h = absurd (cc)

  pub value_none : (o : Option Value) → None ≡ fitting o → value_read w js b o ≡ None
  unfolding value_read
  value_none (Some (number k)) h = go (nat_lt k (2 ^ 128)) h
    where
      go : (s : Bool) → None ≡ (if s then Some (number k) else None) →
          (Some (if s then Some (lit k) else None) >>= λ o. tree_in o >>= λ r. comes_to b r js) ≡ None
      go true i = absurd (cc)
      go false i = refl
  value_none (Some (truth t)) h = absurd (cc)
  value_none None h = refl

-- one number, and one more
abbrev alone : Left → ℕ → Option (List ℕ × Left)
alone js n = Some (n ∷ [], js)

abbrev more : ℕ → List ℕ × Left → Option (List ℕ × Left)
more n ns = Some (n ∷ ns.0, ns.1)

abbrev read : Left → ℕ → Option (ℕ × Left)
read js n = Some (n, js)

-- as many numbers as arguments
as_many : (ps : List Claim) (xs : List Tree) (js : Left) → IfSome (numbers ps js xs) (λ r. length r.0 ≡ length xs)
as_many ps [] js = refl
as_many ps (x ∷ xs) js = go (λ left. as_many ps xs left) (reduced ps js x)
  where
    others : (n : ℕ) (o : Option (List ℕ × Left)) → IfSome o (λ r. length r.0 ≡ length xs) → IfSome (o >>= more n) (λ r. length r.0 ≡ suc (length xs))
    others n (Some r) h = ap suc h
    others n None h = tt

    inner : ((left : Left) → IfSome (numbers ps left xs) (λ r. length r.0 ≡ length xs)) → (v : Tree × Left) (o : Option ℕ) → IfSome (o >>= λ n. numbers ps v.1 xs >>= more n) (λ r. length r.0 ≡ suc (length xs))
    inner all v (Some n) = others n (numbers ps v.1 xs) (all v.1)
    inner all v None = tt

    go : ((left : Left) → IfSome (numbers ps left xs) (λ r. length r.0 ≡ length xs)) → (o : Option (Tree × Left)) → IfSome (o >>= λ v. numeral_of v.0 >>= λ n. numbers ps v.1 xs >>= more n) (λ r. length r.0 ≡ suc (length xs))
    go all (Some v) = inner all v (numeral_of v.0)
    go all None = tt

-- an operation gives nothing of another number of arguments
unary_alone : (op : UnaryOp) (ns : List ℕ) → (length ns ≡ 1 → ⊥) → op_value (unary_at op) ns ≡ None
unary_alone Succ [] h = refl
unary_alone Succ (a ∷ []) h = absurd (h refl)
unary_alone Succ (a ∷ b ∷ ns) h = refl
unary_alone Log2 [] h = refl
unary_alone Log2 (a ∷ []) h = absurd (h refl)
unary_alone Log2 (a ∷ b ∷ ns) h = refl

none_of_none : (op : BinaryOp) → op_value (binary_at op) [] ≡ None
none_of_none Add = refl
none_of_none _ = refl

none_of_one : (op : BinaryOp) (a : ℕ) → op_value (binary_at op) (a ∷ []) ≡ None
none_of_one Add a = refl
none_of_one _ a = refl

none_of_more : (op : BinaryOp) (a b c : ℕ) (ns : List ℕ) → op_value (binary_at op) (a ∷ b ∷ c ∷ ns) ≡ None
none_of_more Add a b c ns = refl
none_of_more _ a b c ns = refl

binary_alone : (op : BinaryOp) (ns : List ℕ) → (length ns ≡ 2 → ⊥) → op_value (binary_at op) ns ≡ None
binary_alone op [] h = none_of_none op
binary_alone op (a ∷ []) h = none_of_one op a
binary_alone op (a ∷ b ∷ []) h = absurd (h refl)
binary_alone op (a ∷ b ∷ c ∷ ns) h = none_of_more op a b c ns

module _ (w : Place) (ps : List Claim) (b : Tree) where
  gives_none : (js : Left) (o : Option Value) → o ≡ None → value_read w js b o ≡ None
  unfolding value_read
  gives_none js o h = ap (value_read w js b) h

  other_count : (op : Op) (k : ℕ) (js : Left) (xs : List Tree) → ((ns : List ℕ) → (length ns ≡ k → ⊥) → op_value op ns ≡ None) → (length xs ≡ k → ⊥)
      → (numbers ps js xs >>= λ ns. value_read w ns.1 b (op_value op ns.0)) ≡ None
  other_count op k js xs none other = go (numbers ps js xs) (as_many ps xs js)
    where
      go : (o : Option (List ℕ × Left)) → IfSome o (λ r. length r.0 ≡ length xs) → (o >>= λ ns. value_read w ns.1 b (op_value op ns.0)) ≡ None
      go (Some r) h = gives_none r.1 (op_value op r.0) (none r.0 (λ e. other (sym h ∙ e)))
      go None h = refl

  -- one argument is read
  one_read : (op : Op) (js : Left) (x : Tree) → (numbers ps js (x ∷ []) >>= λ ns. value_read w ns.1 b (op_value op ns.0)) ≡ (number_read ps js x >>= λ n. value_read w n.1 b (op_value op (n.0 ∷ [])))
  one_read op js x = go (reduced ps js x)
    where
      inner : (v : Tree × Left) (o : Option ℕ) →
          ((o >>= alone v.1) >>= λ ns. value_read w ns.1 b (op_value op ns.0)) ≡ ((o >>= read v.1) >>= λ n. value_read w n.1 b (op_value op (n.0 ∷ [])))
      inner v (Some n) = refl
      inner v None = refl

      go : (o : Option (Tree × Left)) →
          ((o >>= λ v. numeral_of v.0 >>= alone v.1) >>= λ ns. value_read w ns.1 b (op_value op ns.0))
          ≡ ((o >>= λ v. numeral_of v.0 >>= read v.1) >>= λ n. value_read w n.1 b (op_value op (n.0 ∷ [])))
      go (Some v) = inner v (numeral_of v.0)
      go None = refl

  -- two arguments are
  two_read : (op : Op) (js : Left) (x y : Tree) → (numbers ps js (x ∷ y ∷ []) >>= λ ns. value_read w ns.1 b (op_value op ns.0))
      ≡ (number_read ps js x >>= λ m. number_read ps m.1 y >>= λ n. value_read w n.1 b (op_value op (m.0 ∷ n.0 ∷ [])))
  two_read op js x y = go (reduced ps js x)
    where
      last : (m : ℕ) (u : Tree × Left) (o : Option ℕ) →
          (((o >>= alone u.1) >>= more m) >>= λ ns. value_read w ns.1 b (op_value op ns.0))
          ≡ ((o >>= read u.1) >>= λ n. value_read w n.1 b (op_value op (m ∷ n.0 ∷ [])))
      last m u (Some n) = refl
      last m u None = refl

      second : (m : ℕ) (o : Option (Tree × Left)) →
          (((o >>= λ v. numeral_of v.0 >>= alone v.1) >>= more m) >>= λ ns. value_read w ns.1 b (op_value op ns.0))
          ≡ ((o >>= λ v. numeral_of v.0 >>= read v.1) >>= λ n. value_read w n.1 b (op_value op (m ∷ n.0 ∷ [])))
      second m (Some v) = last m v (numeral_of v.0)
      second m None = refl

      inner : (v : Tree × Left) (o : Option ℕ) →
          ((o >>= λ m. numbers ps v.1 (y ∷ []) >>= more m) >>= λ ns. value_read w ns.1 b (op_value op ns.0))
          ≡ ((o >>= read v.1) >>= λ m. number_read ps m.1 y >>= λ n. value_read w n.1 b (op_value op (m.0 ∷ n.0 ∷ [])))
      inner v (Some m) = second m (reduced ps v.1 y)
      inner v None = refl

      go : (o : Option (Tree × Left)) →
          ((o >>= λ v. numeral_of v.0 >>= λ m. numbers ps v.1 (y ∷ []) >>= more m) >>= λ ns. value_read w ns.1 b (op_value op ns.0))
          ≡ ((o >>= λ v. numeral_of v.0 >>= read v.1) >>= λ m. number_read ps m.1 y >>= λ n. value_read w n.1 b (op_value op (m.0 ∷ n.0 ∷ [])))
      go (Some v) = inner v (numeral_of v.0)
      go None = refl

  two_more : (xs : List Tree) (y x : Tree) → length ((xs ++ y ∷ []) ++ x ∷ []) ≡ suc (suc (length xs))
  two_more xs y x =
      let outer = length-append (xs ++ y ∷ []) (x ∷ []) in
      let inner = length-append xs (y ∷ []) in
      omega arith

  pub unary_is : (op : UnaryOp) (js : Left) (a : Tree) → operation_read w ps js (unary_at op) a b ≡ unary_read w ps js (unary_at op) a b
  unfolding args
  unary_is op js (app (app f y) x) =
      other_count (unary_at op) 1 js ((args f ++ y ∷ []) ++ x ∷ []) (unary_alone op)
      (λ e. let m = two_more (args f) y x in absurd (omega arith))
  unary_is op js (app f x) = one_read (unary_at op) js x
  unary_is op js a = other_count (unary_at op) 1 js [] (unary_alone op) (λ e. absurd (omega arith))

  pub binary_is : (op : BinaryOp) (js : Left) (a : Tree) → operation_read w ps js (binary_at op) a b ≡ binary_read w ps js (binary_at op) a b
  unfolding args
  binary_is op js (app (app (app f z) y) x) =
      other_count (binary_at op) 2 js (((args f ++ z ∷ []) ++ y ∷ []) ++ x ∷ []) (binary_alone op)
      (λ e. let m = two_more (args f ++ z ∷ []) y x in let k = length-append (args f) (z ∷ []) in absurd (omega arith))
  binary_is op js (app (app f y) x) = two_read (binary_at op) js y x
  binary_is op js (app f x) = other_count (binary_at op) 2 js (x ∷ []) (binary_alone op) (λ e. absurd (omega arith))
  binary_is op js a = other_count (binary_at op) 2 js [] (binary_alone op) (λ e. absurd (omega arith))

-- an operation that is named, and may be given by this kind or not
pub entry_is : (w : Place) (ps : List Claim) (js : Left) (n : Name) (ls : List Level) (k : Kind) (a b : Tree) (op : Op) (z : Bool) →
    passes (no_levels ls) ≡ true → named_op n ≡ Some op → may_give op k ≡ z → passes (entry_read w ps js n ls k a b) ≡ passes (test z >>= λ v. shaped_read w ps js op a b)
entry_is w ps js n ls k a b op z empty is may =
    behind (no_levels ls) (named_op n >>= λ o. test (may_give o k) >>= λ v. shaped_read w ps js o a b) empty
    ∙ ap (λ r. passes (r >>= λ o. test (may_give o k) >>= λ v. shaped_read w ps js o a b)) is
    ∙ ap (λ y. passes (test y >>= λ v. shaped_read w ps js op a b)) may
