-- The arguments of a term, one or two or another number of them.
use Rattle.std.proofs.Common.{◌≡◌, ℕ, ◌+◌, ◌<◌, true, false, nat_eq, [], ◌∷◌, ◌++◌, length, refl, sym, ap, ◌∙◌, arith}
use Rattle.std.proofs.lemmas.Bool.Decides.{nat_tests}
use Rattle.std.proofs.lemmas.List.{length-append}
use Rattle.lk_tree.specs.Tree.{Tree, var, sort, const, app, lam, pi, let_in, proj, lit, wide, str, local}
use Rattle.lk_tree.specs.Spine.{args}
use Rattle.lk_tree.specs.Operations.{arity}
use Rattle.lk_op.specs.Ops.{unary_at, binary_at}
use Rattle.lk_op.specs.declared.op.UnaryOp.{UnaryOp}
use Rattle.lk_op.specs.declared.op.UnaryOp.TheVariants.{Succ, Log2}
use Rattle.lk_op.specs.declared.op.BinaryOp.{BinaryOp}
use Rattle.lk_op.specs.declared.op.BinaryOp.TheVariants.{Add, Sub, Mul, Div, Mod, Gcd, Beq, Ble, Land, Lor, Xor, ShiftLeft, ShiftRight, Pow}
use Rattle.lk_store.specs.Contents.{Contents, tree_of}
use Rattle.lk_store.specs.declared.node.Node.{Node}
use Rattle.lk_store.specs.declared.node.Node.TheVariants as node
use Rattle.lk_lit.specs.declared.op.Operation.{Operation}
use Rattle.lk_lit.specs.declared.op.Operation.TheVariants.{Unary, Binary}
use Rattle.lk_lit.specs.Operations.{operation_at, is_app}

pub unary_arity : (op : UnaryOp) → arity (unary_at op) ≡ 1
unary_arity Succ = refl
unary_arity Log2 = refl

pub binary_arity : (op : BinaryOp) → arity (binary_at op) ≡ 2
binary_arity Add = refl
binary_arity Sub = refl
binary_arity Mul = refl
binary_arity Div = refl
binary_arity Mod = refl
binary_arity Gcd = refl
binary_arity Beq = refl
binary_arity Ble = refl
binary_arity Land = refl
binary_arity Lor = refl
binary_arity Xor = refl
binary_arity ShiftLeft = refl
binary_arity ShiftRight = refl
binary_arity Pow = refl

pub not_app : (c : Contents) (n : Node) (e : Tree) → ((f a : ℕ) → n ≡ node.App f a → ⊥) → tree_of c n ≡ e → is_app e ≡ false
not_app c (node.App f a) e none is = absurd (none f a refl)
not_app c (node.Var i) e none is = ap is_app (sym is)
not_app c (node.Sort l) e none is = ap is_app (sym is)
not_app c (node.Const x ls) e none is = ap is_app (sym is)
not_app c (node.Lam A b) e none is = ap is_app (sym is)
not_app c (node.Pi A b) e none is = ap is_app (sym is)
not_app c (node.Let A v b) e none is = ap is_app (sym is)
not_app c (node.Proj S i s) e none is = ap is_app (sym is)
not_app c (node.Lit n) e none is = ap is_app (sym is)
not_app c node.Wide e none is = ap is_app (sym is)
not_app c (node.Str s) e none is = ap is_app (sym is)
not_app c (node.Local k T) e none is = ap is_app (sym is)

no_args : (e : Tree) → is_app e ≡ false → args e ≡ []
unfolding args
no_args (app f a) h = absurd (cc)
no_args (var i) h = refl
no_args (sort l) h = refl
no_args (const x ls) h = refl
no_args (lam A b) h = refl
no_args (pi A b) h = refl
no_args (let_in A v b) h = refl
no_args (proj S i s) h = refl
no_args (lit n) h = refl
no_args wide h = refl
no_args (str s) h = refl
no_args (local k T) h = refl

app_args : (e f a : Tree) → app f a ≡ e → args e ≡ args f ++ a ∷ []
unfolding args
app_args e f a is = ap args (sym is)

-- one more behind an application
one_more : (e f a : Tree) → app f a ≡ e → length (args e) ≡ length (args f) + 1
one_more e f a is = ap length (app_args e f a is) ∙ length-append (args f) (a ∷ [])

some_args : (e : Tree) → is_app e ≡ true → 0 < length (args e)
some_args (app f a) h = let more = one_more (app f a) f a refl in omega arith
some_args (var i) h = absurd (cc)
some_args (sort l) h = absurd (cc)
some_args (const x ls) h = absurd (cc)
some_args (lam A b) h = absurd (cc)
some_args (pi A b) h = absurd (cc)
some_args (let_in A v b) h = absurd (cc)
some_args (proj S i s) h = absurd (cc)
some_args (lit n) h = absurd (cc)
some_args wide h = absurd (cc)
some_args (str s) h = absurd (cc)
some_args (local k T) h = absurd (cc)

module _ (op : Operation) (e : Tree) where
  pub none_taken : is_app e ≡ false → nat_eq (length (args e)) (arity (operation_at op)) ≡ false
  none_taken h = ap (λ xs. nat_eq (length xs) (arity (operation_at op))) (no_args e h) ∙ go op
    where
      go : (op : Operation) → nat_eq 0 (arity (operation_at op)) ≡ false
      go (Unary o) = ap (nat_eq 0) (unary_arity o)
      go (Binary o) = ap (nat_eq 0) (binary_arity o)

  module _ (f a : Tree) (is : app f a ≡ e) where
    pub one_alone : is_app f ≡ false → args e ≡ a ∷ []
    one_alone h = app_args e f a is ∙ ap (λ xs. xs ++ a ∷ []) (no_args f h)

    pub one_too_many : (o : UnaryOp) → op ≡ Unary o → is_app f ≡ true → nat_eq (length (args e)) (arity (operation_at op)) ≡ false
    one_too_many o unary h =
        let count : arity (operation_at op) ≡ 1 = ap (λ p. arity (operation_at p)) unary ∙ unary_arity o in
        let more = one_more e f a is in
        let some = some_args f h in
        grind (arith, nat_tests)

    pub one_too_few : (o : BinaryOp) → op ≡ Binary o → is_app f ≡ false → nat_eq (length (args e)) (arity (operation_at op)) ≡ false
    one_too_few o binary h =
        let count : arity (operation_at op) ≡ 2 = ap (λ p. arity (operation_at p)) binary ∙ binary_arity o in
        let one = ap length (one_alone h) in
        grind (arith, nat_tests)

    module _ (g b : Tree) (front : app g b ≡ f) where
      pub two_alone : is_app g ≡ false → args e ≡ b ∷ a ∷ []
      two_alone h = app_args e f a is ∙ ap (λ xs. xs ++ a ∷ []) (app_args f g b front ∙ ap (λ xs. xs ++ b ∷ []) (no_args g h))

      pub two_too_many : (o : BinaryOp) → op ≡ Binary o → is_app g ≡ true → nat_eq (length (args e)) (arity (operation_at op)) ≡ false
      two_too_many o binary h =
          let count : arity (operation_at op) ≡ 2 = ap (λ p. arity (operation_at p)) binary ∙ binary_arity o in
          let more = one_more e f a is in
          let most = one_more f g b front in
          let some = some_args g h in
          grind (arith, nat_tests)
