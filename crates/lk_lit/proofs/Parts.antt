-- The literal step: what its value comes to, and its program in other words.
use Rattle.std.proofs.Common.{◌≡◌, ℕ, ◌<◌, Bool, true, false, ◌&&◌, nat_eq, List, [], ◌∷◌, length, Option, Some, None, refl, sym, ap, subst, ◌∙◌, if◌then◌else◌, arith}
use Rattle.std.specs.Prelude.{Result, Ok, Err, IfSome}
use Rattle.lk_tree.specs.Tree.{Name, Level, Tree, const}
use Rattle.lk_tree.specs.Bind.{bound}
use Rattle.lk_tree.specs.Spine.{head, args}
use Rattle.lk_tree.specs.Operations.{Op, op_value, arity}
use Rattle.lk_tree.specs.declared.rule.Rule.{Rule}
use Rattle.lk_rulebook.specs.Place.{Entry as PlainEntry}
use Rattle.lk_rulebook.specs.Literals.{may_give}
use Rattle.lk_questions.specs.Program.{Program, done, ◌>>=◌}
use Rattle.lk_questions.specs.Erased.{erased_then}
use Rattle.lk_questions.proofs.Settling.{goes_then, refused_then}
use Rattle.lk_questions.specs.Literals.{numerals, computed, ops, op_named, op_step, literal_step}
use Rattle.lk_op.specs.Ops.{unary_at, binary_at}
use Rattle.lk_op.specs.declared.op.UnaryOp.{UnaryOp}
use Rattle.lk_op.specs.declared.op.UnaryOp.TheVariants.{Succ, Log2}
use Rattle.lk_op.specs.declared.op.BinaryOp.{BinaryOp}
use Rattle.lk_store.specs.declared.memory.NoMemory.{NoMemory}
use Rattle.lk_store.specs.Contents.{Contents, tree_at}
use Rattle.lk_store.proofs.Made.{Extends-self}
use Rattle.lk_ask.specs.declared.next.Next.TheVariants.{No}
use Rattle.lk_ask.specs.Looks.{Sight}
use Rattle.lk_ask.specs.Settles.{Settles}
use Rattle.lk_lit.specs.declared.op.Operation.{Operation}
use Rattle.lk_lit.specs.declared.op.Operation.TheVariants.{Unary}
use Rattle.lk_lit.specs.declared.step.LitPart.{LitPart}
use Rattle.lk_lit.specs.declared.step.LitPart.TheVariants.{Goes, Comes}
use Rattle.lk_lit.specs.Operations.{operation_at, named_op, op_of_kind, op_of_constant}
use Rattle.lk_lit.specs.Steps.{applied_step, first_step, second_step, op_at, StepsPart, IsPart, GivesPart}
use Rattle.lk_lit.specs.Values.{tree_if, value_program}
use Rattle.lk_lit.proofs.Arguments.{binary_arity}

module _ {S R B : Type 0} {contents : S → Contents} {rest : S → R} {sight : R → Sight B} {old new : S} where
  -- the same program in other words
  pub part_as : {result : Result LitPart NoMemory} {p : Program (Option Tree)} (e : ℕ)
      (program : (ℕ → Tree) → Program (Option Tree)) → p ≡ program (tree_at (contents old))
      → GivesPart contents rest sight old new result e (λ _. p)
      → GivesPart contents rest sight old new result e program
  part_as {result} e program same h =
      subst (λ q. StepsPart contents rest sight old new result (λ k. erased_then
      (sight (rest old)).basis.place (k (tree_at (contents old) e)) (sight (rest old)).last q)) same h

  module _ (e : ℕ) (e_in : e < length (contents old).trees) (p : Program (Option Tree)) where
    -- it comes to this value
    pub value_comes : {value : Option ℕ} → IfSome value (λ v. v < length (contents new).trees)
        → Settles contents rest sight old new (Ok (Ok value)) tree_if (λ _. p)
        → GivesPart contents rest sight old new (Ok (Comes e value)) e (λ _. p)
    value_comes {value} known h =
        let before = sight (rest old) in
        let last = (sight (rest new)).last in
        let v = tree_if (contents new) value in
        let there = h.keeps.trees.same e e_in in
        let longer = h.keeps.trees.longer in
        record {
          keeps = h.keeps;
          stays = h.stays;
          known = (omega arith, known);
          steps = λ k. ap (λ c. k c last v) there
              ∙ sym (goes_then before.basis.place (k (tree_at (contents old) e)) before.last last v p h.comes_to);
        }

    -- it is refused
    pub value_refused : {r : Rule} → Settles contents rest sight old new (Ok (Err r)) tree_if (λ _. p)
        → GivesPart contents rest sight old new (Ok (Goes (No r))) e (λ _. p)
    value_refused {r} h =
        let before = sight (rest old) in
        record {
          keeps = h.keeps;
          stays = h.stays;
          known = tt;
          steps = λ k. sym (refused_then before.basis.place (k (tree_at (contents old) e)) before.last r p h.comes_to);
        }

-- what is there at once
pub part_now : {S R B : Type 0} {contents : S → Contents} {rest : S → R} {sight : R → Sight B} {s : S} {part : LitPart}
    {p : Program (Option Tree)} (e : ℕ) (program : (ℕ → Tree) → Program (Option Tree)) → p ≡ program (tree_at (contents s))
    → IsPart (contents s) part e p → GivesPart contents rest sight s s (Ok part) e program
part_now {contents = contents} {rest = rest} {sight = sight} {s = s} e program same h =
    part_as e program same (record {
      keeps = Extends-self (contents s);
      stays = refl;
      known = h.known;
      steps = λ k. h.steps k (sight (rest s)).basis.place (sight (rest s)).last;
    })

-- nothing is computed
pub nothing : {c : Contents} (e : ℕ) → e < length c.trees → IsPart c (Comes e None) e (done None)
nothing e e_in = record { known = (e_in, tt); steps = λ k w last. refl }

-- the number of its only argument is there
pub unary_step : (op : UnaryOp) (operation : Operation) (x : Tree) (xs : List Tree) (n : ℕ) → operation ≡ Unary op → xs ≡ x ∷ []
    → value_program (op_value (unary_at op) (n ∷ [])) ≡ first_step (Some (operation_at operation)) xs (Some n)
unary_step op operation x xs n unary one = rw (unary, one) (go op)
  where
    go : (op : UnaryOp) → value_program (op_value (unary_at op) (n ∷ [])) ≡ first_step (Some (unary_at op)) (x ∷ []) (Some n)
    go Succ = refl
    go Log2 = refl

-- the numbers of both arguments are there
pub binary_step : (op : BinaryOp) (o : Option Op) (m n : ℕ) → Some (binary_at op) ≡ o
    → value_program (op_value (binary_at op) (m ∷ n ∷ [])) ≡ second_step o m (Some n)
binary_step op o m n is =
    ap (λ b. if b then value_program (op_value (binary_at op) (m ∷ n ∷ [])) else done None) (sym (ap (λ k. nat_eq k 2) (binary_arity op)))
    ∙ ap (λ p. second_step p m (Some n)) is

-- by the operation that the constant stands for
step_is : (c : Tree) (f : Name) (ls : List Level) (g : PlainEntry) → literal_step c f ls g ≡ applied_step (op_of_constant c f ls g.kind) (args c)
unfolding named_op
step_is c f [] g = by_bound (nat_eq (bound c) 0) (op_named ops f)
  where
    by_kind : (op : Op) (b : Bool) → (if b && nat_eq (length (args c)) (arity op) then (numerals (args c) >>= λ ns. computed op ns) else done None) ≡ applied_step (if b then Some op else None) (args c)
    by_kind op true = refl
    by_kind op false = refl

    by_bound : (b : Bool) (o : Option Op) → (if b then op_step o g.kind (args c) else done None) ≡ applied_step (if b then op_of_kind o g.kind else None) (args c)
    by_bound true (Some op) = by_kind op (may_give op g.kind)
    by_bound true None = refl
    by_bound false o = refl
step_is c f (l ∷ ls) g = refl

module _ (c : Tree) (f : Name) (ls : List Level) (g : PlainEntry) where
  -- it stands for none
  pub no_operation : None ≡ op_of_constant c f ls g.kind → done None ≡ literal_step c f ls g
  no_operation none = ap (λ o. applied_step o (args c)) none ∙ sym (step_is c f ls g)

  module _ (op : Op) (is : Some op ≡ op_of_constant c f ls g.kind) where
    pub operation_step : applied_step (Some op) (args c) ≡ literal_step c f ls g
    operation_step = ap (λ o. applied_step o (args c)) is ∙ sym (step_is c f ls g)

    -- which its name tells
    pub head_names : const f ls ≡ head c → op_at (head c) ≡ Some op
    head_names at_head = ap op_at (sym at_head) ∙ sym (by_levels ls is)
      where
        by_kind : (o : Option Op) → Some op ≡ op_of_kind o g.kind → Some op ≡ o
        by_kind None h = absurd (cc)
        by_kind (Some p) h = by_test (may_give p g.kind) h
          where
            by_test : (b : Bool) → Some op ≡ (if b then Some p else None) → Some op ≡ Some p
            by_test true h = h
            by_test false h = absurd (cc)

        by_bound : (b : Bool) → Some op ≡ (if b then op_of_kind (named_op f) g.kind else None) → Some op ≡ named_op f
        by_bound true h = by_kind (named_op f) h
        by_bound false h = absurd (cc)

        by_levels : (ls : List Level) → Some op ≡ op_of_constant c f ls g.kind → Some op ≡ named_op f
        by_levels [] h = by_bound (nat_eq (bound c) 0) h
        by_levels (l ∷ ls) h = absurd (cc)
