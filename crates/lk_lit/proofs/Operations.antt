-- Which operation a name and a kind stand for, and how many arguments there are.
use Rattle.std.proofs.Common.{◌≡◌, ℕ, Bool, true, false, nat_eq, List, [], ◌∷◌, ◌++◌, Option, Some, None, refl, sym, ap, ◌∙◌, if◌then◌else◌}
use Rattle.std.specs.Str.{bytes_eq}
use Rattle.std.specs.Bool.{Decides}
use Rattle.std.proofs.lemmas.Slice.Eq.{bytes_eq-Decides}
use Rattle.lk_tree.specs.Tree.{Name, Level, Tree, text, number}
use Rattle.lk_tree.specs.Bind.{bound}
use Rattle.lk_tree.specs.Mentions.{same_name}
use Rattle.lk_tree.specs.Operations.{Op, succ, log2, add, sub, mul, div, modulo, gcd, beq, ble, land, lor, xor, shift_left, shift_right, pow}
use Rattle.lk_rulebook.specs.Place.{Kind}
use Rattle.lk_rulebook.specs.Literals.{by_def, by_ctor, may_give}
use Rattle.lk_rulebook.specs.Names.{nat, op_name}
use Rattle.lk_questions.specs.Literals.{ops, op_named}
use Rattle.lk_op.specs.Ops.{binary_at}
use Rattle.lk_op.specs.declared.op.BinaryOp.{BinaryOp}
use Rattle.lk_op.specs.declared.op.BinaryOp.TheVariants.{Add, Sub, Mul, Div, Mod, Gcd, Beq, Ble, Land, Lor, Xor, ShiftLeft, ShiftRight, Pow}
use Rattle.lk_lit.specs.Operations.{op_word, op_of_word, named_op, op_of_kind, op_of_constant}
use Rattle.lk_lit.proofs.Naming.{never_empty, snoc_parts, two_names, same_name-sym, before_last}

-- two names that end in texts
texts_same : (n p : Name) (s w : List ℕ) → same_name (n ++ text s ∷ []) (p ++ text w ∷ []) ≡ (if bytes_eq w s then same_name n p else false)
texts_same n p s w = go (bytes_eq w s) (bytes_eq-Decides w s)
  where
    go : (b : Bool) → Decides b (w ≡ s) → same_name (n ++ text s ∷ []) (p ++ text w ∷ []) ≡ (if b then same_name n p else false)
    go true d = rw (d.0 refl) (before_last n p (text s))
    go false d = two_names (n ++ text s ∷ []) (p ++ text w ∷ [])
        (λ e. let t : text s ≡ text w = (snoc_parts n p (text s) (text w) e).1 in
        let u : w ≡ s = cc in let f : false ≡ true = d.1 u in absurd (cc))

op_name_is : (op : Op) → op_name op ≡ nat ++ text (op_word op) ∷ []
op_name_is succ = refl
op_name_is log2 = refl
op_name_is add = refl
op_name_is sub = refl
op_name_is mul = refl
op_name_is div = refl
op_name_is modulo = refl
op_name_is gcd = refl
op_name_is beq = refl
op_name_is ble = refl
op_name_is land = refl
op_name_is lor = refl
op_name_is xor = refl
op_name_is shift_left = refl
op_name_is shift_right = refl
op_name_is pow = refl

-- a name that ends in a text: by that, where Nat stands before it
by_word : (os : List Op) (p : Name) (w : List ℕ) → op_named os (p ++ text w ∷ []) ≡ (if same_name p nat then op_of_word os w else None)
by_word [] p w = go (same_name p nat)
  where
    go : (s : Bool) → None ≡ (if s then op_of_word [] w else None)
    go true = refl
    go false = refl
by_word (op ∷ os) p w =
    ap (λ b. if b then Some op else op_named os (p ++ text w ∷ []))
    (rw (op_name_is op) (texts_same nat p (op_word op) w)
    ∙ ap (λ s. if bytes_eq w (op_word op) then s else false) (same_name-sym nat p))
    ∙ go (bytes_eq w (op_word op)) (same_name p nat) (by_word os p w)
  where
    go : (b s : Bool) → op_named os (p ++ text w ∷ []) ≡ (if s then op_of_word os w else None)
        → (if (if b then s else false) then Some op else op_named os (p ++ text w ∷ []))
        ≡ (if s then (if b then Some op else op_of_word os w) else None)
    go false true e = e
    go false false e = e
    go true true e = refl
    go true false e = e

none_named : (os : List Op) (f : Name) → ((op : Op) → op_name op ≡ f → ⊥) → None ≡ op_named os f
none_named [] f other = refl
none_named (op ∷ os) f other = none_named os f other ∙ ap (λ b. if b then Some op else op_named os f) (sym (two_names (op_name op) f (other op)))

module _ (f : Name) where
  pub word_names : (p : Name) (w : List ℕ) → p ++ text w ∷ [] ≡ f → true ≡ same_name p nat → op_of_word ops w ≡ named_op f
  unfolding named_op
  word_names p w is nat_before = ap (λ s. if s then op_of_word ops w else None) nat_before ∙ sym (by_word ops p w) ∙ ap (op_named ops) is

  pub other_parent : (p : Name) (w : List ℕ) → p ++ text w ∷ [] ≡ f → false ≡ same_name p nat → None ≡ named_op f
  unfolding named_op
  other_parent p w is other = ap (λ s. if s then op_of_word ops w else None) other ∙ sym (by_word ops p w) ∙ ap (op_named ops) is

  pub empty_names_none : [] ≡ f → None ≡ named_op f
  unfolding named_op
  empty_names_none is = none_named ops f (λ op e. never_empty nat (text (op_word op)) (is ∙ sym e ∙ op_name_is op))

  pub number_names_none : (p : Name) (i : ℕ) → p ++ number i ∷ [] ≡ f → None ≡ named_op f
  unfolding named_op
  number_names_none p i is =
      none_named ops f (λ op e. let t : text (op_word op) ≡ number i =
      (snoc_parts nat p (text (op_word op)) (number i) (sym (op_name_is op) ∙ e ∙ sym is)).1 in absurd (cc))

-- but for the successor they are definitions
pub binary_is_def : (op : BinaryOp) (k : Kind) → by_def k ≡ may_give (binary_at op) k
binary_is_def Add k = refl
binary_is_def Sub k = refl
binary_is_def Mul k = refl
binary_is_def Div k = refl
binary_is_def Mod k = refl
binary_is_def Gcd k = refl
binary_is_def Beq k = refl
binary_is_def Ble k = refl
binary_is_def Land k = refl
binary_is_def Lor k = refl
binary_is_def Xor k = refl
binary_is_def ShiftLeft k = refl
binary_is_def ShiftRight k = refl
binary_is_def Pow k = refl

may_not : (op : Op) (k : Kind) → false ≡ by_def k → false ≡ by_ctor k → false ≡ may_give op k
may_not succ k d n = n
may_not log2 k d n = d
may_not add k d n = d
may_not sub k d n = d
may_not mul k d n = d
may_not div k d n = d
may_not modulo k d n = d
may_not gcd k d n = d
may_not beq k d n = d
may_not ble k d n = d
may_not land k d n = d
may_not lor k d n = d
may_not xor k d n = d
may_not shift_left k d n = d
may_not shift_right k d n = d
may_not pow k d n = d

-- neither a definition nor a constructor
pub other_kind : (o : Option Op) (k : Kind) → false ≡ by_def k → false ≡ by_ctor k → None ≡ op_of_kind o k
other_kind None k d n = refl
other_kind (Some op) k d n = ap (λ b. if b then Some op else None) (may_not op k d n)

pub of_kind : (o : Option Op) (op : Op) (k : Kind) (b : Bool) → Some op ≡ o → b ≡ may_give op k → (if b then Some op else None) ≡ op_of_kind o k
of_kind o op k b is may = ap (λ b. if b then Some op else None) may ∙ ap (λ o. op_of_kind o k) is

-- whether it stands for an operation, the name and the kind decide, and then the levels and the Locals
module _ (e : Tree) (f : Name) (ls : List Level) (k : Kind) (o : Option Op) (is : o ≡ op_of_kind (named_op f) k) where
  pub constant_names : ls ≡ [] → nat_eq (bound e) 0 ≡ true → o ≡ op_of_constant e f ls k
  constant_names none closed =
      is ∙ ap (λ b. if b then op_of_kind (named_op f) k else None) (sym closed) ∙ ap (λ l. op_of_constant e f l k) (sym none)

  pub other_constant : None ≡ o → None ≡ op_of_constant e f ls k
  other_constant none = go ls
    where
      by_bound : (b : Bool) → None ≡ (if b then op_of_kind (named_op f) k else None)
      by_bound true = none ∙ is
      by_bound false = refl

      go : (ls : List Level) → None ≡ op_of_constant e f ls k
      go [] = by_bound (nat_eq (bound e) 0)
      go (l ∷ ls) = refl
