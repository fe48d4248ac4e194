-- Lines of operations on numbers are derived.
use Rattle.std.proofs.Common.{◌≡◌, Bool, true, false, List, [], ◌∷◌, Option, Some, None, refl, subst, ◌∙◌, sym, ap, if◌then◌else◌}
use Rattle.lk_tree.specs.Tree.{Name, Level, Tree, const}
use Rattle.lk_tree.specs.Spine.{apply, head, args}
use Rattle.lk_tree.specs.WellFormed.{IsWellFormed, AllWellFormed}
use Rattle.lk_tree.specs.Operations.{Op, op_value, Value}
use Rattle.lk_tree.proofs.Spines.{well_formed_of_apply}
use Rattle.lk_tree.proofs.Within.{apply_head_args}
use Rattle.lk_rulebook.specs.Place.{Place}
use Rattle.lk_rulebook.specs.Names.{named, op_name}
use Rattle.lk_tree.specs.Mentions.{same_name}
use Rattle.lk_rulebook.specs.Shapes.{HasNat}
use Rattle.lk_rulebook.specs.Literals.{IsResult, may_give}
use Rattle.lk_rulebook.specs.Lawful.{IsLawfulPlace}
use Rattle.lk_rulebook.specs.Rules.{Reduces, r_op, ReduceToNumerals, no_more_numerals, numeral}
use Rattle.lk_questions.specs.Shapes.{nat_shape}
use Rattle.lk_questions.specs.Literals.{ops, op_named, numeral_of, result_of}
use Rattle.lk_claims.proofs.Pieces.{same_name_right, Some_inj}
use Rattle.lk_claims.proofs.Shaped.{sound_nat_shape}
use Rattle.lk_rulebook.specs.Claims.{Claim, AllDerived}
use Rattle.lk_questions.specs.Tests.{found}
use Rattle.lk_written.specs.Premises.{Left}
use Rattle.lk_written.specs.Reducing.{no_levels, numbers, tree_in, red_operation}
use Rattle.lk_written_sound.proofs.Premises.{IfSome, if_bind, on_some, on_test, found_right, on_reduced}
use Rattle.lk_written_sound.proofs.Typings.{comes_right}
use Rattle.lk_written_sound.proofs.Projs.{on_const}
use Rattle.lk_claims.proofs.Numerals.{numeral_right, IfResult, sound_result}

numbers_right : (w : Place) (ps : List Claim) → AllDerived w ps → (js : Left) (es : List Tree) → AllWellFormed es → IfSome (numbers ps js es) (λ r. ReduceToNumerals w es r.0)
numbers_right w ps d js [] f = no_more_numerals
numbers_right w ps d js (e ∷ es) f =
    on_reduced w ps d js e f.0 _ (λ r. ReduceToNumerals w (e ∷ es) r.0) (λ v h.
    on_some (numeral_of v.0) _ (λ r. ReduceToNumerals w (e ∷ es) r.0) (λ n i.
    if_bind (numbers ps v.1 es) _ (λ r. ReduceToNumerals w es r.0) (λ r. ReduceToNumerals w (e ∷ es) r.0) (numbers_right w ps d v.1 es f.1) (λ ns s. numeral h (numeral_right v.0 n i) s)))

pub tree_right : (o : Option Tree) → IfSome (tree_in o) (λ t. o ≡ Some t)
tree_right (Some t) = refl
tree_right None = tt

result_right : (w : Place) (v : Option Value) (o : Option Tree) (t : Tree) → o ≡ Some t → IfResult w v o → IsResult w v t
result_right w v (Some r) t e h = let i : r ≡ t = Some_inj e in rw (← i) h
result_right w v None t e h = absurd cc

op_named_at : (op : Op) (rest : List Op) (f : Name) (o : Op) → (op_named rest f ≡ Some o → op_name o ≡ f) → (b : Bool) → same_name (op_name op) f ≡ b → (if b then Some op else op_named rest f) ≡ Some o → op_name o ≡ f
op_named_at op rest f o h true e i = let j : op ≡ o = Some_inj i in rw (← j) (same_name_right (op_name op) f e)
op_named_at op rest f o h false e i = h i

op_named_right : (os : List Op) (f : Name) (o : Op) → op_named os f ≡ Some o → op_name o ≡ f
op_named_right [] f o e = absurd cc
op_named_right (op ∷ rest) f o e = op_named_at op rest f o (op_named_right rest f o) (same_name (op_name op) f) refl e

none_there : (ls : List Level) → IfSome (no_levels ls) (λ u. ls ≡ [])
none_there [] = refl
none_there (l ∷ ls) = tt

operation_tree : (a : Tree) (c f : Name) (ls : List Level) → head a ≡ const c ls → ls ≡ [] → f ≡ c → apply (named f) (args a) ≡ a
operation_tree a c f ls e n i = ap (λ h. apply h (args a)) (ap (λ d. const d []) i ∙ (ap (λ ls. const c ls) (sym n) ∙ sym e)) ∙ apply_head_args a

pub operation_is : (w : Place) → IsLawfulPlace w → (ps : List Claim) → AllDerived w ps → (js : Left) (a b : Tree) → IsWellFormed a → IfSome (red_operation w ps js a b) (λ u. Reduces w a b)
operation_is w laws ps d js a b fa =
    let G : Type 0 = Reduces w a b in
    let fx : AllWellFormed (args a) = (well_formed_of_apply (head a) (args a) (subst IsWellFormed (sym (apply_head_args a)) fa)).1 in
    on_const (head a) _ (λ u. G) (λ c e.
    if_bind (no_levels c.1) _ (λ u. c.1 ≡ []) (λ u. G) (none_there c.1) (λ u n.
    on_some (op_named ops c.0) _ (λ u. G) (λ op i.
    on_some (w.means c.0) _ (λ u. G) (λ g m.
    on_test (may_give op g.kind) _ (λ u. G) (λ k.
    if_bind (found w nat_shape) _ (λ u. HasNat w) (λ u. G) (found_right w nat_shape (λ u. HasNat w) (sound_nat_shape w)) (λ s hn.
    if_bind (numbers ps js (args a)) _ (λ r. ReduceToNumerals w (args a) r.0) (λ u. G) (numbers_right w ps d js (args a) fx) (λ ns hs.
    if_bind (found w (result_of (op_value op ns.0))) _ (IfResult w (op_value op ns.0)) (λ u. G) (found_right w (result_of (op_value op ns.0)) (IfResult w (op_value op ns.0)) (sound_result w (op_value op ns.0))) (λ o ho.
    if_bind (tree_in o) _ (λ t. o ≡ Some t) (λ u. G) (tree_right o) (λ r hr.
    let f : op_name op ≡ c.0 = op_named_right ops c.0 op i in
    let given : w.means (op_name op) ≡ Some g = ap w.means f ∙ m in
    comes_right b r ns.1 (λ b. Reduces w a b) (subst (λ a. Reduces w a r) (operation_tree a c.0 (op_name op) c.1 e n f)
    (r_op op (args a) ns.0 r (record { entry = g; given = given; kind = k }) hn (laws op (record { entry = g; given = given; kind = k })) hs (result_right w (op_value op ns.0) o r hr ho))))))))))))
