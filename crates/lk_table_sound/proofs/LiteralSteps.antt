-- The literal step is sound.
use Rattle.std.proofs.Common.{ℕ, ◌≡◌, Bool, true, false, ◌&&◌, nat_eq, List, [], ◌∷◌, length, Option, Some, None, refl, if◌then◌else◌}
use Rattle.std.specs.Prelude.{option_map}
use Rattle.lk_tree.specs.Tree.{Name, Level, Tree, const}
use Rattle.lk_tree.specs.Bind.{bound}
use Rattle.lk_tree.specs.Operations.{Op, arity, op_value}
use Rattle.lk_tree.specs.Spine.{apply, args}
use Rattle.lk_tree.specs.WellFormed.{AllWellFormed}
use Rattle.lk_table_sound.proofs.Book.{Book, HasNat, IsOperation, r_op, ReduceToNumerals, no_more_numerals, numeral, IsSound}
use Rattle.lk_rulebook.specs.Place.{Entry}
use Rattle.lk_rulebook.specs.Names.{named, op_name}
use Rattle.lk_tree.specs.Mentions.{same_name}
use Rattle.lk_rulebook.specs.Literals.{may_give}
use Rattle.lk_rulebook.proofs.Texts.{result_within}
use Rattle.lk_questions.specs.Program.{done}
use Rattle.lk_questions.specs.Shapes.{nat_shape}
use Rattle.lk_questions.specs.Literals.{numeral_of, with_first, numerals, result_of, computed, ops, op_named, op_step, literal_step}
use Rattle.lk_table_sound.proofs.Soundness.{sound_bind, sound_map}
use Rattle.lk_claims.proofs.Pieces.{Some_inj, halves, same_name_right}
use Rattle.lk_table_sound.proofs.Shaped.{IfResult, sound_nat_shape, sound_result_of}
use Rattle.lk_table_sound.proofs.Goes.{sound_if, GoesTo}

abbrev IfNumerals : Book → List Tree → Option (List ℕ) → Type 0
IfNumerals w es None = Unit {0}
IfNumerals w es (Some ns) = ReduceToNumerals w es ns

sound_numerals : (w : Book) (es : List Tree) → AllWellFormed es → IsSound w (numerals es) (IfNumerals w es)
sound_numerals w [] f = no_more_numerals
sound_numerals w (e ∷ es) f = (f.0, λ m mm. first (numeral_of m) (λ n h. λ ns s. numeral mm.0 h s) (sound_numerals w es f.1))
  where
    rest : (n : ℕ) → ((ns : List ℕ) → ReduceToNumerals w es ns → ReduceToNumerals w (e ∷ es) (n ∷ ns)) → (o : Option (List ℕ)) → IfNumerals w es o → IfNumerals w (e ∷ es) (option_map (λ ns. n ∷ ns) o)
    rest n k None s = tt
    rest n k (Some ns) s = k ns s

    first : (o : Option ℕ) → ((n : ℕ) → o ≡ Some n → (ns : List ℕ) → ReduceToNumerals w es ns → ReduceToNumerals w (e ∷ es) (n ∷ ns)) → IsSound w (numerals es) (IfNumerals w es) →
        IsSound w (with_first o (numerals es)) (IfNumerals w (e ∷ es))
    first None k s = tt
    first (Some n) k s = sound_bind w (numerals es) _ (IfNumerals w es) (IfNumerals w (e ∷ es)) s (rest n (k n refl))

-- c goes to r, where there is a step
abbrev pub IfStep : Book → Tree → Option Tree → Type 0
IfStep w c None = Unit {0}
IfStep w c (Some r) = GoesTo w c r

sound_computed : (w : Book) (op : Op) → IsOperation w op → (es : List Tree) (o : Option (List ℕ)) → IfNumerals w es o → IsSound w (computed op o) (IfStep w (apply (named (op_name op)) es))
sound_computed w op i es None s = tt
sound_computed w op i es (Some ns) s =
    sound_bind w nat_shape (λ u. result_of (op_value op ns)) (λ u. HasNat w) (IfStep w (apply (named (op_name op)) es)) (sound_nat_shape w)
    (λ u h. sound_map w (result_of (op_value op ns)) (IfResult w (op_value op ns)) (IfStep w (apply (named (op_name op)) es)) (finish h) (sound_result_of w (op_value op ns)))
  where
    finish : HasNat w → (o : Option Tree) → IfResult w (op_value op ns) o → IfStep w (apply (named (op_name op)) es) o
    finish h None r = tt
    finish h (Some x) r = (r_op op es ns x i h s r, result_within (apply (named (op_name op)) es) r.rule)

op_named_at : (op : Op) (rest : List Op) (f : Name) (o : Op) → (op_named rest f ≡ Some o → op_name o ≡ f) → (b : Bool) → same_name (op_name op) f ≡ b → (if b then Some op else op_named rest f) ≡ Some o → op_name o ≡ f
op_named_at op rest f o h true e i = let j : op ≡ o = Some_inj i in rw (← j) (same_name_right (op_name op) f e)
op_named_at op rest f o h false e i = h i

op_named_right : (os : List Op) (f : Name) (o : Op) → op_named os f ≡ Some o → op_name o ≡ f
op_named_right [] f o e = absurd cc
op_named_right (op ∷ rest) f o e = op_named_at op rest f o (op_named_right rest f o) (same_name (op_name op) f) refl e

sound_op_step : (w : Book) (f : Name) (g : Entry) → w.place.means f ≡ Some g → (o : Option Op) → ((op : Op) → o ≡ Some op → op_name op ≡ f) → (xs : List Tree) → AllWellFormed xs →
    IsSound w (op_step o g.kind xs) (IfStep w (apply (named f) xs))
sound_op_step w f g m None h xs fx = tt
sound_op_step w f g m (Some op) h xs fx =
    let e : op_name op ≡ f = h op refl in
    sound_if w (may_give op g.kind && nat_eq (length xs) (arity op)) _ (done None) (IfStep w (apply (named f) xs))
    (λ y. sound_bind w (numerals xs) (λ ns. computed op ns) (IfNumerals w xs) (IfStep w (apply (named f) xs)) (sound_numerals w xs fx)
    (λ ns s. rw (← e) (sound_computed w op (record { entry = g; given = rw e m; kind = (halves (may_give op g.kind) (nat_eq (length xs) (arity op)) y).0 }) xs ns s)))
    (λ y. tt)

pub sound_literal_step : (w : Book) (c : Tree) (f : Name) (ls : List Level) (g : Entry) → w.place.means f ≡ Some g → apply (const f ls) (args c) ≡ c → AllWellFormed (args c) → IsSound w (literal_step c f ls g) (IfStep w c)
sound_literal_step w c f [] g m e fx =
    sound_if w (nat_eq (bound c) 0) (op_step (op_named ops f) g.kind (args c)) (done None) (IfStep w c)
    (λ y. sound_map w (op_step (op_named ops f) g.kind (args c)) (IfStep w (apply (named f) (args c))) (IfStep w c) (λ o s. rw e at s)
    (sound_op_step w f g m (op_named ops f) (op_named_right ops f) (args c) fx))
    (λ y. tt)
sound_literal_step w c f (l ∷ ls) g m e fx = tt
