-- Programs that look at shapes ask nothing, so what they find is found at the place.
use Rattle.std.proofs.Common.{ℕ, zero, suc, ◌≡◌, Bool, true, false, ◌&&◌, nat_eq, length, List, [], ◌∷◌, Option, Some, None, refl, if◌then◌else◌}
use Rattle.std.specs.Str.{is_utf8, chars}
use Rattle.lk_tree.specs.Tree.{Name, zero_level, succ_level, Tree, sort, app, lit, str}
use Rattle.lk_tree.specs.LevelTest.{level_test}
use Rattle.lk_tree.specs.declared.rule.Rule.TheVariants.{BuiltinShape, QuotShape}
use Rattle.lk_tree.specs.Operations.{Value, number, truth}
use Rattle.lk_rulebook.specs.Place.{Entry, Kind, a_type}
use Rattle.lk_rulebook.specs.Names.{named, nat_zero, nat_succ, quot, quot_mk}
use Rattle.lk_rulebook.specs.Literals.{expansion, expansion_names}
use Rattle.lk_rulebook.specs.Literals as literals
use Rattle.lk_rulebook.specs.Shapes as shapes
use Rattle.lk_rulebook.specs.Quotients.{Quotient, the_type, the_mk, the_lift, the_ind, quot_type, IsQuotient}
use Rattle.lk_questions.specs.Program.{done}
use Rattle.lk_questions.specs.Steps.{given, is_same_tree}
use Rattle.lk_questions.specs.Levels.{tested}
use Rattle.lk_questions.specs.Shapes.{is_sort_one, are_nat_ctors, nat_shape_by, nat_shape, has_string_shape, string_shape}
use Rattle.lk_questions.specs.Literals.{result_of}
use Rattle.lk_questions.specs.Strings.{look_all, has_mk_alone, expansion_by, expansion_of, tree_or, text_to_ctor, literal_to_ctor}
use Rattle.lk_questions.specs.Quotients.{by_quot}
use Rattle.lk_questions.specs.QuotientUnits.{quotients, quotient_named, quot_given, is_eq, eq_shape, rests_steps, is_this, quotient_steps, quot_steps}
use Rattle.lk_claims.proofs.Shaped as shaped
use Rattle.lk_claims.proofs.Readings as readings
use Rattle.lk_claims.proofs.Numerals as operations
use Rattle.lk_claims.proofs.QuotChecks as quot_checks
use Rattle.lk_claims.proofs.Pieces.{Some_inj}
use Rattle.lk_questions.specs.Tests.{◌>>=◌ as ◌then◌, test, passes, found}
use Rattle.lk_questions.specs.Tests.{reads_as, reads}
use Rattle.lk_claims.proofs.Facts.{same_self, pass_test}
use Rattle.lk_table_sound.proofs.Book.{Book, HasNat, HasString, Expands, ReadsText, Reads, IsResult, IsSound}
use Rattle.lk_table_sound.proofs.Soundness.{sound_map, IsQuiet, sound_quiet, quiet_bind, quiet_given, quiet_if}

quiet_tested : (o : Option Bool) → IsQuiet (tested o)
quiet_tested (Some b) = tt
quiet_tested None = tt

quiet_sort_one : (e : Tree) → IsQuiet (is_sort_one e)
quiet_sort_one (sort l) = quiet_tested (level_test l (succ_level zero_level))
quiet_sort_one _ = tt

quiet_nat_by : (g : Entry) (k : Kind) → IsQuiet (nat_shape_by g k)
quiet_nat_by g (a_type block t) =
    quiet_given _ BuiltinShape _ (quiet_bind (is_sort_one g.type) (λ one. given (one && are_nat_ctors t.ctors) BuiltinShape (done tt)) (quiet_sort_one g.type) (λ one. quiet_given (one && are_nat_ctors t.ctors) BuiltinShape (done tt) tt))
quiet_nat_by g _ = tt

quiet_string_by : (g : Entry) (k : Kind) → IsQuiet (has_string_shape g k)
quiet_string_by g (a_type block t) = quiet_if (nat_eq (length block.types) 1 && nat_eq (length g.levels) 0) (is_sort_one g.type) (done false) (quiet_sort_one g.type) tt
quiet_string_by g _ = tt

pub sound_nat_shape : (w : Book) → IsSound w nat_shape (λ u. HasNat w)
sound_nat_shape w = sound_map w nat_shape (λ u. shapes.HasNat w.place × (found w.place nat_shape ≡ Some u)) (λ u. HasNat w) (λ u h. made u h.0 h.1)
    (sound_quiet w nat_shape (λ u. shapes.HasNat w.place) (λ g. quiet_nat_by g g.kind) (shaped.sound_nat_shape w.place))
  where
    made : (u : Unit {0}) → shapes.HasNat w.place → found w.place nat_shape ≡ Some u → HasNat w
    made tt h e = record { rule = h; tested = e }

pub sound_string_shape : (w : Book) → IsSound w string_shape (λ u. HasString w)
sound_string_shape w = sound_map w string_shape (λ u. shapes.HasString w.place × (found w.place string_shape ≡ Some u)) (λ u. HasString w) (λ u h. made u h.0 h.1)
    (sound_quiet w string_shape (λ u. shapes.HasString w.place)
    (λ g. quiet_bind (has_string_shape g g.kind) (λ has. given has BuiltinShape (done tt)) (quiet_string_by g g.kind) (λ has. quiet_given has BuiltinShape (done tt) tt)) (shaped.sound_string_shape w.place))
  where
    made : (u : Unit {0}) → shapes.HasString w.place → found w.place string_shape ≡ Some u → HasString w
    made tt h e = record { rule = h; tested = e }

quiet_look_all : (cs : List Name) → IsQuiet (look_all cs)
quiet_look_all [] = tt
quiet_look_all (c ∷ cs) = λ g. quiet_look_all cs

quiet_expansion_by : (s : List ℕ) (g : Entry) (k : Kind) → IsQuiet (expansion_by s g k)
quiet_expansion_by s g k = quiet_bind (has_string_shape g k) _ (quiet_string_by g k)
    (λ has. quiet_if (has && (has_mk_alone k && is_utf8 s)) _ (done None) (quiet_bind (look_all (expansion_names (chars s))) (λ u. done (Some (expansion (chars s)))) (quiet_look_all (expansion_names (chars s))) (λ u. tt)) tt)

quiet_expansion : (s : List ℕ) → IsQuiet (expansion_of s)
quiet_expansion s = λ g. quiet_expansion_by s g g.kind

quiet_text : (m : Tree) → IsQuiet (text_to_ctor m)
quiet_text (str s) = quiet_bind (expansion_of s) (λ x. done (tree_or x (str s))) (quiet_expansion s) (λ x. tt)
quiet_text _ = tt

quiet_literal : (m : Tree) → IsQuiet (literal_to_ctor m)
quiet_literal (lit zero) = λ g. tt
quiet_literal (lit (suc n)) = λ g. tt
quiet_literal (str s) = quiet_text (str s)
quiet_literal _ = tt

-- x is the expansion, where there is one
abbrev pub IfExpands : Book → List ℕ → Option Tree → Type 0
IfExpands w s None = Unit {0}
IfExpands w s (Some x) = Expands w s × (x ≡ expansion (chars s))

expands_there : (w : Book) (s : List ℕ) (o : Option Tree) → readings.IfExpands w.place s o → found w.place (expansion_of s) ≡ Some o → IfExpands w s o
expands_there w s None h e = tt
expands_there w s (Some x) h e = (record { rule = h.0; tested = rw h.1 at e }, h.1)

pub sound_expansion_of : (w : Book) (s : List ℕ) → IsSound w (expansion_of s) (IfExpands w s)
sound_expansion_of w s = sound_map w (expansion_of s) (λ o. readings.IfExpands w.place s o × (found w.place (expansion_of s) ≡ Some o)) (IfExpands w s) (λ o h. expands_there w s o h.0 h.1)
    (sound_quiet w (expansion_of s) (readings.IfExpands w.place s) (quiet_expansion s) (readings.sound_expansion_of w.place s))

pub sound_text_to_ctor : (w : Book) (m : Tree) → IsSound w (text_to_ctor m) (λ x. ReadsText w m x)
sound_text_to_ctor w m = sound_map w (text_to_ctor m) (λ x. literals.ReadsText w.place m x × (found w.place (text_to_ctor m) ≡ Some x)) (λ x. ReadsText w m x) (λ x h. record { rule = h.0; tested = h.1 })
    (sound_quiet w (text_to_ctor m) (λ x. literals.ReadsText w.place m x) (quiet_text m) (readings.sound_text_to_ctor w.place m))

-- the reading passes its test
itself_or : (b : Bool) (o : Option (Unit {0})) → passes o ≡ true → passes (if b then Some tt else o) ≡ true
itself_or true o h = refl
itself_or false o h = h

read_itself : (w : Book) (m : Tree) → passes (reads w.place m m) ≡ true
read_itself w m = go (is_same_tree m m) (same_self m)
  where
    go : (b : Bool) → b ≡ true → passes (if b then Some tt else reads_as w.place m m) ≡ true
    go true e = refl
    go false e = absurd cc

found_test : (o : Option Tree) (n : Tree) → o ≡ Some n → passes (o then λ x. test (is_same_tree n x)) ≡ true
found_test (Some x) n e = let i : x ≡ n = Some_inj e in rw i (pass_test (is_same_tree n n) (same_self n))
found_test None n e = absurd cc

text_passes : (w : Book) (s : List ℕ) (n : Tree) → found w.place (text_to_ctor (str s)) ≡ Some n → passes (reads w.place (str s) n) ≡ true
text_passes w s n e = itself_or (is_same_tree n (str s)) (reads_as w.place (str s) n) (found_test (found w.place (text_to_ctor (str s))) n e)

reading_passes : (w : Book) (m n : Tree) → literals.Reads w.place m n → found w.place (literal_to_ctor m) ≡ Some n → passes (reads w.place m n) ≡ true
reading_passes w (lit zero) n literals.as_zero e = itself_or (is_same_tree (named nat_zero) (lit zero)) (reads_as w.place (lit zero) (named nat_zero)) (pass_test (is_same_tree (named nat_zero) (named nat_zero)) (same_self (named nat_zero)))
reading_passes w _ _ (literals.as_succ {n = k}) e =
    itself_or (is_same_tree (app (named nat_succ) (lit k)) (lit (suc k))) (reads_as w.place (lit (suc k)) (app (named nat_succ) (lit k)))
    (pass_test (is_same_tree (app (named nat_succ) (lit k)) (app (named nat_succ) (lit k))) (same_self (app (named nat_succ) (lit k))))
reading_passes w m _ (literals.by_text literals.as_it_is) e = read_itself w m
reading_passes w _ n (literals.by_text (literals.as_text {s = s} x)) e = text_passes w s n e

pub sound_literal_to_ctor : (w : Book) (m : Tree) → IsSound w (literal_to_ctor m) (λ x. Reads w m x)
sound_literal_to_ctor w m = sound_map w (literal_to_ctor m) (λ x. literals.Reads w.place m x × (found w.place (literal_to_ctor m) ≡ Some x)) (λ x. Reads w m x) (λ x h. record { rule = h.0; tested = reading_passes w m x h.0 h.1 })
    (sound_quiet w (literal_to_ctor m) (λ x. literals.Reads w.place m x) (quiet_literal m) (readings.sound_literal_to_ctor w.place m))

quiet_result : (o : Option Value) → IsQuiet (result_of o)
quiet_result (Some (number n)) = tt
quiet_result (Some (truth b)) = λ g. tt
quiet_result None = tt

abbrev pub IfResult : Book → Option Value → Option Tree → Type 0
IfResult w o None = Unit {0}
IfResult w o (Some r) = IsResult w o r

result_there : (w : Book) (o : Option Value) (r : Option Tree) → operations.IfResult w.place o r → found w.place (result_of o) ≡ Some r → IfResult w o r
result_there w o None h e = tt
result_there w o (Some r) h e = record { rule = h; tested = e }

pub sound_result_of : (w : Book) (o : Option Value) → IsSound w (result_of o) (IfResult w o)
sound_result_of w o = sound_map w (result_of o) (λ r. operations.IfResult w.place o r × (found w.place (result_of o) ≡ Some r)) (IfResult w o) (λ r h. result_there w o r h.0 h.1)
    (sound_quiet w (result_of o) (operations.IfResult w.place o) (quiet_result o) (operations.sound_result w.place o))

quiet_quot_given : (c : Name) → IsQuiet (quot_given c)
quiet_quot_given c = λ g. quiet_given (by_quot g.kind) QuotShape (done tt) tt

quiet_eq : IsQuiet eq_shape
quiet_eq = λ g. quiet_given (is_eq g g.kind) QuotShape (done tt) tt

quiet_rests : (q : Quotient) → IsQuiet (rests_steps q)
quiet_rests the_type = tt
quiet_rests the_mk = quiet_quot_given quot
quiet_rests the_lift = quiet_bind (quot_given quot) (λ u. eq_shape) (quiet_quot_given quot) (λ u. quiet_eq)
quiet_rests the_ind = quiet_bind (quot_given quot) (λ u. quot_given quot_mk) (quiet_quot_given quot) (λ u. quiet_quot_given quot_mk)

quiet_quotient : (o : Option Quotient) (ps : List Name) (type : Tree) → IsQuiet (quotient_steps o ps type)
quiet_quotient None ps type = tt
quiet_quotient (Some q) ps type = quiet_given (is_this (quot_type q ps) type) QuotShape (rests_steps q) (quiet_rests q)

pub sound_quot_steps : (w : Book) (c : Name) (ps : List Name) (type : Tree) → IsSound w (quot_steps c ps type) (λ u. found w.place (quot_steps c ps type) ≡ Some tt)
sound_quot_steps w c ps type = sound_map w (quot_steps c ps type) (λ u. IsQuotient w.place c ps type × (found w.place (quot_steps c ps type) ≡ Some u)) (λ u. found w.place (quot_steps c ps type) ≡ Some tt) (λ u h. made u h.1)
    (sound_quiet w (quot_steps c ps type) (λ u. IsQuotient w.place c ps type) (quiet_quotient (quotient_named quotients c) ps type) (quot_checks.sound_quot_steps w.place c ps type))
  where
    made : (u : Unit {0}) → found w.place (quot_steps c ps type) ≡ Some u → found w.place (quot_steps c ps type) ≡ Some tt
    made tt e = e
