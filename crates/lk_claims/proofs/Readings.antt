-- Texts are expanded and literals are read as the rules say.
use Rattle.std.proofs.Common.{ℕ, zero, suc, ◌≡◌, true, ◌&&◌, List, [], ◌∷◌, Option, Some, None, refl}
use Rattle.std.specs.Str.{is_utf8, chars}
use Rattle.lk_tree.specs.Tree.{Name, Tree, lit, str}
use Rattle.lk_rulebook.specs.Place.{Place, Entry, Kind, Block, BlockType, Ctor, a_type}
use Rattle.lk_rulebook.specs.Names.{string, string_mk}
use Rattle.lk_rulebook.specs.Shapes.{AllGiven}
use Rattle.lk_rulebook.specs.Literals.{expansion, expansion_names, Expands, ReadsText, as_it_is, as_text, Reads, by_text, as_zero, as_succ}
use Rattle.lk_questions.specs.Program.{done}
use Rattle.lk_questions.specs.Shapes.{has_string_shape}
use Rattle.lk_questions.specs.Strings.{look_all, is_mk_alone, has_mk_alone, expansion_by, expansion_of, tree_or, text_to_ctor, literal_to_ctor}
use Rattle.lk_questions.specs.Sound.{IfYes, IsSound}
use Rattle.lk_questions.proofs.Soundness.{sound_bind, sound_map}
use Rattle.lk_claims.proofs.Pieces.{of_yes, halves, same_name_right}
use Rattle.lk_claims.proofs.Facts.{sound_if}
use Rattle.lk_claims.proofs.Shaped.{IsStringKind, sound_string_by}

sound_look_all : (w : Place) (cs : List Name) → IsSound w (look_all cs) (λ u. AllGiven w cs)
sound_look_all w [] = tt
sound_look_all w (c ∷ cs) = λ g m. sound_map w (look_all cs) (λ u. AllGiven w cs) (λ u. AllGiven w (c ∷ cs)) (λ u h. ((g, m), h)) (sound_look_all w cs)

-- x is the expansion, where there is one
abbrev pub IfExpands : Place → List ℕ → Option Tree → Type 0
IfExpands w s None = Unit {0}
IfExpands w s (Some x) = Expands w s × (x ≡ expansion (chars s))

mk_alone : (cs : List Ctor) → is_mk_alone cs ≡ true → (c : Ctor) × (cs ≡ c ∷ []) × (c.name ≡ string_mk)
mk_alone (c ∷ []) h = (c, refl, same_name_right c.name string_mk h)
mk_alone [] h = absurd cc
mk_alone (c ∷ d ∷ cs) h = absurd cc

expands : (w : Place) (s : List ℕ) (block : Block) (t : BlockType) → IsStringKind w (a_type block t) → is_mk_alone t.ctors ≡ true → is_utf8 s ≡ true → AllGiven w (expansion_names (chars s)) → Expands w s
expands w s block t h m u g =
    let i : (c : Ctor) × (t.ctors ≡ c ∷ []) × (c.name ≡ string_mk) = mk_alone t.ctors m in
    record { shape = h.0; ctor = i.0; one_ctor = rw h.1 i.1; ctor_is = i.2; is_text = u; names_given = g }

expands_by : (w : Place) (s : List ℕ) (k : Kind) → IsStringKind w k → has_mk_alone k ≡ true → is_utf8 s ≡ true → AllGiven w (expansion_names (chars s)) → Expands w s
expands_by w s (a_type block t) h m u g = expands w s block t h m u g
expands_by w s _ h m u g = absurd h

sound_expansion_by : (w : Place) (s : List ℕ) (g : Entry) → w.means string ≡ Some g → (k : Kind) → g.kind ≡ k → IsSound w (expansion_by s g k) (IfExpands w s)
sound_expansion_by w s g m k e = sound_bind w (has_string_shape g k) _ (λ b. IfYes b (IsStringKind w k)) (IfExpands w s) (sound_string_by w g m k e)
    (λ b h. sound_if w (b && (has_mk_alone k && is_utf8 s)) _ (done None) (IfExpands w s)
    (λ y. let both : (b ≡ true) × ((has_mk_alone k && is_utf8 s) ≡ true) = halves b (has_mk_alone k && is_utf8 s) y in
    let more : (has_mk_alone k ≡ true) × (is_utf8 s ≡ true) = halves (has_mk_alone k) (is_utf8 s) both.1 in
    sound_bind w (look_all (expansion_names (chars s))) (λ u. done (Some (expansion (chars s)))) (λ u. AllGiven w (expansion_names (chars s))) (IfExpands w s)
    (sound_look_all w (expansion_names (chars s)))
    (λ u given. (expands_by w s k (of_yes b both.0 h) more.0 more.1 given, refl)))
    (λ y. tt))

pub sound_expansion_of : (w : Place) (s : List ℕ) → IsSound w (expansion_of s) (IfExpands w s)
sound_expansion_of w s = λ g m. sound_expansion_by w s g m g.kind refl

read_or : (w : Place) (s : List ℕ) (o : Option Tree) → IfExpands w s o → ReadsText w (str s) (tree_or o (str s))
read_or w s None h = as_it_is
read_or w s (Some x) h = rw (h.1) (as_text h.0)

pub sound_text_to_ctor : (w : Place) (m : Tree) → IsSound w (text_to_ctor m) (λ x. ReadsText w m x)
sound_text_to_ctor w (str s) = sound_bind w (expansion_of s) (λ x. done (tree_or x (str s))) (IfExpands w s) (λ x. ReadsText w (str s) x) (sound_expansion_of w s) (read_or w s)
sound_text_to_ctor w _ = as_it_is

pub sound_literal_to_ctor : (w : Place) (m : Tree) → IsSound w (literal_to_ctor m) (λ x. Reads w m x)
sound_literal_to_ctor w (lit zero) = λ g m. as_zero
sound_literal_to_ctor w (lit (suc k)) = λ g m. as_succ
sound_literal_to_ctor w (str s) = sound_map w (text_to_ctor (str s)) (λ x. ReadsText w (str s) x) (λ x. Reads w (str s) x) (λ x r. by_text r) (sound_text_to_ctor w (str s))
sound_literal_to_ctor w _ = by_text as_it_is
