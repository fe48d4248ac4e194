-- Eta of unit-like types is sound.
use Rattle.std.proofs.Common.{◌≡◌, true, ◌&&◌, nat_eq, List, [], ◌∷◌, length, Some, refl}
use Rattle.lk_tree.specs.Tree.{Name, Level, Tree, const}
use Rattle.lk_tree.specs.Spine.{apply, head, args, IsHeadNormal}
use Rattle.lk_tree.specs.WellFormed.{IsWellFormed}
use Rattle.lk_tree.proofs.Within.{apply_head_args}
use Rattle.lk_table_sound.proofs.Book.{Book, HasType, Reduces, IsDefEq, e_unit, well_formed_of_type}
use Rattle.lk_rulebook.specs.Place.{Entry, Kind, Block, BlockType, Ctor, a_type}
use Rattle.lk_rulebook.specs.Structures.{is_structure_like}
use Rattle.lk_questions.specs.Query.{same}
use Rattle.lk_questions.specs.Program.{asked}
use Rattle.lk_questions.specs.Pairs.{goes_on}
use Rattle.lk_questions.specs.Eta.{is_unit_like, is_unit_like_at, eta_unit, by_unit_eta}
use Rattle.lk_claims.proofs.Pieces.{halves, equal_numbers, if_yes_map}
use Rattle.lk_table_sound.proofs.Goes.{sound_if}
use Rattle.lk_claims.proofs.Facts.{IfAnswers}
use Rattle.lk_table_sound.proofs.Lines.{SoundLine, sound_answers}

-- two of a type J ls bs that has no fields are equal
unit_like_equal : (w : Book) (J : Name) (g : Entry) → w.place.means J ≡ Some g → (block : Block) (t : BlockType) → g.kind ≡ a_type block t →
    (cs : List Ctor) → t.ctors ≡ cs → (ls : List Level) (bs : List Tree) → is_unit_like block t cs bs ≡ true →
    (a b A B : Tree) → IsHeadNormal a → IsHeadNormal b → HasType w a A → Reduces w A (apply (const J ls) bs) → HasType w b B → IsDefEq w A B → IsDefEq w a b
unit_like_equal w J g m block t k (c ∷ []) e ls bs h a b A B na nb ha r hb q =
    let both : ((is_structure_like block t c && nat_eq c.fields 0) ≡ true) × (nat_eq (length bs) t.parameters ≡ true) = halves (is_structure_like block t c && nat_eq c.fields 0) (nat_eq (length bs) t.parameters) h in
    let more : (is_structure_like block t c ≡ true) × (nat_eq c.fields 0 ≡ true) = halves (is_structure_like block t c) (nat_eq c.fields 0) both.0 in
    e_unit (record { name = J; block = block; ind = t; ctor = c; one_ctor = e; like = more.0; no_fields = equal_numbers c.fields 0 more.1; entry = g; given = m; kind = k }) ls bs a b A B na nb (equal_numbers (length bs) t.parameters both.1) ha r hb q
unit_like_equal w J g m block t k [] e ls bs h a b A B na nb ha r hb q = absurd cc
unit_like_equal w J g m block t k (c ∷ d ∷ cs) e ls bs h a b A B na nb ha r hb q = absurd cc

unit_like_equal_at : (w : Book) (J : Name) (g : Entry) → w.place.means J ≡ Some g → (k : Kind) → g.kind ≡ k → (ls : List Level) (bs : List Tree) → is_unit_like_at k bs ≡ true →
    (a b A B : Tree) → IsHeadNormal a → IsHeadNormal b → HasType w a A → Reduces w A (apply (const J ls) bs) → HasType w b B → IsDefEq w A B → IsDefEq w a b
unit_like_equal_at w J g m (a_type block t) k ls bs h a b A B na nb ha r hb q = unit_like_equal w J g m block t k t.ctors refl ls bs h a b A B na nb ha r hb q
unit_like_equal_at w J g m _ k ls bs h a b A B na nb ha r hb q = absurd cc

sound_eta_unit : (w : Book) (a b A : Tree) → IsHeadNormal a → IsHeadNormal b → IsWellFormed b → HasType w a A → (h : Tree) (bs : List Tree) → Reduces w A (apply h bs) → SoundLine w (eta_unit a b A h bs) (IsDefEq w a b)
sound_eta_unit w a b A na nb fb ha (const J ls) bs r = λ g m.
    sound_if w (is_unit_like_at g.kind bs) _ goes_on (λ o. IfAnswers o (IsDefEq w a b))
    (λ t. (
      fb,
      λ B mB. sound_answers w (asked (same A B)) (IsDefEq w a b) (
        ((well_formed_of_type ha).1, (well_formed_of_type mB.0).1),
        λ e q. if_yes_map e (λ c. unit_like_equal_at w J g m g.kind refl ls bs t a b A B na nb ha r mB.0 c) q,
      ),
    ))
    (λ t. tt)
sound_eta_unit w a b A na nb fb ha _ bs r = tt

pub sound_by_unit_eta : (w : Book) (a b : Tree) → IsWellFormed a → IsWellFormed b → IsHeadNormal a → IsHeadNormal b → SoundLine w (by_unit_eta a b) (IsDefEq w a b)
sound_by_unit_eta w a b fa fb na nb = (fa, λ A mA. ((well_formed_of_type mA.0).1, λ T mT. sound_eta_unit w a b A na nb fb mA.0 (head T) (args T) (rw (apply_head_args T) mT.0)))
