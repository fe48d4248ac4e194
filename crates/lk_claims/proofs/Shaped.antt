-- Where the shapes of Nat and String are tested, they hold.
use Rattle.std.proofs.Common.{◌≡◌, Bool, true, false, ◌&&◌, nat_eq, List, [], ◌∷◌, length, Some, refl}
use Rattle.lk_tree.specs.Tree.{Level, zero_level, succ_level, Tree, sort, pi}
use Rattle.lk_tree.specs.Level.{SameLevel}
use Rattle.lk_tree.specs.LevelTest.{level_test}
use Rattle.lk_tree.specs.declared.rule.Rule.TheVariants.{BuiltinShape}
use Rattle.lk_rulebook.specs.Place.{Place, Entry, Kind, Block, BlockType, Ctor, a_type}
use Rattle.lk_rulebook.specs.Names.{named, nat, nat_zero, nat_succ, string}
use Rattle.lk_tree.specs.Mentions.{same_name}
use Rattle.lk_rulebook.specs.Shapes.{HasNat, HasString}
use Rattle.lk_questions.specs.Program.{done}
use Rattle.lk_questions.specs.Steps.{is_same_tree}
use Rattle.lk_questions.specs.Levels.{tested}
use Rattle.lk_questions.specs.Shapes.{is_sort_one, are_nat_ctors, nat_shape_by, nat_shape, has_string_shape, string_shape}
use Rattle.lk_questions.specs.Sound.{IfYes, IsSound}
use Rattle.lk_questions.proofs.Soundness.{sound_bind, sound_map}
use Rattle.lk_claims.proofs.Pieces.{sound_given, of_yes, same_tree, halves, equal_numbers, no_item, same_name_right, sound_tested, if_yes_map}
use Rattle.lk_claims.proofs.Facts.{sound_if}

abbrev one : Level
one = succ_level zero_level

record IsSortOne (e : Tree) : Type 0 where
  level : Level
  is_sort : e ≡ sort level
  is_one : SameLevel level one

sound_sort_one : (w : Place) (e : Tree) → IsSound w (is_sort_one e) (λ b. IfYes b (IsSortOne e))
sound_sort_one w (sort l) = sound_map w (tested (level_test l one)) (λ b. IfYes b (SameLevel l one)) (λ b. IfYes b (IsSortOne (sort l)))
    (λ b. if_yes_map b (λ h. record { level = l; is_sort = refl; is_one = h })) (sound_tested w l one (level_test l one) refl)
sound_sort_one w _ = tt

record AreNatCtors (cs : List Ctor) : Type 0 where
  zero_ctor : Ctor
  succ_ctor : Ctor
  list_is : cs ≡ zero_ctor ∷ succ_ctor ∷ []
  zero_is : (zero_ctor.name ≡ nat_zero) × (zero_ctor.type ≡ named nat)
  succ_is : (succ_ctor.name ≡ nat_succ) × (succ_ctor.type ≡ pi (named nat) (named nat))

nat_ctors : (cs : List Ctor) → are_nat_ctors cs ≡ true → AreNatCtors cs
nat_ctors (z ∷ s ∷ []) h =
    let both : ((same_name z.name nat_zero && is_same_tree z.type (named nat)) ≡ true) × ((same_name s.name nat_succ && is_same_tree s.type (pi (named nat) (named nat))) ≡ true) =
    halves (same_name z.name nat_zero && is_same_tree z.type (named nat)) (same_name s.name nat_succ && is_same_tree s.type (pi (named nat) (named nat))) h in
    let hz : (same_name z.name nat_zero ≡ true) × (is_same_tree z.type (named nat) ≡ true) = halves (same_name z.name nat_zero) (is_same_tree z.type (named nat)) both.0 in
    let hs : (same_name s.name nat_succ ≡ true) × (is_same_tree s.type (pi (named nat) (named nat)) ≡ true) =
    halves (same_name s.name nat_succ) (is_same_tree s.type (pi (named nat) (named nat))) both.1 in
    record {
      zero_ctor = z;
      succ_ctor = s;
      list_is = refl;
      zero_is = (same_name_right z.name nat_zero hz.0, same_tree z.type (named nat) hz.1);
      succ_is = (same_name_right s.name nat_succ hs.0, same_tree s.type (pi (named nat) (named nat)) hs.1);
    }
nat_ctors [] h = absurd cc
nat_ctors (z ∷ []) h = absurd cc
nat_ctors (z ∷ s ∷ c ∷ cs) h = absurd cc

has_nat : (w : Place) (g : Entry) → w.means nat ≡ Some g → (block : Block) (t : BlockType) → g.kind ≡ a_type block t →
    ((nat_eq (length block.types) 1 && nat_eq t.parameters 0) && (nat_eq t.indices 0 && nat_eq (length g.levels) 0)) ≡ true →
    IsSortOne g.type → AreNatCtors t.ctors → HasNat w
has_nat w g m block t k h i c =
    let types : Bool = nat_eq (length block.types) 1 in
    let levels : Bool = nat_eq (length g.levels) 0 in
    let both : ((types && nat_eq t.parameters 0) ≡ true) × ((nat_eq t.indices 0 && levels) ≡ true) = halves (types && nat_eq t.parameters 0) (nat_eq t.indices 0 && levels) h in
    let first : (types ≡ true) × (nat_eq t.parameters 0 ≡ true) = halves types (nat_eq t.parameters 0) both.0 in
    let second : (nat_eq t.indices 0 ≡ true) × (levels ≡ true) = halves (nat_eq t.indices 0) levels both.1 in
    record {
      entry = g;
      block = block;
      inductive = t;
      level = i.level;
      zero_ctor = c.zero_ctor;
      succ_ctor = c.succ_ctor;
      given = m;
      kind = k;
      no_levels = no_item g.levels (equal_numbers (length g.levels) 0 second.1);
      type = i.is_sort;
      level_is_one = i.is_one;
      counts = (equal_numbers t.parameters 0 first.1, equal_numbers t.indices 0 second.0, equal_numbers (length block.types) 1 first.0);
      ctors = c.list_is;
      zero_is = c.zero_is;
      succ_is = c.succ_is;
    }

sound_nat_by : (w : Place) (g : Entry) → w.means nat ≡ Some g → (k : Kind) → g.kind ≡ k → IsSound w (nat_shape_by g k) (λ u. HasNat w)
sound_nat_by w g m (a_type block t) k =
    sound_given w ((nat_eq (length block.types) 1 && nat_eq t.parameters 0) && (nat_eq t.indices 0 && nat_eq (length g.levels) 0)) BuiltinShape _ (λ u. HasNat w)
    (λ h. sound_bind w (is_sort_one g.type) _ (λ b. IfYes b (IsSortOne g.type)) (λ u. HasNat w) (sound_sort_one w g.type)
    (λ b i. sound_given w (b && are_nat_ctors t.ctors) BuiltinShape (done tt) (λ u. HasNat w)
    (λ y. let both : (b ≡ true) × (are_nat_ctors t.ctors ≡ true) = halves b (are_nat_ctors t.ctors) y in
    has_nat w g m block t k h (of_yes b both.0 i) (nat_ctors t.ctors both.1))))
sound_nat_by w g m _ k = tt

pub sound_nat_shape : (w : Place) → IsSound w nat_shape (λ u. HasNat w)
sound_nat_shape w = λ g m. sound_nat_by w g m g.kind refl

-- String has its shape, and its type is of this kind
abbrev pub IsStringKind : Place → Kind → Type 0
IsStringKind w (a_type block t) = (h : HasString w) × (h.inductive ≡ t)
IsStringKind w _ = ⊥

has_string : (w : Place) (g : Entry) → w.means string ≡ Some g → (block : Block) (t : BlockType) → g.kind ≡ a_type block t →
    (nat_eq (length block.types) 1 && nat_eq (length g.levels) 0) ≡ true → IsSortOne g.type → IsStringKind w (a_type block t)
has_string w g m block t k h i =
    let both : (nat_eq (length block.types) 1 ≡ true) × (nat_eq (length g.levels) 0 ≡ true) = halves (nat_eq (length block.types) 1) (nat_eq (length g.levels) 0) h in (
      record {
        entry = g;
        block = block;
        inductive = t;
        level = i.level;
        given = m;
        kind = k;
        no_levels = no_item g.levels (equal_numbers (length g.levels) 0 both.1);
        type = i.is_sort;
        level_is_one = i.is_one;
        one_type = equal_numbers (length block.types) 1 both.0;
      },
      refl,
    )

pub sound_string_by : (w : Place) (g : Entry) → w.means string ≡ Some g → (k : Kind) → g.kind ≡ k → IsSound w (has_string_shape g k) (λ b. IfYes b (IsStringKind w k))
sound_string_by w g m (a_type block t) k =
    sound_if w (nat_eq (length block.types) 1 && nat_eq (length g.levels) 0) (is_sort_one g.type) (done false) (λ b. IfYes b (IsStringKind w (a_type block t)))
    (λ h. sound_map w (is_sort_one g.type) (λ b. IfYes b (IsSortOne g.type)) (λ b. IfYes b (IsStringKind w (a_type block t)))
    (λ b. if_yes_map b (has_string w g m block t k h)) (sound_sort_one w g.type))
    (λ h. tt)
sound_string_by w g m _ k = tt

string_of : (w : Place) (k : Kind) → IsStringKind w k → HasString w
string_of w (a_type block t) h = h.0
string_of w _ h = absurd h

pub sound_string_shape : (w : Place) → IsSound w string_shape (λ u. HasString w)
sound_string_shape w = λ g m. sound_bind w (has_string_shape g g.kind) _ (λ b. IfYes b (IsStringKind w g.kind)) (λ u. HasString w) (sound_string_by w g m g.kind refl)
    (λ b h. sound_given w b BuiltinShape (done tt) (λ u. HasString w) (λ y. string_of w g.kind (of_yes b y h)))
