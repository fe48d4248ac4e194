-- What is tested of the type that a built-in name means.
use Rattle.std.specs.Prelude.{◌≡◌, ℕ, Bool, false, ◌&&◌, nat_eq, List, [], ◌∷◌, length, Option, Some, None}
use Rattle.lk_tree.specs.declared.rule.Rule.TheVariants.{BuiltinShape}
use Rattle.lk_rulebook.specs.Place.{Entry, Block, BlockType}
use Rattle.lk_questions.specs.Program.{Program, done, ◌>>=◌}
use Rattle.lk_questions.specs.Steps.{given}
use Rattle.lk_questions.specs.Shapes.{are_nat_ctors, has_string_shape}
use Rattle.lk_questions.specs.Strings.{is_mk_alone}
use Rattle.lk_env.specs.declared.unit.Constructor.{Constructor}

-- it stands alone in its block, and has so many level parameters, which are none
abbrev pub is_alone : ℕ → Option (Block × BlockType) → Bool
is_alone levels (Some p) = nat_eq (length p.0.types) 1 && nat_eq levels 0
is_alone levels None = false

-- the same, and it has no parameters and no indices
abbrev pub has_nat_counts : ℕ → Option (Block × BlockType) → Bool
has_nat_counts levels (Some p) = (nat_eq (length p.0.types) 1 && nat_eq p.1.parameters 0) && (nat_eq p.1.indices 0 && nat_eq levels 0)
has_nat_counts levels None = false

abbrev pub has_nat_ctors : Option (Block × BlockType) → Bool
has_nat_ctors (Some p) = are_nat_ctors p.1.ctors
has_nat_ctors None = false

-- they are the two, and there are none where they are not just two
abbrev pub AreTwo : List Constructor → Option (Constructor × Constructor) → Type 0
AreTwo ks None = length ks ≡ 2 → ⊥
AreTwo ks (Some p) = ks ≡ p.0 ∷ p.1 ∷ []

-- its only constructor is String.mk
abbrev pub has_mk : Option (Block × BlockType) → Bool
has_mk (Some p) = is_mk_alone p.1.ctors
has_mk None = false

-- what String means must have its shape
abbrev pub string_shape_by : Entry → Program (Unit {0})
string_shape_by g = do
  has ← has_string_shape g g.kind
  given has BuiltinShape (done tt)
