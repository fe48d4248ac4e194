-- Infer of a projection.
use Rattle.std.specs.Prelude.{ℕ, zero, suc, ◌+◌, Bool, true, false, ◌&&◌, nat_eq, nat_lt, List, [], ◌∷◌, length, Option, Some, None}
use Rattle.lk_tree.specs.Tree.{Name, Level, Tree, proj}
use Rattle.lk_tree.specs.Level.{is_zero_level}
use Rattle.lk_tree.specs.Bind.{opened, has_var}
use Rattle.lk_tree.specs.Spine.{head, args}
use Rattle.lk_tree.specs.declared.rule.Rule.TheVariants.{UnknownConstant, BadProjection, PropProjection}
use Rattle.lk_rulebook.specs.Place.{Kind, BlockType, Ctor, a_type}
use Rattle.lk_questions.specs.Query.{whnf, infer}
use Rattle.lk_questions.specs.Program.{Program, done, refuse, look, asked, ◌>>=◌}
use Rattle.lk_questions.specs.Steps.{given, as_pi, sort_of, with_params}
use Rattle.lk_questions.specs.Iota.{levels_at}

-- r with the first n of the arguments put for its Pis
abbrev pub past_parameters : List Tree → ℕ → Tree → Program Tree
past_parameters bs zero r = done r
past_parameters (b ∷ bs) (suc n) r = do
  R ← asked (whnf r)
  p ← as_pi BadProjection R
  past_parameters bs n (opened p.1 b)
past_parameters [] (suc n) r = refuse BadProjection

-- whether A is a proposition, where that is asked for
abbrev pub is_prop_if : Bool → Tree → Program Bool
is_prop_if false A = done true
is_prop_if true A = do
  l ← sort_of A
  done (is_zero_level l)

-- the domain of the Pi that stands n Pis further on in r, whose first Pi is for field j
abbrev pub field_type : Name → Tree → Bool → ℕ → ℕ → Tree → Program Tree
field_type S s q j zero r = do
  R ← asked (whnf r)
  p ← as_pi BadProjection R
  allowed ← is_prop_if q p.0
  given allowed PropProjection (done p.0)
field_type S s q j (suc n) r = do
  R ← asked (whnf r)
  p ← as_pi BadProjection R
  allowed ← is_prop_if (q && has_var 0 p.1) p.0
  given allowed PropProjection (field_type S s q (suc j) n (opened p.1 (proj S j s)))

abbrev pub of_struct : Name → ℕ → Tree → Tree → List Level → BlockType → List Ctor → Program Tree
of_struct S i s T ls ind (c ∷ []) =
    given (nat_eq (length (args T)) (ind.parameters + ind.indices) && nat_lt i c.fields) BadProjection (do
      l ← sort_of T
      r ← with_params c.levels ls c.type
      t ← past_parameters (args T) ind.parameters r
      field_type S s (is_zero_level l) 0 i t)
of_struct S i s T ls ind [] = refuse BadProjection
of_struct S i s T ls ind (c ∷ d ∷ cs) = refuse BadProjection

abbrev pub of_kind : Name → ℕ → Tree → Tree → List Level → Kind → Program Tree
of_kind S i s T ls (a_type block ind) = of_struct S i s T ls ind ind.ctors
of_kind S i s T ls _ = refuse BadProjection

abbrev pub of_type : Name → ℕ → Tree → Tree → Option (List Level) → Program Tree
of_type S i s T (Some ls) = look UnknownConstant S λ g. of_kind S i s T ls g.kind
of_type S i s T None = refuse BadProjection

abbrev pub infer_proj : Name → ℕ → Tree → Program Tree
infer_proj S i s = do
  T₀ ← asked (infer s)
  T ← asked (whnf T₀)
  of_type S i s T (levels_at S (head T))
