-- The type of a projection's subject, and the constructor's type behind it.
use Rattle.std.specs.Prelude.{ℕ, ◌+◌, Bool, ◌&&◌, nat_eq, nat_lt, List, length, Option, Some}
use Rattle.lk_tree.specs.Tree.{Name, Level, Tree}
use Rattle.lk_tree.specs.Bind.{opened}
use Rattle.lk_tree.specs.Level.{is_zero_level}
use Rattle.lk_tree.specs.Levels.{put_levels}
use Rattle.lk_tree.specs.Mentions.{same_name}
use Rattle.lk_tree.specs.Spine.{head, args}
use Rattle.lk_rulebook.specs.Place.{Place, Kind, BlockType, Ctor}
use Rattle.lk_rulebook.specs.Claims.{Claim}
use Rattle.lk_questions.specs.Tests.{◌>>=◌, test}
use Rattle.lk_written.specs.Premises.{Left, as_const, to_pi, sorted}
use Rattle.lk_written.specs.Typing.{comes_to, past, field_of, the_type, the_one}

-- r >> Pi A B, and b is put for its variable
abbrev pub past_once : List Claim → Left → Tree → Tree → Option (Tree × Left)
past_once ps js b r = do
  p ← to_pi ps js r
  Some (opened p.0.1 b, p.1)

-- what is projected: field number i of s, of the structure S
pub record Projection : Type 0 where
  pub structure : Name
  pub field : ℕ
  pub subject : Tree

-- A is the type of the field, where r is the constructor's behind its parameters
abbrev pub fields_read : List Claim → Left → Projection → Bool → Tree → Tree → Option (Unit {0})
fields_read ps js p q r A = do
  F ← field_of ps js p.structure p.subject q 0 p.field r
  comes_to A F.0 F.1

-- the same, where r is the constructor's type, and the first n of bs are put for its parameters
abbrev pub past_read : List Claim → Left → List Tree → ℕ → Projection → Bool → Tree → Tree →
    Option (Unit {0})
past_read ps js bs n p q r A = do
  F ← past ps js bs n r
  fields_read ps F.1 p q F.0 A

-- the same, where T is the subject's type
abbrev pub sort_read : List Claim → Left → Tree → List Tree → ℕ → Projection → Tree → Tree →
    Option (Unit {0})
sort_read ps js T bs n p r A = do
  l ← sorted ps js T
  past_read ps l.1 bs n p (is_zero_level l.0) r A

-- T is the type ind at these levels, with all its arguments, and c is its only constructor
abbrev pub one_read : List Claim → Left → Projection → Tree → List Level → BlockType → Ctor →
    Tree → Option (Unit {0})
one_read ps js p T ls ind c A = do
  v ← test ((nat_eq (length (args T)) (ind.parameters + ind.indices)
      && nat_eq (length ls) (length c.levels)) && nat_lt p.field c.fields)
  sort_read ps js T (args T) ind.parameters p (put_levels c.levels ls c.type) A

abbrev pub kind_read : List Claim → Left → Projection → Tree → List Level → Kind → Tree →
    Option (Unit {0})
kind_read ps js p T ls kind A = do
  t ← the_type kind
  c ← the_one t.1.ctors
  one_read ps js p T ls t.1 c A

abbrev pub name_read : Place → List Claim → Left → Projection → Tree → List Level → Tree →
    Option (Unit {0})
name_read w ps js p T ls A = do
  g ← w.means p.structure
  kind_read ps js p T ls g.kind A

-- the head of T is the structure's name
abbrev pub head_read : Place → List Claim → Left → Projection → Tree → Tree → Option (Unit {0})
head_read w ps js p T A = do
  h ← as_const (head T)
  u ← test (same_name h.0 p.structure)
  name_read w ps js p T h.1 A
