-- What a projection keeps: over other things, and with known numbers.
use Rattle.std.specs.Prelude.{ℕ, ◌<◌, map, All, IfSome, option_map}
use Rattle.lk_proj.specs.declared.sheet.Applied.{Applied}
use Rattle.lk_proj.specs.declared.sheet.FieldPi.{FieldPi}
use Rattle.lk_proj.specs.declared.sheet.InferSheet.{InferSheet}
use Rattle.lk_proj.specs.declared.sheet.InferSheet.TheVariants.{Subject, SubjectForm, Sort}
use Rattle.lk_proj.specs.declared.sheet.InferSheet.TheVariants.{SortForm, Parameter, Field}
use Rattle.lk_proj.specs.declared.sheet.InferSheet.TheVariants.{FieldSort, FieldSortForm}
use Rattle.lk_proj.specs.declared.sheet.CoreSheet.{CoreSheet}
use Rattle.lk_proj.specs.declared.sheet.CoreSheet.TheVariants as core

abbrev pub map_applied : {X Y : Type 0} → (X → Y) → Applied X → Applied Y
map_applied f a = record {
  projection = f a.projection;
  arguments = map f a.arguments;
  parameters = a.parameters;
}

abbrev pub map_pi : {X Y : Type 0} → (X → Y) → FieldPi X → FieldPi Y
map_pi f p = record {
  projection = f p.projection;
  number = p.number;
  domain = f p.domain;
  body = f p.body;
}

abbrev pub map_infer : {X Y : Type 0} → (X → Y) → InferSheet X → InferSheet Y
map_infer f (Subject e) = Subject (f e)
map_infer f (SubjectForm e) = SubjectForm (f e)
map_infer f (Sort a r) = Sort (map_applied f a) (option_map f r)
map_infer f (SortForm a r) = SortForm (map_applied f a) (option_map f r)
map_infer f (Parameter a b q) = Parameter (map_applied f a) (f b) q
map_infer f (Field e j q) = Field (f e) j q
map_infer f (FieldSort p) = FieldSort (map_pi f p)
map_infer f (FieldSortForm p) = FieldSortForm (map_pi f p)

-- its numbers are below n
pub record IsKnownApplied (n : ℕ) (a : Applied ℕ) : Type 0 where
  pub projection_in : a.projection < n
  pub arguments_in : All (λ b. b < n) a.arguments

pub record IsKnownPi (n : ℕ) (p : FieldPi ℕ) : Type 0 where
  pub projection_in : p.projection < n
  pub domain_in : p.domain < n
  pub body_in : p.body < n

abbrev pub IsKnownInfer : ℕ → InferSheet ℕ → Type 0
IsKnownInfer n (Subject e) = e < n
IsKnownInfer n (SubjectForm e) = e < n
IsKnownInfer n (Sort a r) = IsKnownApplied n a × IfSome r (λ t. t < n)
IsKnownInfer n (SortForm a r) = IsKnownApplied n a × IfSome r (λ t. t < n)
IsKnownInfer n (Parameter a b q) = IsKnownApplied n a × (b < n)
IsKnownInfer n (Field e j q) = e < n
IsKnownInfer n (FieldSort p) = IsKnownPi n p
IsKnownInfer n (FieldSortForm p) = IsKnownPi n p

abbrev pub map_core : {X Y : Type 0} → (X → Y) → CoreSheet X → CoreSheet Y
map_core f (core.Subject e) = core.Subject (f e)
map_core f core.Passed = core.Passed

-- its numbers are below n
abbrev pub IsKnownCore : ℕ → CoreSheet ℕ → Type 0
IsKnownCore n (core.Subject e) = e < n
IsKnownCore n core.Passed = Unit {0}
