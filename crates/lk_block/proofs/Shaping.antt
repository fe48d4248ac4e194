-- What a shape stands for, while the store grows.
use Rattle.std.proofs.Common.{◌≡◌, ◌++◌, List, [], ◌∷◌, map, All, refl, ap, ◌∙◌, arith}
use Rattle.std.proofs.lemmas.List.{map-append}
use Rattle.std.proofs.lemmas.List.Elements.{All-weaker}
use Rattle.lk_store.specs.Contents.{Contents, Extends}
use Rattle.lk_subst.specs.Numbers.{trees-steady, trees-known}
use Rattle.lk_block.specs.declared.shape.FieldKind.{FieldKind}
use Rattle.lk_block.specs.declared.shape.FieldKind.TheVariants.{Plain, Recursive}
use Rattle.lk_block.specs.declared.shape.Field.{Field}
use Rattle.lk_block.specs.declared.shape.ConstructorShape.{ConstructorShape}
use Rattle.lk_block.specs.declared.shape.TypeShape.{TypeShape}
use Rattle.lk_block.specs.declared.shape.Shape.{Shape}
use Rattle.lk_block.specs.Shapes.{kind_at, field_at, constructor_shape_at, type_shape_at, shape_at, IsKindIn, IsFieldIn, IsConstructorShapeIn, IsTypeShapeIn, IsShapeIn}
use Rattle.lk_env.proofs.Stays.{all_stay, names_stay, names_in_stay}

-- one more thing
pub each-push : {X Y : Type 0} (P : X → Type 0) (f g : X → Y) (xs : List X) (y : X) → ((x : X) → P x → f x ≡ g x) → All P xs → map f (xs ++ y ∷ []) ≡ map g xs ++ f y ∷ []
each-push P f g xs y h all = map-append f xs (y ∷ []) ∙ ap (λ ts. ts ++ f y ∷ []) (all_stay P f g h xs all)

module _ (c d : Contents) (grown : Extends c d) where
  pub kind-steady : (k : FieldKind) → IsKindIn c k → kind_at d k ≡ kind_at c k
  kind-steady Plain h = refl
  kind-steady (Recursive r) h =
      let arguments = trees-steady c d r.arguments.items grown h.arguments_in in
      let named = grown.names.same r.name h.name_in in
      let indices = trees-steady c d r.indices.items grown h.indices_in in
      rw (arguments, named, indices) refl

  pub kind-known : (k : FieldKind) → IsKindIn c k → IsKindIn d k
  kind-known Plain h = tt
  kind-known (Recursive r) h = record {
    arguments_in = trees-known c d r.arguments.items grown h.arguments_in;
    name_in = (let longer = grown.names.longer in let known = h.name_in in omega arith);
    indices_in = trees-known c d r.indices.items grown h.indices_in;
  }

  pub field-steady : (f : Field) → IsFieldIn c f → field_at d f ≡ field_at c f
  field-steady f h = let one = grown.trees.same f.variable h.variable_in in let two = kind-steady f.kind h.kind_in in rw (one, two) refl

  pub field-known : (f : Field) → IsFieldIn c f → IsFieldIn d f
  field-known f h = record { variable_in = (let longer = grown.trees.longer in let known = h.variable_in in omega arith); kind_in = kind-known f.kind h.kind_in }

  pub fields-steady : (fs : List Field) → All (IsFieldIn c) fs → map (field_at d) fs ≡ map (field_at c) fs
  fields-steady fs h = all_stay (IsFieldIn c) (field_at d) (field_at c) field-steady fs h

  pub fields-known : (fs : List Field) → All (IsFieldIn c) fs → All (IsFieldIn d) fs
  fields-known fs h = All-weaker (IsFieldIn c) (IsFieldIn d) field-known fs h

  pub constructor-steady : (s : ConstructorShape) → IsConstructorShapeIn c s → constructor_shape_at d s ≡ constructor_shape_at c s
  constructor-steady s h =
      let one = grown.names.same s.name h.name_in in
      let two = fields-steady s.fields.items h.fields_in in
      let three = trees-steady c d s.indices.items grown h.indices_in in
      rw (one, two, three) refl

  pub constructor-known : (s : ConstructorShape) → IsConstructorShapeIn c s → IsConstructorShapeIn d s
  constructor-known s h = record {
    name_in = (let longer = grown.names.longer in let known = h.name_in in omega arith);
    fields_in = fields-known s.fields.items h.fields_in;
    indices_in = trees-known c d s.indices.items grown h.indices_in;
  }

  pub constructors-known : (ss : List ConstructorShape) → All (IsConstructorShapeIn c) ss → All (IsConstructorShapeIn d) ss
  constructors-known ss h = All-weaker (IsConstructorShapeIn c) (IsConstructorShapeIn d) constructor-known ss h

  pub type-steady : (s : TypeShape) → IsTypeShapeIn c s → type_shape_at d s ≡ type_shape_at c s
  type-steady s h =
      let one = grown.names.same s.name h.name_in in
      let two = trees-steady c d s.indices.items grown h.indices_in in
      let three = all_stay (IsConstructorShapeIn c) (constructor_shape_at d) (constructor_shape_at c) constructor-steady s.constructors.items h.constructors_in in
      rw (one, two, three) refl

  pub type-known : (s : TypeShape) → IsTypeShapeIn c s → IsTypeShapeIn d s
  type-known s h = record {
    name_in = (let longer = grown.names.longer in let known = h.name_in in omega arith);
    indices_in = trees-known c d s.indices.items grown h.indices_in;
    constructors_in = constructors-known s.constructors.items h.constructors_in;
  }

  pub types-steady : (ts : List TypeShape) → All (IsTypeShapeIn c) ts → map (type_shape_at d) ts ≡ map (type_shape_at c) ts
  types-steady ts h = all_stay (IsTypeShapeIn c) (type_shape_at d) (type_shape_at c) type-steady ts h

  pub types-known : (ts : List TypeShape) → All (IsTypeShapeIn c) ts → All (IsTypeShapeIn d) ts
  types-known ts h = All-weaker (IsTypeShapeIn c) (IsTypeShapeIn d) type-known ts h

  pub shape-steady : (s : Shape) → IsShapeIn c s → shape_at d s ≡ shape_at c s
  shape-steady s h =
      let one = names_stay c d grown s.levels.items h.levels_in in
      let two = trees-steady c d s.parameters.items grown h.parameters_in in
      let three = grown.levels.same s.sort h.sort_in in
      let four = types-steady s.types.items h.types_in in
      rw (one, two, three, four) refl

  pub shape-known : (s : Shape) → IsShapeIn c s → IsShapeIn d s
  shape-known s h = record {
    levels_in = names_in_stay c d grown s.levels.items h.levels_in;
    parameters_in = trees-known c d s.parameters.items grown h.parameters_in;
    sort_in = (let longer = grown.levels.longer in let known = h.sort_in in omega arith);
    types_in = types-known s.types.items h.types_in;
  }
