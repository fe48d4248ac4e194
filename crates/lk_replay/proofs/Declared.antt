-- A declaration stands for the same in a larger store.
use Rattle.std.proofs.Common.{◌≡◌, arith}
use Rattle.lk_rulebook.specs.Units.{of_decl}
use Rattle.lk_store.specs.Contents.{Contents, Extends}
use Rattle.lk_env.specs.declared.unit.Body.{Body}
use Rattle.lk_env.specs.declared.unit.Body.TheVariants.{Axiom, Definition, Theorem, Opaque, Quotient}
use Rattle.lk_env.specs.declared.unit.Declaration.{Declaration}
use Rattle.lk_env.specs.declared.unit.Unit.TheVariants as unit
use Rattle.lk_env.specs.Units.{declared_levels, declaration_at, IsBodyIn}
use Rattle.lk_env.proofs.Stays.{names_in_stay, unit_stays}
use Rattle.lk_replay.specs.Bodies.{IsDeclarationIn}

module _ (c d : Contents) (x : Extends c d) where
  body_known : (b : Body) → IsBodyIn c b → IsBodyIn d b
  body_known Axiom h = tt
  body_known (Definition hint v) h = let longer = x.trees.longer in omega (arith, longer, h)
  body_known (Theorem v) h = let longer = x.trees.longer in omega (arith, longer, h)
  body_known (Opaque v) h = let longer = x.trees.longer in omega (arith, longer, h)
  body_known Quotient h = tt

  pub declaration_known : (t : Declaration) → IsDeclarationIn c t → IsDeclarationIn d t
  declaration_known t h =
      let name = h.0.name_in in
      let ty = h.0.ty_in in
      let names = x.names.longer in
      let trees = x.trees.longer in (
        record {
          name_in = omega (arith, name, names);
          levels_in = names_in_stay c d x (declared_levels t) h.0.levels_in;
          ty_in = omega (arith, ty, trees);
        },
        body_known t.body h.1,
      )

  pub declaration_same : (t : Declaration) → IsDeclarationIn c t → declaration_at d t ≡ declaration_at c t
  declaration_same t h =
      let e : of_decl (declaration_at d t) ≡ of_decl (declaration_at c t) = unit_stays c d x (unit.Declaration t) h in
      cc
