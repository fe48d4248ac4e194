use Rattle.std.proofs.Common.{◌≡◌, ◌<◌, ◌++◌, length, map, All}
use Rattle.lk_inductive.specs.Recursors.{rec_name}
use Rattle.lk_store.specs.Contents.{name_at, Extends}
use Rattle.lk_block.specs.declared.shape.TypeShape.{TypeShape}
use Rattle.lk_block.specs.Shapes.{IsTypeShapeIn}
use Rattle.lk_recursor.specs.Fronts.{read_by}
use Rattle.lk_recursor.proofs.own.names_of.Given as goal

abbrev pub invariant-types : goal.invariant-types
invariant-types g l =
    let before = g.T.Terms.contents l.fn.terms in
    let now = g.T.Terms.contents l.terms in
    let w = read_by before l.fn.shape l.fn.front in
    record {
      keeps : Extends before now;
      same_rest : g.T.Terms.rest l.terms ≡ g.T.Terms.rest l.fn.terms;
      rest_in : All (IsTypeShapeIn before) l.rest;
      names_in : All (λ n. n < length now.names) l.names.items;
      so_far : map (name_at now) l.names.items ++ map (λ (t : TypeShape). w.named (rec_name (name_at before t.name))) l.rest ≡ map (λ (t : TypeShape). w.named (rec_name (name_at before t.name))) l.fn.shape.types.items;
    }

abbrev pub decreases-types : goal.decreases-types
decreases-types g l = length l.rest
