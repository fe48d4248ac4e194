use Rattle.std.proofs.Common.{◌≡◌, ◌<◌, ◌-◌, length}
use Rattle.lk_written.specs.Typing.{field_of}
use Rattle.lk_store.specs.Contents.{name_at, tree_at, Extends}
use Rattle.lk_premises.specs.Claims.{claims_at, AreClaimsIn}
use Rattle.lk_replay_types.proofs.fields.field_type.Given as goal

abbrev pub invariant-fields : goal.invariant-fields
invariant-fields g l =
    let c = g.L.Terms.contents l.fn.looks in
    let d = g.L.Terms.contents l.looks in
    let ps = claims_at c l.fn.claims in
    let S = name_at c l.fn.of.structure in
    let s = tree_at c l.fn.of.subject in
    record {
      grown : Extends c d;
      stays : g.L.Terms.rest l.looks ≡ g.L.Terms.rest l.fn.looks;
      claims_in : AreClaimsIn d l.claims;
      structure_in : l.of.structure < length d.names;
      subject_in : l.of.subject < length d.trees;
      tree_in : l.at.tree < length d.trees;
      is : field_of ps l.at.after.now S s l.prop l.number (l.field - l.number) (tree_at d l.at.tree)
          ≡ field_of ps l.fn.left S s l.prop 0 l.field (tree_at c l.fn.ty);
    }
