use Rattle.std.proofs.Common.{sym, subst}
use Rattle.std.specs.Prelude.{IfOk}
use Rattle.lk_rulebook.specs.Place.{Place}
use Rattle.lk_rulebook.specs.WellStated.{WellStated}
use Rattle.lk_store.specs.Contents.{Contents, tree_at}
use Rattle.lk_trace.specs.declared.rules.TypingRule.TheVariants.{Project}
use Rattle.lk_derive_types.specs.Projections.{IsFieldAt}
use Rattle.lk_derive_types.specs.TypeRows.{IsTypedBy}
use Rattle.lk_derive_types.proofs.Leaving.{leaves_then}
use Rattle.lk_derive_types.proofs.field_types.field_type.Goals as goal

pub last_field-requires-clause-stated : goal.last_field-requires-clause-stated
last_field-requires-clause-stated g c = subst WellStated (sym c.past_fields.ensures.leaves.place) c.requires.stated

pub last_field-requires-clause-field : goal.last_field-requires-clause-field
last_field-requires-clause-field g c =
    subst (λ v. IsFieldAt v (g.D.Terms.contents c.past_fields.new.derives) c.args.p c.args.enough c.args.p.field c.in_ok-at.at c.past_fields.new.asked) (sym c.past_fields.ensures.leaves.place) c.in_ok-at.ensures.field

pub returns : goal.returns
returns g c =
    let c₁ : Contents = g.D.Terms.contents c.past_fields.new.derives in
    let c₂ : Contents = g.D.Terms.contents c.last_field.new.derives in
    let w : Place = (g.D.Looks.sight (g.D.Terms.rest c.args.derives.now)).basis.place in
    record {
      leaves = leaves_then g.D.Terms.contents g.D.Terms.rest g.D.Looks.sight c.args.derives.now c.past_fields.new.derives c.last_field.new.derives c.past_fields.ensures.leaves c.last_field.ensures.leaves;
      typed = subst (λ z. IfOk c.last_field.result (λ t. IsTypedBy w c₂ Project c.args.p.whole t c.last_field.new.asked z)) (c.past_fields.ensures.leaves.keeps.trees.same c.args.p.whole c.requires.field.whole_is.known)
          (subst (λ v. IfOk c.last_field.result (λ t. IsTypedBy v c₂ Project c.args.p.whole t c.last_field.new.asked (tree_at c₁ c.args.p.whole))) c.past_fields.ensures.leaves.place c.last_field.ensures.typed);
    }
