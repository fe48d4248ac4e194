use Rattle.std.proofs.Common.{◌≡◌, Some, ap, sym, subst, ◌∙◌}
use Rattle.lk_tree.specs.declared.rule.Rule.TheVariants.{UnknownConstant}
use Rattle.lk_questions.specs.Program.{done}
use Rattle.lk_questions.specs.Settled.{comes}
use Rattle.lk_questions.specs.Iota.{ctor_app_by}
use Rattle.lk_store.specs.Contents.{Contents, name_at, Extends}
use Rattle.lk_store.proofs.Made.{Extends-self}
use Rattle.lk_ask.specs.Looks.{Basis, entry_at}
use Rattle.lk_ask.proofs.Looking.{found_settles}
use Rattle.lk_constructor.specs.Applied.{IsAppliedIf}
use Rattle.lk_constructor.proofs.Applied.{applied_named, named_is}
use Rattle.lk_constructor.proofs.constructor.look_constructor.Goals as goal

pub returns-clause-finds : goal.returns-clause-finds
returns-clause-finds g c ks xs =
    let sight = g.L.Looks.sight (g.L.Terms.rest c.args.looks.now) in
    let last = (g.L.Looks.sight (g.L.Terms.rest c.look.new.self)).last in
    let d = g.L.Terms.contents c.args.looks.now in
    let w = sight.basis.place in
    let x = name_at d c.args.name in
    let h = c.in_ok-entry.ensures.found in
    let there = subst (λ (b : Basis _). entry_at b c.in_ok-entry.entry ≡ Some h.entry)
    (sym c.look.ensures.stays) h.is in
    let applied = subst (λ (b : Basis _). IsAppliedIf d b.library xs c.constructor_by.result
    (ctor_app_by x ks xs h.entry h.entry.kind)) c.look.ensures.stays
    (subst (λ (f : Contents). IsAppliedIf f
    (g.L.Looks.sight (g.L.Terms.rest c.look.new.self)).basis.library xs c.constructor_by.result
    (ctor_app_by (name_at f c.args.name) ks xs h.entry h.entry.kind)) c.look.ensures.contents
    (c.constructor_by.ensures.is h.entry ks xs there)) in
    record {
      settles = record {
        keeps = subst (Extends d) (sym c.look.ensures.contents) (Extends-self d);
        stays = c.look.ensures.stays;
        comes_to = found_settles w x UnknownConstant (λ y. done (ctor_app_by x ks xs y y.kind))
            sight.basis.library sight.last last c.in_ok-entry.entry h
            ∙ ap (comes last) (sym (named_is w x ks xs h.entry h.means));
      };
      is = applied_named d sight.basis.library w c.constructor_by.result x ks xs h.entry h.means
          applied;
    }
