use Rattle.std.proofs.Common.{◌∷◌, ◌++◌, [], refl, sym, ap, subst, ◌∙◌}
use Rattle.std.proofs.lemmas.List.{append_assoc}
use Rattle.lk_env.specs.Scopes.{AreAloneOf}
use Rattle.lk_env.proofs.Scoped.{alone_pushed, all_done}
use Rattle.lk_env.proofs.scope.all_alone.Goals as goal

pub types-init : goal.types-init
types-init c = ([], refl, subst (AreAloneOf []) (sym c.new-made.ensures.items) tt)

pub types-preserved : goal.types-preserved
types-preserved c =
    let was = c.types.invariant in
    let t = c.in-Some.first.now in (
      was.0 ++ t ∷ [],
      was.1 ∙ ap (λ k. was.0 ++ k) c.in-Some.ensures.cases.0 ∙ sym (append_assoc was.0 (t ∷ []) c.in-Some.more.now),
      subst (AreAloneOf (was.0 ++ t ∷ [])) (sym c.in_ok-push.ensures.items) (alone_pushed was.0 c.types.made.items t _ was.2 c.in_ok-alone.ensures),
    )

pub returns : goal.returns
returns c = all_done c.args.stated.now c.types.invariant.0 c.types.rest.now c.types.made.items c.types.invariant.1 c.in_default.ensures.cases c.types.invariant.2
