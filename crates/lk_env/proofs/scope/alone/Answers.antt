use Rattle.std.proofs.Common.{ap, refl, ◌∙◌}
use Rattle.std.specs.Prelude.{Vec}
use Rattle.std.specs.declared.alloc.Global.{Global}
use Rattle.lk_env.specs.declared.unit.Recursor.{Recursor}
use Rattle.lk_env.proofs.Scoped.{alone_is}
use Rattle.lk_env.proofs.scope.alone.Goals as goal

pub returns : goal.returns
returns c =
    let recursors = ap (λ (v : Vec Recursor Global). v.items) c.in_ok-recursors.ensures.ok ∙ c.new-2.ensures.items in
    alone_is c.args.stated.now _ _ (rw c.new-types.ensures.items at c.in_ok-push.ensures.items) recursors refl (c.in_ok-levels.ensures.items ∙ c.deref.ensures.value) refl refl refl c.new.ensures.items
