use Rattle.std.proofs.Common.{◌∙◌, [], ap, replicate}
use Rattle.lk_store.specs.Store.{contents_of}
use Rattle.lk_needs.proofs.Following.{no_followers}
use Rattle.lk_needs.proofs.followers.followers_of.Goals as goal

pub loop-name-init : goal.loop-name-init
loop-name-init c =
    no_followers (contents_of c.args.base.now) c.args.ending c.in_ok-followers.followers (c.in_ok-followers.ensures ∙ ap (λ n. replicate n []) c.count_names-count.ensures.count)
