use Rattle.std.proofs.Common.{◌+◌, subst, sym}
use Rattle.std.proofs.lemmas.Result.{on_ok_weaker}
use Rattle.lk_store.specs.Store.{contents_of}
use Rattle.lk_needs.specs.Followers.{AreFollowersTo}
use Rattle.lk_needs.proofs.Following.{none_more, one_more}
use Rattle.lk_needs.proofs.followers.add_name.Goals as goal

pub returns-in-Some : goal.returns-in-Some
returns-in-Some c =
    let d = contents_of c.args.base.now in
    on_ok_weaker c.add.result (λ e. subst (AreFollowersTo d c.args.ending (c.args.name + 1)) (sym e)
    (one_more d c.args.ending c.args.name c.args.followers.now c.requires.before c.count_names-names.ensures.apart c.requires.name_in c.in-Some.parent c.in-Some.ensures.0 c.in-Some.ensures.1)) c.add.ensures

pub returns-in-None : goal.returns-in-None
returns-in-None c = none_more (contents_of c.args.base.now) c.args.ending c.args.name c.args.followers.now c.requires.before c.in-None.ensures
