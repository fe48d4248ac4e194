use Rattle.lk_store.specs.Store.{contents_of}
use Rattle.lk_needs.specs.Followers.{AreFollowersTo}
use Rattle.lk_needs.proofs.followers.followers_of.Given as goal

abbrev pub invariant-loop-name : goal.invariant-loop-name
invariant-loop-name l = AreFollowersTo (contents_of l.base) l.ending l.name l.followers
