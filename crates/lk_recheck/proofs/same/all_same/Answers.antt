use Rattle.std.proofs.Common.{◌≡◌, ℕ, ◌+◌, length, take, sym, subst}
use Rattle.std.specs.List.{AllZip}
use Rattle.std.specs.Slice.Iter.{iter_rest}
use Rattle.std.specs.Iterator.Adapters.{zip_first, zip_second}
use Rattle.std.proofs.lemmas.List.{length_push}
use Rattle.std.proofs.lemmas.Slice.Zip.{zip_turn}
use Rattle.lk_recheck.proofs.Lists.{more_same}
use Rattle.lk_recheck.proofs.same.all_same.Goals as goal

-- both lists have this pair at the place that the loop has come to
pub loop-x-preserved : goal.loop-x-preserved
loop-x-preserved g c =
    let taken : c.into_iter-x-iterator.result ≡ c.zip-x-items.result =
    c.into_iter-x-iterator.ensures.into_iter_gives in
    let made : zip_first c.zip-x-items.result ≡ c.iter.result = c.zip-x-items.ensures.first in
    let other : iter_rest (zip_second c.zip-x-items.result) ≡ c.args.b.now =
    c.zip-x-items.ensures.second.0 in
    let first : iter_rest (zip_first c.into_iter-x-iterator.result) ≡ c.args.a.now =
    rw (taken, made) c.iter.ensures.rest in
    let second : iter_rest (zip_second c.into_iter-x-iterator.result) ≡ c.args.b.now =
    rw taken other in
    let turn = zip_turn c.args.a.now c.args.b.now c.loop-x.yielded c.into_iter-x-iterator.result
    c.loop-x.x-iterator c.next.new.self c.next.result first second c.loop-x.yielded_by
    (c.in-Some.x, c.in-Some.y) c.in-Some.is c.next.ensures.steps in
    let more : AllZip g.T.Compared.Same (take (length c.loop-x.yielded + 1) c.args.a.now)
    (take (length c.loop-x.yielded + 1) c.args.b.now) =
    more_same g.T.Compared.Same c.args.a.now c.args.b.now (length c.loop-x.yielded)
    c.in-Some.x.now c.in-Some.y.now turn.0 turn.1 (turn.2 c.in-Some.x.now)
    (turn.3 c.in-Some.y.now) (c.is_same.ensures.0 c.if-not-is_same.false) c.loop-x.invariant in
    subst
    (λ (n : ℕ). AllZip g.T.Compared.Same (take n c.args.a.now) (take n c.args.b.now))
    (sym (length_push c.loop-x.yielded (c.in-Some.x, c.in-Some.y))) more
