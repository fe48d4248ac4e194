use Rattle.std.proofs.Common.{ℕ, ◌≡◌, ◌∙◌, [], map, replicate, ap, arith}
use Rattle.std.specs.Prelude.{Vec}
use Rattle.std.specs.declared.alloc.Global.{Global}
use Rattle.lk_needs.proofs.Following.{empty_more}
use Rattle.lk_needs.proofs.followers.Followers.new.Goals as goal

pub loop-init : goal.loop-init
loop-init c = ap (map (λ (v : Vec ℕ Global). v.items)) c.new-lists.ensures.items

pub loop-preserved : goal.loop-preserved
loop-preserved c = empty_more c.loop.lists.items c.push.new.self.items c.new.result c.loop.counter c.loop.invariant c.new.ensures.items c.in_ok-push.ensures.items

pub returns : goal.returns
returns c =
    let filled : map (λ (v : Vec ℕ Global). v.items) c.loop.lists.items ≡ replicate c.loop.counter [] = c.loop.invariant in
    let all : c.loop.counter ≡ c.args.names = omega arith in
    filled ∙ ap (λ n. replicate n []) all
