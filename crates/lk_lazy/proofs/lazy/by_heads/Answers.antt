use Rattle.std.proofs.Common.{rules}
use Rattle.lk_store.specs.Contents.{tree_at}
use Rattle.lk_lazy.proofs.Giving.{line_gives}
use Rattle.lk_lazy.proofs.Ranks.{some_of, none_of, both_heads, first_head, second_head}
use Rattle.lk_lazy.proofs.lazy.by_heads.Goals as goal

pub returns-in_ok-by_ranks-in-Some-right : goal.returns-in_ok-by_ranks-in-Some-right
returns-in_ok-by_ranks-in-Some-right g c i j =
    let d = g.L.Terms.contents c.args.looks.now in
    let l = (g.L.Looks.sight (g.L.Terms.rest c.args.looks.now)).basis.library in
    let u = some_of d l c.in-Some.u _ (rw c.in-Some.is at i) in
    let v = some_of d l c.in-Some-right.v _ (rw c.in-Some-right.is at j) in
    line_gives _ _ _ (both_heads (tree_at d c.args.a) (tree_at d c.args.b) u.0 v.0 _ _ u.1 v.1)
    (c.in_ok-by_ranks-in-Some-right.ensures u.0 v.0
    (record { means = u.1; is = u.2 }) (record { means = v.1; is = v.2 }))

pub returns-in_ok-unfold_left-in-None-right : goal.returns-in_ok-unfold_left-in-None-right
returns-in_ok-unfold_left-in-None-right g c i j =
    let d = g.L.Terms.contents c.args.looks.now in
    let l = (g.L.Looks.sight (g.L.Terms.rest c.args.looks.now)).basis.library in
    let u = some_of d l c.in-Some.u _ (rw c.in-Some.is at i) in
    line_gives _ _ _ (first_head (tree_at d c.args.a) (tree_at d c.args.b) u.0 _ _ u.1
    (none_of d l _ (rw c.in-None-right.is at j)))
    (c.in_ok-unfold_left-in-None-right.ensures u.0 u.2)

pub returns-in_ok-unfold_right-in-Some-right-2 : goal.returns-in_ok-unfold_right-in-Some-right-2
returns-in_ok-unfold_right-in-Some-right-2 g c i j =
    let d = g.L.Terms.contents c.args.looks.now in
    let l = (g.L.Looks.sight (g.L.Terms.rest c.args.looks.now)).basis.library in
    let v = some_of d l c.in-Some-right-2.v _ (rw c.in-Some-right-2.is at j) in
    line_gives _ _ _ (second_head (tree_at d c.args.a) (tree_at d c.args.b) v.0 _ _
    (none_of d l _ (rw c.in-None.is at i)) v.1)
    (c.in_ok-unfold_right-in-Some-right-2.ensures v.0 v.2)

pub returns-in_err-by_ranks-in-Some-right : goal.returns-in_err-by_ranks-in-Some-right
returns-in_err-by_ranks-in-Some-right g c i j =
    let d = g.L.Terms.contents c.args.looks.now in
    let l = (g.L.Looks.sight (g.L.Terms.rest c.args.looks.now)).basis.library in
    let u = some_of d l c.in-Some.u _ (rw c.in-Some.is at i) in
    let v = some_of d l c.in-Some-right.v _ (rw c.in-Some-right.is at j) in
    let h = (c.in_err-by_ranks-in-Some-right.ensures u.0 v.0
    (record { means = u.1; is = u.2 }) (record { means = v.1; is = v.2 })) in
    record { keeps = h.keeps; stays = h.stays; known = search rules; goes = search rules }

pub returns-in_err-unfold_left-in-None-right : goal.returns-in_err-unfold_left-in-None-right
returns-in_err-unfold_left-in-None-right g c i j =
    let d = g.L.Terms.contents c.args.looks.now in
    let l = (g.L.Looks.sight (g.L.Terms.rest c.args.looks.now)).basis.library in
    let u = some_of d l c.in-Some.u _ (rw c.in-Some.is at i) in
    let h = (c.in_err-unfold_left-in-None-right.ensures u.0 u.2) in
    record { keeps = h.keeps; stays = h.stays; known = search rules; goes = search rules }

pub returns-in_err-unfold_right-in-Some-right-2 : goal.returns-in_err-unfold_right-in-Some-right-2
returns-in_err-unfold_right-in-Some-right-2 g c i j =
    let d = g.L.Terms.contents c.args.looks.now in
    let l = (g.L.Looks.sight (g.L.Terms.rest c.args.looks.now)).basis.library in
    let v = some_of d l c.in-Some-right-2.v _ (rw c.in-Some-right-2.is at j) in
    let h = (c.in_err-unfold_right-in-Some-right-2.ensures v.0 v.2) in
    record { keeps = h.keeps; stays = h.stays; known = search rules; goes = search rules }
