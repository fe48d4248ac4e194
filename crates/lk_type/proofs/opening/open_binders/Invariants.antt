use Rattle.std.proofs.Common.{◌≡◌, ◌<◌, length, map}
use Rattle.std.specs.Prelude.{IfSome}
use Rattle.lk_tree.specs.Putting.{put}
use Rattle.lk_store.specs.Contents.{tree_at, Extends}
use Rattle.lk_type.specs.Openings.{IsFollowing, IsClosedBy, AreClosed, IsOpened}
use Rattle.lk_type.specs.Marks.{body_at}
use Rattle.lk_type.proofs.Openings.{binders_in}
use Rattle.lk_type.proofs.opening.open_binders.Given as goal

abbrev pub invariant-binders : goal.invariant-binders
invariant-binders g l =
    let contents = g.L.Terms.contents in
    let began = contents l.fn.looks in
    let now = contents l.looks in
    record {
      keeps : Extends began now;
      stays : g.L.Terms.rest l.looks ≡ g.L.Terms.rest l.fn.looks;
      inside_in : l.inside < length now.trees;
      at : tree_at now l.inside ≡ body_at l.binders l.count (tree_at began l.fn.e);
      closed : AreClosed now l.locals.items;
      many : length l.locals.items ≡ l.count;
      following : IfSome l.following (IsFollowing now l.locals.items l.inside);
      few : IfSome l.following (λ p. IsClosedBy began l.fn.locals.items l.fn.body);
      opened : IsOpened began now l.binders l.fn.body l.fn.locals.items l.locals.items
          (put (map (tree_at now) l.locals.items) (tree_at now l.inside));
    }

abbrev pub decreases-binders : goal.decreases-binders
decreases-binders g l = binders_in l.binders (tree_at (g.L.Terms.contents l.looks) l.inside)
