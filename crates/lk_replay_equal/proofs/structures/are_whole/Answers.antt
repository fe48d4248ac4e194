use Rattle.std.proofs.Common.{◌≡◌, ◌&&◌, true, IfOk, sym, subst, ◌∙◌}
use Rattle.lk_tree.specs.Spine.{args}
use Rattle.lk_rulebook.specs.Place.{a_ctor}
use Rattle.lk_written.specs.Equal.{is_head_normal}
use Rattle.lk_store.specs.Contents.{tree_at}
use Rattle.lk_eta.specs.Structures.{is_full}
use Rattle.lk_replay_equal.proofs.structures.are_whole.Goals as goal

pub returns : goal.returns
returns g c k h =
    let t = tree_at (g.L.Terms.contents c.args.looks.now) in
    let xs = args (t c.args.b) in
    let normal : is_head_normal (t c.args.a) ≡ true = sym c.is_head_normal.ensures ∙ c.if-not-is_head_normal.false in
    let full = subst (λ z. IfOk c.is_full.result (λ r. r ≡ is_full z xs)) h.kind_is (c.is_full.ensures k.entry h.entry_is) in
    subst (λ n. IfOk c.is_full.result (λ r. r ≡ (n && is_full (a_ctor k.block k.ind k.ctor) xs))) (sym normal) full
