use Rattle.std.proofs.Common.{◌≡◌, false, nat_eq, length, sym, subst, ◌∙◌}
use Rattle.lk_tree.specs.Spine.{args}
use Rattle.lk_store.specs.Contents.{Contents, list_at, tree_at}
use Rattle.lk_derive_iota.proofs.SRuns.{s_other_count}
use Rattle.lk_derive_iota.proofs.structures.by_count.Goals as goal

pub returns-clause-is : goal.returns-clause-is
returns-clause-is g c =
    let d : Contents = g.D.Terms.contents c.args.derives.now in
    let h = c.requires.at in
    let T = tree_at d c.args.ty in
    let no : nat_eq (length (args T)) c.args.constructor.parameters ≡ false = subst (λ p. nat_eq (length (args T)) p ≡ false) c.from.ensures (sym c.has_arguments-fits.ensures ∙ c.if-fits.false) in
    s_other_count c.args.constructor T (list_at d c.args.levels) h (subst (λ p. nat_eq (length (args T)) p ≡ false) h.is.parameters_are no)
