use Rattle.std.proofs.Common.{◌≡◌, ◌∷◌, ap, ◌∙◌}
use Rattle.lk_store.specs.Contents.{name_at, tree_at}
use Rattle.lk_restore.specs.declared.originals.Original.TheVariants.{Applied}
use Rattle.lk_restore.specs.Marks.{marks_at, instead}
use Rattle.lk_restore.proofs.Firsts.{instead_next, rest_have}
use Rattle.lk_restore.specs.Originals.{IsOriginalIn}
use Rattle.lk_restore.proofs.restoring.instead.Goals as goal

pub originals-preserved-else-same : goal.originals-preserved-else-same
originals-preserved-else-same g c =
    let s = g.T.Terms.contents c.args.terms.now in
    let all = marks_at s c.args.originals.now in
    let t = tree_at s c.args.e in
    let rest = c.originals.rest.now in
    let more = c.in-Some.more.now in
    let split = c.in-Some.ensures.cases.0 in
    let x = c.in-Applied in
    let opened : instead all (marks_at s rest) t ≡ instead all (marks_at s (Applied x.name x.original x.from x.to ∷ more)) t = ap (λ os. instead all (marks_at s os) t) (split ∙ ap (λ o. o ∷ more) x.is) in
    let passed : instead all (marks_at s (Applied x.name x.original x.from x.to ∷ more)) t ≡ instead all (marks_at s more) t =
    instead_next all (marks_at s more) (name_at s x.name) (name_at s x.original) (tree_at s x.from) (tree_at s x.to) t c.same.result c.same.ensures c.if-same.false in
    record {
      rest_in = rest_have (IsOriginalIn s) rest c.in-Some.original.now more split c.originals.invariant.rest_in;
      same = c.originals.invariant.same ∙ (opened ∙ passed);
    }

pub originals-preserved : goal.originals-preserved
originals-preserved g c =
    let s = g.T.Terms.contents c.args.terms.now in
    let all = marks_at s c.args.originals.now in
    let t = tree_at s c.args.e in
    let more = c.in-Some.more.now in
    let split = c.in-Some.ensures.cases.0 in
    record {
      rest_in = rest_have (IsOriginalIn s) c.originals.rest.now c.in-Some.original.now more split c.originals.invariant.rest_in;
      same = c.originals.invariant.same ∙ ap (λ os. instead all (marks_at s os) t) (split ∙ ap (λ o. o ∷ more) c.in_default-original.is);
    }
