use Rattle.std.proofs.Common.{refl, inl, map}
use Rattle.lk_store.specs.Contents.{tree_at}
use Rattle.lk_nested.proofs.Only.{tree_own}
use Rattle.lk_nested.proofs.foreign.ForeignSeek.look.Goals as goal

pub returns-in-Some : goal.returns-in-Some
returns-in-Some g c =
    let s = g.T.Terms.contents c.args.self.now.terms.now in
    record {
      kept = c.requires.kept;
      looked = inl (refl, tree_own (map (tree_at s) c.args.self.now.parameters.now) s c.args.e c.args.met.now c.in-Some.field-0 c.requires.kept c.in-Some.ensures.known c.in-Some.ensures.present);
    }
