use Rattle.std.proofs.Common.{◌≤◌, length, arith}
use Rattle.lk_rulebook.specs.Structures.{before_major}
use Rattle.lk_tree.specs.Spine.{args}
use Rattle.lk_store.specs.Contents.{Contents, name_at, list_at, tree_at}
use Rattle.lk_derive_iota.proofs.RedexRuns.{none_at}
use Rattle.lk_derive_iota.proofs.redexes.split.Goals as goal

pub returns-then-shape-len-clause-is : goal.returns-then-shape-len-clause-is
returns-then-shape-len-clause-is g c =
    let old : Contents = g.D.Terms.contents c.args.derives.now in
    let k = c.requires.headed in
    let items = c.in_ok-arguments.arguments.items in
    let few = c.if-shape-len.true in
    let before = k.shape.before_are in
    let ok = c.in_ok-arguments.arguments.ok.0 in
    let less : length items ≤ before_major k.recursor = omega arith in
    record {
      name = name_at old c.args.headed.name;
      levels = list_at old c.args.headed.levels;
      entry = k.entry;
      recursor = k.recursor;
      head_is = k.head_is;
      means = k.means;
      kind_is = k.kind_is;
      none = none_at old items (args (tree_at old c.args.e)) (before_major k.recursor) c.in_ok-arguments.ensures less;
    }
