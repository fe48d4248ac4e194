use Rattle.std.proofs.Common.{ap, sym}
use Rattle.lk_tree.specs.Tree.{str}
use Rattle.lk_questions.specs.Program.{done}
use Rattle.lk_questions.specs.Strings.{tree_or, text_to_ctor}
use Rattle.lk_store.specs.Contents.{text_at}
use Rattle.lk_lit.proofs.Settling.{settles_not}
use Rattle.lk_lit.proofs.read.text_to_ctor.Goals as goal

pub returns-in-Err-clause-settles : goal.returns-in-Err-clause-settles
returns-in-Err-clause-settles g c =
    let s = text_at (g.L.Terms.contents c.args.looks.now) c.in-Str.text in
    settles_not (λ x. done (tree_or x (str s))) (rw c.in-Err.is at c.in_ok-expansion-in-Str.ensures.settles)
    (ap text_to_ctor (sym c.in-Str.ensures.tree))
