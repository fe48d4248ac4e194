use Rattle.std.proofs.Common.{◌≡◌, length, map}
use Rattle.lk_questions.specs.Settled.{settle}
use Rattle.lk_questions.specs.Strings.{look_all}
use Rattle.lk_store.specs.Contents.{Extends}
use Rattle.lk_lit.specs.Builtins.{builtin_name}
use Rattle.lk_lit.proofs.expansion.look_all.Given as goal

abbrev pub invariant-names : goal.invariant-names
invariant-names g l =
    let before = g.L.Looks.sight (g.L.Terms.rest l.fn.looks) in
    let now = g.L.Looks.sight (g.L.Terms.rest l.looks) in
    record {
      keeps : Extends (g.L.Terms.contents l.fn.looks) (g.L.Terms.contents l.looks);
      stays : now.basis ≡ before.basis;
      same : settle before.basis.place before.last (look_all (map builtin_name l.fn.names))
          ≡ settle now.basis.place now.last (look_all (map builtin_name l.rest));
    }

abbrev pub decreases-names : goal.decreases-names
decreases-names g l = length l.rest
