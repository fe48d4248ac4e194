use Rattle.std.proofs.Common.{◌∙◌}
use Rattle.lk_store.specs.Contents.{tree_at}
use Rattle.std.proofs.Common.{ap}
use Rattle.lk_lists.proofs.Lists.{rest_have, first_has}
use Rattle.lk_auxiliary.specs.Auxiliaries.{aux_at, auxs_at, IsAuxiliaryIn}
use Rattle.lk_auxiliary.proofs.Numbers.{number_next}
use Rattle.lk_auxiliary.proofs.among.number_of.Goals as goal

pub auxs-preserved : goal.auxs-preserved
auxs-preserved g c =
    let s = g.T.Terms.contents c.args.terms.now in
    let aux = c.in-Some.aux.now in
    let more = c.in-Some.more.now in
    let split = c.in-Some.ensures.cases.0 in
    let known = first_has (IsAuxiliaryIn s) c.auxs.rest.now aux more split c.auxs.invariant.rest_in in
    record {
      rest_in = rest_have (IsAuxiliaryIn s) c.auxs.rest.now aux more split c.auxs.invariant.rest_in;
      same = λ J ls bs is. c.auxs.invariant.same J ls bs is
          ∙ number_next J ls bs (aux_at s aux) (tree_at s c.args.e) (tree_at s aux.instance) is known.instance_is.is c.same.result c.same.ensures
          c.auxs.number c.in_ok-number.number (auxs_at s c.auxs.rest.now) (auxs_at s more) (ap (auxs_at s) split) c.in_ok-number.ensures c.if-same.false;
    }
