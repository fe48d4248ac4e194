use Rattle.std.proofs.Common.{◌∙◌}
use Rattle.lk_lists.proofs.Lists.{rest_have}
use Rattle.lk_auxiliary.specs.Auxiliaries.{IsAuxiliaryIn}
use Rattle.leancheck.proofs.LargerParts.{lists_next, lists_known}
use Rattle.leancheck.proofs.larger.larger_parts.Goals as goal

pub stand-preserved : goal.stand-preserved
stand-preserved c =
    let first = c.in-Some.first.now in
    let more = c.in-Some.more.now in
    let split = c.in-Some.ensures.cases.0 in
    let same = c.in_ok-from_slice.ensures.items ∙ c.deref.ensures.value in
    let was = c.stand.invariant in
    record {
      leads = λ d. lists_next d c.stand.indices.items c.push.new.self.items c.in_ok-from_slice.field-0 c.stand.rest.now more first c.in_ok-push.ensures.items same split ∙ was.leads d;
      indices_in = λ d own stand. lists_known d c.stand.indices.items c.push.new.self.items c.in_ok-from_slice.field-0 c.stand.rest.now more first c.in_ok-push.ensures.items same split (was.indices_in d own stand) (was.rest_in d stand);
      rest_in = λ d stand. rest_have (IsAuxiliaryIn d) c.stand.rest.now first more split (was.rest_in d stand);
    }
