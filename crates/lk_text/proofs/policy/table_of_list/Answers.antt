use Rattle.std.proofs.Common.{ℕ, List, map, ap, ◌∙◌}
use Rattle.std.proofs.lemmas.Result.{IfOk-weaker}
use Rattle.std.specs.Borrow.{Bor}
use Rattle.std.specs.HashSet.{IsFromIterResult}
use Rattle.std.specs.Str.{bytes_eq}
use Rattle.lk_text.specs.Policy.{listed, texts_of}
use Rattle.lk_text.specs.Table.{IsTableOf}
use Rattle.lk_text.proofs.Tabled.{tabled}
use Rattle.lk_text.proofs.policy.table_of_list.Goals as goal

pub returns : goal.returns
returns c =
    let texts = texts_of c.args.list.now in
    let lent = ap (map (λ (t : Bor (List ℕ)). t.now)) c.deref.ensures.value ∙ c.in_ok-texts.ensures in
    IfOk-weaker c.table_of.result (IsFromIterResult (λ x y. bytes_eq x.now y.now) c.deref.result.now) (IsTableOf (listed texts)) (λ t h. tabled c.deref.result.now texts t lent h) c.table_of.ensures
