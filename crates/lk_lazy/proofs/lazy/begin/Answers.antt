use Rattle.lk_lazy.proofs.Lines.{first_refused, second_refused, heads_go}
use Rattle.lk_lazy.proofs.lazy.begin.Goals as goal

pub returns-in-Err : goal.returns-in-Err
returns-in-Err g c = first_refused _ _ _ _ _ _ _ _ c.in-Err.ensures

pub returns-in-Err-unfolding_of : goal.returns-in-Err-unfolding_of
returns-in-Err-unfolding_of g c =
    second_refused _ _ _ _ _ _ _ _ c.in-Ok.ensures _ _ c.in-Err-unfolding_of.ensures

pub returns : goal.returns
returns g c =
    heads_go _ _ _ _ _ _ _ _ c.in-Ok.ensures _ _ _ c.in-Ok-unfolding_of.ensures _ c.by_heads.ensures
