use Rattle.lk_tree.proofs.Puttings.{put_nothing, put_more}
use Rattle.lk_tree.proofs.putting_opens_in_turn.Goals as goal

pub returns : goal.returns
returns c = record { none = λ d b. put_nothing d b; more = λ v vs d b h. put_more v vs d b h }
