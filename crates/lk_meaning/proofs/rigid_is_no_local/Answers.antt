use Rattle.lk_meaning.proofs.Locals.{rigid_not_local, local_not_rigid}
use Rattle.lk_meaning.proofs.rigid_is_no_local.Goals as goal

pub returns : goal.returns
returns c = record {
  first = λ w c k T a b s e h n. rigid_not_local k T s e h n;
  second = λ w c k T a b s d e n h. local_not_rigid k T s d e n h;
}
