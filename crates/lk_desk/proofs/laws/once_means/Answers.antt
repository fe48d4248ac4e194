use Rattle.lk_desk.proofs.Claims.{claims_few}
use Rattle.lk_desk.proofs.Holders.{has_one, has_none}
use Rattle.lk_desk.proofs.laws.once_means.Goals as goal

pub returns-clause-one : goal.returns-clause-one
returns-clause-one c = has_one

pub returns-clause-none : goal.returns-clause-none
returns-clause-none c = has_none

pub returns-clause-few : goal.returns-clause-few
returns-clause-few c = claims_few
