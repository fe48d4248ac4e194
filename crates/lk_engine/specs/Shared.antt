-- What a worker sees of a desk: the job that it is for, and the unit that looks there, if one does.
use Rattle.std.specs.Prelude.{ℕ, Option}
use Rattle.lk_desk.specs.Job.{Job}

pub record Shared : Type 0 where
  pub job : Job
  pub unit : Option ℕ
