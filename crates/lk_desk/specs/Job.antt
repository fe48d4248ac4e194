-- What a desk is for: the library whose units are drawn, and of which the answers are true.
use Rattle.std.specs.Prelude.{ℕ, length, Option, Some, None}
use Rattle.lk_env.specs.StoredLibrary.{StoredLibrary}

-- a library's tables and units. A view that another took in has none
abbrev pub Job : Type 0
Job = Option StoredLibrary

abbrev pub job_of : StoredLibrary → Job
job_of l = Some l

-- how many units
abbrev pub units_of : Job → ℕ
units_of None = 0
units_of (Some l) = length l.units
