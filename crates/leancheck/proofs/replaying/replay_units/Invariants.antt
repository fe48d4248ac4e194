use Rattle.std.proofs.Common.{◌≡◌, map}
use Rattle.std.specs.List.{range_with_len}
use Rattle.lk_env.specs.Units.{library_of}
use Rattle.lk_trace.specs.Files.{sections_of}
use Rattle.lk_trace.specs.Outcomes.{outcome_at}
use Rattle.lk_written.specs.Outcomes.{outcome_of}
use Rattle.leancheck.proofs.replaying.replay_units.Given as goal

abbrev pub invariant-loop-n : goal.invariant-loop-n
invariant-loop-n g l = map outcome_at l.outcomes.items ≡ map (outcome_of (library_of l.traced.library) (sections_of l.traced)) (range_with_len 0 l.n)
