-- The rule of the desk: numbers once and none left out, seats counted, true entries at home.
use Rattle.std.specs.Prelude.{◌≡◌, ℕ, ◌+◌, ◌^◌, ◌<◌, ◌≤◌, ◌==◌, true, false, min, [], length, sum_by, count_by, nat_lt, slice_index, if◌then◌else◌, Some, None}
use Rattle.std.specs.declared.option.Option.{Option}
use mathlib.Core.Option.{some}
use lib.ListN.{get_elem?}
use Rattle.atomic_table.specs.Table.{State}
use Rattle.lk_desk.specs.declared.view.View.{View}
use Rattle.lk_desk.specs.declared.shard.Shard.{Shard}
use Rattle.lk_desk.specs.Job.{Job, units_of}
use Rattle.lk_desk.specs.Truth.{AreTrue, entries_of}

-- what a slot holds: a shard, or nothing while it is in hand
abbrev pub Slot : Type 0
Slot = Option Shard

abbrev pub Desk : Type 0
Desk = State Slot View

abbrev pub claim_word : Desk → ℕ
claim_word s = slice_index s.words 0

abbrev pub seat_word : Desk → ℕ
seat_word s = slice_index s.words 1

-- the view of a desk's first seat, and that of a seat that another took in
abbrev pub first_view : Job → View
first_view job =
    record {
      drawn = [];
      overdrawn = 0;
      ended = false;
      refusals = 0;
      outs = 0;
      takes = 0;
      taken = None;
      returned = None;
      seats = 1;
      pending = 0;
      job = job;
    }

abbrev pub spent_view : View
spent_view =
    record {
      drawn = [];
      overdrawn = 0;
      ended = false;
      refusals = 0;
      outs = 0;
      takes = 0;
      taken = None;
      returned = None;
      seats = 0;
      pending = 0;
      job = None;
    }

-- how often a number stands in the view's list
abbrev pub times : ℕ → View → ℕ
times x v = count_by (λ y. y == x) v.drawn

abbrev pub once_below : ℕ → ℕ → ℕ
once_below x n = if nat_lt x n then 1 else 0

-- the view has each number below n once, and no other
abbrev pub HasEach : View → ℕ → Type 0
HasEach v n = (x : ℕ) → times x v ≡ once_below x n

-- What is so of a live view, with the claim word at `next`.
pub record IsLive (job : Job) (next : ℕ) (v : View) : Type 0 where
  pub same_job : v.job ≡ job
  -- one that has not ended has drawn nothing past the last unit, and one that has drew past it at
  -- most once per seat that it came from
  pub going : v.ended ≡ false → v.overdrawn ≡ 0
  pub over : v.ended ≡ true → units_of job ≤ next
  pub overdrawn : v.overdrawn ≤ v.seats
  pub refusals : v.refusals ≤ v.seats

-- a view is live, or spent
pub record IsSeated (job : Job) (next : ℕ) (v : View) : Type 0 where
  pub live : 0 < v.seats → IsLive job next v
  pub spent : v.seats ≡ 0 → v ≡ spent_view

pub record IsDesk (job : Job) (s : Desk) : Type 0 where
  pub words : length s.words ≡ 66
  pub homes : length s.homes ≡ 64
  pub small : units_of job < 2 ^ 32
  -- all live views name one job, and end as `IsLive` says
  pub each : (id : ℕ) (v : View) → get_elem? s.views id ≡ some v → IsSeated job (claim_word s) v
  -- each number below the claim word and below the units stands in one live view's list, once, and
  -- no other number stands in one
  pub once : (x : ℕ) → sum_by (times x) s.views ≡ once_below x (min (claim_word s) (units_of job))
  -- the claim word passes the units by no more than was drawn past them
  pub bound : claim_word s ≤ units_of job + sum_by (λ v. v.overdrawn) s.views
  -- the seats that the live views came from, with those about to come, are the seats made, and the
  -- word passes 65,536 by the refusals noted
  pub seats : sum_by (λ v. v.seats + v.pending) s.views ≡ min (seat_word s) 65536
  pub refused : seat_word s ≡ min (seat_word s) 65536 + sum_by (λ v. v.refusals) s.views
  -- a shard whose word is 0 is at home, with at most 4,096 entries, all true of the job
  pub home : (k : ℕ) → k < 64 → slice_index s.words (k + 2) ≡ 0 → (x : Shard)
      × (get_elem? s.homes k ≡ some (some (Some x))) × AreTrue job (entries_of x)

-- a shard with no entry
abbrev pub IsEmptyShard : Slot → Type 0
IsEmptyShard slot = (x : Shard) × (slot ≡ Some x) × (entries_of x ≡ [])
