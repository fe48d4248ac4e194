-- What a shelf in memory is as a shelf.
use Rattle.std.specs.Prelude.{ℕ, Bool, true, false, [], slice_index_or, Option, None}
use Rattle.atomic_table.specs.Seated.{TableId}
use Rattle.lk_desk.specs.declared.view.View.{View}
use Rattle.lk_desk.specs.Job.{Job, job_of}
use Rattle.lk_desk.specs.Rule.{spent_view}
use Rattle.lk_desk.specs.InMemory.{InMemory}
use Rattle.lk_desk.specs.Shelves as shelves

-- the number of no table
abbrev pub no_table : TableId
no_table =
    record {
      words = 0;
      slots = 0;
      views_name = 0;
      atom = 0;
      block = 0;
      offset = 0;
      slot_names = [];
    }

abbrev pub mem_job : InMemory → Job
mem_job m = job_of m.library

abbrev pub mem_place : InMemory → ℕ
mem_place m = 0

abbrev pub mem_table : InMemory → TableId
mem_table m = no_table

abbrev pub mem_rest : InMemory → View
mem_rest m = spent_view

abbrev pub mem_outs : InMemory → ℕ
mem_outs m = 0

abbrev pub mem_in_hand : InMemory → Option ℕ
mem_in_hand m = m.out

abbrev pub mem_tells : InMemory → Bool
mem_tells m = true

abbrev pub mem_remembers : InMemory → Bool
mem_remembers m = false

abbrev pub mem_takes : InMemory → ℕ
mem_takes m = 0

abbrev pub mem_taken : InMemory → shelves.Numbered
mem_taken m = None

abbrev pub mem_told : InMemory → shelves.Told
mem_told m k = slice_index_or m.shards k []
