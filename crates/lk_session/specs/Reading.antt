-- What a pass has read of a list of submissions.
use Rattle.std.specs.Prelude.{◌≡◌, ℕ, ◌<◌, ◌≤◌, ◌^◌, List, [], length, map, drop, take}
use Rattle.lk_env.specs.Units.{library_of}
use Rattle.lk_session.specs.declared.list_reader.ListReader.{ListReader}
use Rattle.lk_session.specs.declared.view.View.{View}
use Rattle.lk_session.specs.declared.view.Submission.{Submission}
use Rattle.lk_session.specs.Texts.{Says, SharedText, bytes_of, texts_of, units_of, AreFaultless}

-- the library has the units of the list's first submissions, as many as were read, and no budgets
pub record HasRead (stated : Says) (list : List Submission) (r : ListReader) : Type 0 where
  pub within : r.count ≤ length list
  pub units : library_of r.library ≡ units_of stated (take r.count list)
  pub budgets : r.library.budgets ≡ []

-- these are the texts of the list but the first ones, so many, and none of them has a fault
pub record AreBehind (stated : Says) (read : ℕ) (list : List Submission) (texts : List SharedText)
    : Type 0 where
  pub texts_are : map bytes_of texts ≡ drop read (texts_of list)
  pub faultless : AreFaultless stated (map bytes_of texts)
  pub short : length list < 2 ^ 64

-- a pass: what it knows, and of how many submissions its library has the units
pub record PassState : Type 0 where
  pub known : View
  pub read : ℕ
