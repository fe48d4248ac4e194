-- What stands for the major premise, by its head.
use Rattle.std.proofs.Common.{ℕ, ◌≡◌, Some, None, sym, subst}
use Rattle.lk_tree.specs.Tree.{Tree}
use Rattle.lk_tree.specs.Spine.{head, args}
use Rattle.lk_rulebook.specs.Place.{Place}
use Rattle.lk_questions.specs.Query.{core}
use Rattle.lk_questions.specs.Iota.{CtorApp}
use Rattle.lk_constructor.specs.Looking.{app_at}
use Rattle.lk_store.specs.Contents.{Contents, tree_at}
use Rattle.lk_env.specs.StoredLibrary.{StoredLibrary}
use Rattle.lk_step.specs.declared.step.Row.{Row}
use Rattle.lk_step.specs.Runs.{Runs}
use Rattle.lk_step.specs.Parts.{IsWhole}
use Rattle.lk_derive_iota.specs.declared.redexes.Redex.{Redex}
use Rattle.lk_derive_iota.specs.Only.{only_at}
use Rattle.lk_derive_iota.specs.Stages.{at_subject, at_ctor, by_structure, program_of, IsUnderWay}
use Rattle.lk_derive_iota.proofs.Growing.{move_on}
use Rattle.lk_derive_iota.proofs.Running.{subject_ctor, subject_none}
use Rattle.lk_derive_iota.proofs.RuleRuns.{stays_whole}

module _ {w : Place} {l : StoredLibrary} {c : Contents} {r : Row} {most : ℕ} {u : Redex} (m : Tree) (h : IsUnderWay w l c r most u m (at_subject m) 0) where
  pub premise_ctor : (b : CtorApp) → app_at w (head m) (args m) ≡ Some b → IsUnderWay w l c r most u m (at_ctor (app_at w (head m) (args m))) 0
  premise_ctor b i = move_on h (at_ctor (app_at w (head m) (args m))) tt (subject_ctor h.R h.e h.first h.rest h.value h.second m b i h.runs)

  -- it is no constructor, and the recursor has not just one rule
  pub premise_stays : app_at w (head m) (args m) ≡ None → only_at w h.R.recursor.rules ≡ None → IsWhole w c (core (tree_at c u.application)) r
  premise_stays none only =
      let run = subject_none h.R h.e h.first h.rest h.value h.second m none h.runs in
      let there = subst (λ o. Runs w (program_of h.R h.e h.first h.rest (by_structure m o)) h.value h.second) only run in
      stays_whole h (sym there.0)
