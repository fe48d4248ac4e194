-- What a line gives that always answers.
use Rattle.std.proofs.Common.{◌≡◌, ℕ, Bool, Some, sym, ap, ◌∙◌}
use Rattle.std.specs.Prelude.{Ok}
use Rattle.lk_questions.specs.Program.{Program}
use Rattle.lk_questions.specs.Erased.{truth, erased}
use Rattle.lk_questions.specs.Pairs.{Line, ◌or_else◌}
use Rattle.lk_store.specs.Contents.{Contents}
use Rattle.lk_ask.specs.declared.next.Next.{Next}
use Rattle.lk_ask.specs.Looks.{Sight}
use Rattle.lk_ask.specs.Gives.{Gives}
use Rattle.lk_lazy.specs.declared.sheet.LazySheet.{LazySheet}
use Rattle.lk_lazy.specs.Lazies.{lazy_next, GivesLine}
use Rattle.lk_lazy.specs.Sheets.{IsKnownLazy}

module _ {S R B : Type 0} {contents : S → Contents} {rest : S → R} {sight : R → Sight B}
    {old new : S} where
  -- a line that always answers
  pub line_gives : (line : Line) (p : Program Bool) (next : Next ℕ (LazySheet ℕ))
      → ((r : Program Bool) → (line or_else r) ≡ p)
      → Gives IsKnownLazy lazy_next contents rest sight old new (Ok next)
      (erased (sight (rest old)).basis.place truth (sight (rest old)).last p)
      → GivesLine contents rest sight old new (Ok (Some next)) line
  line_gives line p next e h = record {
    keeps = h.keeps;
    stays = h.stays;
    known = h.known;
    goes = λ r. h.steps
        ∙ ap (erased (sight (rest old)).basis.place truth (sight (rest old)).last) (sym (e r));
  }
