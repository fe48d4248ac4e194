use Rattle.std.proofs.Common.{refl, ap, ◌∙◌}
use Rattle.lk_lines.specs.declared.tags.Tag.TheVariants as tag
use Rattle.lk_lines.specs.Tags.{tag_word}
use Rattle.lk_store.specs.Store.{contents_of}
use Rattle.lk_env.specs.Units.{library_of}
use Rattle.lk_env.specs.Budgets.{budgets_of}
use Rattle.lk_trim.specs.Written.{line}
use Rattle.lk_trim.specs.Whole.{write_all, kept_of}
use Rattle.lk_trim.proofs.Chains.{then_writes}
use Rattle.lk_sections.proofs.trace.begin_trace.Goals as goal

pub returns : goal.returns
returns c =
    let l = c.args.library.now in
    let ks = kept_of (library_of l) (budgets_of l) c.args.units.now in
    let begun = then_writes c.in_ok-write_all.ensures (c.in_ok-write_trace_line.ensures (contents_of l.tables) c.in_ok-write_all.ensures.numbers) in
    record {
      numbers = begun.numbers;
      next = refl;
      file = begun.file ∙ ap (λ f. line (λ w. tag_word tag.Trace) (write_all ks f)) (rw c.base.ensures at c.in_ok-writer.ensures.file);
    }
