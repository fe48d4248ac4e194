use Rattle.std.proofs.Common.{List, ap, ◌∙◌}
use Rattle.lk_tree.specs.Tree.{Name}
use Rattle.lk_inductive.specs.Restore.{Original, name_back, stands_for}
use Rattle.lk_inductive.specs.Recursors.{rec_name}
use Rattle.lk_store.specs.Contents.{name_at}
use Rattle.lk_restore.specs.Originals.{read_name}
use Rattle.lk_restore.specs.Steady.{originals-steady}
use Rattle.lk_recursor.proofs.own.own_name.Goals as goal

pub returns-clause-ok : goal.returns-clause-ok
returns-clause-ok g c =
    let before = g.T.Terms.contents c.args.terms.now in
    let after = g.T.Terms.contents c.recursor_name.new.terms in
    let os = c.args.originals.now in
    let made = c.in_ok-made.ensures in
    let name = rec_name (name_at before c.args.name) in
    record {
      known = c.original_name.ensures.known;
      is = c.original_name.ensures.is ∙ ap (read_name after os) made.ok.is ∙ ap (λ (ms : List (Name × Original)). name_back name (stands_for ms name)) (originals-steady before after made.keeps os c.requires.originals_in);
    }
