use Rattle.std.proofs.Common.{rules, ◌≡◌, ◌∷◌, [], ◌++◌, sym, ◌∙◌, ap}
use Rattle.std.specs.Prelude.{Some}
use Rattle.std.proofs.lemmas.List.Elements.{All-push, All-pop}
use Rattle.std.proofs.Common.{ℕ, ◌<◌, length}
use Rattle.lk_store.specs.Contents.{name_at}
use Rattle.lk_trim.specs.Names.{write_name}
use Rattle.lk_trim.specs.Stored.{file_at}
use Rattle.lk_trim.proofs.Ancestors.{added, written_already, is_named, goes_up, goes_down}
use Rattle.lk_trim.proofs.names.write_name.Goals as goal

pub up-preserved : goal.up-preserved
up-preserved g c =
    let s = g.T.Terms.contents c.args.store.now in
    let none = sym c.has_name.ensures ∙ c.up-test.true in
    let pushed : c.push.new.self.items ≡ c.up.waiting.items ++ c.up.at ∷ [] = search rules in
    record {
      at_in = c.parent_of-at.ensures.known;
      known = rw pushed (All-push (λ (n : ℕ). n < length s.names) c.up.waiting.items c.up.at c.up.invariant.known c.up.invariant.at_in);
      leads = goes_up s c.up.at c.parent_of-at.result c.up.waiting.items c.push.new.self.items (file_at s c.args.writer.now) (write_name (name_at s c.args.name) (file_at s c.args.writer.now))
          (c.parent_of-at.ensures.parent (is_named s c.args.writer.now.numbers (name_at s c.up.at) none)) none pushed c.up.invariant.leads;
    }

pub down-init : goal.down-init
down-init g c =
    let s = g.T.Terms.contents c.args.store.now in
    record {
      numbers = c.requires.numbers;
      known = c.up.invariant.known;
      leads = ap (added s c.up.waiting.items) (sym (written_already (name_at s c.up.at) (file_at s c.args.writer.now) (sym c.has_name.ensures ∙ c.up-test.false))) ∙ c.up.invariant.leads;
    }

pub add_line-requires-clause-name_in : goal.add_line-requires-clause-name_in
add_line-requires-clause-name_in g c =
    let s = g.T.Terms.contents c.args.store.now in
    (All-pop (λ (n : ℕ). n < length s.names) c.down.waiting.items c.pop.new.self.items (Some c.in-Some.n) (search rules) c.down.invariant.known).1

pub down-preserved : goal.down-preserved
down-preserved g c =
    let s = g.T.Terms.contents c.args.store.now in
    record {
      numbers = c.in_ok-add_line.ensures.numbers;
      known = (All-pop (λ (n : ℕ). n < length s.names) c.down.waiting.items c.pop.new.self.items (Some c.in-Some.n) (search rules) c.down.invariant.known).0;
      leads = goes_down s c.in-Some.n c.down.waiting.items c.pop.new.self.items (file_at s c.down.writer) (file_at s c.add_line.new.writer) (write_name (name_at s c.args.name) (file_at s c.args.writer.now)) (search rules) c.in_ok-add_line.ensures.file c.down.invariant.leads;
    }
