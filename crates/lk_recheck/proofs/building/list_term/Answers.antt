use Rattle.std.proofs.Common.{[]}
use Rattle.std.proofs.lemmas.Result.{on_ok_weaker}
use Rattle.lk_needs.proofs.Opened.{numbered_leads}
use Rattle.lk_recheck.specs.Built.{stored_at}
use Rattle.lk_recheck.proofs.building.list_term.Goals as goal

pub returns-in-Numbered : goal.returns-in-Numbered
returns-in-Numbered c =
    let inside = rw c.in-Numbered.is at c.requires.thing_in in
    rw c.in-Numbered.is (on_ok_weaker c.push_names.result (λ s. numbered_leads (stored_at c.args.base.now []) 0 c.in-Numbered.name c.args.recursors.now c.clear.new.self.items
    c.push_names.new.things.items c.requires.recursors inside c.clear.ensures.items (rw c.of.ensures at s)) c.push_names.ensures)
