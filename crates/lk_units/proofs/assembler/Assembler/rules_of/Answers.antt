use Rattle.std.proofs.Common.{◌<◌, length, Ok, Err}
use Rattle.std.proofs.lemmas.List.Elements.{All-map, All-weaker}
use Rattle.lk_env.specs.Units.{rule_at, IsRuleIn}
use Rattle.lk_units.specs.Held.{rule_at_place, rule_held}
use Rattle.lk_units.proofs.Several.{found_all, places_stand}
use Rattle.lk_units.proofs.assembler.Assembler.rules_of.Goals as goal

pub returns-in-Err-clause-made : goal.returns-in-Err-clause-made
returns-in-Err-clause-made g c store s h =
    found_all c.args.self.now.by_rule (rule_held store c.args.self.now.rules.items) s.rules (g.N.FileNumber.view.values c.args.rules.now) (Err c.in-Err.error) h.rules c.in-Err.ensures.found

pub returns-in-Ok-rules_at-clause-known : goal.returns-in-Ok-rules_at-clause-known
returns-in-Ok-rules_at-clause-known g c store k =
    let rules = c.args.self.now.rules.items in
    rw (rw (c.deref.ensures.value, c.deref-2.ensures.value) at c.in-Ok-rules_at.ensures)
    (All-map (IsRuleIn store) (rule_at_place rules) c.in-Ok.places.items
    (All-weaker (λ i. i < length rules) (λ i. IsRuleIn store (rule_at_place rules i)) (λ i l. k.rules_in i _ l) c.in-Ok.places.items (c.in-Ok.ensures.known (length rules) k.rules_below)))

pub returns-in-Ok-rules_at-clause-made : goal.returns-in-Ok-rules_at-clause-made
returns-in-Ok-rules_at-clause-made g c store s h =
    let rules = c.args.self.now.rules.items in
    places_stand (rule_at store) (rule_at_place rules) c.in-Ok-rules_at.found.items c.in-Ok.places.items _ (rw (c.deref.ensures.value, c.deref-2.ensures.value) at c.in-Ok-rules_at.ensures)
    (found_all c.args.self.now.by_rule (rule_held store rules) s.rules (g.N.FileNumber.view.values c.args.rules.now) (Ok c.in-Ok.places) h.rules c.in-Ok.ensures.found)
