use Rattle.std.proofs.Common.{◌∙◌}
use Rattle.lk_store.proofs.Extending.{Extends-trans}
use Rattle.lk_premises.proofs.Staying.{claims_same}
use Rattle.lk_replay_types.specs.Fields.{field_pi}
use Rattle.lk_replay_types.proofs.fields.behind_field.Goals as goal

pub returns : goal.returns
unfolding field_pi
returns g c =
    let start = g.L.Terms.contents c.args.looks.now in
    let between = g.L.Terms.contents c.is_due.new.looks in
    let grown = c.in_ok-due.ensures.made.keeps in
    let t = c.behind_allowed.ensures in
    let claims = claims_same start between grown c.args.claims.now c.requires.claims_in in
    let names = grown.names.same c.args.of.structure c.requires.structure_in in
    let subject = grown.trees.same c.args.of.subject c.requires.subject_in in
    let domain = grown.trees.same c.args.pi.domain c.requires.domain_in in
    let body = grown.trees.same c.args.pi.body c.requires.body_in in
    record {
      keeps = Extends-trans _ _ _ grown t.keeps;
      stays = t.stays ∙ c.in_ok-due.ensures.made.stays;
      known = t.known;
      ok = simp (c.in_ok-due.ensures.ok, claims, names, subject, domain, body) at t.ok;
    }
