use Rattle.std.proofs.Common.{◌≡◌, sym}
use Rattle.std.specs.Prelude.{option_map}
use Rattle.lk_rulebook.specs.Place.{Entry as PlainEntry}
use Rattle.lk_store.specs.Contents.{tree_at}
use Rattle.lk_store.specs.Store.{contents_of}
use Rattle.lk_env.specs.Entries.{plain_entry}
use Rattle.lk_env.specs.Lent.{member_in, member_at}
use Rattle.lk_env.proofs.Found.{of_some}
use Rattle.lk_env.proofs.Lending.{entry_there, not_there}
use Rattle.lk_env.proofs.lent.member_of.Goals as goal

pub returns-in-Some-clause-value : goal.returns-in-Some-clause-value
returns-in-Some-clause-value g c p h =
    let lent = g.L.Lends.lent c.args.library.now in
    let base = contents_of lent.tables in
    of_some (λ (y : PlainEntry). member_in y.kind ≡ option_map (λ p. member_at base p.0.now p.1.now p.2.now) c.unit_member.result) (plain_entry base lent.units c.args.entry) p
    (rw (entry_there base lent.units c.args.entry c.in-Some.unit.now (sym c.in-Some.ensures.value)) (c.unit_member.ensures.value base (tree_at base c.args.entry.stated))) h

pub returns-in-None-clause-value : goal.returns-in-None-clause-value
returns-in-None-clause-value g c p h =
    let lent = g.L.Lends.lent c.args.library.now in
    absurd (not_there (contents_of lent.tables) lent.units c.args.entry p (sym c.in-None.ensures.value) h)

pub returns-in-Some-clause-known : goal.returns-in-Some-clause-known
returns-in-Some-clause-known g c = c.unit_member.ensures.known (contents_of (g.L.Lends.lent c.args.library.now).tables) c.in-Some.ensures.known
