use Rattle.std.proofs.Common.{true, false, sym}
use Rattle.lk_rulebook.specs.Place.{Place}
use Rattle.lk_store.specs.Contents.{Contents, tree_at, name_at}
use Rattle.lk_store.specs.Store.{contents_of}
use Rattle.lk_env.specs.Entries.{plain_entry}
use Rattle.lk_derive_reduce.proofs.MajorHeads.{has_constant, means_there, means_by}
use Rattle.lk_derive_reduce.proofs.major_heads.major_head.Goals as goal

pub head_name-name-requires-clause-constant : goal.head_name-name-requires-clause-constant
head_name-name-requires-clause-constant g c =
    let d : Contents = g.D.Terms.contents c.args.derives.now in
    has_constant (g.D.Looks.sight (g.D.Terms.rest c.args.derives.now)).basis.place (tree_at d c.args.e) c.requires.head

pub unreachable-requires : goal.unreachable-requires
unreachable-requires g c =
    let d : Contents = g.D.Terms.contents c.args.derives.now in
    let w : Place = (g.D.Looks.sight (g.D.Terms.rest c.args.derives.now)).basis.place in
    means_there w (tree_at d c.args.e) c.requires.head (name_at d c.head_name-name.result) c.head_name-name.ensures.is c.in-Err.ensures.refused

pub returns-then-is_quotient : goal.returns-then-is_quotient
returns-then-is_quotient g c =
    let d : Contents = g.D.Terms.contents c.args.derives.now in
    let b = (g.D.Looks.sight (g.D.Terms.rest c.args.derives.now)).basis in
    means_by b.place (tree_at d c.args.e) c.requires.head (name_at d c.head_name-name.result) c.head_name-name.ensures.is (plain_entry (contents_of b.library.tables) b.library.units c.in-Ok.entry) c.in-Ok.ensures.answer.means
    c.is_quotient.result (λ y there. sym (c.is_quotient.ensures (contents_of b.library.tables) b.library.units y there)) true c.if-is_quotient.true

pub returns : goal.returns
returns g c =
    let d : Contents = g.D.Terms.contents c.args.derives.now in
    let b = (g.D.Looks.sight (g.D.Terms.rest c.args.derives.now)).basis in
    means_by b.place (tree_at d c.args.e) c.requires.head (name_at d c.head_name-name.result) c.head_name-name.ensures.is (plain_entry (contents_of b.library.tables) b.library.units c.in-Ok.entry) c.in-Ok.ensures.answer.means
    c.is_quotient.result (λ y there. sym (c.is_quotient.ensures (contents_of b.library.tables) b.library.units y there)) false c.if-is_quotient.false
