use Rattle.lk_store.specs.Contents.{Contents, tree_at, name_at, list_at}
use Rattle.lk_store.specs.Store.{contents_of}
use Rattle.lk_env.specs.Entries.{plain_entry}
use Rattle.lk_derive_reduce.proofs.Inert.{inert_whole, is_meant}
use Rattle.lk_derive_reduce.proofs.MajorHeads.{head_of_kind}
use Rattle.lk_derive_reduce.proofs.rows.is_constant_row.Goals as goal

pub returns-then-is_active : goal.returns-then-is_active
returns-then-is_active g c =
    let old : Contents = g.D.Terms.contents c.args.derives.now in
    let b = (g.D.Looks.sight (g.D.Terms.rest c.args.derives.now)).basis in
    head_of_kind b.place c.args.enough (tree_at old c.args.e) (name_at old c.args.constant.name) (list_at old c.args.constant.levels) (plain_entry (contents_of b.library.tables) b.library.units c.in-Ok.entry)
    c.requires.applied c.requires.head_is c.in-Ok.ensures.answer.means (λ y there. c.is_active.ensures.active (contents_of b.library.tables) b.library.units y there c.if-is_active.true) c.requires.claimed

pub returns : goal.returns
returns g c =
    let old : Contents = g.D.Terms.contents c.args.derives.now in
    let b = (g.D.Looks.sight (g.D.Terms.rest c.args.derives.now)).basis in
    inert_whole b.place c.args.enough old c.args.row.now (tree_at old c.args.e) (name_at old c.args.constant.name) (list_at old c.args.constant.levels) (plain_entry (contents_of b.library.tables) b.library.units c.in-Ok.entry)
    c.requires.applied c.requires.head_is c.in-Ok.ensures.answer.means (λ y there. c.is_active.ensures.inert (contents_of b.library.tables) b.library.units y there c.if-is_active.false) c.requires.empty c.requires.claimed

pub unreachable-requires : goal.unreachable-requires
unreachable-requires g c =
    let old : Contents = g.D.Terms.contents c.args.derives.now in
    let b = (g.D.Looks.sight (g.D.Terms.rest c.args.derives.now)).basis in
    is_meant b.place c.args.enough (tree_at old c.args.e) (name_at old c.args.constant.name) (list_at old c.args.constant.levels) c.requires.applied c.requires.head_is c.requires.claimed c.in-Err.ensures.refused
