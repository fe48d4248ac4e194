use Rattle.std.proofs.Common.{◌≡◌, ◌∙◌, map, ap, subst, IfOk}
use Rattle.lk_store.specs.Contents.{name_at}
use Rattle.std.specs.List.{list_any}
use Rattle.lk_store.specs.Store.{contents_of}
use Rattle.lk_env.proofs.Members.{member_names_are, members_known}
use Rattle.lk_text.specs.Named.{prints_as}
use Rattle.lk_text.proofs.named.has_printed.Goals as goal

pub any_prints_as-requires : goal.any_prints_as-requires
any_prints_as-requires c =
    rw (c.deref.ensures.value, c.in_ok-names.ensures) (members_known (contents_of c.args.library.now.tables) c.args.unit.now c.requires)

pub returns : goal.returns
returns c =
    let at = contents_of c.args.library.now.tables in
    subst (λ names. IfOk c.any_prints_as.result (λ b. b ≡ list_any (prints_as c.args.text.now) names))
    (ap (map (name_at at)) (c.deref.ensures.value ∙ c.in_ok-names.ensures) ∙ member_names_are at c.args.unit.now) c.any_prints_as.ensures
