use Rattle.std.proofs.Common.{rules, ◌≡◌, map, ap, sym, ◌∙◌}
use Rattle.lk_rulebook.specs.Place.{type_names}
use Rattle.lk_store.specs.Contents.{name_at}
use Rattle.lk_env.specs.declared.unit.BlockType.{BlockType}
use Rattle.lk_env.specs.Units.{type_at, recursor_at}
use Rattle.lk_trim.specs.Units.{write_types, write_recs}
use Rattle.lk_trim.proofs.Chains.{then_writes, writes_as, type_names_at, type_names_known}
use Rattle.lk_trim.proofs.units.write_block.Goals as goal

pub write_types-requires-clause-family_in : goal.write_types-requires-clause-family_in
write_types-requires-clause-family_in g c =
    let is = c.in_ok-family.ensures ∙ ap (map (λ (t : BlockType). t.name)) c.deref.ensures.value in
    rw c.deref-2.ensures.value (type_names_known (g.T.Terms.contents c.args.store.now) c.args.block.now.types.items c.in_ok-family.family.items is c.requires.block_in.0)

pub write_recursors-requires-clause-family_in : goal.write_recursors-requires-clause-family_in
write_recursors-requires-clause-family_in g c =
    let is = c.in_ok-family.ensures ∙ ap (map (λ (t : BlockType). t.name)) c.deref.ensures.value in
    rw c.deref-5.ensures.value (type_names_known (g.T.Terms.contents c.args.store.now) c.args.block.now.types.items c.in_ok-family.family.items is c.requires.block_in.0)

pub returns : goal.returns
returns g c =
    let s = g.T.Terms.contents c.args.store.now in
    let ts = c.args.block.now.types.items in
    let is = c.in_ok-family.ensures ∙ ap (map (λ (t : BlockType). t.name)) c.deref.ensures.value in
    let named : map (name_at s) c.in_ok-family.family.items ≡ type_names (map (type_at s) ts) = ap (map (name_at s)) is ∙ sym (type_names_at s ts) in
    let first : map (name_at s) c.deref-2.result.now ≡ type_names (map (type_at s) ts) = ap (map (name_at s)) c.deref-2.ensures.value ∙ named in
    let last : map (name_at s) c.deref-5.result.now ≡ type_names (map (type_at s) ts) = ap (map (name_at s)) c.deref-5.ensures.value ∙ named in
    let recursors : c.deref-7.result.now ≡ c.args.block.now.recursors.value.items = search rules in
    let types = writes_as (ap (λ l. write_types l (map (type_at s) c.deref-3.result.now)) first ∙ ap (λ l. write_types (type_names (map (type_at s) ts)) (map (type_at s) l)) c.deref-3.ensures.value) c.in_ok-write_types.ensures in
    let ctors = rw c.deref-4.ensures.value at c.in_ok-write_all_constructors.ensures in
    let recs = writes_as (ap (λ l. write_recs l (map (recursor_at s) c.deref-7.result.now)) last ∙ ap (λ l. write_recs (type_names (map (type_at s) ts)) (map (recursor_at s) l)) recursors) c.in_ok-write_recursors.ensures in
    then_writes (then_writes types ctors) recs
