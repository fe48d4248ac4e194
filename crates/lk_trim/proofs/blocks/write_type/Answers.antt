use Rattle.std.proofs.Common.{◌≡◌, map, refl, ap, sym, ◌∙◌}
use Rattle.lk_store.specs.Contents.{name_at}
use Rattle.lk_env.specs.declared.unit.Constructor.{Constructor}
use Rattle.lk_env.specs.Units.{type_at, constructor_at}
use Rattle.lk_trim.specs.Names.{write_names}
use Rattle.lk_trim.specs.Units.{ctor_names, type_line}
use Rattle.lk_trim.proofs.Chains.{then_writes, writes_as, line_writes, ctor_names_at, ctor_names_known}
use Rattle.lk_trim.proofs.blocks.write_type.Goals as goal

pub write_names-requires-2-clause-names_in : goal.write_names-requires-2-clause-names_in
write_names-requires-2-clause-names_in g c =
    let s = g.T.Terms.contents c.args.store.now in
    let is = c.in_ok-constructors.ensures ∙ ap (map (λ (k : Constructor). k.name)) c.deref.ensures.value in
    rw c.deref-2.ensures.value (ctor_names_known s c.args.t.now.constructors.items c.in_ok-constructors.constructors.items is c.requires.type_in.constructors_in)

pub add_type-requires-clause-constructors_in : goal.add_type-requires-clause-constructors_in
add_type-requires-clause-constructors_in g c =
    let s = g.T.Terms.contents c.args.store.now in
    let is = c.in_ok-constructors.ensures ∙ ap (map (λ (k : Constructor). k.name)) c.deref.ensures.value in
    rw c.deref-4.ensures.value (ctor_names_known s c.args.t.now.constructors.items c.in_ok-constructors.constructors.items is c.requires.type_in.constructors_in)

pub returns : goal.returns
returns g c =
    let s = g.T.Terms.contents c.args.store.now in
    let ks = c.args.t.now.constructors.items in
    let is = c.in_ok-constructors.ensures ∙ ap (map (λ (k : Constructor). k.name)) c.deref.ensures.value in
    let named : map (name_at s) c.deref-2.result.now ≡ ctor_names (map (constructor_at s) ks) = ap (map (name_at s)) (c.deref-2.ensures.value ∙ is) ∙ sym (ctor_names_at s ks) in
    let levels = rw c.deref-3.ensures.value at c.in_ok-write_names-3.ensures in
    then_writes (then_writes (then_writes (then_writes (then_writes c.in_ok-write_name.ensures c.in_ok-write_tree.ensures) c.in_ok-write_names.ensures) (writes_as (ap write_names named) c.in_ok-write_names-2.ensures)) levels)
    (line_writes c.in_ok-write_names-3.ensures.numbers (type_line (map (name_at s) c.args.family.now) (type_at s c.args.t.now)) c.add_type.new.out.items c.in_ok-add_type.ensures c.in_ok-push.ensures.items refl)
