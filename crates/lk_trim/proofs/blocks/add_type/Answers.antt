use Rattle.std.proofs.Common.{sym, ap, ◌∙◌, ◌++◌, map}
use Rattle.lk_store.specs.Contents.{name_at}
use Rattle.lk_env.specs.Units.{type_at}
use Rattle.lk_trim.specs.Written.{fields, counted}
use Rattle.lk_trim.specs.Names.{name_numbers}
use Rattle.lk_trim.specs.Units.{type_head}
use Rattle.lk_trim.specs.Stored.{written_at}
use Rattle.lk_trim.proofs.Chains.{four_parts, ctor_names_at}
use Rattle.lk_trim.proofs.blocks.add_type.Goals as goal

pub returns : goal.returns
returns g c =
    let s = g.T.Terms.contents c.args.store.now in
    let w = written_at s c.args.numbers.now in
    four_parts c.args.out.now.items c.add_head.new.out.items c.add_counted.new.out.items c.add_counted-2.new.out.items c.add_names.new.out.items
    (type_head (type_at s c.args.t.now) w) (counted (name_numbers w (map (name_at s) c.args.family.now))) _ (fields (name_numbers w (map (name_at s) c.args.t.now.levels.items)))
    c.in_ok-add_head.ensures c.in_ok-add_counted.ensures
    (c.in_ok-add_counted-2.ensures ∙ ap (λ l. c.add_counted.new.out.items ++ counted (name_numbers w l)) (ap (map (name_at s)) c.requires.constructors ∙ sym (ctor_names_at s c.args.t.now.constructors.items)))
    (rw c.deref.ensures.value at c.in_ok-add_names.ensures)
