use Rattle.std.proofs.lemmas.Result.{on_ok_weaker}
use Rattle.lk_env.specs.Units.{declaration_at}
use Rattle.lk_derive.proofs.PartsAdded.{parts_moved}
use Rattle.lk_derive.proofs.SidesAdded.{stays_on}
use Rattle.lk_derive.proofs.UnitDue.{valued, sort_due, any_due, any_parts, sides_due, all_added}
use Rattle.lk_derive.proofs.unit.add_parts.Goals as goal

pub add_sort-requires : goal.add_sort-requires
add_sort-requires g c = rw c.from-ty.ensures (sort_due g.R.Rows.contents g.R.Rows.place g.R.Rows.most c.args.rows.now c.args.parts.now c.args.declaration.now c.args.sides.now c.requires)

pub add_any_value-requires : goal.add_any_value-requires
add_any_value-requires g c =
    let s = c.args.rows.now in
    let t = c.add_sort.new.rows in
    let k = c.requires.yes.parts in
    let x = c.add_sort.ensures.stays in
    let sorts = rw c.from-ty.ensures at c.in_ok-add_sort.ensures.adds in
    let mid_are = parts_moved (g.R.Rows.place s) (g.R.Rows.place t) (g.R.Rows.contents t) c.add_sort.new.parts x.place_stays (sorts k.level k.sorted).parts in
    rw c.from-ty.ensures (any_due g.R.Rows.contents g.R.Rows.place g.R.Rows.most s c.args.parts.now c.args.declaration.now c.args.sides.now c.requires t x c.add_sort.new.parts mid_are
    c.value_of.result (c.value_of.ensures.known (g.R.Rows.contents s) c.requires.declaration_in.body_in) (c.value_of.ensures.value (g.R.Rows.contents s)))

pub add_sides-requires : goal.add_sides-requires
add_sides-requires g c =
    let s = c.args.rows.now in
    let t = c.add_sort.new.rows in
    let u = c.add_any_value.new.rows in
    let k = c.requires.yes.parts in
    let x = c.add_sort.ensures.stays in
    let y = c.add_any_value.ensures.stays in
    let d = declaration_at (g.R.Rows.contents s) c.args.declaration.now in
    let sorts = rw c.from-ty.ensures at c.in_ok-add_sort.ensures.adds in
    let values = rw c.from-ty.ensures at c.in_ok-add_any_value.ensures.adds in
    let mid_are = parts_moved (g.R.Rows.place s) (g.R.Rows.place t) (g.R.Rows.contents t) c.add_sort.new.parts x.place_stays (sorts k.level k.sorted).parts in
    let parts = any_parts g.R.Rows.contents g.R.Rows.place g.R.Rows.most s c.args.parts.now c.args.declaration.now c.args.sides.now c.requires t x c.add_sort.new.parts mid_are
    c.value_of.result (c.value_of.ensures.known (g.R.Rows.contents s) c.requires.declaration_in.body_in) (c.value_of.ensures.value (g.R.Rows.contents s)) k in
    let value = values (valued (g.R.Rows.place s) (g.R.Rows.most s) d k.level d.body k.body) parts in
    let all = stays_on g.R.Rows.contents g.R.Rows.place g.R.Rows.most s t u x y in
    sides_due g.R.Rows.contents g.R.Rows.place g.R.Rows.most s c.args.parts.now c.args.declaration.now c.args.sides.now c.requires u all c.add_any_value.new.parts
    (parts_moved (g.R.Rows.place t) (g.R.Rows.place u) (g.R.Rows.contents u) c.add_any_value.new.parts y.place_stays value.parts)

pub returns-clause-adds : goal.returns-clause-adds
returns-clause-adds g c = λ k.
    let s = c.args.rows.now in
    let t = c.add_sort.new.rows in
    let u = c.add_any_value.new.rows in
    let x = c.add_sort.ensures.stays in
    let y = c.add_any_value.ensures.stays in
    let d = declaration_at (g.R.Rows.contents s) c.args.declaration.now in
    let sorts = rw c.from-ty.ensures at c.in_ok-add_sort.ensures.adds in
    let values = rw c.from-ty.ensures at c.in_ok-add_any_value.ensures.adds in
    let sort = sorts k.level k.sorted in
    let mid_are = parts_moved (g.R.Rows.place s) (g.R.Rows.place t) (g.R.Rows.contents t) c.add_sort.new.parts x.place_stays sort.parts in
    let parts = any_parts g.R.Rows.contents g.R.Rows.place g.R.Rows.most s c.args.parts.now c.args.declaration.now c.args.sides.now c.requires t x c.add_sort.new.parts mid_are
    c.value_of.result (c.value_of.ensures.known (g.R.Rows.contents s) c.requires.declaration_in.body_in) (c.value_of.ensures.value (g.R.Rows.contents s)) k in
    let value = values (valued (g.R.Rows.place s) (g.R.Rows.most s) d k.level d.body k.body) parts in
    let all = stays_on g.R.Rows.contents g.R.Rows.place g.R.Rows.most s t u x y in
    let value_are = parts_moved (g.R.Rows.place t) (g.R.Rows.place u) (g.R.Rows.contents u) c.add_any_value.new.parts y.place_stays value.parts in
    on_ok_weaker c.add_sides.result
    (λ sides. all_added g.R.Rows.contents g.R.Rows.place g.R.Rows.most s c.args.parts.now c.args.declaration.now c.args.sides.now c.requires u all c.add_any_value.new.parts value_are
    k t c.add_sort.new.parts x.place_stays sort value (g.R.Rows.contents c.add_sides.new.rows) c.add_sides.new.parts sides)
    c.add_sides.ensures.adds
