use Rattle.std.proofs.Common.{◌≡◌, [], ◌∷◌, length, map, nat_eq, Some, true, false, ap, sym, ◌∙◌}
use Rattle.lk_rulebook.specs.Place.{Entry as PlainEntry}
use Rattle.lk_rulebook.specs.Quotients.{ctors_from}
use Rattle.lk_store.specs.Contents.{name_at, tree_at}
use Rattle.lk_store.specs.Store.{contents_of}
use Rattle.lk_env.specs.Units.{block_at, type_at}
use Rattle.lk_env.proofs.Found.{of_some}
use Rattle.lk_ask.proofs.Entries.{entry_type}
use Rattle.std.specs.List.{sum_by}
use Rattle.lk_quot.specs.Equality.{constructor_count, is_eq_shape, is_refl_shape}
use Rattle.lk_quot.proofs.EqShapes.{only_in, counted, no_type, no_refl, other_count}
use Rattle.lk_quot.proofs.EqShapes.{one_count}
use Rattle.lk_quot.proofs.equality.eq_shape.Goals as goal

pub returns-in_err-block-clause-is : goal.returns-in_err-block-clause-is
returns-in_err-block-clause-is g c e h =
    no_type e e.kind (c.in_err-block.ensures.value e h)
    ∙ sym (ap (is_eq_shape (contents_of (g.L.Lends.lent c.args.library.now).tables))
    c.from_residual-in_err-block.ensures)

pub returns-in_err-constructor-clause-is : goal.returns-in_err-constructor-clause-is
returns-in_err-constructor-clause-is g c e h =
    let base = contents_of (g.L.Lends.lent c.args.library.now).tables in
    no_refl e (block_at base c.in_ok-block.block.now) (type_at base c.in_ok-block.ty.now) e.kind
    (c.in_ok-block.ensures.value e h) (c.in_err-constructor.ensures.is base)
    ∙ sym (ap (is_eq_shape base) c.from_residual-in_err-constructor.ensures)

pub returns-then-not-have_one_constructor-clause-is :
    goal.returns-then-not-have_one_constructor-clause-is
returns-then-not-have_one_constructor-clause-is g c e h =
    let base = contents_of (g.L.Lends.lent c.args.library.now).tables in
    let b = c.in_ok-block.block.now in
    let count : nat_eq (length (ctors_from (map (type_at base) b.types.items))) 1 ≡ false =
    ap (λ n. nat_eq n 1) (counted base b.types.items)
    ∙ sym (c.have_one_constructor.ensures
    ∙ ap (λ ts. nat_eq (sum_by constructor_count ts) 1) c.deref.ensures.value)
    ∙ c.if-not-have_one_constructor.true in
    other_count e (block_at base b) (type_at base c.in_ok-block.ty.now) e.kind
    (c.in_ok-block.ensures.value e h) count

pub returns-clause-known : goal.returns-clause-known
returns-clause-known g c =
    let base = contents_of (g.L.Lends.lent c.args.library.now).tables in
    record {
      level_in = only_in (length base.names) c.levels_of.result.now c.in_ok-level.level.now
          c.levels_of.ensures.known c.in_ok-level.ensures;
      ty_in = c.requires.stated_in;
      constructor_in = c.in_ok-constructor.ensures.known base c.in_ok-block.ensures.known.type_in;
    }

pub returns-clause-is : goal.returns-clause-is
returns-clause-is g c e h =
    let base = contents_of (g.L.Lends.lent c.args.library.now).tables in
    let us = (g.L.Lends.lent c.args.library.now).units in
    let b = c.in_ok-block.block.now in
    let u = c.in_ok-level.level.now in
    let count : nat_eq (length (ctors_from (map (type_at base) b.types.items))) 1 ≡ true =
    ap (λ n. nat_eq n 1) (counted base b.types.items)
    ∙ sym (c.have_one_constructor.ensures
    ∙ ap (λ ts. nat_eq (sum_by constructor_count ts) 1) c.deref.ensures.value)
    ∙ c.if-not-have_one_constructor.false in
    let levels : e.levels ≡ name_at base u ∷ [] =
    c.levels_of.ensures.value e h
    ∙ ap (map (name_at base)) c.in_ok-level.ensures in
    one_count e (block_at base b) (type_at base c.in_ok-block.ty.now) e.kind
    (c.in_ok-block.ensures.value e h) (name_at base u ∷ []) (tree_at base c.args.entry.stated)
    (is_refl_shape base (Some c.in_ok-constructor.constructor)) levels
    (entry_type base us c.args.entry e h) (c.in_ok-constructor.ensures.is base) count
