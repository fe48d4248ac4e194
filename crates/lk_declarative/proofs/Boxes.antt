-- Where a proposition has a constructor with a field that is no proof, guarded beta is not enough: two members are
-- equal by irrelevance, so are their projections, and these are the fields.
use Rattle.std.proofs.Common.{◌≡◌, [], ◌∷◌, refl, subst, arith}
use Rattle.std.specs.Prelude.{Some, true, false}
use Rattle.lk_tree.specs.Tree.{Name, name_discrete, part_discrete, zero_level, Tree, sort, const, app, pi, proj}
use Rattle.lk_tree.specs.Bind.{open_at, bound}
use Rattle.lk_tree.specs.Levels.{put_levels, put_in_level}
use Rattle.lk_tree.specs.WellFormed.{IsWellFormed}
use Rattle.lk_tree.specs.Decide.{list_discrete, both_discrete}
use native.Mathlib.Decide.{ℕ_discrete}
use Rattle.lk_rulebook.specs.Place.{Place, Entry}
use Rattle.lk_rulebook.specs.Structures.{CtorApp}
use Rattle.lk_declarative.specs.Falsehood.{truth, simple_proof, falsehood}
use Rattle.lk_declarative.specs.Box.{HasBox, box_name, mk_name, box_entry, mk_entry, box_block, box_inductive, mk_ctor, box_place}
use Rattle.lk_declarative.specs.Guarded.{GuardedType, typed_sort, typed_local, typed_const, typed_app, typed_lam, typed_pi, typed_conv, GuardedEquals, same_sort, same_sym, same_trans, same_proj, same_proj_ctor, same_proof}

unguarded : {A : Type 0} → false ≡ true → A
unguarded e = absurd cc

truth_prop : {w : Place} → GuardedType false w truth (sort zero_level)
unfolding open_at bound
truth_prop = typed_conv (typed_pi {k = 0} (omega arith, tt) typed_sort (typed_pi {k = 1} (omega arith, tt) (typed_local (tt, omega arith) typed_sort) (typed_local (tt, omega arith) typed_sort))) (same_sort (λ σ. refl)) typed_sort

falsehood_prop : {w : Place} → GuardedType false w falsehood (sort zero_level)
unfolding open_at bound
falsehood_prop = typed_conv (typed_pi {k = 0} (omega arith, tt) typed_sort (typed_local (tt, omega arith) typed_sort)) (same_sort (λ σ. refl)) typed_sort

proof_type : {w : Place} → GuardedType false w simple_proof truth
unfolding open_at bound
proof_type = typed_lam {k = 0} (omega arith, (omega arith, tt)) typed_sort
    (typed_lam {k = 1} (omega arith, (omega arith, tt)) (typed_local (tt, omega arith) typed_sort) (typed_local ((tt, omega arith), omega arith) (typed_local (tt, omega arith) typed_sort)))

stated_type : {w : Place} (c : Name) (g : Entry) (T U : Tree) → w.means c ≡ Some g → g.levels ≡ [] → g.type ≡ T → IsWellFormed U → put_levels [] [] T ≡ U → GuardedType false w (const c []) U
stated_type {w = w} c g T U m l t f e =
    let s : put_levels g.levels [] g.type ≡ U = rw (l, t) e in
    subst (λ (X : Tree). GuardedType false w (const c []) X) s (typed_const (record { entry = g; given = m; levels_are = rw l refl }) (rw s f))

box_prop : {w : Place} (h : HasBox w) → GuardedType false w (const h.box []) (sort zero_level)
unfolding put_levels put_in_level
box_prop h = stated_type h.box h.box_entry (sort zero_level) (sort zero_level) h.box_given h.box_levels h.box_type tt refl

made : {w : Place} (h : HasBox w) (a : Tree) → GuardedType false w a (sort zero_level) → GuardedType false w (app (const h.mk []) a) (const h.box [])
unfolding put_levels put_in_level open_at
made h a t = typed_app {B = const h.box []}
    (stated_type h.mk h.mk_entry (pi (sort zero_level) (const h.box [])) (pi (sort zero_level) (const h.box [])) h.mk_given h.mk_levels h.mk_type (tt, tt) refl) t

-- mk a
abbrev made_of : {w : Place} → HasBox w → Tree → CtorApp w
made_of h a = record { name = h.mk; levels = []; args = a ∷ []; entry = h.mk_entry; block = h.block; ind = h.inductive; ctor = h.ctor; given = h.mk_given; kind = h.mk_kind }

field_of_made : {w : Place} (h : HasBox w) (a : Tree) → IsWellFormed a → GuardedEquals false w (proj h.inductive.name 0 (app (const h.mk []) a)) a
field_of_made h a f = same_proj_ctor (made_of h a) {T = a} unguarded (rw (h.no_parameters) refl) (tt, f) f

-- what two members hold is equal, since they are proofs of one proposition
fields_agree : {w : Place} (h : HasBox w) (a b : Tree) → IsWellFormed a → IsWellFormed b →
    GuardedType false w a (sort zero_level) → GuardedType false w b (sort zero_level) → GuardedEquals false w a b
fields_agree h a b f g ta tb =
    same_trans (same_sym (field_of_made h a f))
    (same_trans (same_proj {T = a} unguarded (same_proof (made h a ta) (made h b tb) (box_prop h))) (field_of_made h b g))

pub falsehood_in_a_box : {w : Place} → HasBox w → GuardedType false w simple_proof falsehood
falsehood_in_a_box h = typed_conv proof_type
    (fields_agree h truth falsehood (tt, (omega arith, omega arith)) (tt, omega arith) truth_prop falsehood_prop) falsehood_prop

pub box_is_there : HasBox box_place
unfolding name_discrete part_discrete list_discrete both_discrete ℕ_discrete
box_is_there = record {
  box = box_name;
  mk = mk_name;
  box_entry = box_entry;
  mk_entry = mk_entry;
  block = box_block;
  inductive = box_inductive;
  ctor = mk_ctor;
  box_given = refl;
  box_levels = refl;
  box_type = refl;
  mk_given = refl;
  mk_levels = refl;
  mk_type = refl;
  mk_kind = refl;
  parent = refl;
  no_parameters = refl;
}
