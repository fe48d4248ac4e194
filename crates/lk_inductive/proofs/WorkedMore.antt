-- More worked recursors: an indexed type, two mutual ones, and one with a field of functions.
use Rattle.std.proofs.Common.{◌≡◌, refl, true, false, [], ◌∷◌}
use Rattle.lk_tree.specs.Tree.{Name, text, zero_level, succ_level, param, Tree, name_discrete, part_discrete, var, sort, const, app, lam, pi, local}
use Rattle.lk_tree.specs.Decide.{list_discrete, both_discrete}
use Rattle.lk_tree.specs.Bind.{close_at, bound}
use Rattle.lk_tree.specs.Spine.{apply}
use native.Mathlib.Decide.{ℕ_discrete}
use Rattle.lk_inductive.specs.Block.{Shape, recursive}
use Rattle.lk_inductive.specs.Recursors.{rec_name, motive_level, recursors}

abbrev eq : Name
eq = text (69 ∷ []) ∷ []

abbrev eq_refl : Name
eq_refl = text (69 ∷ []) ∷ text (114 ∷ []) ∷ []

abbrev u : Name
u = text (117 ∷ []) ∷ []

abbrev v : Name
v = motive_level

abbrev A : Tree
A = local 0 (sort (param u))

abbrev a : Tree
a = local 1 A

-- Eq.{u} (A : Sort u) (a : A) : A -> Prop, with Eq.refl.{u} A a : Eq A a a
abbrev eq_shape : Shape
eq_shape = record {
  levels = u ∷ [];
  params = A ∷ a ∷ [];
  sort = zero_level;
  types = record { name = eq; indices = local 2 A ∷ []; ctors = record { name = eq_refl; fields = []; indices = a ∷ [] } ∷ [] } ∷ [];
  large = true;
}

abbrev eq_at : Tree
eq_at = const eq (param u ∷ [])

abbrev refl_at : Tree
refl_at = const eq_refl (param u ∷ [])

-- (b : A) -> Eq A a b -> Sort v, under A and a
abbrev motive : Tree
motive = pi (var 1) (pi (apply eq_at (var 2 ∷ var 1 ∷ var 0 ∷ [])) (sort (param v)))

-- C a (Eq.refl A a)
abbrev minor : Tree
minor = apply (var 0) (var 1 ∷ apply refl_at (var 2 ∷ var 1 ∷ []) ∷ [])

eq_rec : recursors eq_shape ≡ record {
  name = rec_name eq;
  levels = v ∷ u ∷ [];
  type = pi (sort (param u)) (pi (var 0) (pi motive (pi minor (pi (var 3) (pi (apply eq_at (var 4 ∷ var 3 ∷ var 0 ∷ [])) (apply (var 3) (var 1 ∷ var 0 ∷ [])))))));
  recursor = record {
    parameters = 2;
    indices = 1;
    motives = 1;
    minors = 1;
    k = true;
    rules = record { ctor = eq_refl; fields = 0; value = lam (sort (param u)) (lam (var 0) (lam motive (lam minor (var 0)))) } ∷ [];
  };
} ∷ []
unfolding close_at bound name_discrete list_discrete both_discrete part_discrete ℕ_discrete
eq_rec = refl

abbrev ev : Name
ev = text (69 ∷ 118 ∷ []) ∷ []

abbrev od : Name
od = text (79 ∷ 100 ∷ []) ∷ []

abbrev ev_zero : Name
ev_zero = text (69 ∷ 118 ∷ []) ∷ text (122 ∷ []) ∷ []

abbrev ev_succ : Name
ev_succ = text (69 ∷ 118 ∷ []) ∷ text (115 ∷ []) ∷ []

abbrev od_succ : Name
od_succ = text (79 ∷ 100 ∷ []) ∷ text (115 ∷ []) ∷ []

abbrev n : Name → Tree
n c = const c []

-- Ev.z : Ev, Ev.s : Od -> Ev, Od.s : Ev -> Od, in Type
abbrev even_odd : Shape
even_odd = record {
  levels = [];
  params = [];
  sort = succ_level zero_level;
  types = record {
    name = ev;
    indices = [];
    ctors = record { name = ev_zero; fields = []; indices = [] }
        ∷ record { name = ev_succ; fields = record { variable = local 0 (n od); kind = recursive [] od [] } ∷ []; indices = [] }
        ∷ [];
  }
      ∷ record {
        name = od;
        indices = [];
        ctors = record { name = od_succ; fields = record { variable = local 0 (n ev); kind = recursive [] ev [] } ∷ []; indices = [] } ∷ [];
      }
      ∷ [];
  large = true;
}

abbrev to_sort : Name → Tree
to_sort T = pi (n T) (sort (param v))

-- under C, D
abbrev ev_zero_minor : Tree
ev_zero_minor = app (var 1) (n ev_zero)

-- (x : Od) -> D x -> C (Ev.s x), under C, D, and the first minor
abbrev ev_succ_minor : Tree
ev_succ_minor = pi (n od) (pi (app (var 2) (var 0)) (app (var 4) (app (n ev_succ) (var 1))))

-- (x : Ev) -> C x -> D (Od.s x), under C, D, and two minors
abbrev od_succ_minor : Tree
od_succ_minor = pi (n ev) (pi (app (var 4) (var 0)) (app (var 4) (app (n od_succ) (var 1))))

abbrev over_front : (Tree → Tree → Tree) → Tree → Tree
over_front bind e = bind (to_sort ev) (bind (to_sort od) (bind ev_zero_minor (bind ev_succ_minor (bind od_succ_minor e))))

-- the recursor of T at the front, under it and one field, applied to the field
abbrev induction : Name → Tree
induction T = apply (const (rec_name T) (param v ∷ [])) (var 5 ∷ var 4 ∷ var 3 ∷ var 2 ∷ var 1 ∷ var 0 ∷ [])

mutual_recs : recursors even_odd ≡ record {
  name = rec_name ev;
  levels = v ∷ [];
  type = over_front pi (pi (n ev) (app (var 5) (var 0)));
  recursor = record {
    parameters = 0;
    indices = 0;
    motives = 2;
    minors = 3;
    k = false;
    rules = record { ctor = ev_zero; fields = 0; value = over_front lam (var 2) }
        ∷ record { ctor = ev_succ; fields = 1; value = over_front lam (lam (n od) (apply (var 2) (var 0 ∷ induction od ∷ []))) }
        ∷ [];
  };
} ∷ record {
  name = rec_name od;
  levels = v ∷ [];
  type = over_front pi (pi (n od) (app (var 4) (var 0)));
  recursor = record {
    parameters = 0;
    indices = 0;
    motives = 2;
    minors = 3;
    k = false;
    rules = record { ctor = od_succ; fields = 1; value = over_front lam (lam (n ev) (apply (var 1) (var 0 ∷ induction ev ∷ []))) } ∷ [];
  };
} ∷ []
unfolding close_at bound name_discrete list_discrete both_discrete part_discrete ℕ_discrete
mutual_recs = refl

-- mk : (N -> T) -> T
abbrev t_name : Name
t_name = text (84 ∷ []) ∷ []

abbrev mk : Name
mk = text (84 ∷ []) ∷ text (109 ∷ []) ∷ []

abbrev of_functions : Shape
of_functions = record {
  levels = [];
  params = [];
  sort = succ_level zero_level;
  types = record {
    name = t_name;
    indices = [];
    ctors = record { name = mk; fields = record { variable = local 0 (pi (n u) (n t_name)); kind = recursive (local 1 (n u) ∷ []) t_name [] } ∷ []; indices = [] } ∷ [];
  } ∷ [];
  large = true;
}

-- (f : N -> T) -> ((y : N) -> C (f y)) -> C (mk f), under C
abbrev mk_minor : Tree
mk_minor = pi (pi (n u) (n t_name)) (pi (pi (n u) (app (var 2) (app (var 1) (var 0)))) (app (var 2) (app (n mk) (var 1))))

function_recs : recursors of_functions ≡ record {
  name = rec_name t_name;
  levels = v ∷ [];
  type = pi (to_sort t_name) (pi mk_minor (pi (n t_name) (app (var 2) (var 0))));
  recursor = record {
    parameters = 0;
    indices = 0;
    motives = 1;
    minors = 1;
    k = false;
    rules = record {
      ctor = mk;
      fields = 1;
      value = lam (to_sort t_name) (lam mk_minor (lam (pi (n u) (n t_name))
          (apply (var 1) (var 0 ∷ lam (n u) (apply (const (rec_name t_name) (param v ∷ [])) (var 3 ∷ var 2 ∷ app (var 1) (var 0) ∷ [])) ∷ []))));
    } ∷ [];
  };
} ∷ []
unfolding close_at bound name_discrete list_discrete both_discrete part_discrete ℕ_discrete
function_recs = refl
