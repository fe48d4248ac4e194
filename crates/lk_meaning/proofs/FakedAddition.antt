-- A def named Nat.add whose value has a rigid constant at its head is not derived.
use Rattle.std.proofs.Common.{arith, ◌≡◌, true, [], ◌∷◌, refl, sym, subst}
use Rattle.lk_tree.specs.Decide.{list_discrete, both_discrete}
use Rattle.lk_tree.specs.Tree.{Name, name_discrete, part_discrete, Level, zero_level, succ_level, imax_level, Tree, app, lam, pi}
use Rattle.lk_tree.specs.Bind.{open_at, bound}
use Rattle.lk_tree.specs.Levels.{put_levels, put_in_level}
use Rattle.lk_tree.specs.Operations.{Op, add}
use Rattle.lk_rulebook.specs.Place.{Place, Entry, Hint, a_def, Ctor}
use Rattle.lk_rulebook.specs.Names.{named, nat, nat_zero, nat_succ, op_name}
use Rattle.lk_rulebook.specs.NumberLaws.{has_laws, laws_of}
use Rattle.lk_rulebook.specs.Literals.{laws_in}
use Rattle.lk_rulebook.specs.Units.{Decl, as_def}
use Rattle.lk_rulebook.specs.Derived.{DeclDerived, BodyDerived}
use Rattle.lk_rulebook.specs.Rules.{HasType, t_const, t_app, t_lam, t_pi, HasSort, has_sort, r_refl, e_refl, MeetsLaws, meets, AllHold, holds}
use Rattle.lk_meaning.specs.Rigid.{Heads, IsDataName, IsRigid}
use Rattle.lk_meaning.specs.Families.{IsChoice}
use Rattle.lk_meaning.specs.FakedAddition.{one, to_nat, zero_ctor, succ_ctor, nat_type, nat_block, nat_entry, zero_entry, succ_entry, after_nat, always_one, always_one_as, faked_addition}
use Rattle.lk_meaning.proofs.Families.{choice_rigid}
use Rattle.lk_meaning.proofs.Locals.{rigid_not_local}
use native.Mathlib.Decide.{ℕ_discrete}

-- by the first law, the value at x and zero is x
first_fails : {w : Place} {c : Name} (h : Hint) (v : Tree) (g : Entry) → g.kind ≡ a_def h v → IsRigid w c → Heads c v → MeetsLaws w add g → ⊥
first_fails {w} h v g k s n (meets i j l) = go (subst (λ k. AllHold w (laws_in add k)) k l)
  where
    go : AllHold w (laws_of add v) → ⊥
    go (holds e more) = rigid_not_local 0 (named nat) s e n (refl, refl)

pub no_constant_addition : (w : Place) (c : Name) (d : Decl) (h : Hint) (v : Tree) → IsRigid w c → Heads c v → d.name ≡ op_name add → d.body ≡ as_def h v → DeclDerived w d → ⊥
no_constant_addition w c d h v s n e b t =
    let i : BodyDerived w d t.level (as_def h v) = subst (BodyDerived w d t.level) b t.body in
    first_fails h v (record { levels = d.levels; type = d.type; kind = a_def h v }) refl s n (i.1 add (sym e) refl).1

two_not_one : (x : Ctor) → zero_ctor ∷ succ_ctor ∷ [] ≡ x ∷ [] → ⊥
two_not_one x e = absurd cc

nat_data : IsDataName after_nat nat
unfolding name_discrete list_discrete part_discrete both_discrete ℕ_discrete
nat_data = record { entry = nat_entry; block = nat_block; own = nat_type; given = refl; kind = refl; above_prop = λ σ e. absurd cc; no_unit = λ x e z. two_not_one x e }

succ_choice : IsChoice after_nat nat_succ
unfolding name_discrete list_discrete part_discrete both_discrete ℕ_discrete
succ_choice = record { entry = succ_entry; block = nat_block; own = nat_type; it = succ_ctor; given = refl; kind = refl; not_alone = two_not_one; type = (nat, nat_data, refl) }

pub not_derived : (h : Hint) → DeclDerived after_nat (faked_addition h) → ⊥
not_derived h = no_constant_addition after_nat nat_succ (faked_addition h) h always_one (choice_rigid after_nat nat_succ succ_choice) refl refl refl

-- by another name the def is derived
nat_typed : HasType after_nat (named nat) one
unfolding name_discrete list_discrete part_discrete both_discrete ℕ_discrete put_levels put_in_level
nat_typed = t_const (record { entry = nat_entry; given = refl; levels_are = refl }) tt

zero_typed : HasType after_nat (named nat_zero) (named nat)
unfolding name_discrete list_discrete part_discrete both_discrete ℕ_discrete put_levels
zero_typed = t_const (record { entry = zero_entry; given = refl; levels_are = refl }) tt

succ_typed : HasType after_nat (named nat_succ) to_nat
unfolding name_discrete list_discrete part_discrete both_discrete ℕ_discrete put_levels
succ_typed = t_const (record { entry = succ_entry; given = refl; levels_are = refl }) (tt, tt)

abbrev level_one : Level
level_one = succ_level zero_level

nat_sort : HasSort after_nat (named nat) level_one
nat_sort = has_sort nat_typed (r_refl tt)

to_nat_sort : HasSort after_nat to_nat (imax_level level_one level_one)
unfolding open_at bound
to_nat_sort = has_sort (t_pi {k = 0} (omega arith, tt) nat_sort nat_sort) (r_refl tt)

type_sort : HasSort after_nat (pi (named nat) to_nat) (imax_level level_one (imax_level level_one level_one))
unfolding open_at bound
type_sort = has_sort (t_pi {k = 0} (omega arith, tt) nat_sort to_nat_sort) (r_refl tt)

one_typed : HasType after_nat (app (named nat_succ) (named nat_zero)) (named nat)
unfolding open_at
one_typed = t_app {B = named nat} succ_typed (r_refl (tt, tt)) zero_typed (e_refl tt)

inner_typed : HasType after_nat (lam (named nat) (app (named nat_succ) (named nat_zero))) to_nat
unfolding open_at bound
inner_typed = t_lam {k = 0} (omega arith, (omega arith, tt)) nat_sort one_typed

value_typed : HasType after_nat always_one (pi (named nat) to_nat)
unfolding open_at bound
value_typed = t_lam {k = 0} (omega arith, (omega arith, tt)) nat_sort inner_typed

pub derived_by_another_name : (c : Name) (h : Hint) → ((op : Op) → has_laws op ≡ true → op_name op ≡ c → ⊥) → DeclDerived after_nat (always_one_as c h)
derived_by_another_name c h other = record {
  level = imax_level level_one (imax_level level_one level_one);
  sorted = type_sort;
  body = (record { inferred = pi (named nat) to_nat; types = value_typed; equals = e_refl (tt, (tt, tt)) }, λ op e has. absurd (other op has e));
}
