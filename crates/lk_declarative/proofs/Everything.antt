-- Every two closed trees are convertible, and a tree that has a type has each, at any place: x of type t is irrelevant under
-- the binder `lambda (x : t)`, and beta puts in its place what has not the type t.
use Rattle.std.proofs.Common.{refl, arith}
use Rattle.lk_tree.specs.Tree.{Tree, zero_level, var, sort, lam}
use Rattle.lk_tree.specs.Bind.{open_at, bound}
use Rattle.lk_tree.specs.WellFormed.{IsWellFormed}
use Rattle.lk_rulebook.specs.Place.{Place}
use Rattle.lk_declarative.specs.Falsehood.{truth, simple_proof, falsehood}
use Rattle.lk_declarative.specs.Declared.{IsDeclared, type_sort, type_local, type_lam, type_pi, type_conv, Converts, conv_refl, conv_sym, conv_trans, conv_sort, conv_app, conv_lam, conv_beta, conv_proof}

proof_type : {w : Place} → IsDeclared w simple_proof truth
unfolding open_at bound
proof_type = type_lam {k = 0} (omega arith, (omega arith, tt)) type_sort
    (type_lam {k = 1} (omega arith, (omega arith, tt)) (type_local (tt, omega arith)) (type_local ((tt, omega arith), omega arith)))

truth_prop : {w : Place} → IsDeclared w truth (sort zero_level)
unfolding open_at bound
truth_prop = type_conv (type_pi {k = 0} (omega arith, tt) type_sort (type_pi {k = 1} (omega arith, tt) (type_local (tt, omega arith)) (type_local (tt, omega arith)))) (conv_sort (λ σ. refl))

-- (lambda x : truth, x) ~ (lambda x : truth, simple_proof)
constant : {w : Place} → Converts w (lam truth (var 0)) (lam truth simple_proof)
unfolding open_at bound
constant = conv_lam {k = 0} (omega arith, (omega arith, tt)) (conv_refl (tt, (omega arith, omega arith)))
    (conv_proof (type_local ((tt, (omega arith, omega arith)), omega arith)) proof_type truth_prop)

-- a ~ (lambda x : truth, x) a ~ (lambda x : truth, simple_proof) a ~ simple_proof, where a need not have the type truth
one_for_all : {w : Place} (a : Tree) → IsWellFormed a → Converts w a simple_proof
unfolding open_at
one_for_all a f = conv_trans (conv_sym (conv_beta (((tt, (omega arith, omega arith)), omega arith), f)))
    (conv_trans (conv_app constant (conv_refl f)) (conv_beta (((tt, (omega arith, omega arith)), (tt, (omega arith, omega arith))), f)))

pub all_convert : {w : Place} (a b : Tree) → IsWellFormed a → IsWellFormed b → Converts w a b
all_convert a b f g = conv_trans (one_for_all a f) (conv_sym (one_for_all b g))

pub all_hold : {w : Place} (A : Tree) → IsWellFormed A → IsDeclared w simple_proof A
all_hold A f = type_conv proof_type (all_convert truth A (tt, (omega arith, omega arith)) f)

pub falsehood_holds : {w : Place} → IsDeclared w simple_proof falsehood
falsehood_holds = all_hold falsehood (tt, omega arith)

pub falsehood_prop : {w : Place} → IsDeclared w falsehood (sort zero_level)
unfolding open_at bound
falsehood_prop = type_conv (type_pi {k = 0} (omega arith, tt) type_sort (type_local (tt, omega arith))) (conv_sort (λ σ. refl))
