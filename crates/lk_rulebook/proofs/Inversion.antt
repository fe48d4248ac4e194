-- The type of a lambda, and of a Pi, comes by their rules alone.
use Rattle.std.proofs.Common.{refl}
use Rattle.lk_tree.specs.Tree.{Tree, lam, pi}
use Rattle.lk_rulebook.specs.Place.{Place}
use Rattle.lk_rulebook.specs.Rules.{HasType, t_lam, t_pi}
use Rattle.lk_rulebook.specs.Binders.{IsLamType, IsPiType}

pub lam_typed : {w : Place} {A b X : Tree} → HasType w (lam A b) X → IsLamType w A b X
lam_typed (t_lam {B = B} {l = l} {k = k} fresh s t) = record { body_type = B; level = l; number = k; is_pi = refl; fresh = fresh; domain = s; body = t }

pub pi_typed : {w : Place} {A B X : Tree} → HasType w (pi A B) X → IsPiType w A B X
pi_typed (t_pi {u = u} {v = v} {k = k} fresh s t) = record { domain_level = u; body_level = v; number = k; is_sort = refl; fresh = fresh; domain = s; body = t }
