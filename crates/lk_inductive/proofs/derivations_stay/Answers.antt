use Rattle.lk_inductive.proofs.More.{more_type, more_reduct, more_equal}
use Rattle.lk_inductive.proofs.derivations_stay.Goals as goal

pub returns : goal.returns
returns c = record { types = λ w w' e A i h. more_type w w' i h; reducts = λ w w' a b i h. more_reduct w w' i h; equals = λ w w' a b i h. more_equal w w' i h }
