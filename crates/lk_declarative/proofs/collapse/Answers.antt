use Rattle.lk_declarative.specs.Declared.{type_conv}
use Rattle.lk_declarative.proofs.Scopes.{well_formed_of_type}
use Rattle.lk_declarative.proofs.Everything.{all_convert, falsehood_prop, falsehood_holds}
use Rattle.lk_declarative.proofs.collapse.Goals as goal

pub returns : goal.returns
returns c = record {
  conversions = λ w a b. all_convert a b;
  types = λ w e A B h f. type_conv h (all_convert A B (well_formed_of_type h).1 f);
  falsehood_is_a_proposition = λ w. falsehood_prop;
  falsehood_is_proved = λ w. falsehood_holds;
}
