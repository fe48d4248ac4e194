use Rattle.lk_closure.proofs.Listed.{list_keeps, listed_stands, listed_verdict, listed_axioms, axioms_listed}
use Rattle.lk_closure.proofs.listed_closure_keeps_verdicts.Goals as goal

pub returns : goal.returns
returns c = record {
  keeps = list_keeps;
  stands = λ us n p k ks h l e. listed_stands us n ks h l p k e;
  verdict = λ us n p k budget ks d h l e. listed_verdict us n ks h l d p k budget e;
  there = λ us n p k m ks h l e a. listed_axioms us n ks h l p k m e a;
  back = λ us n p k q ks h l e a. axioms_listed us n ks h l p k q e a;
}
