-- Quot.lift and Quot.ind at their major premises: their steps hold.
use Rattle.std.proofs.Common.{◌≡◌, ◌≤◌, Bool, true, false, List, [], ◌∷◌, length, take, drop, Some, None, refl, sym, subst, arith, if◌then◌else◌}
use Rattle.std.specs.Prelude.{slice_get}
use Rattle.lk_tree.specs.Tree.{Name, Level, Tree, const, app}
use Rattle.lk_tree.specs.Mentions.{same_name}
use Rattle.lk_tree.specs.Spine.{apply}
use Rattle.lk_tree.specs.WellFormed.{IsWellFormed, AllWellFormed}
use Rattle.lk_rulebook.specs.Place.{Place}
use Rattle.lk_rulebook.specs.Names.{quot_mk, quot_lift, quot_ind}
use Rattle.lk_rulebook.specs.Quotients.{IsQuot}
use Rattle.lk_rulebook.specs.Claims.{reduces}
use Rattle.lk_questions.specs.Program.{done}
use Rattle.lk_questions.specs.Quotients.{core_lift, core_ind, core_quot}
use Rattle.lk_claims.proofs.Pieces.{same_name_right}
use Rattle.lk_quot.specs.Redexes.{PlainRedex, lift_redex, ind_redex, redex_of, core_redex}
use Rattle.lk_step.specs.Steps.{reduction, StepHolds}
use Rattle.lk_step.proofs.MajorSteps.{major_steps}
use Rattle.lk_derive_quot.specs.declared.eliminators.Eliminator.{Eliminator}
use Rattle.lk_derive_quot.specs.declared.eliminators.Eliminator.TheVariants.{Lift, Induction}
use Rattle.lk_derive_quot.specs.Eliminators.{eliminator_if, reach, eliminator_rule}

lift_program : (e : Tree) (xs : List Tree) → core_lift e xs ≡ core_redex e (lift_redex xs)
lift_program e (A ∷ r ∷ B ∷ f ∷ h ∷ m ∷ rest) = refl
lift_program e _ = refl

ind_program : (e : Tree) (xs : List Tree) → core_ind e xs ≡ core_redex e (ind_redex xs)
ind_program e (A ∷ r ∷ B ∷ h ∷ m ∷ rest) = refl
ind_program e _ = refl

-- Core goes by what the constant and its arguments are
pub quot_program : (e : Tree) (c : Name) (xs : List Tree) → core_quot e c xs ≡ core_redex e (redex_of c xs)
quot_program e c xs = go (same_name c quot_lift) (same_name c quot_ind)
  where
    go : (a b : Bool) → (if a then core_lift e xs else (if b then core_ind e xs else done e)) ≡ core_redex e (if a then lift_redex xs else (if b then ind_redex xs else None))
    go true b = lift_program e xs
    go false true = ind_program e xs
    go false false = refl

-- The arguments of an eliminator h: its function, its major premise, and what is behind. Where that is an element of a quotient, the
-- eliminator's step holds.
pub record Reaches (w : Place) (x : Eliminator) (h : Tree) (xs : List Tree) (p : PlainRedex) : Type 0 where
  pub function_is : slice_get xs 3 ≡ Some p.function
  pub rest_is : drop (reach x) xs ≡ p.rest
  pub enough : reach x ≤ length xs
  pub holds : (ks : List Level) (A r a : Tree) → IsQuot w quot_mk → AllWellFormed xs → IsWellFormed a →
      StepHolds w (reduction (eliminator_rule x) (apply h (take (reach x) xs)) (app p.function a) (reduces p.major (apply (const quot_mk ks) (A ∷ r ∷ a ∷ [])) ∷ []))

lift_reaches : (w : Place) (ls : List Level) (xs : List Tree) (p : PlainRedex) → IsQuot w quot_lift → lift_redex xs ≡ Some p → Reaches w Lift (const quot_lift ls) xs p
lift_reaches w ls (A ∷ r ∷ B ∷ f ∷ h ∷ m ∷ rest) p q e =
    let same : record { function = f; major = m; rest = rest } ≡ p = cc in
    subst (λ z. Reaches w Lift (const quot_lift ls) (A ∷ r ∷ B ∷ f ∷ h ∷ m ∷ rest) z) same (record {
      function_is = refl;
      rest_is = refl;
      enough = omega arith;
      holds = λ ks A' r' a mk fs fa. (major_steps w).lift ls ks A r B f h m A' r' a q mk (fs.0, (fs.1.0, (fs.1.1.0, (fs.1.1.1.0, (fs.1.1.1.1.0, (fs.1.1.1.1.1.0, tt)))))) fa;
    })
lift_reaches w ls _ p q e = absurd cc

ind_reaches : (w : Place) (ls : List Level) (xs : List Tree) (p : PlainRedex) → IsQuot w quot_ind → ind_redex xs ≡ Some p → Reaches w Induction (const quot_ind ls) xs p
ind_reaches w ls (A ∷ r ∷ B ∷ h ∷ m ∷ rest) p q e =
    let same : record { function = h; major = m; rest = rest } ≡ p = cc in
    subst (λ z. Reaches w Induction (const quot_ind ls) (A ∷ r ∷ B ∷ h ∷ m ∷ rest) z) same (record {
      function_is = refl;
      rest_is = refl;
      enough = omega arith;
      holds = λ ks A' r' a mk fs fa. (major_steps w).ind ls ks A r B h m A' r' a q mk (fs.0, (fs.1.0, (fs.1.1.0, (fs.1.1.1.0, (fs.1.1.1.1.0, tt))))) fa;
    })
ind_reaches w ls _ p q e = absurd cc

-- a constant of this name, where it has a major premise
pub reaches : (w : Place) (c : Name) (ls : List Level) (xs : List Tree) (p : PlainRedex) → IsQuot w c → redex_of c xs ≡ Some p → Reaches w (eliminator_if (same_name c quot_lift)) (const c ls) xs p
reaches w c ls xs p q = go (same_name c quot_lift) (same_name c quot_ind) refl refl
  where
    go : (a b : Bool) → same_name c quot_lift ≡ a → same_name c quot_ind ≡ b → (if a then lift_redex xs else (if b then ind_redex xs else None)) ≡ Some p → Reaches w (eliminator_if a) (const c ls) xs p
    go true b s t e =
        let name : c ≡ quot_lift = same_name_right c quot_lift s in
        subst (λ z. Reaches w Lift (const z ls) xs p) (sym name) (lift_reaches w ls xs p (subst (λ z. IsQuot w z) name q) e)
    go false true s t e =
        let name : c ≡ quot_ind = same_name_right c quot_ind t in
        subst (λ z. Reaches w Induction (const z ls) xs p) (sym name) (ind_reaches w ls xs p (subst (λ z. IsQuot w z) name q) e)
    go false false s t e = absurd cc

-- the trees of what is closed and well scoped are
pub record IsFineRedex (p : PlainRedex) : Type 0 where
  pub function_fine : IsWellFormed p.function
  pub major_fine : IsWellFormed p.major
  pub rest_fine : AllWellFormed p.rest

lift_fine : (xs : List Tree) (p : PlainRedex) → AllWellFormed xs → lift_redex xs ≡ Some p → IsFineRedex p
lift_fine (A ∷ r ∷ B ∷ f ∷ h ∷ m ∷ rest) p fs e =
    let same : record { function = f; major = m; rest = rest } ≡ p = cc in
    subst IsFineRedex same (record { function_fine = fs.1.1.1.0; major_fine = fs.1.1.1.1.1.0; rest_fine = fs.1.1.1.1.1.1 })
lift_fine _ p fs e = absurd cc

ind_fine : (xs : List Tree) (p : PlainRedex) → AllWellFormed xs → ind_redex xs ≡ Some p → IsFineRedex p
ind_fine (A ∷ r ∷ B ∷ h ∷ m ∷ rest) p fs e =
    let same : record { function = h; major = m; rest = rest } ≡ p = cc in
    subst IsFineRedex same (record { function_fine = fs.1.1.1.0; major_fine = fs.1.1.1.1.0; rest_fine = fs.1.1.1.1.1 })
ind_fine _ p fs e = absurd cc

pub redex_fine : (c : Name) (xs : List Tree) (p : PlainRedex) → AllWellFormed xs → redex_of c xs ≡ Some p → IsFineRedex p
redex_fine c xs p fs = go (same_name c quot_lift) (same_name c quot_ind)
  where
    go : (a b : Bool) → (if a then lift_redex xs else (if b then ind_redex xs else None)) ≡ Some p → IsFineRedex p
    go true b e = lift_fine xs p fs e
    go false true e = ind_fine xs p fs e
    go false false e = absurd cc
