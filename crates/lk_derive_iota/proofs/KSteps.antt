-- The step by K.
use Rattle.std.proofs.Common.{ℕ, ◌≡◌, ◌<◌, ◌+◌, true, List, [], ◌∷◌, ◌++◌, sym, subst, ◌∙◌, arith}
use Rattle.lk_tree.specs.Tree.{Tree, const}
use Rattle.lk_tree.specs.Spine.{apply}
use Rattle.lk_tree.specs.WellFormed.{IsWellFormed, AllWellFormed}
use Rattle.lk_tree.proofs.Spines.{fine_apply, well_formed_of_apply}
use Rattle.lk_rulebook.specs.Place.{Place}
use Rattle.lk_rulebook.specs.WellStated.{WellStated}
use Rattle.lk_rulebook.specs.Structures.{RecApp, on_major, k_type, ctor_app}
use Rattle.lk_rulebook.specs.Claims.{Claim, types, reduces, equals}
use Rattle.lk_questions.specs.Query.{whnf, infer, same}
use Rattle.lk_written.specs.Line.{k_rule}
use Rattle.lk_store.specs.Contents.{Contents, Extends, IsTree}
use Rattle.lk_env.specs.StoredLibrary.{StoredLibrary}
use Rattle.lk_step.specs.declared.step.Row.{Row}
use Rattle.lk_step.specs.Steps.{reduction, StepHolds}
use Rattle.lk_step.specs.MajorSteps.{k_claims}
use Rattle.lk_step.specs.Rows.{IsAnswered}
use Rattle.lk_step.specs.Runs.{AreOne}
use Rattle.lk_step.specs.Shaped.{IsShapedAnswer}
use Rattle.lk_step.specs.Parts.{AreThere, IsPartIn, States, AsksType, AsksSame}
use Rattle.lk_step.proofs.Runs.{one_answer}
use Rattle.lk_step.proofs.Shapes.{shaped_answer}
use Rattle.lk_step.proofs.MajorSteps.{major_steps}
use Rattle.lk_step.proofs.Parts.{first, behind, all_of}
use Rattle.lk_step.proofs.PartsIn.{part_these, part_stays}
use Rattle.lk_derive_iota.specs.declared.redexes.Redex.{Redex}
use Rattle.lk_derive_iota.specs.Stages.{at_subject, IsUnderWay}
use Rattle.lk_step.specs.Told.{IsAnsweredWithin}
use Rattle.lk_derive_iota.specs.Taken.{HasForm, IsTypedWithin, AsksTyped, IsTaken, IsAskedFor}
use Rattle.lk_derive_iota.proofs.Growing.{redex_grows}
use Rattle.lk_derive_iota.proofs.Running.{SameForm, same_form}
use Rattle.lk_derive_iota.proofs.MajorRuns.{first_fine}

fine_front : (xs ys : List Tree) → AllWellFormed (xs ++ ys) → AllWellFormed xs
fine_front [] ys f = tt
fine_front (x ∷ xs) ys f = (f.0, fine_front xs ys f.1)

-- what was asked, in the order of the rule
pub k_asked : {w : Place} {l : StoredLibrary} {c c₁ c₂ : Contents} {old r₁ r₂ new : Row} {most : ℕ} {u : Redex} {m d S T D : Tree} (h : IsTaken w l c old most u m d) → WellStated w → Extends c c₂ → AsksTyped w c c₁ old r₁ h.under.first S T → AsksType w c₁ c₂ r₁ r₂ d D → AsksSame c₂ r₂ new T D →
    IsAskedFor w l c₂ new most u m d S T D
k_asked {w = w} {l = l} {c = c} {c₁ = c₁} {c₂ = c₂} {old = old} {r₁ = r₁} {r₂ = r₂} {new = new} {u = u} {m = m} {d = d} {S = S} {T = T} {D = D} h ok x a b e =
    let k = h.under in
    let f : Tree = k.first in
    let has : HasForm w f T = record { stated = S; first = a.first; second = a.second; typed = a.typed; formed = a.formed } in
    let one : SameForm h.has has = same_form w f h.type T h.has has in
    let two : AreOne h.own D h.third b.cost = one_answer w (infer d) h.own D h.third b.cost h.owned b.answered in
    let same_now : IsAnswered w (same T D) true h.fourth = subst (λ z. IsAnswered w (same T z) true h.fourth) two.answer (subst (λ z. IsAnswered w (same z h.own) true h.fourth) one.form h.compared) in
    let ff : IsWellFormed f = first_fine k in
    let sS : IsShapedAnswer (infer f) S = shaped_answer w ok (infer f) S a.first ff a.typed in
    let sT : IsShapedAnswer (whnf S) T = shaped_answer w ok (whnf S) T a.second sS.0.1 a.formed in
    let type_is : k_type h.major ≡ T = h.type_is ∙ one.form in
    let C = h.major.ctor in
    let fs : AllWellFormed (C.args ++ h.major.rest) = (well_formed_of_apply (const C.ind.name C.levels) (C.args ++ h.major.rest) (subst IsWellFormed (sym type_is) sT.0.1)).1 in
    let fd : IsWellFormed d = subst IsWellFormed h.ctor_is (fine_apply (const C.name C.levels) C.args tt (fine_front C.args h.major.rest fs)) in
    let sD : IsShapedAnswer (infer d) D = shaped_answer w ok (infer d) D b.cost fd b.answered in
    let reach : Claim = reduces (on_major k.R f) (on_major k.R m) in
    let n : ℕ = k.spent + (a.first + a.second) + b.cost + h.fourth in
    let all : List Claim = equals T D ∷ types d D ∷ reduces S T ∷ types f S ∷ reach ∷ [] in
    let p₁ : IsPartIn w c₁ r₁ (reduces S T ∷ types f S ∷ reach ∷ []) (k.spent + (a.first + a.second)) = a.asks ff sS.0.1 (reach ∷ []) k.spent k.part in
    let p₂ : IsPartIn w c₂ r₂ (types d D ∷ reduces S T ∷ types f S ∷ reach ∷ []) (k.spent + (a.first + a.second) + b.cost) = b.asks fd (reduces S T ∷ types f S ∷ reach ∷ []) (k.spent + (a.first + a.second)) p₁ in
    let p₃ : IsPartIn w c₂ new all n = e.asks w h.fourth sT.0.1 sD.0.1 same_now (types d D ∷ reduces S T ∷ types f S ∷ reach ∷ []) (k.spent + (a.first + a.second) + b.cost) p₂ in
    let paid : k.spent + h.beside + k.second < k.cost = k.paid in
    let beside : h.beside ≡ h.has.first + (h.has.second + (h.third + h.fourth)) = h.beside_is in
    let c1 : h.has.first ≡ a.first = one.first in
    let c2 : h.has.second ≡ a.second = one.second in
    let c3 : h.third ≡ b.cost = two.cost in
    let t1 = first (types f S) (reach ∷ []) in
    let t2 = behind (reduces S T) (types f S ∷ reach ∷ []) (types f S) t1 in
    let t3 = behind (types d D) (reduces S T ∷ types f S ∷ reach ∷ []) (types f S) t2 in
    let s1 = first (reduces S T) (types f S ∷ reach ∷ []) in
    let s2 = behind (types d D) (reduces S T ∷ types f S ∷ reach ∷ []) (reduces S T) s1 in
    let o1 = first (types d D) (reduces S T ∷ types f S ∷ reach ∷ []) in
    let r1 = behind (types f S) (reach ∷ []) reach (first reach []) in
    let r2 = behind (reduces S T) (types f S ∷ reach ∷ []) reach r1 in
    let r3 = behind (types d D) (reduces S T ∷ types f S ∷ reach ∷ []) reach r2 in
    let rest : List Claim = types d D ∷ reduces S T ∷ types f S ∷ reach ∷ [] in
    let q : Claim = equals T D in
    record {
      under = record {
        R = k.R;
        e = k.e;
        first = f;
        rest = k.rest;
        redex = redex_grows x l u k.R k.e f k.rest k.redex;
        e_is = k.e_is;
        value = k.value;
        cost = k.cost;
        answered = k.answered;
        within = k.within;
        fine = k.fine;
        fine_at = k.fine_at;
        spent = n;
        second = k.second;
        paid = omega arith;
        part = part_these w c₂ new all (reach ∷ []) n n (behind q rest reach r3, tt) (omega arith) p₃;
        facts = tt;
        runs = k.runs;
      };
      stated = part_these w c₂ new all (k_claims f S T d D) n n (behind q rest (types f S) t3, (behind q rest (reduces S T) s2, (behind q rest (types d D) o1, (first q rest, tt)))) (omega arith) p₃;
      major = h.major;
      type_is = type_is;
      ctor_is = h.ctor_is;
      fine_made = fd;
    }

pub k_stated : {w : Place} {l : StoredLibrary} {c : Contents} {old : Row} {most : ℕ} {u : Redex} {m t S T D : Tree} (d : Contents) (new : Row) (h : IsAskedFor w l c old most u m t S T D) → Extends c d →
    ((R : RecApp w) (f : Tree) → IsTree c u.reached (on_major R f) → IsTree c u.front (apply (const R.name R.levels) R.front) → IsTree c u.major f →
    StepHolds w (reduction k_rule (on_major R f) (on_major R t) (k_claims f S T t D)) → States w d old new (k_claims f S T t D) (reduces (on_major R f) (on_major R t))) →
    IsUnderWay w l d new most u t (at_subject t) 0
k_stated {w = w} {l = l} {c = c} {old = old} {u = u} {t = t} {S = S} {T = T} {D = D} d new h x states =
    let k = h.under in
    let f : Tree = k.first in
    let cs : List Claim = k_claims f S T t D in
    let claim : Claim = reduces (on_major k.R f) (on_major k.R t) in
    let holds₀ = (major_steps w).k k.R h.major f S D (first_fine k) (subst IsWellFormed (sym h.ctor_is) h.fine_made) in
    let holds₁ : StepHolds w (reduction k_rule (on_major k.R f) (on_major k.R (ctor_app h.major.ctor)) (k_claims f S T (ctor_app h.major.ctor) D)) =
    subst (λ z. StepHolds w (reduction k_rule (on_major k.R f) (on_major k.R (ctor_app h.major.ctor)) (k_claims f S z (ctor_app h.major.ctor) D))) h.type_is holds₀ in
    let holds : StepHolds w (reduction k_rule (on_major k.R f) (on_major k.R t) cs) = subst (λ z. StepHolds w (reduction k_rule (on_major k.R f) (on_major k.R z) (k_claims f S T z D))) h.ctor_is holds₁ in
    let s : States w d old new cs claim = states k.R f k.redex.reached_is k.redex.front_is k.redex.major_is holds in
    let all : AreThere cs cs = all_of cs in
    let p : IsPartIn w d new (claim ∷ cs) k.spent = s cs k.spent all (part_stays w c d x old cs k.spent h.stated) in
    record {
      R = k.R;
      e = k.e;
      first = f;
      rest = k.rest;
      redex = redex_grows x l u k.R k.e f k.rest k.redex;
      e_is = k.e_is;
      value = k.value;
      cost = k.cost;
      answered = k.answered;
      within = k.within;
      fine = k.fine;
      fine_at = h.fine_made;
      spent = k.spent;
      second = k.second;
      paid = k.paid;
      part = part_these w d new (claim ∷ cs) (claim ∷ []) k.spent k.spent (first claim cs, tt) (omega arith) p;
      facts = tt;
      runs = k.runs;
    }

-- what is asked for is answered
pub k_typed_within : {w : Place} {l : StoredLibrary} {c : Contents} {r : Row} {most : ℕ} {u : Redex} {m d : Tree} (h : IsTaken w l c r most u m d) → IsTypedWithin w h.under.first most
k_typed_within h =
    let paid : h.under.spent + h.beside + h.under.second < h.under.cost = h.under.paid in
    let beside : h.beside ≡ h.has.first + (h.has.second + (h.third + h.fourth)) = h.beside_is in
    let within = h.under.within in
    record { form = h.type; has = h.has; first_within = omega arith; second_within = omega arith }

pub k_own_within : {w : Place} {l : StoredLibrary} {c : Contents} {r : Row} {most : ℕ} {u : Redex} {m d : Tree} → IsTaken w l c r most u m d → IsAnsweredWithin w (infer d) most
k_own_within h =
    let paid : h.under.spent + h.beside + h.under.second < h.under.cost = h.under.paid in
    let beside : h.beside ≡ h.has.first + (h.has.second + (h.third + h.fourth)) = h.beside_is in
    let within = h.under.within in
    (h.own, h.third, h.owned, omega arith)
