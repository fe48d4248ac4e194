-- The step by the expansion of a structure.
use Rattle.std.proofs.Common.{ℕ, ◌≡◌, ◌<◌, ◌+◌, List, [], ◌∷◌, sym, subst, ◌∙◌, arith}
use Rattle.lk_tree.specs.Tree.{Level, Tree, sort, const}
use Rattle.lk_tree.specs.Spine.{apply, head, args}
use Rattle.lk_tree.specs.WellFormed.{IsWellFormed}
use Rattle.lk_tree.proofs.Spines.{well_formed_of_apply}
use Rattle.lk_rulebook.specs.Place.{Place}
use Rattle.lk_rulebook.specs.WellStated.{WellStated}
use Rattle.lk_rulebook.specs.Structures.{RecApp, on_major, structure_type, expanded}
use Rattle.lk_rulebook.specs.Claims.{Claim, types, reduces}
use Rattle.lk_rulebook.proofs.Scopes.{expanded_fine}
use Rattle.lk_questions.specs.Query.{whnf, infer}
use Rattle.lk_written.specs.Line.{expand_rule}
use Rattle.lk_constructor.specs.Looking.{app_at}
use Rattle.lk_store.specs.Contents.{Contents, Extends, IsTree}
use Rattle.lk_env.specs.StoredLibrary.{StoredLibrary}
use Rattle.lk_step.specs.declared.step.Row.{Row}
use Rattle.lk_step.specs.Steps.{reduction, StepHolds}
use Rattle.lk_step.specs.MajorSteps.{expand_claims}
use Rattle.lk_step.specs.Rows.{IsAnswered}
use Rattle.lk_step.specs.Shaped.{IsShapedAnswer}
use Rattle.lk_step.specs.Parts.{IsPartIn, States, Chains}
use Rattle.lk_step.proofs.Shapes.{shaped_answer}
use Rattle.lk_step.proofs.MajorSteps.{major_steps}
use Rattle.lk_step.proofs.Parts.{first, behind, all_of, are_behind}
use Rattle.lk_step.proofs.PartsIn.{part_these, part_stays}
use Rattle.lk_derive_iota.specs.declared.redexes.Redex.{Redex}
use Rattle.lk_derive_iota.specs.Stages.{Stage, at_ctor, IsUnderWay}
use Rattle.lk_derive_iota.specs.Taken.{HasForm, IsTypedWithin, AsksTyped, IsExpanded}
use Rattle.lk_derive_iota.specs.Expanding.{IsExpansionAsked}
use Rattle.lk_derive_iota.proofs.Growing.{redex_grows}
use Rattle.lk_derive_iota.proofs.Running.{SameForm, same_form}

pub s_asked : {w : Place} {l : StoredLibrary} {c c₁ c₂ : Contents} {old r₁ new : Row} {most : ℕ} {u : Redex} {m x S T U V : Tree} (h : IsExpanded w l c old most u m x (at_ctor (app_at w (head x) (args x)))) → WellStated w → Extends c c₂ → AsksTyped w c c₁ old r₁ m S T → AsksTyped w c₁ c₂ r₁ new T U V →
    IsExpansionAsked w l c₂ new most u m x S T U V
s_asked {w = w} {l = l} {c = c} {c₁ = c₁} {c₂ = c₂} {old = old} {r₁ = r₁} {new = new} {u = u} {m = m} {x = x} {S = S} {T = T} {U = U} {V = V} h ok grow a b =
    let k = h.under in
    let fm : IsWellFormed m = k.fine_at in
    let has : HasForm w m T = record { stated = S; first = a.first; second = a.second; typed = a.typed; formed = a.formed } in
    let one : SameForm h.has has = same_form w m h.type T h.has has in
    let sorted : HasForm w T (sort h.level) = record {
      stated = h.sorted.stated;
      first = h.sorted.first;
      second = h.sorted.second;
      typed = subst (λ z. IsAnswered w (infer z) h.sorted.stated h.sorted.first) one.form h.sorted.typed;
      formed = h.sorted.formed;
    } in
    let own : HasForm w T V = record { stated = U; first = b.first; second = b.second; typed = b.typed; formed = b.formed } in
    let two : SameForm sorted own = same_form w T (sort h.level) V sorted own in
    let sS : IsShapedAnswer (infer m) S = shaped_answer w ok (infer m) S a.first fm a.typed in
    let sT : IsShapedAnswer (whnf S) T = shaped_answer w ok (whnf S) T a.second sS.0.1 a.formed in
    let sU : IsShapedAnswer (infer T) U = shaped_answer w ok (infer T) U b.first sT.0.1 b.typed in
    let type_is : structure_type h.structure ≡ T = h.type_is ∙ one.form in
    let fx : IsWellFormed x = subst IsWellFormed h.value_is (expanded_fine h.structure m (subst IsWellFormed (sym type_is) sT.0.1) fm) in
    let reach : Claim = reduces (on_major k.R k.first) (on_major k.R m) in
    let p₁ : IsPartIn w c₁ r₁ (reduces S T ∷ types m S ∷ reach ∷ []) (k.spent + (a.first + a.second)) = a.asks fm sS.0.1 (reach ∷ []) k.spent k.part in
    let n : ℕ = k.spent + (a.first + a.second) + (b.first + b.second) in
    let all : List Claim = reduces U V ∷ types T U ∷ reduces S T ∷ types m S ∷ reach ∷ [] in
    let p₂ : IsPartIn w c₂ new all n = b.asks sT.0.1 sU.0.1 (reduces S T ∷ types m S ∷ reach ∷ []) (k.spent + (a.first + a.second)) p₁ in
    let p₃ : IsPartIn w c₂ new (reduces U (sort h.level) ∷ types T U ∷ reduces S T ∷ types m S ∷ reach ∷ []) n = subst (λ z. IsPartIn w c₂ new (reduces U z ∷ types T U ∷ reduces S T ∷ types m S ∷ reach ∷ []) n) (sym two.form) p₂ in
    let paid : k.spent + h.beside + k.second < k.cost = k.paid in
    let beside : h.beside ≡ h.has.first + (h.has.second + (h.sorted.first + h.sorted.second)) = h.beside_is in
    let c1 : h.has.first ≡ a.first = one.first in
    let c2 : h.has.second ≡ a.second = one.second in
    let c3 : sorted.first ≡ b.first = two.first in
    let c4 : sorted.second ≡ b.second = two.second in
    let cs : List Claim = types T U ∷ reduces S T ∷ types m S ∷ reach ∷ [] in
    let last : Claim = reduces U (sort h.level) in
    let m1 = first (types m S) (reach ∷ []) in
    let m2 = behind (reduces S T) (types m S ∷ reach ∷ []) (types m S) m1 in
    let m3 = behind (types T U) (reduces S T ∷ types m S ∷ reach ∷ []) (types m S) m2 in
    let t1 = first (reduces S T) (types m S ∷ reach ∷ []) in
    let t2 = behind (types T U) (reduces S T ∷ types m S ∷ reach ∷ []) (reduces S T) t1 in
    let o1 = first (types T U) (reduces S T ∷ types m S ∷ reach ∷ []) in
    let r1 = behind (types m S) (reach ∷ []) reach (first reach []) in
    let r2 = behind (reduces S T) (types m S ∷ reach ∷ []) reach r1 in
    let r3 = behind (types T U) (reduces S T ∷ types m S ∷ reach ∷ []) reach r2 in
    record {
      level = h.level;
      under = record {
        R = k.R;
        e = k.e;
        first = k.first;
        rest = k.rest;
        redex = redex_grows grow l u k.R k.e k.first k.rest k.redex;
        e_is = k.e_is;
        value = k.value;
        cost = k.cost;
        answered = k.answered;
        within = k.within;
        fine = k.fine;
        fine_at = k.fine_at;
        spent = n;
        second = k.second;
        paid = omega arith;
        part = part_these w c₂ new (last ∷ cs) (reach ∷ []) n n (behind last cs reach r3, tt) (omega arith) p₃;
        facts = tt;
        runs = k.runs;
      };
      sort_is = sym two.form;
      stated = part_these w c₂ new (last ∷ cs) (expand_claims m S T U h.level) n n (behind last cs (types m S) m3, (behind last cs (reduces S T) t2, (behind last cs (types T U) o1, (first last cs, tt)))) (omega arith) p₃;
      reached = part_these w c₂ new (last ∷ cs) (reach ∷ expand_claims m S T U h.level) n n (behind last cs reach r3, (behind last cs (types m S) m3, (behind last cs (reduces S T) t2, (behind last cs (types T U) o1, (first last cs, tt))))) (omega arith) p₃;
      structure = h.structure;
      only = h.only;
      not_zero = h.not_zero;
      type_is = type_is;
      value_is = h.value_is;
      fine_made = fx;
    }

pub s_stated : {w : Place} {l : StoredLibrary} {c : Contents} {old : Row} {most : ℕ} {u : Redex} {m x S T U V : Tree} (d : Contents) (mid new : Row) (h : IsExpansionAsked w l c old most u m x S T U V) → Extends c d →
    ((R : RecApp w) (f : Tree) (n : Level) → V ≡ sort n → IsTree c u.reached (on_major R f) → IsTree c u.front (apply (const R.name R.levels) R.front) →
    StepHolds w (reduction expand_rule (on_major R m) (on_major R x) (expand_claims m S T U n)) →
    States w d old mid (expand_claims m S T U n) (reduces (on_major R m) (on_major R x)) × Chains d mid new (on_major R f) (on_major R m) (on_major R x)) →
    IsUnderWay w l d new most u x (at_ctor (app_at w (head x) (args x))) 0
s_stated {w = w} {l = l} {c = c} {old = old} {u = u} {m = m} {x = x} {S = S} {T = T} {U = U} d mid new h grow states =
    let k = h.under in
    let n : Level = h.level in
    let cs : List Claim = expand_claims m S T U n in
    let a : Tree = on_major k.R k.first in
    let b : Tree = on_major k.R m in
    let z : Tree = on_major k.R x in
    let fa : IsWellFormed a = (well_formed_of_apply a k.rest (subst IsWellFormed (sym k.e_is) k.fine)).0 in
    let fz : IsWellFormed z = (k.R.fine, h.fine_made) in
    let holds₀ = (major_steps w).expand k.R h.structure m S U n h.only h.not_zero k.fine_at (subst IsWellFormed (sym h.value_is) h.fine_made) in
    let holds₁ : StepHolds w (reduction expand_rule b (on_major k.R (expanded h.structure m)) (expand_claims m S T U n)) = subst (λ y. StepHolds w (reduction expand_rule b (on_major k.R (expanded h.structure m)) (expand_claims m S y U n))) h.type_is holds₀ in
    let holds : StepHolds w (reduction expand_rule b z cs) = subst (λ y. StepHolds w (reduction expand_rule b (on_major k.R y) cs)) h.value_is holds₁ in
    let both = states k.R k.first n h.sort_is k.redex.reached_is k.redex.front_is holds in
    let p₀ : IsPartIn w d old (reduces a b ∷ cs) k.spent = part_stays w c d grow old (reduces a b ∷ cs) k.spent h.reached in
    let p₁ : IsPartIn w d mid (reduces b z ∷ reduces a b ∷ cs) k.spent = both.0 (reduces a b ∷ cs) k.spent (are_behind (reduces a b) cs cs (all_of cs)) p₀ in
    let p₂ : IsPartIn w d new (reduces a z ∷ reduces b z ∷ reduces a b ∷ cs) k.spent =
    both.1.states w fa fz (reduces b z ∷ reduces a b ∷ cs) k.spent (behind (reduces b z) (reduces a b ∷ cs) (reduces a b) (first (reduces a b) cs), (first (reduces b z) (reduces a b ∷ cs), tt)) p₁ in
    record {
      R = k.R;
      e = k.e;
      first = k.first;
      rest = k.rest;
      redex = redex_grows grow l u k.R k.e k.first k.rest k.redex;
      e_is = k.e_is;
      value = k.value;
      cost = k.cost;
      answered = k.answered;
      within = k.within;
      fine = k.fine;
      fine_at = h.fine_made;
      spent = k.spent;
      second = k.second;
      paid = k.paid;
      part = part_these w d new (reduces a z ∷ reduces b z ∷ reduces a b ∷ cs) (reduces a z ∷ []) k.spent k.spent (first (reduces a z) (reduces b z ∷ reduces a b ∷ cs), tt) (omega arith) p₂;
      facts = tt;
      runs = k.runs;
    }

-- what is asked for is answered
pub s_type_within : {w : Place} {l : StoredLibrary} {c : Contents} {r : Row} {most : ℕ} {u : Redex} {m x : Tree} {s : Stage} → IsExpanded w l c r most u m x s → IsTypedWithin w m most
s_type_within h =
    let paid : h.under.spent + h.beside + h.under.second < h.under.cost = h.under.paid in
    let beside : h.beside ≡ h.has.first + (h.has.second + (h.sorted.first + h.sorted.second)) = h.beside_is in
    let within = h.under.within in
    record { form = h.type; has = h.has; first_within = omega arith; second_within = omega arith }

pub s_sort_within : {w : Place} {l : StoredLibrary} {c : Contents} {r : Row} {most : ℕ} {u : Redex} {m x S T : Tree} {s : Stage} (h : IsExpanded w l c r most u m x s) (a b : ℕ) → IsAnswered w (infer m) S a → IsAnswered w (whnf S) T b → IsTypedWithin w T most
s_sort_within {w = w} {m = m} {S = S} {T = T} h a b ha hb =
    let paid : h.under.spent + h.beside + h.under.second < h.under.cost = h.under.paid in
    let beside : h.beside ≡ h.has.first + (h.has.second + (h.sorted.first + h.sorted.second)) = h.beside_is in
    let within = h.under.within in
    let one : SameForm h.has (record { stated = S; first = a; second = b; typed = ha; formed = hb }) = same_form w m h.type T h.has (record { stated = S; first = a; second = b; typed = ha; formed = hb }) in
    record {
      form = sort h.level;
      has = record {
        stated = h.sorted.stated;
        first = h.sorted.first;
        second = h.sorted.second;
        typed = subst (λ z. IsAnswered w (infer z) h.sorted.stated h.sorted.first) one.form h.sorted.typed;
        formed = h.sorted.formed;
      };
      first_within = omega arith;
      second_within = omega arith;
    }
