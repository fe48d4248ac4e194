-- A recursor on a constructor, by the rule for it.
use Rattle.std.proofs.Common.{ℕ, ◌≡◌, ◌<◌, ◌+◌, inl, inr, Bool, true, false, ◌&&◌, nat_eq, List, [], ◌∷◌, length, map, take, drop, Option, Some, None, refl, sym, subst, ap, ◌∙◌, arith, if◌then◌else◌}
use Rattle.std.specs.Prelude.{All}
use Rattle.std.proofs.lemmas.Bool.Decides.{nat_tests}
use Rattle.lk_tree.specs.Tree.{Name, Level, Tree, const}
use Rattle.lk_tree.specs.Levels.{put_levels}
use Rattle.lk_tree.specs.Mentions.{same_name}
use Rattle.lk_tree.specs.Spine.{apply}
use Rattle.lk_tree.specs.WellFormed.{IsWellFormed, AllWellFormed, IsStated}
use Rattle.lk_tree.specs.declared.rule.Rule.{Rule}
use Rattle.lk_tree.proofs.Lists.{fine_take, fine_drop}
use Rattle.lk_tree.proofs.Spines.{fine_apply, well_formed_of_apply}
use Rattle.lk_tree.proofs.Within.{fine_put_levels}
use Rattle.lk_rulebook.specs.Place.{Place, Entry, Recursor, RecRule, a_rec}
use Rattle.lk_rulebook.specs.WellStated.{WellStated, KindStated, RulesStated}
use Rattle.lk_rulebook.specs.Structures.{RecApp, on_major, HasRule, rule_result, before_indices, IsRuleOf, ctor_app}
use Rattle.lk_rulebook.specs.Structures as book
use Rattle.lk_rulebook.specs.Claims.{Claim, reduces}
use Rattle.lk_claims.proofs.Facts.{same_self}
use Rattle.lk_claims.proofs.Pieces.{same_name_right, Some_inj}
use Rattle.lk_questions.specs.Query.{core}
use Rattle.lk_questions.specs.Program.{Program, done, asked, ◌>>=◌}
use Rattle.lk_questions.specs.Steps.{given, is_same_tree}
use Rattle.lk_questions.specs.Iota.{CtorApp, fitting_rule, by_rule}
use Rattle.lk_written.specs.Line.{iota_rule, head_rule}
use Rattle.lk_store.specs.Contents.{Contents, Extends, IsTree, tree_at}
use Rattle.lk_subst.specs.Numbers.{trees-steady}
use Rattle.lk_spine.specs.Reading.{AreTrees}
use Rattle.lk_env.specs.StoredLibrary.{StoredLibrary}
use Rattle.lk_step.specs.declared.step.Row.{Row}
use Rattle.lk_step.specs.Steps.{reduction, StepHolds}
use Rattle.lk_step.specs.Rows.{IsAnswered}
use Rattle.lk_step.specs.Runs.{Runs, AreOne}
use Rattle.lk_step.specs.Shaped.{IsShapedAnswer}
use Rattle.lk_step.specs.Told.{IsAnsweredWithin}
use Rattle.lk_step.specs.Parts.{IsPartIn, States, Chains, IsWhole, FollowsCore}
use Rattle.lk_step.proofs.Runs.{one_answer}
use Rattle.lk_step.proofs.Shapes.{shaped_answer}
use Rattle.lk_step.proofs.ReductionSteps.{reduction_steps}
use Rattle.lk_step.proofs.Parts.{first, behind}
use Rattle.lk_step.proofs.PartsIn.{part_these, part_stays, part_whole, apart}
use Rattle.lk_derive_iota.specs.declared.redexes.Redex.{Redex}
use Rattle.lk_derive_iota.specs.Stages.{Stage, at_ctor, at_rule, program_of, IsUnderWay, IsReduced, IsBefore, IsFitting}
use Rattle.lk_derive_iota.proofs.Growing.{move_on, tree_grows, trees_grow}
use Rattle.lk_derive_iota.proofs.Running.{runs_asked}

both : (a b : Bool) → (a && b) ≡ true → (a ≡ true) × (b ≡ true)
both true true h = (refl, refl)
both true false h = absurd cc
both false b h = absurd cc

-- a rule for c whose fields, after p parameters, make n arguments
record IsFor (rs : List RecRule) (c : Name) (p n : ℕ) (rule : RecRule) : Type 0 where
  listed : IsRuleOf rule rs
  for_ctor : rule.ctor ≡ c
  fits : n ≡ p + rule.fields

fitting_at : (r : RecRule) (rs : List RecRule) (c : Name) (p n : ℕ) (rule : RecRule) → (fitting_rule rs c p n ≡ Some rule → IsFor rs c p n rule) →
    (b : Bool) → (same_name r.ctor c && nat_eq n (p + r.fields)) ≡ b → (if b then Some r else fitting_rule rs c p n) ≡ Some rule → IsFor (r ∷ rs) c p n rule
fitting_at r rs c p n rule h true t e =
    let i : r ≡ rule = Some_inj e in
    let u : (same_name r.ctor c ≡ true) × (nat_eq n (p + r.fields) ≡ true) = both (same_name r.ctor c) (nat_eq n (p + r.fields)) t in
    let v : nat_eq n (p + r.fields) ≡ true = u.1 in
    let f : n ≡ p + r.fields = grind (arith, nat_tests) in
    record { listed = inl i; for_ctor = rw (← i) (same_name_right r.ctor c u.0); fits = rw (← i) f }
fitting_at r rs c p n rule h false t e = let f : IsFor rs c p n rule = h e in record { listed = inr f.listed; for_ctor = f.for_ctor; fits = f.fits }

fitting : (rs : List RecRule) (c : Name) (p n : ℕ) (rule : RecRule) → fitting_rule rs c p n ≡ Some rule → IsFor rs c p n rule
fitting [] c p n rule e = absurd cc
fitting (r ∷ rs) c p n rule e = fitting_at r rs c p n rule (fitting rs c p n rule) (same_name r.ctor c && nat_eq n (p + r.fields)) refl e

rule_stated : (rs : List RecRule) (rule : RecRule) → RulesStated rs → IsRuleOf rule rs → IsStated rule.value
rule_stated [] rule s m = absurd m
rule_stated (r ∷ rs) rule s (inl e) = rw (← e) s.0
rule_stated (r ∷ rs) rule s (inr m) = rule_stated rs rule s.1 m

rules_of : (g : Entry) (r : Recursor) → g.kind ≡ a_rec r → KindStated g.kind → RulesStated r.rules
rules_of g r e s = let t : KindStated (a_rec r) = rw e at s in t

given_run : (w : Place) (b : Bool) (r : Rule) (p : Program Tree) (k : Tree → Program Tree) (v : Tree) (n : ℕ) → Runs w (given b r p >>= k) v n → (b ≡ true) × Runs w (p >>= k) v n
given_run w true r p k v n h = (refl, h)
given_run w false r p k v n h = absurd h

result_fine : (w : Place) → WellStated w → (R : RecApp w) (c : book.CtorApp w) (h : HasRule R c) → IsWellFormed (ctor_app c) → IsWellFormed (rule_result R c h)
result_fine w ok R c h fc =
    let s : IsStated h.rule.value = rule_stated R.recursor.rules h.rule (rules_of R.entry R.recursor R.kind (ok R.name R.entry R.given).1) h.is_rule in
    let v : Tree = put_levels R.entry.levels R.levels h.rule.value in
    let n : ℕ = before_indices R.recursor in
    let ffront : AllWellFormed R.front = (well_formed_of_apply (const R.name R.levels) R.front R.fine).1 in
    let fargs : AllWellFormed c.args = (well_formed_of_apply (const c.name c.levels) c.args fc).1 in
    let fv : IsWellFormed v = fine_put_levels R.entry.levels R.levels 0 h.rule.value s.0 in
    fine_apply (apply v (take n R.front)) (drop c.ctor.parameters c.args) (fine_apply v (take n R.front) fv (fine_take n R.front ffront)) (fine_drop c.ctor.parameters c.args fargs)

-- what the rule makes of it
abbrev pub made_by : {w : Place} → RecApp w → RecRule → List Tree → Tree
made_by R rule fields = apply (apply (put_levels R.entry.levels R.levels rule.value) (take (before_indices R.recursor) R.front)) fields

-- it is made of the rule's value, one list of arguments after another
pub right_made : {w : Place} (R : RecApp w) (rule : RecRule) (c d₀ d₁ : Contents) → Extends c d₀ → Extends c d₁ → (ls : List Level) → ls ≡ R.levels → (front shared v : Tree) (xs ys fields : List ℕ) → front ≡ put_levels R.entry.levels ls rule.value → ys ≡ xs →
    AreTrees c xs (take (before_indices R.recursor) R.front) → All (λ e. e < length c.trees) fields → shared ≡ apply front (map (tree_at d₀) ys) → v ≡ apply shared (map (tree_at d₁) fields) → v ≡ made_by R rule (map (tree_at c) fields)
right_made R rule c d₀ d₁ x y ls e front shared v xs ys fields f i a k s h =
    let zs : List Tree = map (tree_at c) fields in
    let one : shared ≡ apply front (take (before_indices R.recursor) R.front) = s ∙ ap (apply front) (ap (map (tree_at d₀)) i ∙ trees-steady c d₀ xs x a.known ∙ a.are) in
    h ∙ ap (apply shared) (trees-steady c d₁ fields y k) ∙ ap (λ z. apply z zs) one
    ∙ ap (λ z. apply (apply z (take (before_indices R.recursor) R.front)) zs) (f ∙ ap (λ z. put_levels R.entry.levels z rule.value) e)

-- the run by the rule
record RunOf (w : Place) (R : RecApp w) (rest : List Tree) (b : CtorApp) (rule : RecRule) (v : Tree) (n : ℕ) : Type 0 where
  levels_are : length R.levels ≡ length R.entry.levels
  runs : Runs w (asked (core (apply (made_by R rule (drop b.ctor.parameters b.args)) rest))) v n

run_of : (w : Place) (R : RecApp w) (e : Tree) (rest : List Tree) (b : CtorApp) (rule : RecRule) (v : Tree) (n : ℕ) → Runs w (by_rule e R.entry R.levels R.recursor R.front rest b (Some rule)) v n → RunOf w R rest b rule v n
run_of w R e rest b rule v n h =
    let test : Bool = nat_eq (length R.levels) (length R.entry.levels) in
    let g : (test ≡ true) × Runs w (asked (core (apply (made_by R rule (drop b.ctor.parameters b.args)) rest))) v n =
    given_run w test _ (done (put_levels R.entry.levels R.levels rule.value)) (λ y. asked (core (apply (apply (apply y (take (before_indices R.recursor) R.front)) (drop b.ctor.parameters b.args)) rest))) v n h in
    let t : nat_eq (length R.levels) (length R.entry.levels) ≡ true = g.0 in
    record { levels_are = grind (arith, nat_tests); runs = g.1 }

run_by : {w : Place} {l : StoredLibrary} {c : Contents} {r : Row} {most : ℕ} {u : Redex} {m : Tree} {place : ℕ} {rule : RecRule} {fields : List Tree} (h : IsFitting w l c r most u m place rule fields) →
    RunOf w h.under.R h.under.rest h.b rule h.under.value h.under.second
run_by {w = w} {rule = rule} h =
    let k = h.under in
    run_of w k.R k.e k.rest h.b rule k.value k.second (subst (λ o. Runs w (by_rule k.e k.R.entry k.R.levels k.R.recursor k.R.front k.rest h.b o) k.value k.second) h.fits k.runs)

-- the levels are as many as they have to be
pub levels_fit : {w : Place} {l : StoredLibrary} {c : Contents} {r : Row} {most : ℕ} {u : Redex} {m : Tree} {place : ℕ} {rule : RecRule} {fields : List Tree} (h : IsFitting w l c r most u m place rule fields) →
    nat_eq (length h.under.R.levels) (length h.under.R.entry.levels) ≡ false → ⊥
levels_fit h e = let one = (run_by h).levels_are in let no : ⊥ = grind (arith, nat_tests) in no

-- it reduces to what the rule makes
pub ruled : {w : Place} {l : StoredLibrary} {c : Contents} {r : Row} {most : ℕ} {u : Redex} {m : Tree} {place : ℕ} {rule : RecRule} {fields : List Tree} (h : IsFitting w l c r most u m place rule fields) → WellStated w → (v : Tree) →
    v ≡ made_by h.under.R rule fields → IsUnderWay w l c r most u m (at_rule place m v) 0
ruled {w = w} {m = m} {place = place} {rule = rule} {fields = fields} h ok v is =
    let k = h.under in
    let R : RecApp w = k.R in
    let b : CtorApp = h.b in
    let run : RunOf w R k.rest b rule k.value k.second = run_by h in
    let C : book.CtorApp w = record { name = b.name; levels = b.levels; args = b.args; entry = b.entry; block = b.block; ind = b.ind; ctor = b.ctor; given = h.built.given; kind = h.built.kind } in
    let f : IsFor R.recursor.rules b.name b.ctor.parameters (length b.args) rule = fitting R.recursor.rules b.name b.ctor.parameters (length b.args) rule h.fits in
    let has : HasRule R C = record { rule = rule; is_rule = f.listed; for_ctor = f.for_ctor; levels_are = run.levels_are; args_are = f.fits } in
    let fc : IsWellFormed (ctor_app C) = subst IsWellFormed h.built.tree_is k.fine_at in
    let fr : IsWellFormed (rule_result R C has) = result_fine w ok R C has fc in
    let same : rule_result R C has ≡ v = ap (made_by R rule) h.fields_are ∙ sym is in
    let holds : StepHolds w (reduction (iota_rule place) (on_major R (ctor_app C)) (rule_result R C has) []) = (reduction_steps w).iota R C has place h.placed fc fr in
    let there : StepHolds w (reduction (iota_rule place) (on_major R m) v []) =
    subst (λ z. StepHolds w (reduction (iota_rule place) (on_major R m) z [])) same (subst (λ z. StepHolds w (reduction (iota_rule place) (on_major R z) (rule_result R C has) [])) (sym h.built.tree_is) holds) in
    move_on k (at_rule place m v) (there, subst IsWellFormed same fr) (subst (λ z. Runs w (asked (core (apply z k.rest))) k.value k.second) same run.runs)

-- no rule fits, or there is no constructor: it is its own Core
pub stays_whole : {w : Place} {l : StoredLibrary} {c : Contents} {r : Row} {most : ℕ} {u : Redex} {m : Tree} {s : Stage} {b : ℕ} (h : IsUnderWay w l c r most u m s b) → h.value ≡ h.e → IsWhole w c (core (tree_at c u.application)) r
stays_whole {w = w} {c = c} {r = r} {u = u} {m = m} {b = b} h same =
    let paid : h.spent + b + h.second < h.cost = h.paid in
    let claim : Claim = reduces (on_major h.R h.first) (on_major h.R m) in
    subst (λ z. IsWhole w c (core z) r) (sym h.redex.application_is.is)
    (part_whole w c r (core h.e) h.e h.cost h.spent [] (subst (λ z. IsAnswered w (core h.e) z h.cost) same h.answered) tt (omega arith)
    (part_these w c r (claim ∷ []) (reduces h.e h.e ∷ []) h.spent h.spent (inl (same_self h.e), tt) (omega arith) h.part))

pub none_stays : {w : Place} {l : StoredLibrary} {c : Contents} {r : Row} {most : ℕ} {u : Redex} {m : Tree} {b : ℕ} (o : Option CtorApp) → o ≡ None → (h : IsUnderWay w l c r most u m (at_ctor o) b) → IsWhole w c (core (tree_at c u.application)) r
none_stays {w = w} o e h = stays_whole h (sym (subst (λ z. Runs w (program_of h.R h.e h.first h.rest (at_ctor z)) h.value h.second) e h.runs).0)

pub no_rule_stays : {w : Place} {l : StoredLibrary} {c : Contents} {r : Row} {most : ℕ} {u : Redex} {m : Tree} {b : ℕ} (o : Option CtorApp) (x : CtorApp) → o ≡ Some x → (h : IsUnderWay w l c r most u m (at_ctor o) b) →
    fitting_rule h.R.recursor.rules x.name x.ctor.parameters (length x.args) ≡ None → IsWhole w c (core (tree_at c u.application)) r
no_rule_stays {w = w} o x e h none =
    let run = subst (λ z. Runs w (program_of h.R h.e h.first h.rest (at_ctor z)) h.value h.second) e h.runs in
    stays_whole h (sym (subst (λ z. Runs w (by_rule h.e h.R.entry h.R.levels h.R.recursor h.R.front h.rest x z) h.value h.second) none run).0)

-- the step by the rule is stated, and joined to those before it
pub rule_reduced : {w : Place} {l : StoredLibrary} {c : Contents} {old : Row} {most : ℕ} {u : Redex} {m : Tree} {i : ℕ} {v : Tree} (d : Contents) (mid new : Row) (h : IsUnderWay w l c old most u m (at_rule i m v) 0) → Extends c d →
    ((R : RecApp w) (f : Tree) → IsTree c u.reached (on_major R f) → IsTree c u.front (apply (const R.name R.levels) R.front) → StepHolds w (reduction (iota_rule i) (on_major R m) v []) →
    States w d old mid [] (reduces (on_major R m) v) × Chains d mid new (on_major R f) (on_major R m) v) → IsReduced w d new most u v
rule_reduced {w = w} {c = c} {old = old} {u = u} {m = m} {v = v} d mid new h x states =
    let a : Tree = on_major h.R h.first in
    let b : Tree = on_major h.R m in
    let both = states h.R h.first h.redex.reached_is h.redex.front_is h.facts.0 in
    let p : IsPartIn w d mid (reduces b v ∷ reduces a b ∷ []) h.spent = both.0 (reduces a b ∷ []) h.spent tt (part_stays w c d x old (reduces a b ∷ []) h.spent h.part) in
    let fa : IsWellFormed a = (well_formed_of_apply a h.rest (subst IsWellFormed (sym h.e_is) h.fine)).0 in
    let q : IsPartIn w d new (reduces a v ∷ reduces b v ∷ reduces a b ∷ []) h.spent =
    both.1.states w fa h.facts.1 (reduces b v ∷ reduces a b ∷ []) h.spent (behind (reduces b v) (reduces a b ∷ []) (reduces a b) (first (reduces a b) []), (first (reduces b v) (reduces a b ∷ []), tt)) p in
    let paid : h.spent + 0 + h.second < h.cost = h.paid in
    record {
      e = h.e;
      from = a;
      rest = h.rest;
      application_is = tree_grows x u.application h.e h.redex.application_is;
      reached_is = tree_grows x u.reached a h.redex.reached_is;
      behind_are = trees_grow x u.behind.items h.rest h.redex.behind_are;
      e_is = h.e_is;
      value = h.value;
      cost = h.cost;
      answered = h.answered;
      within = h.within;
      fine = h.fine;
      fine_at = h.facts.1;
      spent = h.spent;
      second = h.second;
      paid = omega arith;
      part = part_these w d new (reduces a v ∷ reduces b v ∷ reduces a b ∷ []) (reduces a v ∷ []) h.spent h.spent (first (reduces a v) (reduces b v ∷ reduces a b ∷ []), tt) (omega arith) q;
      next = runs_asked w (core (apply v h.rest)) h.value h.second h.runs;
    }

-- with what comes behind
before : {w : Place} {c : Contents} {old : Row} {most : ℕ} {u : Redex} {v : Tree} (new : Row) (h : IsReduced w c old most u v) → IsPartIn w c new (reduces h.e (apply v h.rest) ∷ []) h.spent → IsBefore w c new most u (apply v h.rest)
before {v = v} new h p =
    let fr = (well_formed_of_apply h.from h.rest (subst IsWellFormed (sym h.e_is) h.fine)).1 in
    record {
      e = h.e;
      application_is = h.application_is;
      value = h.value;
      cost = h.cost;
      answered = h.answered;
      within = h.within;
      fine = h.fine;
      fine_at = fine_apply v h.rest h.fine_at fr;
      spent = h.spent;
      second = h.second;
      paid = h.paid;
      part = p;
      next = h.next;
    }

pub before_none : {w : Place} {c : Contents} {r : Row} {most : ℕ} {u : Redex} {v : Tree} (h : IsReduced w c r most u v) → u.behind.items ≡ [] → IsBefore w c r most u (apply v h.rest)
before_none {w = w} {c = c} {r = r} {v = v} h none =
    let no : h.rest ≡ [] = sym h.behind_are.are ∙ ap (map (tree_at c)) none in
    let same : h.from ≡ h.e = sym (ap (apply h.from) no) ∙ h.e_is in
    before r h (subst (λ z. IsPartIn w c r (reduces h.e z ∷ []) h.spent) (sym (ap (apply v) no)) (subst (λ z. IsPartIn w c r (reduces z v ∷ []) h.spent) same h.part))

pub before_one : {w : Place} {c : Contents} {r : Row} {most : ℕ} {u : Redex} {v : Tree} (h : IsReduced w c r most u v) → is_same_tree h.e (apply v h.rest) ≡ true → IsBefore w c r most u (apply v h.rest)
before_one {w = w} {c = c} {r = r} {v = v} h t =
    before r h (part_these w c r (reduces h.from v ∷ []) (reduces h.e (apply v h.rest) ∷ []) h.spent h.spent (inl t, tt) (omega arith) h.part)

head_holds : (w : Place) (f g : Tree) (xs : List Tree) → (xs ≡ [] → ⊥) → (f ≡ g → ⊥) → IsWellFormed (apply f xs) → IsWellFormed (apply g xs) → StepHolds w (reduction head_rule (apply f xs) (apply g xs) (reduces f g ∷ []))
head_holds w f g [] some other ff fg = absurd (some refl)
head_holds w f g (x ∷ xs) some other ff fg = (reduction_steps w).head f g x xs other ff fg

pub before_stated : {w : Place} {c : Contents} {old : Row} {most : ℕ} {u : Redex} {v : Tree} (new : Row) (h : IsReduced w c old most u v) → (u.behind.items ≡ [] → ⊥) → is_same_tree h.e (apply v h.rest) ≡ false →
    (StepHolds w (reduction head_rule h.e (apply v h.rest) (reduces h.from v ∷ [])) → States w c old new (reduces h.from v ∷ []) (reduces h.e (apply v h.rest))) → IsBefore w c new most u (apply v h.rest)
before_stated {w = w} {c = c} {old = old} {u = u} {v = v} new h some t states =
    let fr : AllWellFormed h.rest = (well_formed_of_apply h.from h.rest (subst IsWellFormed (sym h.e_is) h.fine)).1 in
    let full : h.rest ≡ [] → ⊥ = λ e. some (no_numbers u.behind.items (h.behind_are.are ∙ e)) in
    let other : h.from ≡ v → ⊥ = λ e. apart h.e (apply v h.rest) t (sym h.e_is ∙ ap (λ z. apply z h.rest) e) in
    let holds : StepHolds w (reduction head_rule (apply h.from h.rest) (apply v h.rest) (reduces h.from v ∷ [])) =
    head_holds w h.from v h.rest full other (subst IsWellFormed (sym h.e_is) h.fine) (fine_apply v h.rest h.fine_at fr) in
    let s : States w c old new (reduces h.from v ∷ []) (reduces h.e (apply v h.rest)) = states (subst (λ z. StepHolds w (reduction head_rule z (apply v h.rest) (reduces h.from v ∷ []))) h.e_is holds) in
    let p : IsPartIn w c new (reduces h.e (apply v h.rest) ∷ reduces h.from v ∷ []) h.spent = s (reduces h.from v ∷ []) h.spent (first (reduces h.from v) [], tt) h.part in
    before new h (part_these w c new (reduces h.e (apply v h.rest) ∷ reduces h.from v ∷ []) (reduces h.e (apply v h.rest) ∷ []) h.spent h.spent (first (reduces h.e (apply v h.rest)) (reduces h.from v ∷ []), tt) (omega arith) p)
  where
    no_numbers : (ns : List ℕ) → map (tree_at c) ns ≡ [] → ns ≡ []
    no_numbers [] e = refl
    no_numbers (n ∷ ns) e = absurd cc

-- Core of what was reached is asked for
pub before_within : {w : Place} {c : Contents} {r : Row} {most : ℕ} {u : Redex} {v : Tree} → IsBefore w c r most u v → IsAnsweredWithin w (core v) most
before_within h =
    let paid : h.spent + h.second < h.cost = h.paid in
    let within = h.within in
    (h.value, h.second, h.next, omega arith)

pub before_whole : {w : Place} {c : Contents} {old : Row} {most : ℕ} {u : Redex} {v : Tree} (d : Contents) (new : Row) (h : IsBefore w c old most u v) → WellStated w → FollowsCore w c d old new h.e v → IsWhole w d (core h.e) new
before_whole {w = w} {c = c} {v = v} d new h ok g =
    let one : AreOne g.value h.value g.cost h.second = one_answer w (core v) g.value h.value g.cost h.second g.answered h.next in
    let cost : g.cost ≡ h.second = one.cost in
    let paid : h.spent + h.second < h.cost = h.paid in
    let shape : IsShapedAnswer (core v) g.value = shaped_answer w ok (core v) g.value g.cost h.fine_at g.answered in
    part_whole w d new (core h.e) g.value h.cost (h.spent + g.cost) [] (subst (λ z. IsAnswered w (core h.e) z h.cost) (sym one.answer) h.answered) tt (omega arith)
    (g.goes h.fine h.fine_at shape.0.1 (reduces h.e v ∷ []) h.spent (first (reduces h.e v) []) h.part)
