-- The expansion of a major premise, case by case.
use Rattle.std.proofs.Common.{ℕ, ◌≡◌, ◌<◌, ◌+◌, Bool, true, false, ◌&&◌, nat_eq, List, [], ◌∷◌, ◌++◌, length, map, Option, Some, None, refl, sym, subst, ap, ◌∙◌, arith, if◌then◌else◌}
use Rattle.std.specs.Prelude.{Result, IfOk}
use Rattle.std.proofs.lemmas.Bool.Decides.{nat_tests}
use Rattle.lk_tree.specs.Tree.{Level, Tree, sort, const, app}
use Rattle.lk_tree.specs.Level.{is_zero_level}
use Rattle.lk_tree.specs.Spine.{apply, head, args}
use Rattle.lk_tree.proofs.Within.{apply_head_args}
use Rattle.lk_rulebook.specs.Place.{Place, Entry, BlockType, Ctor, a_ctor}
use Rattle.lk_rulebook.specs.WellStated.{WellStated}
use Rattle.lk_rulebook.specs.Structures.{RecApp, is_structure_like, projections}
use Rattle.lk_claims.proofs.Facts.{the_ctor, listed_of, same_name_levels}
use Rattle.lk_claims.proofs.Pieces.{halves}
use Rattle.lk_questions.specs.Query.{whnf, infer}
use Rattle.lk_questions.specs.Program.{Program, done, ask, ◌>>=◌}
use Rattle.lk_questions.specs.Steps.{as_sort}
use Rattle.lk_questions.specs.Iota.{CtorApp, ctor_app_by, levels_at, has_one_ctor, builds_structure, expanded, expand_at, iota_at_ctor}
use Rattle.lk_written_sound.proofs.MajorRules.{const_head, const_args}
use Rattle.lk_store.specs.Contents.{Contents, Extends, name_at, tree_at}
use Rattle.lk_env.specs.StoredLibrary.{StoredLibrary}
use Rattle.lk_mentions.specs.declared.structures.Structure.{Structure}
use Rattle.lk_mentions.specs.Structures.{is_alone, structure_in, IsStructureIf}
use Rattle.lk_constructor.specs.declared.constructor.AppliedConstructor.{AppliedConstructor}
use Rattle.lk_constructor.specs.Applied.{IsApplied, IsAppliedIf, IsKnownConstructor}
use Rattle.lk_constructor.specs.Looking.{app_at}
use Rattle.lk_step.specs.declared.step.Row.{Row}
use Rattle.lk_step.specs.Runs.{Runs}
use Rattle.lk_derive_iota.specs.declared.redexes.Redex.{Redex}
use Rattle.lk_derive_iota.specs.Only.{only_at, IsOnly}
use Rattle.lk_derive_iota.specs.Stages.{Stage, at_subject, at_ctor, by_structure, by_levels, program_of, IsUnderWay}
use Rattle.lk_derive_iota.specs.Taken.{HasForm, IsTypedWithin, IsExpanded}
use Rattle.lk_derive_iota.specs.Expanding.{sort_level, expansion_at, IsAtParent, IsOfParent, IsExpandedIf}
use Rattle.lk_derive_iota.proofs.Growing.{move, move_on, under_way_grows}
use Rattle.lk_derive_iota.proofs.Running.{subject_none, only_found, FormRun, form_run, form_within, form_run_at}
use Rattle.lk_derive_iota.proofs.Fitting.{some_applied}

-- whether the constructor builds a structure
alone_is : (cs : List Ctor) → has_one_ctor cs ≡ is_alone cs
alone_is [] = refl
alone_is (c ∷ []) = refl
alone_is (c ∷ d ∷ cs) = refl

builds_by : (b : CtorApp) → builds_structure b ≡ (is_alone b.ind.ctors && is_structure_like b.block b.ind b.ctor)
builds_by b = ap (λ (x : Bool). x && is_structure_like b.block b.ind b.ctor) (alone_is b.ind.ctors)

yes_by : (c : Contents) (s : Structure) (t : BlockType) (k : Ctor) (y : Bool) → IsStructureIf c (Some s) (if y then Some (t, k) else None) → y ≡ true
yes_by c s t k true h = refl
yes_by c s t k false h = absurd h

no_by : (c : Contents) (t : BlockType) (k : Ctor) (y : Bool) → IsStructureIf c None (if y then Some (t, k) else None) → y ≡ false
no_by c t k true h = absurd h
no_by c t k false h = refl

pub some_builds : (c : Contents) (s : Structure) (b : CtorApp) → b.entry.kind ≡ a_ctor b.block b.ind b.ctor → IsStructureIf c (Some s) (structure_in b.entry.kind) → builds_structure b ≡ true
some_builds c s b e h = builds_by b ∙ yes_by c s b.ind b.ctor (is_alone b.ind.ctors && is_structure_like b.block b.ind b.ctor) (subst (λ k. IsStructureIf c (Some s) (structure_in k)) e h)

pub none_builds : (c : Contents) (b : CtorApp) → b.entry.kind ≡ a_ctor b.block b.ind b.ctor → IsStructureIf c None (structure_in b.entry.kind) → builds_structure b ≡ false
none_builds c b e h = builds_by b ∙ no_by c b.ind b.ctor (is_alone b.ind.ctors && is_structure_like b.block b.ind b.ctor) (subst (λ k. IsStructureIf c None (structure_in k)) e h)

-- what comes behind the constructor
abbrev behind : {w : Place} → RecApp w → Tree → List Tree → Option CtorApp → Program Tree
behind R e rest c = iota_at_ctor e R.entry R.levels R.recursor R.front rest c

abbrev typed_then : {w : Place} → RecApp w → Tree → Tree → List Tree → Tree → CtorApp → Tree → Program Tree
typed_then R e f rest m b T = program_of R e f rest (by_levels m b T (levels_at b.ind.name (head T)))

abbrev by_zero : CtorApp → List Level → Tree → Tree → Level → Program (Option CtorApp)
by_zero b ks m T l = if is_zero_level l then done None else done (Some (expanded b ks m (args T)))

abbrev sorted_then : {w : Place} → RecApp w → Tree → List Tree → CtorApp → List Level → Tree → Tree → Tree → Program Tree
sorted_then R e rest b ks m T S = (as_sort S >>= by_zero b ks m T) >>= behind R e rest

abbrev asks_sort : CtorApp → List Level → Tree → Tree → Program (Option CtorApp)
asks_sort b ks m T = ask (infer T) (λ S. ask (whnf S) (λ V. as_sort V >>= by_zero b ks m T))

like_run : {w : Place} (R : RecApp w) (e f : Tree) (rest : List Tree) (m : Tree) (b : CtorApp) (v : Tree) (n : ℕ) → builds_structure b ≡ true → Runs w (program_of R e f rest (by_structure m (Some b))) v n → FormRun w m (typed_then R e f rest m b) v n
like_run {w = w} R e f rest m b v n like h =
    form_run w m (typed_then R e f rest m b) v n
    (subst (λ (y : Bool). Runs w ((if y then ask (infer m) (λ S. ask (whnf S) (λ T. expand_at b m T (levels_at b.ind.name (head T)))) else done None) >>= behind R e rest) v n) like h)

count_run : {w : Place} (R : RecApp w) (e f : Tree) (rest : List Tree) (m : Tree) (b : CtorApp) (T : Tree) (ks : List Level) (v : Tree) (n : ℕ) (y : Bool) → nat_eq (length (args T)) b.ctor.parameters ≡ y → Runs w (program_of R e f rest (by_levels m b T (Some ks))) v n →
    Runs w ((if y then asks_sort b ks m T else done None) >>= behind R e rest) v n
count_run {w = w} R e f rest m b T ks v n y is h = subst (λ (z : Bool). Runs w ((if z then asks_sort b ks m T else done None) >>= behind R e rest) v n) is h

not_sort : (w : Place) (S : Tree) (k : Level → Program (Option CtorApp)) (j : Option CtorApp → Program Tree) (v : Tree) (n : ℕ) → sort_level S ≡ None → Runs w ((as_sort S >>= k) >>= j) v n → ⊥
not_sort w (sort l) k j v n e h = absurd cc
not_sort w _ k j v n e h = h

-- the tree of the expansion is a constructor applied
app_there : (w : Place) (b : CtorApp) (ks : List Level) (xs : List Tree) → w.means b.name ≡ Some b.entry → b.entry.kind ≡ a_ctor b.block b.ind b.ctor →
    app_at w (const b.name ks) xs ≡ Some (record b { levels = ks; args = xs })
app_there w b ks xs m k =
    ap (λ (o : Option Entry). elim o [ Some g ↦ ctor_app_by b.name ks xs g g.kind | None ↦ None ]) m ∙ ap (ctor_app_by b.name ks xs b.entry) k

module _ {w : Place} {l : StoredLibrary} {c : Contents} {r : Row} {most : ℕ} {u : Redex} {m : Tree} where
  pub s_none : (h : IsUnderWay w l c r most u m (at_subject m) 0) → app_at w (head m) (args m) ≡ None → only_at w h.R.recursor.rules ≡ None → IsUnderWay w l c r most u m (at_ctor None) 0
  s_none h none only = move_on h (at_ctor None) tt (subst (λ o. Runs w (program_of h.R h.e h.first h.rest (by_structure m o)) h.value h.second) only (subject_none h.R h.e h.first h.rest h.value h.second m none h.runs))

  pub s_only : (h : IsUnderWay w l c r most u m (at_subject m) 0) → app_at w (head m) (args m) ≡ None → (k : AppliedConstructor) → IsAppliedIf c l [] (Some k) (only_at w h.R.recursor.rules) → IsAtParent w l c r most u m k
  s_only h none k a =
      let s = some_applied c l [] k (only_at w h.R.recursor.rules) a in
      record {
        b = s.0;
        is = s.2;
        under = move_on h (by_structure m (Some s.0)) (only_found w h.R.recursor s.0 s.1) (subst (λ o. Runs w (program_of h.R h.e h.first h.rest (by_structure m o)) h.value h.second) s.1
            (subject_none h.R h.e h.first h.rest h.value h.second m none h.runs));
      }

  pub s_plain : (k : AppliedConstructor) (h : IsAtParent w l c r most u m k) → builds_structure h.b ≡ false → IsUnderWay w l c r most u m (at_ctor None) 0
  s_plain k h other =
      let x = h.under in
      move_on x (at_ctor None) tt (subst (λ (y : Bool). Runs w ((if y then ask (infer m) (λ S. ask (whnf S) (λ T. expand_at h.b m T (levels_at h.b.ind.name (head T)))) else done None) >>= behind x.R x.e x.rest) x.value x.second) other x.runs)

  s_run : (k : AppliedConstructor) (h : IsAtParent w l c r most u m k) → builds_structure h.b ≡ true → FormRun w m (typed_then h.under.R h.under.e h.under.first h.under.rest m h.b) h.under.value h.under.second
  s_run k h like = let x = h.under in like_run x.R x.e x.first x.rest m h.b x.value x.second like x.runs

  pub s_within : (k : AppliedConstructor) (h : IsAtParent w l c r most u m k) → builds_structure h.b ≡ true → IsTypedWithin w m most
  s_within k h like =
      let paid : h.under.spent + 0 + h.under.second < h.under.cost = h.under.paid in
      let within = h.under.within in
      form_within w m _ h.under.value h.under.second most (omega arith) (s_run k h like)

  pub s_untyped : (k : AppliedConstructor) (h : IsAtParent w l c r most u m k) → builds_structure h.b ≡ true → (T : Tree) → HasForm w m T → levels_at h.b.ind.name (head T) ≡ None → IsUnderWay w l c r most u m (at_ctor None) 0
  s_untyped k h like T has none =
      let x = h.under in
      let run = form_run_at w m T has _ x.value x.second (s_run k h like) in
      let paid : x.spent + 0 + x.second < x.cost = x.paid in
      let spent : x.second ≡ has.first + (has.second + run.second) = run.paid in
      move x (at_ctor None) 0 run.second (omega arith) tt (subst (λ o. Runs w (program_of x.R x.e x.first x.rest (by_levels m h.b T o)) x.value run.second) none run.runs)

  pub s_of_type : (k : AppliedConstructor) (h : IsAtParent w l c r most u m k) → builds_structure h.b ≡ true → (T : Tree) → HasForm w m T → (ks : List Level) → levels_at h.b.ind.name (head T) ≡ Some ks → IsOfParent w l c r most u m k T ks
  s_of_type k h like T has ks some =
      let x = h.under in
      let run = form_run_at w m T has _ x.value x.second (s_run k h like) in
      let paid : x.spent + 0 + x.second < x.cost = x.paid in
      let spent : x.second ≡ has.first + (has.second + run.second) = run.paid in
      record {
        b = h.b;
        beside = has.first + has.second;
        is = h.is;
        under = move x (by_levels m h.b T (Some ks)) (has.first + has.second) run.second (omega arith) (x.facts, like, some)
            (subst (λ o. Runs w (program_of x.R x.e x.first x.rest (by_levels m h.b T o)) x.value run.second) some run.runs);
        has = has;
        beside_is = refl;
      }

  pub s_other_count : (k : AppliedConstructor) (T : Tree) (ks : List Level) (h : IsOfParent w l c r most u m k T ks) → nat_eq (length (args T)) h.b.ctor.parameters ≡ false → IsUnderWay w l c r most u m (at_ctor None) 0
  s_other_count k T ks h other =
      let x = h.under in
      let paid : x.spent + h.beside + x.second < x.cost = x.paid in
      move x (at_ctor None) 0 x.second (omega arith) tt (count_run x.R x.e x.first x.rest m h.b T ks x.value x.second false other x.runs)

  sort_run : (k : AppliedConstructor) (T : Tree) (ks : List Level) (h : IsOfParent w l c r most u m k T ks) → nat_eq (length (args T)) h.b.ctor.parameters ≡ true → FormRun w T (sorted_then h.under.R h.under.e h.under.rest h.b ks m T) h.under.value h.under.second
  sort_run k T ks h fits =
      let x = h.under in
      form_run w T (sorted_then x.R x.e x.rest h.b ks m T) x.value x.second (count_run x.R x.e x.first x.rest m h.b T ks x.value x.second true fits x.runs)

  pub sort_within : (k : AppliedConstructor) (T : Tree) (ks : List Level) (h : IsOfParent w l c r most u m k T ks) → nat_eq (length (args T)) h.b.ctor.parameters ≡ true → IsTypedWithin w T most
  sort_within k T ks h fits =
      let paid : h.under.spent + h.beside + h.under.second < h.under.cost = h.under.paid in
      let within = h.under.within in
      form_within w T _ h.under.value h.under.second most (omega arith) (sort_run k T ks h fits)

  pub sort_there : (k : AppliedConstructor) (T : Tree) (ks : List Level) (h : IsOfParent w l c r most u m k T ks) → nat_eq (length (args T)) h.b.ctor.parameters ≡ true → (S : Tree) → HasForm w T S → sort_level S ≡ None → ⊥
  sort_there k T ks h fits S has none =
      let run = form_run_at w T S has _ h.under.value h.under.second (sort_run k T ks h fits) in
      not_sort w S (by_zero h.b ks m T) (behind h.under.R h.under.e h.under.rest) h.under.value run.second none run.runs

  pub s_zero : (k : AppliedConstructor) (T : Tree) (ks : List Level) (h : IsOfParent w l c r most u m k T ks) → nat_eq (length (args T)) h.b.ctor.parameters ≡ true → (n : Level) → HasForm w T (sort n) → is_zero_level n ≡ true → IsUnderWay w l c r most u m (at_ctor None) 0
  s_zero k T ks h fits n has zero =
      let x = h.under in
      let run = form_run_at w T (sort n) has _ x.value x.second (sort_run k T ks h fits) in
      let paid : x.spent + h.beside + x.second < x.cost = x.paid in
      let spent : x.second ≡ has.first + (has.second + run.second) = run.paid in
      move x (at_ctor None) 0 run.second (omega arith) tt
      (subst (λ (y : Bool). Runs w ((if y then done None else done (Some (expanded h.b ks m (args T)))) >>= behind x.R x.e x.rest) x.value run.second) zero run.runs)

  pub s_expanded : WellStated w → (k : AppliedConstructor) (T : Tree) (ks : List Level) (h : IsOfParent w l c r most u m k T ks) → nat_eq (length (args T)) h.b.ctor.parameters ≡ true → (n : Level) → HasForm w T (sort n) → is_zero_level n ≡ false →
      (x : Tree) → x ≡ apply (const h.b.name ks) (args T ++ projections h.b.ind.name m 0 h.b.ctor.fields) → IsExpanded w l c r most u m x (at_ctor (app_at w (head x) (args x)))
  s_expanded ok k T ks h fits n has other x is =
      let y = h.under in
      let b : CtorApp = h.b in
      let xs : List Tree = args T ++ projections b.ind.name m 0 b.ctor.fields in
      let j : IsOnly w y.R.recursor b = y.facts.0 in
      let run = form_run_at w T (sort n) has _ y.value y.second (sort_run k T ks h fits) in
      let paid : y.spent + h.beside + y.second < y.cost = y.paid in
      let spent : y.second ≡ has.first + (has.second + run.second) = run.paid in
      let first : h.beside ≡ h.has.first + h.has.second = h.beside_is in
      let there = subst (λ (z : Bool). Runs w ((if z then done None else done (Some (expanded b ks m (args T)))) >>= behind y.R y.e y.rest) y.value run.second) other run.runs in
      let hx : head x ≡ const b.name ks = ap head is ∙ const_head b.name ks xs in
      let ax : args x ≡ xs = ap args is ∙ const_args b.name ks xs in
      let app : app_at w (head x) (args x) ≡ Some (expanded b ks m (args T)) = ap (λ z. app_at w z (args x)) hx ∙ ap (app_at w (const b.name ks)) ax ∙ app_there w b ks xs j.given j.kind in
      let like = halves (has_one_ctor b.ind.ctors) (is_structure_like b.block b.ind b.ctor) y.facts.1 in
      let count : length (args T) ≡ b.ctor.parameters = grind (arith, nat_tests) in
      let e : head T ≡ const b.ind.name ks = same_name_levels b.ind.name T ks (head T) refl y.facts.2 in
      let t : apply (const b.ind.name ks) (args T) ≡ T = rw e at (apply_head_args T) in
      record {
        type = T;
        level = n;
        beside = h.has.first + (h.has.second + (has.first + has.second));
        under = move y (at_ctor (app_at w (head x) (args x))) (h.has.first + (h.has.second + (has.first + has.second))) run.second (omega arith) tt
            (subst (λ o. Runs w (program_of y.R y.e y.first y.rest (at_ctor o)) y.value run.second) (sym app) there);
        has = h.has;
        sorted = has;
        beside_is = refl;
        structure = record {
          structure = record {
            ctor_name = b.name;
            entry = b.entry;
            block = b.block;
            ind = b.ind;
            ctor = b.ctor;
            given = j.given;
            kind = j.kind;
            one_ctor = the_ctor b.ctor b.ind.ctors like.0 (listed_of b.entry b.block b.ind b.ctor j.kind (ok b.name b.entry j.given).1);
            like = like.1;
          };
          levels = ks;
          params = args T;
          params_are = count;
        };
        only = record { rule = j.rule; one_rule = j.one; for_ctor = j.named };
        not_zero = other;
        type_is = t;
        value_is = sym is;
      }

apply_append : (h : Tree) (xs ys : List Tree) → apply (apply h xs) ys ≡ apply h (xs ++ ys)
apply_append h [] ys = refl
apply_append h (x ∷ xs) ys = apply_append (app h x) xs ys

-- the tree that is made
pub expansion_made : (c d₂ d₃ : Contents) (k : AppliedConstructor) (ks : List Level) (m T : Tree) (front at x : Tree) (es ps es' ps' : List ℕ) → front ≡ const (name_at c k.name) ks → es' ≡ es → ps' ≡ ps → map (tree_at d₂) es ≡ args T → map (tree_at d₃) ps ≡ projections (name_at c k.inductive) m 0 k.fields →
    at ≡ apply front (map (tree_at d₂) es') → x ≡ apply at (map (tree_at d₃) ps') → x ≡ expansion_at c k ks m T
expansion_made c d₂ d₃ k ks m T front at x es ps es' ps' f ie ip a p h g =
    let C : Tree = const (name_at c k.name) ks in
    let one : at ≡ apply C (args T) = h ∙ ap (λ z. apply z (map (tree_at d₂) es')) f ∙ ap (apply C) (ap (map (tree_at d₂)) ie ∙ a) in
    g ∙ ap (λ z. apply z (map (tree_at d₃) ps')) one ∙ ap (apply (apply C (args T))) (ap (map (tree_at d₃)) ip ∙ p) ∙ apply_append C (args T) (projections (name_at c k.inductive) m 0 k.fields)

pub expansion_is : {c : Contents} {l : StoredLibrary} {k : AppliedConstructor} {b : CtorApp} (ks : List Level) (m T x : Tree) → IsApplied c l [] k b → x ≡ expansion_at c k ks m T → x ≡ apply (const b.name ks) (args T ++ projections b.ind.name m 0 b.ctor.fields)
expansion_is {c = c} {k = k} {b = b} ks m T x a h =
    h ∙ ap (λ n. apply (const n ks) (args T ++ projections (name_at c k.inductive) m 0 k.fields)) a.name_is ∙ ap (λ n. apply (const b.name ks) (args T ++ projections n m 0 k.fields)) a.inductive_is
    ∙ ap (λ n. apply (const b.name ks) (args T ++ projections b.ind.name m 0 n)) a.fields_are

-- at another state
pub parent_on : {w w' : Place} {l l' : StoredLibrary} {c d : Contents} {r : Row} {most : ℕ} {u : Redex} {m m' T T' : Tree} {k : AppliedConstructor} {ks ks' : List Level} → w' ≡ w → l' ≡ l → Extends c d → m' ≡ m → T' ≡ T → ks' ≡ ks → IsKnownConstructor c k →
    IsOfParent w l c r most u m k T ks → IsOfParent w' l' d r most u m' k T' ks'
parent_on {w = w} {w' = w'} {l = l} {l' = l'} {d = d} {r = r} {most = most} {u = u} {m = m} {m' = m'} {T = T} {T' = T'} {k = k} {ks = ks} {ks' = ks'} ew el x em et ek known h =
    let there : IsOfParent w l d r most u m k T ks = record {
      b = h.b;
      beside = h.beside;
      is = record {
        args_are = h.is.args_are;
        name_is = x.names.same k.name known.name_in ∙ h.is.name_is;
        inductive_is = x.names.same k.inductive known.inductive_in ∙ h.is.inductive_is;
        parameters_are = h.is.parameters_are;
        fields_are = h.is.fields_are;
        entry_is = h.is.entry_is;
        kind_is = h.is.kind_is;
      };
      under = under_way_grows x h.under;
      has = h.has;
      beside_is = h.beside_is;
    } in
    subst (λ z. IsOfParent z l' d r most u m' k T' ks') (sym ew) (subst (λ z. IsOfParent w z d r most u m' k T' ks') (sym el) (subst (λ z. IsOfParent w l d r most u z k T' ks') (sym em)
    (subst (λ z. IsOfParent w l d r most u m k z ks') (sym et) (subst (λ z. IsOfParent w l d r most u m k T z) (sym ek) there))))

pub expanded_on : {w : Place} {l : StoredLibrary} {c d : Contents} {r : Row} {most : ℕ} {u : Redex} {m m' x : Tree} {s : Stage} → Extends c d → m' ≡ m → IsExpanded w l c r most u m x s → IsExpanded w l d r most u m' x s
expanded_on {w = w} {l = l} {d = d} {r = r} {most = most} {u = u} {m = m} {m' = m'} {x = x} {s = s} grow em h =
    let there : IsExpanded w l d r most u m x s = record {
      type = h.type;
      level = h.level;
      beside = h.beside;
      under = under_way_grows grow h.under;
      has = h.has;
      sorted = h.sorted;
      beside_is = h.beside_is;
      structure = h.structure;
      only = h.only;
      not_zero = h.not_zero;
      type_is = h.type_is;
      value_is = h.value_is;
    } in
    subst (λ z. IsExpanded w l d r most u z x s) (sym em) there

pub expanded_at : {E : Type 0} {w w' : Place} {l l' : StoredLibrary} (c : Contents) (r : Row) (most : ℕ) (u : Redex) (m : Tree) (t : ℕ → Tree) (o : Result (Option ℕ) E) → w' ≡ w → l' ≡ l → IfOk o (IsExpandedIf w' l' c r most u m t) → IfOk o (IsExpandedIf w l c r most u m t)
expanded_at {w = w} {w' = w'} {l = l} {l' = l'} c r most u m t o ew el h =
    subst (λ z. IfOk o (IsExpandedIf z l c r most u m t)) ew (subst (λ z. IfOk o (IsExpandedIf w' z c r most u m t)) el h)

pub has_on : {w w' : Place} {e e' T T' : Tree} → w' ≡ w → e' ≡ e → T' ≡ T → HasForm w e T → HasForm w' e' T'
has_on {w = w} {e = e} {e' = e'} {T' = T'} ew ee et h = subst (λ z. HasForm z e' T') (sym ew) (subst (λ z. HasForm w z T') (sym ee) (subst (λ z. HasForm w e z) (sym et) h))

pub sort_is : (S : Tree) (n : Level) → sort_level S ≡ Some n → S ≡ sort n
sort_is (sort l) n e = let i : l ≡ n = cc in ap sort i
sort_is _ n e = absurd cc
