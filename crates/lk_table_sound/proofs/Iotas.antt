-- Iota and projections of constructors are sound.
use Rattle.lk_rulebook.specs.Place.{Place, Entry, Kind, Recursor, RecRule, a_quot, a_ctor, a_rec}
use Rattle.lk_tree.proofs.Lists.{AllWithin, AnyLocal, fine_take, fine_drop, fine_at, any_take, any_drop, any_at, local_of_apply, local_of_arg, within_applied, split_at, length_before, length_taken}
use Rattle.lk_questions.specs.Iota.{has_one_ctor, builds_structure, expanded, expand_at, to_ctor_when_structure, as_ctor_app, CtorApp, ctor_app_by, ctor_app_of, only_ctor, levels_at, k_from, to_ctor_when_k, fitting_rule, by_rule, iota_at_ctor, iota_of, iota_after_k, iota, core_constant, picked, core_field, core_proj}
use Rattle.lk_questions.specs.Sound.{IsStated, KindStated, RulesStated}
use Rattle.lk_questions.specs.Steps.{sort_of, with_levels}
use Rattle.lk_table_sound.proofs.Pieces.{sound_sort_of, TypesTo, well_formed_of_to, sound_with_levels}
use Rattle.lk_tree.specs.Level.{is_zero_level}
use Rattle.lk_rulebook.specs.Structures.{projections, is_structure_like, ctor_app, on_major, RecApp as RecAppAt, HasRule, rule_result, before_indices, KMajor, IsRuleOf, before_major}
use Rattle.lk_table_sound.proofs.Book.{StructureAt, CtorApp as GivenCtorApp, RecApp, r_struct, not_prop, Book, HasSort, r_major, r_proj, r_iota, r_k, well_formed_of_type, well_formed_of_reduct, IsSound, IsJustified, WellStated, ReadsText, Reads}
use Rattle.std.specs.Prelude.{◌&&◌, slice_get}
use Rattle.std.proofs.Common.{Bool, List, None, Option, Some, [], arith, drop, false, if◌then◌else◌, inl, inr, length, nat_eq, nat_le, refl, suc, sym, take, take-append-drop, true, zero, ℕ, ◌++◌, ◌+◌, ◌∙◌, ◌∷◌, ◌≡◌, ◌⊎◌}
use Rattle.std.proofs.lemmas.Bool.Decides.{nat_tests}
use Rattle.lk_tree.specs.Tree.{Name, Level, Tree, const, app, proj}
use Rattle.lk_tree.specs.Levels.{put_levels}
use Rattle.lk_tree.specs.Spine.{apply, head, args}
use Rattle.lk_tree.specs.WellFormed.{IsWellFormed, AllWellFormed, LocalsWithin}
use Rattle.lk_tree.proofs.Spines.{fine_apply, well_formed_of_apply}
use Rattle.lk_tree.proofs.Within.{within_trans, apply_head_args, no_local, bound_put_levels, fine_put_levels}
use Rattle.lk_tree.specs.Mentions.{same_name}
use Rattle.lk_questions.specs.Query.{core}
use Rattle.lk_questions.specs.Program.{done}
use Rattle.lk_table_sound.proofs.Soundness.{sound_bind}
use Rattle.lk_claims.proofs.Pieces.{of_yes, same_name_right, Some_inj}
use Rattle.lk_table_sound.proofs.Quots.{sound_core_quot}
use Rattle.lk_table_sound.proofs.Shaped.{sound_literal_to_ctor, sound_text_to_ctor}
use Rattle.lk_questions.specs.Strings.{literal_to_ctor, text_to_ctor}
use Rattle.lk_rulebook.proofs.Texts.{text_fine, text_within, read_within}
use Rattle.lk_table_sound.proofs.Goes.{sound_if, GoesTo, stays, goes_on, core_stays, core_on, goes_applied}
use Rattle.lk_claims.proofs.Facts.{IsCore}
use Rattle.lk_claims.proofs.Facts.{the_ctor, listed_of, same_name_levels}

both : (a b : Bool) → (a && b) ≡ true → (a ≡ true) × (b ≡ true)
both true true h = (refl, refl)
both true false h = absurd cc
both false b h = absurd cc

-- m is the constructor b applied
pub record IsCtorApp (w : Book) (m : Tree) (b : CtorApp) : Type 0 where
  pub tree_is : m ≡ apply (const b.name b.levels) b.args
  pub given : w.place.means b.name ≡ Some b.entry
  pub kind : b.entry.kind ≡ a_ctor b.block b.ind b.ctor

-- the same in the rule book's terms
abbrev pub given_app : {w : Book} {m : Tree} (b : CtorApp) → IsCtorApp w m b → GivenCtorApp w
given_app b j = record { name = b.name; levels = b.levels; args = b.args; entry = b.entry; block = b.block; ind = b.ind; ctor = b.ctor; given = j.given; kind = j.kind }

abbrev pub IfCtorApp : Book → Tree → Option CtorApp → Type 0
IfCtorApp w m None = Unit {0}
IfCtorApp w m (Some b) = IsCtorApp w m b

ctor_app_by_right : (w : Book) (m : Tree) (c : Name) (ks : List Level) (xs : List Tree) (g : Entry) → m ≡ apply (const c ks) xs → w.place.means c ≡ Some g → (k : Kind) → g.kind ≡ k → IfCtorApp w m (ctor_app_by c ks xs g k)
ctor_app_by_right w m c ks xs g t n (a_ctor b i k) e = record { tree_is = t; given = n; kind = e }
ctor_app_by_right w m c ks xs g t n _ e = tt

sound_ctor_app_at : (w : Book) (m h : Tree) (xs : List Tree) → m ≡ apply h xs → IsSound w (ctor_app_of h xs) (IfCtorApp w m)
sound_ctor_app_at w m (const c ks) xs t = λ g n. ctor_app_by_right w m c ks xs g t n g.kind refl
sound_ctor_app_at w m _ xs t = tt

pub sound_ctor_app_of : (w : Book) (m : Tree) → IsSound w (ctor_app_of (head m) (args m)) (IfCtorApp w m)
sound_ctor_app_of w m = sound_ctor_app_at w m (head m) (args m) (sym (apply_head_args m))

-- Core of a projection
sound_picked : (w : Book) (S : Name) (i : ℕ) (s v m : Tree) (b : CtorApp) → IsWellFormed s → GoesTo w s v → ReadsText w v m → IsCtorApp w m b → b.ind.name ≡ S →
    (o : Option Tree) → slice_get b.args (b.ctor.parameters + i) ≡ o → IsSound w (picked (proj S i s) o) (IsJustified w (core (proj S i s)))
sound_picked w S i s v m b f g rd j e None h = core_stays w (proj S i s) (f, tt)
sound_picked w S i s v m b f g rd j e (Some x) h =
    let t : m ≡ apply (const b.name b.levels) b.args = j.tree_is in
    let fm : IsWellFormed (apply (const b.name b.levels) b.args) = rw t at (text_fine rd.rule (well_formed_of_reduct g.0).1) in
    let fx : IsWellFormed x = fine_at (b.ctor.parameters + i) b.args x (well_formed_of_apply (const b.name b.levels) b.args fm).1 h in
    let all : GoesTo w (proj S i s) x = (
      rw e at (r_proj (given_app b j) {i = i} {e = s} g.0 (rw t at rd) h fx),
      λ k T n. g.1 k T (text_within rd.rule k T (rw t (local_of_arg k T (const b.name b.levels) b.args (any_at k T (b.ctor.parameters + i) b.args x h n)))),
    ) in
    (fx, λ u n. core_on w (proj S i s) x u all n)

sound_core_field : (w : Book) (S : Name) (i : ℕ) (s v m : Tree) → IsWellFormed s → GoesTo w s v → ReadsText w v m → (o : Option CtorApp) → IfCtorApp w m o →
    IsSound w (core_field (proj S i s) S i o) (IsJustified w (core (proj S i s)))
sound_core_field w S i s v m f g rd None j = core_stays w (proj S i s) (f, tt)
sound_core_field w S i s v m f g rd (Some b) j =
    sound_if w (same_name b.ind.name S) _ (done (proj S i s)) (IsJustified w (core (proj S i s)))
    (λ t. sound_picked w S i s v m b f g rd j (same_name_right b.ind.name S t) (slice_get b.args (b.ctor.parameters + i)) refl)
    (λ t. core_stays w (proj S i s) (f, tt))

pub sound_core_proj : (w : Book) (S : Name) (i : ℕ) (s : Tree) → IsWellFormed s → IsSound w (core_proj S i s) (IsJustified w (core (proj S i s)))
sound_core_proj w S i s f = (
  f,
  λ v g. sound_bind w (text_to_ctor v) _ (λ m. ReadsText w v m) (IsJustified w (core (proj S i s))) (sound_text_to_ctor w v)
      (λ m rd. sound_bind w (ctor_app_of (head m) (args m)) (λ b. core_field (proj S i s) S i b) (IfCtorApp w m) (IsJustified w (core (proj S i s)))
      (sound_ctor_app_of w m) (λ b j. sound_core_field w S i s v m f g rd b j)),
)

rule_stated : (rs : List RecRule) (rule : RecRule) → RulesStated rs → IsRuleOf rule rs → IsStated rule.value
rule_stated [] rule s m = absurd m
rule_stated (r ∷ rs) rule s (inl e) = rw (← e) s.0
rule_stated (r ∷ rs) rule s (inr m) = rule_stated rs rule s.1 m

-- a rule for c whose fields, after p parameters, make n arguments
record IsFitting (rs : List RecRule) (c : Name) (p n : ℕ) (rule : RecRule) : Type 0 where
  listed : IsRuleOf rule rs
  for_ctor : rule.ctor ≡ c
  fits : n ≡ p + rule.fields

fitting_at : (r : RecRule) (rs : List RecRule) (c : Name) (p n : ℕ) (rule : RecRule) → (fitting_rule rs c p n ≡ Some rule → IsFitting rs c p n rule) →
    (b : Bool) → (same_name r.ctor c && nat_eq n (p + r.fields)) ≡ b → (if b then Some r else fitting_rule rs c p n) ≡ Some rule → IsFitting (r ∷ rs) c p n rule
fitting_at r rs c p n rule h true t e =
    let i : r ≡ rule = Some_inj e in
    let u : (same_name r.ctor c ≡ true) × (nat_eq n (p + r.fields) ≡ true) = both (same_name r.ctor c) (nat_eq n (p + r.fields)) t in
    let v : nat_eq n (p + r.fields) ≡ true = u.1 in
    let f : n ≡ p + r.fields = grind (arith, nat_tests) in
    record { listed = inl i; for_ctor = rw (← i) (same_name_right r.ctor c u.0); fits = rw (← i) f }
fitting_at r rs c p n rule h false t e = let f : IsFitting rs c p n rule = h e in record { listed = inr f.listed; for_ctor = f.for_ctor; fits = f.fits }

fitting : (rs : List RecRule) (c : Name) (p n : ℕ) (rule : RecRule) → fitting_rule rs c p n ≡ Some rule → IsFitting rs c p n rule
fitting [] c p n rule e = absurd cc
fitting (r ∷ rs) c p n rule e = fitting_at r rs c p n rule (fitting rs c p n rule) (same_name r.ctor c && nat_eq n (p + r.fields)) refl e

rules_of : (g : Entry) (r : Recursor) → g.kind ≡ a_rec r → KindStated g.kind → RulesStated r.rules
rules_of g r e s = let t : KindStated (a_rec r) = rw e at s in t

-- a recursor that is found, at the arguments before its major premise
abbrev rec_app : (w : Book) (R : Name) (ls : List Level) (g : Entry) → w.place.means R ≡ Some g → (r : Recursor) → g.kind ≡ a_rec r →
    (front : List Tree) → length front ≡ before_major r → IsWellFormed (apply (const R ls) front) → RecApp w
rec_app w R ls g mg r kr front count fine = record { name = R; levels = ls; front = front; entry = g; recursor = r; given = mg; kind = kr; front_is = count; fine = fine }

-- R ls front
abbrev front_of : {w : Place} → RecAppAt w → Tree
front_of R = apply (const R.name R.levels) R.front

iota_step : (w : Book) → WellStated w → (R : RecApp w) (c : GivenCtorApp w) (h : HasRule R c) → IsWellFormed (ctor_app c) → GoesTo w (on_major R (ctor_app c)) (rule_result R c h)
iota_step w ok R c h fc =
    let s : IsStated h.rule.value = rule_stated R.recursor.rules h.rule (rules_of R.entry R.recursor R.kind (ok R.name R.entry R.given).1) h.is_rule in
    let v : Tree = put_levels R.entry.levels R.levels h.rule.value in
    let n : ℕ = before_indices R.recursor in
    let e : Tree = on_major R (ctor_app c) in
    let ffront : AllWellFormed R.front = (well_formed_of_apply (const R.name R.levels) R.front R.fine).1 in
    let fargs : AllWellFormed c.args = (well_formed_of_apply (const c.name c.levels) c.args fc).1 in
    let fv : IsWellFormed v = fine_put_levels R.entry.levels R.levels 0 h.rule.value s.0 in
    let fresult : IsWellFormed (rule_result R c h) =
    fine_apply (apply v (take n R.front)) (drop c.ctor.parameters c.args) (fine_apply v (take n R.front) fv (fine_take n R.front ffront)) (fine_drop c.ctor.parameters c.args fargs) in (
      r_iota R c h fc fresult,
      within_applied e (apply v (take n R.front)) (drop c.ctor.parameters c.args)
          (within_applied e v (take n R.front)
          (no_local e v (bound_put_levels R.entry.levels R.levels h.rule.value ∙ s.1))
          (λ k T m. inl (local_of_arg k T (const R.name R.levels) R.front (any_take k T n R.front m))))
          (λ k T m. inr (local_of_arg k T (const c.name c.levels) c.args (any_drop k T c.ctor.parameters c.args m))),
    )

sound_by_rule : (w : Book) → WellStated w → (R : RecApp w) (rest : List Tree) (e m : Tree) → GoesTo w e (apply (on_major R m) rest) → IsCore e →
    (b : CtorApp) → IsCtorApp w m b → (rule : Option RecRule) → fitting_rule R.recursor.rules b.name b.ctor.parameters (length b.args) ≡ rule →
    IsSound w (by_rule e R.entry R.levels R.recursor R.front rest b rule) (IsJustified w (core e))
sound_by_rule w ok R rest e m ge fe b j None h = core_stays w e fe
sound_by_rule w ok R rest e m ge fe b j (Some rule) h =
    let c : GivenCtorApp w = given_app b j in
    let has : IsFitting R.recursor.rules b.name b.ctor.parameters (length b.args) rule = fitting R.recursor.rules b.name b.ctor.parameters (length b.args) rule h in
    let on_ctor : GoesTo w e (apply (on_major R (ctor_app c)) rest) = rw j.tree_is at ge in
    let fa : IsWellFormed (on_major R (ctor_app c)) × AllWellFormed rest = well_formed_of_apply (on_major R (ctor_app c)) rest (well_formed_of_reduct on_ctor.0).1 in
    sound_bind w (with_levels R.entry R.levels rule.value) _ (λ v. GoesTo w e (apply (apply (apply v (take (before_indices R.recursor) R.front)) (drop b.ctor.parameters b.args)) rest)) (IsJustified w (core e))
    (sound_with_levels w R.entry R.levels rule.value _
    (λ levels. goes_on w e (apply (on_major R (ctor_app c)) rest) _ on_ctor
    (goes_applied w (on_major R (ctor_app c)) _ rest fa.1
    (iota_step w ok R c (record { rule = rule; is_rule = has.listed; for_ctor = has.for_ctor; levels_are = levels; args_are = has.fits }) fa.0.1))))
    (λ v gv. ((well_formed_of_reduct gv.0).1, λ u gu. core_on w e _ u gv gu))

-- the major premise m in the place of m'
major_goes : (w : Book) (R : RecApp w) (m m' : Tree) (rest : List Tree) → AllWellFormed rest → (v : Tree) → GoesTo w m v → Reads w v m' →
    GoesTo w (apply (on_major R m) rest) (apply (on_major R m') rest)
major_goes w R m m' rest fr v g rd = goes_applied w (on_major R m) (on_major R m') rest fr
    (r_major R g.0 rd, λ k T. elim [ inl x ↦ inl x | inr x ↦ inr (g.1 k T (read_within rd.rule k T x)) ])

-- the one rule of r is for the constructor b
record IsOnly (w : Book) (r : Recursor) (b : CtorApp) : Type 0 where
  rule : RecRule
  one : r.rules ≡ rule ∷ []
  named : rule.ctor ≡ b.name
  given : w.place.means b.name ≡ Some b.entry
  kind : b.entry.kind ≡ a_ctor b.block b.ind b.ctor

abbrev IfOnly : Book → Recursor → Option CtorApp → Type 0
IfOnly w r None = Unit {0}
IfOnly w r (Some b) = IsOnly w r b

only_right : (w : Book) (r : Recursor) (rule : RecRule) (g : Entry) → r.rules ≡ rule ∷ [] → w.place.means rule.ctor ≡ Some g → (k : Kind) → g.kind ≡ k → IfOnly w r (ctor_app_by rule.ctor [] [] g k)
only_right w r rule g o m (a_ctor b i c) e = record { rule = rule; one = o; named = refl; given = m; kind = e }
only_right w r rule g o m _ e = tt

sound_only : (w : Book) (r : Recursor) (rs : List RecRule) → r.rules ≡ rs → IsSound w (only_ctor rs) (IfOnly w r)
sound_only w r [] e = tt
sound_only w r (rule ∷ []) e = λ g m. only_right w r rule g e m g.kind refl
sound_only w r (a ∷ b ∷ rs) e = tt

-- what K takes the major premise for
abbrev IfTaken : Book → Tree → Tree → Option Tree → Type 0
IfTaken w h major None = Unit {0}
IfTaken w h major (Some d) = GoesTo w (app h major) (app h d)

sound_k_from : (w : Book) (R : RecApp w) → R.recursor.k ≡ true → (major T : Tree) → TypesTo w major T → LocalsWithin major T →
    (b : CtorApp) → IsOnly w R.recursor b → (o : Option (List Level)) → levels_at b.ind.name (head T) ≡ o → IsSound w (k_from b T o) (IfTaken w (front_of R) major)
sound_k_from w R kk major T hT wT b j None h = tt
sound_k_from w R kk major T hT wT b j (Some ks) h =
    let p : ℕ = b.ctor.parameters in
    let e : head T ≡ const b.ind.name ks = same_name_levels b.ind.name T ks (head T) refl h in
    let t : apply (const b.ind.name ks) (args T) ≡ T = rw e at (apply_head_args T) in
    let fT : IsWellFormed T = well_formed_of_to hT in
    let fargs : AllWellFormed (args T) = (well_formed_of_apply (const b.ind.name ks) (args T) (rw t fT)).1 in
    let d : Tree = apply (const b.name ks) (take p (args T)) in
    let fd : IsWellFormed d = fine_apply (const b.name ks) (take p (args T)) tt (fine_take p (args T) fargs) in
    sound_if w (nat_le p (length (args T))) _ (done None) (IfTaken w (front_of R) major)
    (λ enough. (
      fd,
      λ D mD. (
        (fT, (well_formed_of_type mD.0).1),
        λ equal mE. sound_if w equal (done (Some d)) (done None) (IfTaken w (front_of R) major)
            (λ y.
            let at : apply (const b.ind.name ks) (take p (args T) ++ drop p (args T)) ≡ T = rw take-append-drop t in
            let some : length (take p (args T)) ≡ p = length_taken p (args T) (grind (arith, nat_tests, enough)) in
            let k : KMajor R = record {
              ctor = record { name = b.name; levels = ks; args = take p (args T); entry = b.entry; block = b.block; ind = b.ind; ctor = b.ctor; given = j.given; kind = j.kind };
              rest = drop p (args T);
              k_is = kk;
              only = record { rule = j.rule; one_rule = j.one; for_ctor = j.named };
              params_are = some;
            } in (
              r_k R k hT.types (rw at hT.reduces) mD.0 (rw at (of_yes equal y mE)),
              λ k S. elim [
                | inl x ↦ inl x
                | inr x ↦ inr (wT k S (rw (← t) (local_of_arg k S (const b.ind.name ks) (args T) (any_take k S p (args T)
                    (elim (local_of_apply k S (const b.name ks) (take p (args T)) x) [ inl z ↦ absurd z | inr z ↦ z ])))))
              ],
            ))
            (λ y. tt),
      ),
    ))
    (λ short. tt)

-- m is taken for the constructor of its projections
projections_within : (J : Name) (m : Tree) (j n : ℕ) → AllWithin m (projections J m j n)
projections_within J m j zero k T h = absurd h
projections_within J m j (suc n) k T (inl h) = h
projections_within J m j (suc n) k T (inr h) = projections_within J m (suc j) n k T h

any_append : (k : ℕ) (T : Tree) (xs ys : List Tree) → AnyLocal k T (xs ++ ys) → AnyLocal k T xs ⊎ AnyLocal k T ys
any_append k T [] ys h = inr h
any_append k T (x ∷ xs) ys (inl h) = inl (inl h)
any_append k T (x ∷ xs) ys (inr h) = elim (any_append k T xs ys h) [ inl a ↦ inl (inr a) | inr b ↦ inr b ]

-- under h, b is what m goes to, as a constructor applied
record GoesToCtorApp (w : Book) (h m : Tree) (b : CtorApp) : Type 0 where
  goes : GoesTo w (app h m) (app h (apply (const b.name b.levels) b.args))
  is_ctor_app : IsCtorApp w (apply (const b.name b.levels) b.args) b

abbrev IfGoesToCtorApp : Book → Tree → Tree → Option CtorApp → Type 0
IfGoesToCtorApp w h m None = Unit {0}
IfGoesToCtorApp w h m (Some b) = GoesToCtorApp w h m b

expands : (w : Book) → WellStated w → (R : RecApp w) (m T : Tree) → TypesTo w m T → LocalsWithin m T → (k : CtorApp) → IsOnly w R.recursor k → (ls : List Level) → apply (const k.ind.name ls) (args T) ≡ T →
    builds_structure k ≡ true → nat_eq (length (args T)) k.ctor.parameters ≡ true → (l : Level) → HasSort w T l → is_zero_level l ≡ false →
    GoesToCtorApp w (front_of R) m (expanded k ls m (args T))
expands w ok R m T hT wT k j ls eT like yes_count l hl nz =
    let t : (has_one_ctor k.ind.ctors ≡ true) × (is_structure_like k.block k.ind k.ctor ≡ true) = both (has_one_ctor k.ind.ctors) (is_structure_like k.block k.ind k.ctor) like in
    let count : length (args T) ≡ k.ctor.parameters = grind (arith, nat_tests) in
    let ps : List Tree = projections k.ind.name m 0 k.ctor.fields in
    let S : StructureAt w = record {
      structure = record {
        ctor_name = k.name;
        block = k.block;
        ind = k.ind;
        ctor = k.ctor;
        one_ctor = the_ctor k.ctor k.ind.ctors t.0 (listed_of k.entry k.block k.ind k.ctor j.kind (ok k.name k.entry j.given).1);
        like = t.1;
        entry = k.entry;
        given = j.given;
        kind = j.kind;
      };
      levels = ls;
      params = args T;
      params_are = count;
    } in
    record {
      goes = (
        r_struct R S (record { rule = j.rule; one_rule = j.one; for_ctor = j.named }) hT.types (rw eT hT.reduces) (not_prop {l = l} (rw eT hl) nz),
        λ k' T'. elim [
          | inl x ↦ inl x
          | inr x ↦ inr (within_applied m (const k.name ls) (args T ++ ps) (λ i S h. absurd h)
              (λ i S h. elim (any_append i S (args T) ps h) [
                | inl a ↦ wT i S (rw (← eT) (local_of_arg i S (const k.ind.name ls) (args T) a))
                | inr b ↦ projections_within k.ind.name m 0 k.ctor.fields i S b
              ]) k' T' x)
        ],
      );
      is_ctor_app = record { tree_is = refl; given = j.given; kind = j.kind };
    }

sound_expand_at : (w : Book) → WellStated w → (R : RecApp w) (m T : Tree) → TypesTo w m T → LocalsWithin m T → (k : CtorApp) → IsOnly w R.recursor k → builds_structure k ≡ true → (o : Option (List Level)) → levels_at k.ind.name (head T) ≡ o →
    IsSound w (expand_at k m T o) (IfGoesToCtorApp w (front_of R) m)
sound_expand_at w ok R m T hT wT k j like None h = tt
sound_expand_at w ok R m T hT wT k j like (Some ls) h =
    let e : head T ≡ const k.ind.name ls = same_name_levels k.ind.name T ls (head T) refl h in
    let eT : apply (const k.ind.name ls) (args T) ≡ T = rw e at (apply_head_args T) in
    sound_if w (nat_eq (length (args T)) k.ctor.parameters) _ (done None) (IfGoesToCtorApp w (front_of R) m)
    (λ t. sound_bind w (sort_of T) _ (λ l. HasSort w T l) (IfGoesToCtorApp w (front_of R) m) (sound_sort_of w T (well_formed_of_to hT))
    (λ l hl. sound_if w (is_zero_level l) (done None) (done (Some (expanded k ls m (args T)))) (IfGoesToCtorApp w (front_of R) m)
    (λ z. tt) (λ z. expands w ok R m T hT wT k j ls eT like t l hl z)))
    (λ t. tt)

sound_to_ctor_when_structure : (w : Book) → WellStated w → (R : RecApp w) (m : Tree) → IsWellFormed m → (k : Option CtorApp) → IfOnly w R.recursor k → IsSound w (to_ctor_when_structure m k) (IfGoesToCtorApp w (front_of R) m)
sound_to_ctor_when_structure w ok R m f None j = tt
sound_to_ctor_when_structure w ok R m f (Some k) j =
    sound_if w (builds_structure k) _ (done None) (IfGoesToCtorApp w (front_of R) m)
    (λ like. (
      f,
      λ S mS. (
        (well_formed_of_type mS.0).1,
        λ T mT. sound_expand_at w ok R m T (record { between = S; types = mS.0; reduces = mT.0 }) (within_trans m S T mS.1 mT.1) k j like (levels_at k.ind.name (head T)) refl,
      ),
    ))
    (λ like. tt)

sound_as_ctor_app : (w : Book) → WellStated w → (R : RecApp w) (m : Tree) → IsWellFormed m → (b : Option CtorApp) → IfCtorApp w m b → IsSound w (as_ctor_app R.recursor m b) (IfGoesToCtorApp w (front_of R) m)
sound_as_ctor_app w ok R m f (Some b) j =
    record { goes = rw (← j.tree_is) (stays w (on_major R m) (R.fine, f)); is_ctor_app = record { tree_is = refl; given = j.given; kind = j.kind } }
sound_as_ctor_app w ok R m f None j =
    sound_bind w (only_ctor R.recursor.rules) (λ k. to_ctor_when_structure m k) (IfOnly w R.recursor) (IfGoesToCtorApp w (front_of R) m) (sound_only w R.recursor R.recursor.rules refl) (λ k i. sound_to_ctor_when_structure w ok R m f k i)

sound_with_ctor_app : (w : Book) → WellStated w → (R : RecApp w) (rest : List Tree) (e m : Tree) → GoesTo w e (apply (on_major R m) rest) → IsCore e →
    (b : Option CtorApp) → IfGoesToCtorApp w (front_of R) m b → IsSound w (iota_at_ctor e R.entry R.levels R.recursor R.front rest b) (IsJustified w (core e))
sound_with_ctor_app w ok R rest e m ge fe None j = core_stays w e fe
sound_with_ctor_app w ok R rest e m ge fe (Some b) j =
    let m' : Tree = apply (const b.name b.levels) b.args in
    let fa : IsWellFormed (on_major R m) × AllWellFormed rest = well_formed_of_apply (on_major R m) rest (well_formed_of_reduct ge.0).1 in
    sound_by_rule w ok R rest e m'
    (goes_on w e (apply (on_major R m) rest) (apply (on_major R m') rest) ge (goes_applied w (on_major R m) (on_major R m') rest fa.1 j.goes))
    fe b j.is_ctor_app (fitting_rule R.recursor.rules b.name b.ctor.parameters (length b.args)) refl

sound_iota_of : (w : Book) → WellStated w → (R : RecApp w) (rest : List Tree) (e m : Tree) → GoesTo w e (apply (on_major R m) rest) → IsCore e →
    IsSound w (iota_of e R.entry R.levels R.recursor R.front rest m) (IsJustified w (core e))
sound_iota_of w ok R rest e m ge fe =
    let fa : IsWellFormed (on_major R m) × AllWellFormed rest = well_formed_of_apply (on_major R m) rest (well_formed_of_reduct ge.0).1 in
    sound_bind w (ctor_app_of (head m) (args m)) _ (IfCtorApp w m) (IsJustified w (core e)) (sound_ctor_app_of w m)
    (λ b j. sound_bind w (as_ctor_app R.recursor m b) (λ c. iota_at_ctor e R.entry R.levels R.recursor R.front rest c) (IfGoesToCtorApp w (front_of R) m) (IsJustified w (core e)) (sound_as_ctor_app w ok R m fa.0.1 b j)
    (λ c i. sound_with_ctor_app w ok R rest e m ge fe c i))

sound_k_step : (w : Book) (R : RecApp w) → R.recursor.k ≡ true → (major : Tree) → IsWellFormed major →
    (b : Option CtorApp) → IfOnly w R.recursor b → IsSound w (to_ctor_when_k R.recursor major b) (IfTaken w (front_of R) major)
sound_k_step w R kk major fm None j = tt
sound_k_step w R kk major fm (Some b) j = (
  fm,
  λ S mS. (
    (well_formed_of_type mS.0).1,
    λ T mT. sound_k_from w R kk major T (record { between = S; types = mS.0; reduces = mT.0 }) (within_trans major S T mS.1 mT.1) b j (levels_at b.ind.name (head T)) refl,
  ),
)

sound_after_k : (w : Book) → WellStated w → (R : RecApp w) (major : Tree) (rest : List Tree) (e : Tree) → apply (on_major R major) rest ≡ e → IsCore e →
    (d : Option Tree) → IfTaken w (front_of R) major d → IsSound w (iota_after_k e R.entry R.levels R.recursor R.front major rest d) (IsJustified w (core e))
sound_after_k w ok R major rest e eq fe (Some d) t =
    let fa : IsWellFormed (on_major R major) × AllWellFormed rest = well_formed_of_apply (on_major R major) rest (rw eq fe.0) in
    sound_iota_of w ok R rest e d (rw (← eq) (goes_applied w (on_major R major) (on_major R d) rest fa.1 t)) fe
sound_after_k w ok R major rest e eq fe None t =
    let fa : IsWellFormed (on_major R major) × AllWellFormed rest = well_formed_of_apply (on_major R major) rest (rw eq fe.0) in (
      fa.0.1,
      λ v gv. sound_bind w (literal_to_ctor v) (λ m. iota_of e R.entry R.levels R.recursor R.front rest m) (λ m. Reads w v m) (IsJustified w (core e)) (sound_literal_to_ctor w v)
          (λ m rd. sound_iota_of w ok R rest e m (rw (← eq) (major_goes w R major m rest fa.1 v gv rd)) fe),
    )

sound_iota : (w : Book) → WellStated w → (R : Name) (ls : List Level) (g : Entry) → w.place.means R ≡ Some g → (r : Recursor) → g.kind ≡ a_rec r →
    (xs : List Tree) (e : Tree) → apply (const R ls) xs ≡ e → IsCore e → (o : Option Tree) → slice_get xs (before_major r) ≡ o →
    IsSound w (iota e g ls r (take (before_major r) xs) o (drop (suc (before_major r)) xs)) (IsJustified w (core e))
sound_iota w ok R ls g mg r kr xs e eq fe None h = core_stays w e fe
sound_iota w ok R ls g mg r kr xs e eq fe (Some major) h =
    let front : List Tree = take (before_major r) xs in
    let rest : List Tree = drop (suc (before_major r)) xs in
    let at : apply (app (apply (const R ls) front) major) rest ≡ e = split_at (before_major r) (const R ls) major xs h ∙ eq in
    let count : length front ≡ before_major r = length_before (before_major r) major xs h in
    let fa : IsWellFormed (app (apply (const R ls) front) major) × AllWellFormed rest = well_formed_of_apply (app (apply (const R ls) front) major) rest (rw at fe.0) in
    let K : RecApp w = rec_app w R ls g mg r kr front count fa.0.0 in
    sound_if w r.k _ (iota_after_k e g ls r front major rest None) (IsJustified w (core e))
    (λ kk. sound_bind w (only_ctor r.rules) _ (IfOnly w r) (IsJustified w (core e)) (sound_only w r r.rules refl)
    (λ b j. sound_bind w (to_ctor_when_k r major b) (λ d. iota_after_k e g ls r front major rest d) (IfTaken w (apply (const R ls) front) major) (IsJustified w (core e))
    (sound_k_step w K kk major fa.0.1 b j)
    (λ d t. sound_after_k w ok K major rest e at fe d t)))
    (λ kk. sound_after_k w ok K major rest e at fe None tt)

pub sound_core_constant : (w : Book) → WellStated w → (R : Name) (ls : List Level) (g : Entry) → w.place.means R ≡ Some g →
    (e : Tree) (xs : List Tree) → apply (const R ls) xs ≡ e → IsCore e → AllWellFormed xs → (k : Kind) → g.kind ≡ k → IsSound w (core_constant e R ls xs g k) (IsJustified w (core e))
sound_core_constant w ok R ls g m e xs eq f fx (a_rec r) ke = sound_iota w ok R ls g m r ke xs e eq f (slice_get xs (before_major r)) refl
sound_core_constant w ok R ls g m e xs eq f fx a_quot ke = sound_core_quot w R ls g m ke e xs eq f fx
sound_core_constant w ok R ls g m e xs eq f fx _ ke = core_stays w e f
