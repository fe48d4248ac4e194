-- Lines of reduction at recursors are derived.
use Rattle.std.proofs.Common.{ℕ, zero, suc, ◌≡◌, ◌≤◌, ◌+◌, inl, inr, Bool, true, false, ◌&&◌, not, nat_eq, nat_le, length, take, drop, List, [], ◌∷◌, ◌++◌, Option, Some, refl, subst, ◌∙◌, sym, ap, if◌then◌else◌, take-append-drop}
use Rattle.std.specs.Prelude.{slice_get}
use Rattle.lk_tree.specs.Tree.{Name, Level, Tree, const, app, lit, str}
use Rattle.lk_tree.specs.Level.{is_zero_level}
use Rattle.lk_tree.specs.Levels.{put_levels}
use Rattle.lk_tree.specs.Spine.{apply, head, args}
use Rattle.lk_tree.specs.WellFormed.{IsWellFormed}
use Rattle.lk_tree.proofs.Lists.{length_taken}
use Rattle.lk_tree.proofs.Zero.{not_zero_level}
use Rattle.lk_rulebook.specs.Place.{Place, Entry, Kind, Block, BlockType, Ctor, Recursor, RecRule, a_ctor, a_rec}
use Rattle.lk_rulebook.specs.Names.{named, nat_zero, nat_succ}
use Rattle.lk_tree.specs.Mentions.{same_name}
use Rattle.lk_rulebook.specs.Structures.{is_structure_like, projections, before_major, IsRuleOf, Structure, StructureAt, CtorApp, RecApp, HasRule, KMajor}
use Rattle.lk_rulebook.specs.Literals.{ReadsText, Reads, by_text, as_it_is, as_zero, as_succ}
use Rattle.lk_rulebook.specs.Rules.{HasType, Reduces, IsDefEq, HasSort, not_prop, r_major, r_iota, r_k, r_struct}
use Rattle.lk_rulebook.proofs.Scopes.{well_formed_of_type, well_formed_of_reduct}
use Rattle.lk_questions.specs.Steps.{is_same_tree}
use Rattle.lk_questions.specs.Strings.{text_to_ctor}
use Rattle.lk_questions.specs.Iota.{has_one_ctor}
use Rattle.lk_rulebook.specs.WellStated.{WellStated}
use Rattle.lk_claims.proofs.Pieces.{same_tree, halves, equal_numbers, same_name_right, Some_inj}
use Rattle.lk_claims.proofs.Readings.{sound_text_to_ctor}
use Rattle.lk_claims.proofs.Facts.{the_ctor, listed_of}
use Rattle.lk_rulebook.specs.Claims.{Claim, AllDerived}
use Rattle.lk_questions.specs.Tests.{◌>>=◌, found}
use Rattle.lk_written.specs.Premises.{Left}
use Rattle.lk_questions.specs.Tests.{reads_as, reads}
use Rattle.lk_written.specs.Reducing.{the_ctor as ctor_in, the_recursor, the_rule, major_of, red_major, red_iota, red_k, red_expand}
use Rattle.lk_written_sound.proofs.Premises.{IfSome, if_bind, on_some, on_test, if_test, if_none_left, found_right, at_most_right, on_typed, on_reduced, on_equal, on_sorted}
use Rattle.lk_written_sound.proofs.Typings.{comes_fine}
use Rattle.lk_written_sound.proofs.Projs.{on_const, spine_is}
use Rattle.lk_written_sound.proofs.Reductions.{ctor_right}

recursor_right : (k : Kind) → IfSome (the_recursor k) (λ r. k ≡ a_rec r)
recursor_right (a_rec r) = refl
recursor_right _ = tt

rule_right : (rs : List RecRule) → IfSome (the_rule rs) (λ r. rs ≡ r ∷ [])
rule_right [] = tt
rule_right (r ∷ []) = refl
rule_right (r ∷ s ∷ rs) = tt

-- h is a recursor that takes n arguments before the major premise
record IsMajorOf (w : Place) (h : Tree) (n : ℕ) (R : Name × List Level × Entry × Recursor) : Type 0 where
  head_is : h ≡ const R.0 R.1
  given : w.means R.0 ≡ Some R.2
  kind : R.2.kind ≡ a_rec R.3
  count : n ≡ before_major R.3

on_major : (w : Place) (h : Tree) (n : ℕ) {B : Type 0} (k : (Name × List Level × Entry × Recursor) → Option B) (Q : B → Type 0) →
    ((R : Name × List Level × Entry × Recursor) → IsMajorOf w h n R → IfSome (k R) Q) → IfSome (major_of w h n >>= k) Q
on_major w h n k Q f = if_bind (major_of w h n) k (IsMajorOf w h n) Q (
    on_const h _ (IsMajorOf w h n) (λ R e.
    on_some (w.means R.0) _ (IsMajorOf w h n) (λ g m.
    if_bind (the_recursor g.kind) _ (λ r. g.kind ≡ a_rec r) (IsMajorOf w h n) (recursor_right g.kind) (λ r t.
    on_test (nat_eq n (before_major r)) _ (IsMajorOf w h n) (λ c. record { head_is = e; given = m; kind = t; count = equal_numbers n (before_major r) c })))))
    f

-- f is that recursor, applied to these
abbrev rec_app : (w : Place) (f : Tree) (R : Name × List Level × Entry × Recursor) (front : List Tree) → IsMajorOf w (head f) (length (args f)) R → front ≡ args f → f ≡ apply (const R.0 R.1) front → IsWellFormed f → RecApp w
rec_app w f R front h ef i ff = record {
  name = R.0;
  levels = R.1;
  front = front;
  entry = R.2;
  recursor = R.3;
  given = h.given;
  kind = h.kind;
  front_is = ap (length {A = Tree}) ef ∙ h.count;
  fine = subst IsWellFormed i ff;
}

if_some : (b : Bool) (o p : Option (Unit {0})) (Q : Type 0) → (b ≡ true → IfSome o (λ u. Q)) → IfSome p (λ u. Q) → IfSome (if b then o else p) (λ u. Q)
if_some true o p Q f g = f refl
if_some false o p Q f g = g

reads_as_right : (w : Place) (m n : Tree) → IfSome (reads_as w m n) (λ u. Reads w m n)
reads_as_right w (lit zero) n = if_test (is_same_tree n (named nat_zero)) (Reads w (lit 0) n) (λ t. let e : n ≡ named nat_zero = same_tree n (named nat_zero) t in rw e as_zero)
reads_as_right w (lit (suc k)) n = if_test (is_same_tree n (app (named nat_succ) (lit k))) (Reads w (lit (suc k)) n) (λ t. let e : n ≡ app (named nat_succ) (lit k) = same_tree n (app (named nat_succ) (lit k)) t in rw e as_succ)
reads_as_right w (str s) n = if_bind (found w (text_to_ctor (str s))) _ (λ x. ReadsText w (str s) x) (λ u. Reads w (str s) n) (found_right w (text_to_ctor (str s)) (λ x. ReadsText w (str s) x) (sound_text_to_ctor w (str s)))
    (λ x h. if_test (is_same_tree n x) (Reads w (str s) n) (λ t. let e : n ≡ x = same_tree n x t in rw e (by_text h)))
reads_as_right w _ n = tt

reads_right : (w : Place) (m n : Tree) → IfSome (reads w m n) (λ u. Reads w m n)
reads_right w m n = if_some (is_same_tree n m) (Some tt) (reads_as w m n) (Reads w m n) (λ t. let e : n ≡ m = same_tree n m t in rw e (by_text as_it_is)) (reads_as_right w m n)

major_made : (w : Place) (f g e m n : Tree) (R : Name × List Level × Entry × Recursor) → IsMajorOf w (head f) (length (args f)) R → (front : List Tree) → front ≡ args f → f ≡ apply (const R.0 R.1) front → g ≡ f → IsWellFormed f → Reduces w e m → Reads w m n →
    Reduces w (app f e) (app g n)
major_made w f g e m n R im front ef i j ff h rd = rw (j, i) (r_major (rec_app w f R front im ef i ff) h rd)

pub major_is : (w : Place) (ps : List Claim) → AllDerived w ps → (js : Left) (a b : Tree) → IsWellFormed a → IfSome (red_major w ps js a b) (λ u. Reduces w a b)
major_is w ps d js (app f e) (app g n) fa =
    let G : Type 0 = Reduces w (app f e) (app g n) in
    on_major w (head f) (length (args f)) _ (λ u. G) (λ R im.
    on_test (is_same_tree g f) _ (λ u. G) (λ t.
    on_reduced w ps d js e fa.1 _ (λ u. G) (λ m h.
    if_bind (reads w m.0 n) _ (λ u. Reads w m.0 n) (λ u. G) (reads_right w m.0 n) (λ u rd.
    if_none_left m.1 G (major_made w f g e m.0 n R im (args f) refl (spine_is f R.0 R.0 R.1 im.head_is refl) (same_tree g f t) fa.0 h rd)))))
major_is w ps d js _ _ fa = tt

rule_at : (rs : List RecRule) (i : ℕ) (r : RecRule) → slice_get rs i ≡ Some r → IsRuleOf r rs
rule_at [] i r e = absurd cc
rule_at (s ∷ rs) zero r e = inl (Some_inj e)
rule_at (s ∷ rs) (suc i) r e = inr (rule_at rs i r e)

iota_made : (w : Place) (f e : Tree) (R : Name × List Level × Entry × Recursor) → IsMajorOf w (head f) (length (args f)) R → (front : List Tree) → front ≡ args f → f ≡ apply (const R.0 R.1) front →
    (rule : RecRule) → IsRuleOf rule R.3.rules → (c : Name) (ks : List Level) (xs : List Tree) → e ≡ apply (const c ks) xs → (g : Entry) → w.means c ≡ Some g →
    (block : Block) (ind : BlockType) (ctor : Ctor) → g.kind ≡ a_ctor block ind ctor →
    ((same_name rule.ctor c && nat_eq (length R.1) (length R.2.levels)) && nat_eq (length xs) (ctor.parameters + rule.fields)) ≡ true → IsWellFormed (app f e) →
    IsWellFormed (apply (apply (put_levels R.2.levels R.1 rule.value) (take (R.3.parameters + R.3.motives + R.3.minors) front)) (drop ctor.parameters xs)) →
    Reduces w (app f e) (apply (apply (put_levels R.2.levels R.1 rule.value) (take (R.3.parameters + R.3.motives + R.3.minors) front)) (drop ctor.parameters xs))
iota_made w f e R im front ef i rule has c ks xs j g m block ind ctor k n fa fr =
    let x : ((same_name rule.ctor c && nat_eq (length R.1) (length R.2.levels)) ≡ true) × (nat_eq (length xs) (ctor.parameters + rule.fields) ≡ true) = halves (same_name rule.ctor c && nat_eq (length R.1) (length R.2.levels)) (nat_eq (length xs) (ctor.parameters + rule.fields)) n in
    let y : (same_name rule.ctor c ≡ true) × (nat_eq (length R.1) (length R.2.levels) ≡ true) = halves (same_name rule.ctor c) (nat_eq (length R.1) (length R.2.levels)) x.0 in
    let r : Tree = apply (apply (put_levels R.2.levels R.1 rule.value) (take (R.3.parameters + R.3.motives + R.3.minors) front)) (drop ctor.parameters xs) in
    let q : app f e ≡ app (apply (const R.0 R.1) front) (apply (const c ks) xs) = ap (λ h. app h e) i ∙ ap (λ z. app (apply (const R.0 R.1) front) z) j in
    let on : RecApp w = rec_app w f R front im ef i fa.0 in
    let applied : CtorApp w = record { name = c; levels = ks; args = xs; entry = g; block = block; ind = ind; ctor = ctor; given = m; kind = k } in
    let has_rule : HasRule on applied = record {
      rule = rule;
      is_rule = has;
      for_ctor = same_name_right rule.ctor c y.0;
      levels_are = equal_numbers (length R.1) (length R.2.levels) y.1;
      args_are = equal_numbers (length xs) (ctor.parameters + rule.fields) x.1;
    } in
    subst (λ z. Reduces w z r) (sym q) (r_iota on applied has_rule (subst IsWellFormed j fa.1) fr)

pub iota_is : (w : Place) (i : ℕ) (js : Left) (a b : Tree) → IsWellFormed a → IsWellFormed b → IfSome (red_iota w i js a b) (λ u. Reduces w a b)
iota_is w i js (app f e) b fa fb =
    let G : Type 0 = Reduces w (app f e) b in
    on_major w (head f) (length (args f)) _ (λ u. G) (λ R im.
    on_some (slice_get R.3.rules i) _ (λ u. G) (λ rule at.
    on_const (head e) _ (λ u. G) (λ c ec.
    on_some (w.means c.0) _ (λ u. G) (λ g m.
    if_bind (ctor_in g.kind) _ (λ k. g.kind ≡ a_ctor k.0 k.1 k.2) (λ u. G) (ctor_right g.kind) (λ k hk.
    on_test ((same_name rule.ctor c.0 && nat_eq (length R.1) (length R.2.levels)) && nat_eq (length (args e)) (k.2.parameters + rule.fields)) _ (λ u. G) (λ n.
    comes_fine b (apply (apply (put_levels R.2.levels R.1 rule.value) (take (R.3.parameters + R.3.motives + R.3.minors) (args f))) (drop k.2.parameters (args e))) js (λ b. Reduces w (app f e) b) fb
    (λ fr. iota_made w f e R im (args f) refl (spine_is f R.0 R.0 R.1 im.head_is refl) rule (rule_at R.3.rules i rule at) c.0 c.1 (args e) (spine_is e c.0 c.0 c.1 ec refl) g m k.0 k.1 k.2 hk n fa fr)))))))
iota_is w i js _ b fa fb = tt

k_made : (w : Place) (f g e d : Tree) (R : Name × List Level × Entry × Recursor) → IsMajorOf w (head f) (length (args f)) R → (front : List Tree) → front ≡ args f → f ≡ apply (const R.0 R.1) front → g ≡ f → R.3.k ≡ true →
    (rule : RecRule) → R.3.rules ≡ rule ∷ [] → (m : Entry) → w.means rule.ctor ≡ Some m → (block : Block) (ind : BlockType) (ctor : Ctor) → m.kind ≡ a_ctor block ind ctor →
    (T₀ T : Tree) → HasType w e T₀ → Reduces w T₀ T → (ks : List Level) (xs : List Tree) → T ≡ apply (const ind.name ks) xs → ctor.parameters ≤ length xs →
    d ≡ apply (const rule.ctor ks) (take ctor.parameters xs) → (D : Tree) → HasType w d D → IsDefEq w T D → IsWellFormed f → Reduces w (app f e) (app g d)
k_made w f g e d R im front ef i j kk rule one m mm block ind ctor hk T₀ T h₀ red ks xs t le ed D hD q ff =
    let p : ℕ = ctor.parameters in
    let at : T ≡ apply (const ind.name ks) (take p xs ++ drop p xs) = t ∙ ap (λ ys. apply (const ind.name ks) ys) (sym (take-append-drop p xs)) in
    let on : RecApp w = rec_app w f R front im ef i ff in
    let applied : CtorApp w = record { name = rule.ctor; levels = ks; args = take p xs; entry = m; block = block; ind = ind; ctor = ctor; given = mm; kind = hk } in
    let k : KMajor on = record { ctor = applied; rest = drop p xs; k_is = kk; only = record { rule = rule; one_rule = one; for_ctor = refl }; params_are = length_taken p xs le } in
    rw (j, i, ed) (r_k on k h₀ (subst (λ T. Reduces w T₀ T) at red) (subst (λ d. HasType w d D) ed hD) (subst (λ T. IsDefEq w T D) at q))

pub k_is : (w : Place) (ps : List Claim) → AllDerived w ps → (js : Left) (a b : Tree) → IsWellFormed a → IfSome (red_k w ps js a b) (λ u. Reduces w a b)
k_is w ps d js (app f e) (app g t) fa =
    let G : Type 0 = Reduces w (app f e) (app g t) in
    on_major w (head f) (length (args f)) _ (λ u. G) (λ R im.
    on_test (is_same_tree g f && R.3.k) _ (λ u. G) (λ n. let both : (is_same_tree g f ≡ true) × (R.3.k ≡ true) = halves (is_same_tree g f) R.3.k n in
    if_bind (the_rule R.3.rules) _ (λ r. R.3.rules ≡ r ∷ []) (λ u. G) (rule_right R.3.rules) (λ rule one.
    on_some (w.means rule.ctor) _ (λ u. G) (λ m mm.
    if_bind (ctor_in m.kind) _ (λ k. m.kind ≡ a_ctor k.0 k.1 k.2) (λ u. G) (ctor_right m.kind) (λ k hk.
    on_typed w ps d js e _ (λ u. G) (λ T₀ h₀.
    on_reduced w ps d T₀.1 T₀.0 (well_formed_of_type h₀).1 _ (λ u. G) (λ T hT.
    on_const (head T.0) _ (λ u. G) (λ J eJ.
    on_test (same_name k.1.name J.0 && nat_le k.2.parameters (length (args T.0))) _ (λ u. G) (λ v.
    let vs : (same_name k.1.name J.0 ≡ true) × (nat_le k.2.parameters (length (args T.0)) ≡ true) = halves (same_name k.1.name J.0) (nat_le k.2.parameters (length (args T.0))) v in
    on_test (is_same_tree t (apply (const rule.ctor J.1) (take k.2.parameters (args T.0)))) _ (λ u. G) (λ x.
    on_typed w ps d T.1 t _ (λ u. G) (λ D hD.
    on_equal w ps d D.1 T.0 D.0 (well_formed_of_reduct hT).1 _ (λ u. G) (λ r q.
    if_none_left r G (k_made w f g e t R im (args f) refl (spine_is f R.0 R.0 R.1 im.head_is refl) (same_tree g f both.0) both.1 rule one m mm k.0 k.1 k.2 hk T₀.0 T.0 h₀ hT J.1 (args T.0)
    (spine_is T.0 J.0 k.1.name J.1 eJ (sym (same_name_right k.1.name J.0 vs.0))) (at_most_right k.2.parameters (length (args T.0)) vs.1)
    (same_tree t (apply (const rule.ctor J.1) (take k.2.parameters (args T.0))) x) D.0 hD q fa.0)))))))))))))
k_is w ps d js _ _ fa = tt

not_true : (b : Bool) → not b ≡ true → b ≡ false
not_true true h = absurd cc
not_true false h = refl

expand_made : (w : Place) → WellStated w → (f g m n : Tree) (R : Name × List Level × Entry × Recursor) → IsMajorOf w (head f) (length (args f)) R → (front : List Tree) → front ≡ args f → f ≡ apply (const R.0 R.1) front → g ≡ f →
    (rule : RecRule) → R.3.rules ≡ rule ∷ [] → (e : Entry) → w.means rule.ctor ≡ Some e → (block : Block) (ind : BlockType) (ctor : Ctor) → e.kind ≡ a_ctor block ind ctor →
    (T₀ T : Tree) → HasType w m T₀ → Reduces w T₀ T → (ls : List Level) (xs : List Tree) → T ≡ apply (const ind.name ls) xs →
    (has_one_ctor ind.ctors && (is_structure_like block ind ctor && nat_eq (length xs) ctor.parameters)) ≡ true →
    n ≡ apply (const rule.ctor ls) (xs ++ projections ind.name m 0 ctor.fields) → (l : Level) → HasSort w T l → is_zero_level l ≡ false → IsWellFormed f → Reduces w (app f m) (app g n)
expand_made w ok f g m n R im front ef i j rule one e me block ind ctor hk T₀ T h₀ red ls xs t v en l hl z ff =
    let a : (has_one_ctor ind.ctors ≡ true) × ((is_structure_like block ind ctor && nat_eq (length xs) ctor.parameters) ≡ true) = halves (has_one_ctor ind.ctors) (is_structure_like block ind ctor && nat_eq (length xs) ctor.parameters) v in
    let b : (is_structure_like block ind ctor ≡ true) × (nat_eq (length xs) ctor.parameters ≡ true) = halves (is_structure_like block ind ctor) (nat_eq (length xs) ctor.parameters) a.1 in
    let s : Structure w =
    record {
      ctor_name = rule.ctor;
      entry = e;
      block = block;
      ind = ind;
      ctor = ctor;
      given = me;
      kind = hk;
      one_ctor = the_ctor ctor ind.ctors a.0 (listed_of e block ind ctor hk (ok rule.ctor e me).1);
      like = b.0;
    } in
    let S : StructureAt w = record { structure = s; levels = ls; params = xs; params_are = equal_numbers (length xs) ctor.parameters b.1 } in
    rw (j, i, en) (r_struct (rec_app w f R front im ef i ff) S (record { rule = rule; one_rule = one; for_ctor = refl }) h₀ (subst (λ T. Reduces w T₀ T) t red) (not_prop {l = l} (subst (λ T. HasSort w T l) t hl) (not_zero_level l z)))

pub expand_is : (w : Place) → WellStated w → (ps : List Claim) → AllDerived w ps → (js : Left) (a b : Tree) → IsWellFormed a → IfSome (red_expand w ps js a b) (λ u. Reduces w a b)
expand_is w ok ps d js (app f m) (app g n) fa =
    let G : Type 0 = Reduces w (app f m) (app g n) in
    on_major w (head f) (length (args f)) _ (λ u. G) (λ R im.
    on_test (is_same_tree g f) _ (λ u. G) (λ s.
    if_bind (the_rule R.3.rules) _ (λ r. R.3.rules ≡ r ∷ []) (λ u. G) (rule_right R.3.rules) (λ rule one.
    on_some (w.means rule.ctor) _ (λ u. G) (λ e me.
    if_bind (ctor_in e.kind) _ (λ k. e.kind ≡ a_ctor k.0 k.1 k.2) (λ u. G) (ctor_right e.kind) (λ k hk.
    on_typed w ps d js m _ (λ u. G) (λ T₀ h₀.
    on_reduced w ps d T₀.1 T₀.0 (well_formed_of_type h₀).1 _ (λ u. G) (λ T hT.
    on_const (head T.0) _ (λ u. G) (λ J eJ.
    on_test (same_name k.1.name J.0 && (has_one_ctor k.1.ctors && (is_structure_like k.0 k.1 k.2 && nat_eq (length (args T.0)) k.2.parameters))) _ (λ u. G) (λ v.
    let vs : (same_name k.1.name J.0 ≡ true) × ((has_one_ctor k.1.ctors && (is_structure_like k.0 k.1 k.2 && nat_eq (length (args T.0)) k.2.parameters)) ≡ true) =
    halves (same_name k.1.name J.0) (has_one_ctor k.1.ctors && (is_structure_like k.0 k.1 k.2 && nat_eq (length (args T.0)) k.2.parameters)) v in
    let ej : k.1.name ≡ J.0 = same_name_right k.1.name J.0 vs.0 in
    on_test (is_same_tree n (apply (const rule.ctor J.1) (args T.0 ++ projections J.0 m 0 k.2.fields))) _ (λ u. G) (λ x.
    on_sorted w ps d T.1 T.0 _ (λ u. G) (λ l hl.
    on_test (not (is_zero_level l.0)) _ (λ u. G) (λ z.
    if_none_left l.1 G (expand_made w ok f g m n R im (args f) refl (spine_is f R.0 R.0 R.1 im.head_is refl) (same_tree g f s) rule one e me k.0 k.1 k.2 hk T₀.0 T.0 h₀ hT J.1 (args T.0)
    (spine_is T.0 J.0 k.1.name J.1 eJ (sym ej)) vs.1
    (same_tree n (apply (const rule.ctor J.1) (args T.0 ++ projections J.0 m 0 k.2.fields)) x ∙ ap (λ c. apply (const rule.ctor J.1) (args T.0 ++ projections c m 0 k.2.fields)) (sym ej))
    l.0 hl (not_true (is_zero_level l.0) z) fa.0)))))))))))))
expand_is w ok ps d js _ _ fa = tt
