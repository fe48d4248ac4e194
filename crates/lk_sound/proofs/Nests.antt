-- The walk for nested occurrences: what it puts in is read back as it was.
use Rattle.std.proofs.Common.{ℕ, zero, suc, ◌≡◌, ◌+◌, ◌⊎◌, inl, inr, Bool, true, false, ◌&&◌, ◌||◌, not, nat_eq, nat_le, List, [], ◌∷◌, ◌++◌, length, map, Option, Some, None, refl, ap, sym, subst, ◌∙◌, if◌then◌else◌, arith}
use Rattle.std.proofs.lemmas.Bool.Decides.{nat_tests}
use Rattle.lk_tree.specs.Tree.{Name, Level, param, Tree, var, sort, const, app, lam, pi, let_in, proj, lit, wide, str, local}
use Rattle.lk_tree.specs.Spine.{apply, head, args}
use Rattle.lk_tree.specs.WellFormed.{IsWellFormed, IsWellFormedUnder, HasLocal}
use Rattle.lk_tree.specs.declared.rule.Rule.TheVariants.{UnknownConstant, NestedForm}
use Rattle.lk_tree.proofs.Binding.{fine_more}
use Rattle.lk_tree.proofs.Lists.{local_of_apply}
use Rattle.lk_tree.proofs.Spines.{fine_apply}
use Rattle.lk_tree.proofs.Within.{apply_head_args}
use Rattle.lk_rulebook.specs.Place.{Place, Entry, Kind, Block, BlockType, a_type}
use Rattle.lk_tree.specs.Mentions.{is_one_of}
use Rattle.lk_questions.specs.Program.{Program, done, look, ◌>>=◌}
use Rattle.lk_questions.specs.Sound.{IsSound, WellStated, KindStated, CtorsStated, TypesStated, IsStated}
use Rattle.lk_questions.proofs.Soundness.{sound_bind}
use Rattle.lk_claims.proofs.Pieces.{sound_given, same_tree}
use Rattle.lk_claims.proofs.Facts.{sound_if}
use Rattle.lk_inductive.specs.Relation.{IsAmong}
use Rattle.lk_inductive.specs.BlockSteps.{mention_none}
use Rattle.lk_inductive.specs.Nested.{Aux, Setting, is_loose, has_only, may_nest, same_aux, aux_at, family_of, other_count, aux_applied, aux_name, met, replaced, at_kind, at_head, nest, aux_from}
use Rattle.lk_inductive.specs.Restore.{Original, applied_to, all_stand, stands_for, put_at, after_own, put_back, restore}
use Rattle.lk_inductive.specs.NestedRelation.{AreOverParams, Clear, ClearCtors, ClearTypes, IsClear}
use Rattle.lk_sound.proofs.Positive.{and_both, not_true}
use Rattle.lk_sound.proofs.Clears.{all_marked, clear_back, backs, back_apply, clear_backs, after_own_itself, aux_stands}
use Rattle.lk_sound.proofs.Instances.{Only, HeldUnder, AllHeld, ParamsHeld, closed}
use Rattle.lk_sound.proofs.Auxs.{AllAux, all_aux_append, IsHead, IsFamily, sound_family}

-- more auxiliary types, with those there were in front
abbrev pub Extends : List Aux → List Aux → Type 0
Extends as_ bs = (i : ℕ) (a : Aux) → aux_from as_ i ≡ Some a → aux_from bs i ≡ Some a

pub extends_append : (as_ ys : List Aux) → Extends as_ (as_ ++ ys)
extends_append [] ys i a e = absurd cc
extends_append (x ∷ as_) ys zero a e = e
extends_append (x ∷ as_) ys (suc i) a e = extends_append as_ ys i a e

at_end : (as_ ys : List Aux) (x : Aux) → aux_from (as_ ++ (x ∷ ys)) (length as_) ≡ Some x
at_end [] ys x = refl
at_end (a ∷ as_) ys x = at_end as_ ys x

pub extends_trans : (as_ bs cs : List Aux) → Extends as_ bs → Extends bs cs → Extends as_ cs
extends_trans as_ bs cs f g i a e = g i a (f i a e)

-- what the walk makes of e, with the auxiliary types at its end: whatever is added later, it is read back as e
pub record Nests (w : Place) (s : Setting) (T₁ : Name) (d : ℕ) (e : Tree) (as_ : List Aux) (v : Tree × List Aux) : Type 0 where
  pub extends : Extends as_ v.1
  pub reads : (bs : List Aux) (xs : List Tree) → Extends v.1 bs → restore (all_stand T₁ 0 bs) s v.0 xs ≡ apply e xs
  pub fine : IsWellFormedUnder d v.0
  pub only : Only s.params v.0
  pub auxs : AllAux w s v.1

-- an application of auxiliary type i
applied_back : (s : Setting) (T₁ : Name) (bs : List Aux) (i : ℕ) (a : Aux) (xs : List Tree) → ParamsHeld s → aux_from bs i ≡ Some a →
    restore (all_stand T₁ 0 bs) s (aux_applied s i) xs ≡ apply (apply (const a.name a.levels) a.args) xs
applied_back s T₁ bs i a xs ph e =
    let ms : List (Name × Original) = all_stand T₁ 0 bs in
    let ps : List Tree = s.params in
    let ls : List Level = map param s.levels in
    let one : restore ms s (aux_applied s i) xs ≡ put_back s (aux_name i) ls (backs ms s ps ++ xs) (stands_for ms (aux_name i)) = back_apply ms s (const (aux_name i) ls) ps xs in
    let same : backs ms s ps ++ xs ≡ ps ++ xs = ap (λ ys. ys ++ xs) (clear_backs ms s ps (all_marked T₁ 0 bs) ph.clear) in
    let two : put_back s (aux_name i) ls (backs ms s ps ++ xs) (stands_for ms (aux_name i)) ≡ put_back s (aux_name i) ls (ps ++ xs) (stands_for ms (aux_name i)) = ap (λ ys. put_back s (aux_name i) ls ys (stands_for ms (aux_name i))) same in
    let number : 0 + i ≡ i = omega arith in
    let has_pis : stands_for ms (aux_name i) ≡ Some (applied_to a.name a.levels a.args) = ap (λ n. stands_for ms (aux_name n)) (sym number) ∙ aux_stands T₁ 0 i bs a e in
    let three : put_back s (aux_name i) ls (ps ++ xs) (stands_for ms (aux_name i)) ≡ put_at (aux_name i) ls (ps ++ xs) a.name a.levels a.args (after_own s (aux_name i) ls (ps ++ xs)) =
    ap (put_back s (aux_name i) ls (ps ++ xs)) has_pis in
    one ∙ (two ∙ (three ∙ ap (put_at (aux_name i) ls (ps ++ xs) a.name a.levels a.args) (after_own_itself s (aux_name i) xs)))

applied_fine : (s : Setting) (i d : ℕ) → ParamsHeld s → IsWellFormedUnder d (aux_applied s i)
applied_fine s i d h = fine_more 0 d (aux_applied s i) (omega arith) (fine_apply (const (aux_name i) (map param s.levels)) s.params tt h.fine)

applied_only : (s : Setting) (i : ℕ) → ParamsHeld s → Only s.params (aux_applied s i)
applied_only s i h k T m = elim (local_of_apply k T (const (aux_name i) (map param s.levels)) s.params m) [ inl l ↦ absurd l | inr r ↦ h.only k T r ]

-- where an auxiliary type was met
abbrev IfFound : ℕ → List Aux → Name → List Level → List Tree → Option ℕ → Type 0
IfFound i as_ J ls bs None = Unit {0}
IfFound i as_ J ls bs (Some k) = (m : ℕ) × (k ≡ i + m) × (a : Aux) × (aux_from as_ m ≡ Some a) × (apply (const J ls) bs ≡ apply (const a.name a.levels) a.args)

shift_found : (i : ℕ) (a : Aux) (as_ : List Aux) (J : Name) (ls : List Level) (bs : List Tree) (o : Option ℕ) → IfFound (suc i) as_ J ls bs o → IfFound i (a ∷ as_) J ls bs o
shift_found i a as_ J ls bs None h = tt
shift_found i a as_ J ls bs (Some k) h = (suc h.0, omega (arith, h.1), h.2, h.3, h.4)

aux_found : (i : ℕ) (as_ : List Aux) (J : Name) (ls : List Level) (bs : List Tree) → IfFound i as_ J ls bs (aux_at i as_ J ls bs)
aux_found i [] J ls bs = tt
aux_found i (a ∷ as_) J ls bs = go (shift_found i a as_ J ls bs (aux_at (suc i) as_ J ls bs) (aux_found (suc i) as_ J ls bs)) (same_aux J ls bs a) refl
  where
    go : IfFound i (a ∷ as_) J ls bs (aux_at (suc i) as_ J ls bs) → (b : Bool) → same_aux J ls bs a ≡ b → IfFound i (a ∷ as_) J ls bs (if b then Some i else aux_at (suc i) as_ J ls bs)
    go h true e = (0, omega arith, a, refl, same_tree (apply (const J ls) bs) (apply (const a.name a.levels) a.args) e)
    go h false e = h

-- J ls b1 .. bq where the place has J of an earlier block
pub record IsEarlier (w : Place) (s : Setting) (J : Name) (b : Block) (t : BlockType) : Type 0 where
  pub entry : Entry
  pub given : w.means J ≡ Some entry
  pub kind : entry.kind ≡ a_type b t
  pub earlier : is_one_of s.names J ≡ false
  pub type : IsStated t.type
  pub ctors : CtorsStated t.ctors
  pub types : TypesStated b.types
  pub clear : (Clear t.type × ClearCtors t.ctors) × ClearTypes b.types

first_is : (as_ bs : List Aux) (x : Aux) (ys : List Aux) → bs ≡ x ∷ ys → aux_from (as_ ++ bs) (length as_) ≡ Some x
first_is as_ bs x ys e = subst (λ zs. aux_from (as_ ++ zs) (length as_) ≡ Some x) (sym e) (at_end as_ ys x)

sound_met : (w : Place) (s : Setting) (T₁ : Name) (d : ℕ) (e : Tree) (as_ : List Aux) (J : Name) (ls : List Level) (bs : List Tree) (b : Block) (t : BlockType) → ParamsHeld s → IsEarlier w s J b t → IsHead w s J b t bs →
    e ≡ apply (const J ls) bs → AllAux w s as_ → (o : Option ℕ) → IfFound 0 as_ J ls bs o → IsSound w (met s as_ J ls bs b t o) (Nests w s T₁ d e as_)
sound_met w s T₁ d e as_ J ls bs b t ps ear h is all (Some i) f =
    let k : i ≡ f.0 = omega (arith, f.1) in record {
      extends = λ j a q. q;
      reads = λ cs xs ext. ap (λ j. restore (all_stand T₁ 0 cs) s (aux_applied s j) xs) k
          ∙ (applied_back s T₁ cs f.0 f.2 xs ps (ext f.0 f.2 f.3)
          ∙ (ap (λ x. apply x xs) (sym f.4) ∙ ap (λ x. apply x xs) (sym is)));
      fine = applied_fine s i d ps;
      only = applied_only s i ps;
      auxs = all;
    }
sound_met w s T₁ d e as_ J ls bs b t ps ear h is all None f =
    sound_given w (nat_le (length as_ + suc (other_count J b.types)) 1024) NestedForm (family_of s ls bs J b t >>= λ ms. done (aux_applied s (length as_), as_ ++ ms)) (Nests w s T₁ d e as_)
    (λ z. sound_bind w (family_of s ls bs J b t) (λ ms. done (aux_applied s (length as_), as_ ++ ms)) (IsFamily w s J ls bs) (Nests w s T₁ d e as_)
    (sound_family w s ls bs J b t ps h ear.type ear.ctors ear.types ear.clear.0.0 ear.clear.0.1 ear.clear.1)
    (λ ms hms.
    let same : apply (const hms.first.name hms.first.levels) hms.first.args ≡ apply (const J ls) bs = ap (λ x. apply (const x hms.first.levels) hms.first.args) hms.name ∙ (ap (λ x. apply (const J x) hms.first.args) hms.levels ∙ ap (apply (const J ls)) hms.args) in record {
      extends = extends_append as_ ms;
      reads = λ cs xs ext. applied_back s T₁ cs (length as_) hms.first xs ps (ext (length as_) hms.first (first_is as_ ms hms.first hms.rest hms.parts))
          ∙ (ap (λ x. apply x xs) same ∙ ap (λ x. apply x xs) (sym is));
      fine = applied_fine s (length as_) d ps;
      only = applied_only s (length as_) ps;
      auxs = all_aux_append w s as_ ms all hms.all;
    }))

-- arguments without loose variables
abbrev pub HeldArgs : ℕ → Setting → List Tree → Type 0
HeldArgs d s xs = AllHeld d s xs

held_args_append : (d : ℕ) (s : Setting) (xs ys : List Tree) → AllHeld d s xs → AllHeld d s ys → AllHeld d s (xs ++ ys)
held_args_append d s [] ys h i = i
held_args_append d s (x ∷ xs) ys h i = (h.0, held_args_append d s xs ys h.1 i)

held_fun : (d : ℕ) (s : Setting) (f a : Tree) → HeldUnder d s (app f a) → HeldUnder d s f
held_fun d s f a h = record { fine = h.fine.0; only = λ k T m. h.only k T (inl m); clear = h.clear.0 }

held_arg : (d : ℕ) (s : Setting) (f a : Tree) → HeldUnder d s (app f a) → HeldUnder d s a
held_arg d s f a h = record { fine = h.fine.1; only = λ k T m. h.only k T (inr m); clear = h.clear.1 }

held_args : (d : ℕ) (s : Setting) (e : Tree) → HeldUnder d s e → AllHeld d s (args e)
unfolding args
held_args d s (app f a) h = held_args_append d s (args f) (a ∷ []) (held_args d s f (held_fun d s f a h)) (held_arg d s f a h, tt)
held_args d s _ h = tt

closed_args : (d : ℕ) (s : Setting) (xs : List Tree) → AllHeld d s xs → may_nest s.params xs ≡ true → AllHeld 0 s xs × AreOverParams s.params xs
closed_args d s [] h y = (tt, tt)
closed_args d s (x ∷ xs) h y =
    let t : ((not (is_loose 0 x) && has_only s.params x) ≡ true) × (may_nest s.params xs ≡ true) = and_both (not (is_loose 0 x) && has_only s.params x) (may_nest s.params xs) y in
    let u : (not (is_loose 0 x) ≡ true) × (has_only s.params x ≡ true) = and_both (not (is_loose 0 x)) (has_only s.params x) t.0 in
    let f : IsWellFormed x = closed 0 d x h.0.fine (not_true (is_loose 0 x) u.0) in
    let r : AllHeld 0 s xs × AreOverParams s.params xs = closed_args d s xs h.1 t.1 in
    ((record { fine = f; only = h.0.only; clear = h.0.clear }, r.0), ((f, h.0.only), r.1))

earlier_of : (w : Place) (s : Setting) (J : Name) (g : Entry) (b : Block) (t : BlockType) → WellStated w → IsClear w → w.means J ≡ Some g → g.kind ≡ a_type b t → is_one_of s.names J ≡ false → IsEarlier w s J b t
earlier_of w s J g b t ok cl m k n =
    let st : KindStated (a_type b t) = rw k at (ok J g m).1 in record {
      entry = g;
      given = m;
      kind = k;
      earlier = n;
      type = st.0.0;
      ctors = st.0.1;
      types = st.1;
      clear = cl J g b t m k;
    }

replaced_nests : (w : Place) (s : Setting) (T₁ : Name) (d : ℕ) (e : Tree) (as_ : List Aux) (J : Name) (ls : List Level) (xs : List Tree) (b : Block) (t : BlockType) → ParamsHeld s → IsEarlier w s J b t →
    length xs ≡ t.parameters → AllHeld d s xs → e ≡ apply (const J ls) xs → AllAux w s as_ → IsSound w (replaced s as_ J ls xs b t) (Nests w s T₁ d e as_)
replaced_nests w s T₁ d e as_ J ls xs b t ps ear n hx is all =
    sound_given w (may_nest s.params xs) NestedForm (met s as_ J ls xs b t (aux_at 0 as_ J ls xs)) (Nests w s T₁ d e as_)
    (λ y.
    let c : AllHeld 0 s xs × AreOverParams s.params xs = closed_args d s xs hx y in
    sound_met w s T₁ d e as_ J ls xs b t ps ear (record { entry = ear.entry; given = ear.given; kind = ear.kind; earlier = ear.earlier; parameters = n; args = c.1; held = c.0 }) is all
    (aux_at 0 as_ J ls xs) (aux_found 0 as_ J ls xs))

kind_nests : (w : Place) (s : Setting) (T₁ : Name) (d : ℕ) (e : Tree) (as_ : List Aux) (J : Name) (ls : List Level) (xs : List Tree) (g : Entry) (next : Program (Tree × List Aux)) → WellStated w → IsClear w → ParamsHeld s →
    w.means J ≡ Some g → is_one_of s.names J ≡ false → AllHeld d s xs → e ≡ apply (const J ls) xs → AllAux w s as_ → IsSound w next (Nests w s T₁ d e as_) →
    (k : Kind) → g.kind ≡ k → IsSound w (at_kind s as_ J ls xs k next) (Nests w s T₁ d e as_)
kind_nests w s T₁ d e as_ J ls xs g next ok cl ps m n hx is all h (a_type b t) k =
    sound_if w (nat_eq (length xs) t.parameters) (replaced s as_ J ls xs b t) next (Nests w s T₁ d e as_)
    (λ y. replaced_nests w s T₁ d e as_ J ls xs b t ps (earlier_of w s J g b t ok cl m k n) (grind (arith, nat_tests, y)) hx is all) (λ y. h)
kind_nests w s T₁ d e as_ J ls xs g next ok cl ps m n hx is all h _ k = h

not_either : (a b : Bool) → (a || b) ≡ false → a ≡ false
not_either true b h = absurd cc
not_either false b h = refl

head_nests : (w : Place) (s : Setting) (T₁ : Name) (d : ℕ) (e : Tree) (as_ : List Aux) (xs : List Tree) (next : Program (Tree × List Aux)) → WellStated w → IsClear w → ParamsHeld s → AllHeld d s xs → AllAux w s as_ → IsSound w next (Nests w s T₁ d e as_) →
    (h : Tree) → e ≡ apply h xs → IsSound w (at_head s as_ h xs next) (Nests w s T₁ d e as_)
head_nests w s T₁ d e as_ xs next ok cl ps hx all h (const J ls) is =
    sound_if w (is_one_of s.names J || mention_none s.names xs) next (look UnknownConstant J λ g. at_kind s as_ J ls xs g.kind next) (Nests w s T₁ d e as_)
    (λ y. h) (λ n. λ g m. kind_nests w s T₁ d e as_ J ls xs g next ok cl ps m (not_either (is_one_of s.names J) (mention_none s.names xs) n) hx is all h g.kind refl)
head_nests w s T₁ d e as_ xs next ok cl ps hx all h _ is = h

-- what stays as it is
same_nests : (w : Place) (s : Setting) (T₁ : Name) (d : ℕ) (e : Tree) (as_ : List Aux) → HeldUnder d s e → AllAux w s as_ → Nests w s T₁ d e as_ (e, as_)
same_nests w s T₁ d e as_ h all = record {
  extends = λ i a q. q;
  reads = λ bs xs ext. clear_back (all_stand T₁ 0 bs) s e xs (all_marked T₁ 0 bs) h.clear;
  fine = h.fine;
  only = h.only;
  auxs = all;
}

-- two parts, the second under n binders
two_nests : (w : Place) (s : Setting) (T₁ : Name) (d n : ℕ) (e f a : Tree) (as_ : List Aux) (mk : Tree → Tree → Tree) →
    IsSound w (nest s f as_) (Nests w s T₁ d f as_) → ((bs : List Aux) → AllAux w s bs → IsSound w (nest s a bs) (Nests w s T₁ n a bs)) →
    ((g b : Tree) → IsWellFormedUnder d g → IsWellFormedUnder n b → IsWellFormedUnder d (mk g b)) → ((g b : Tree) → Only s.params g → Only s.params b → Only s.params (mk g b)) →
    ((g b : Tree) (bs : List Aux) (xs : List Tree) → ((ys : List Tree) → restore (all_stand T₁ 0 bs) s g ys ≡ apply f ys) →
    ((ys : List Tree) → restore (all_stand T₁ 0 bs) s b ys ≡ apply a ys) → restore (all_stand T₁ 0 bs) s (mk g b) xs ≡ apply e xs) →
    IsSound w (nest s f as_ >>= λ g. nest s a g.1 >>= λ b. done (mk g.0 b.0, b.1)) (Nests w s T₁ d e as_)
two_nests w s T₁ d n e f a as_ mk hf ha fine only comb =
    sound_bind w (nest s f as_) _ (Nests w s T₁ d f as_) (Nests w s T₁ d e as_) hf
    (λ g hg. sound_bind w (nest s a g.1) _ (Nests w s T₁ n a g.1) (Nests w s T₁ d e as_) (ha g.1 hg.auxs)
    (λ b hb. record {
      extends = extends_trans as_ g.1 b.1 hg.extends hb.extends;
      reads = λ bs xs ext. comb g.0 b.0 bs xs (λ ys. hg.reads bs ys (extends_trans g.1 b.1 bs hb.extends ext)) (λ ys. hb.reads bs ys ext);
      fine = fine g.0 b.0 hg.fine hb.fine;
      only = only g.0 b.0 hg.only hb.only;
      auxs = hb.auxs;
    }))

either_only : (ps : List Tree) (f a : Tree) → Only ps f → Only ps a → (k : ℕ) (T : Tree) → HasLocal k T f ⊎ HasLocal k T a → IsAmong (local k T) ps
either_only ps f a hf ha k T (inl m) = hf k T m
either_only ps f a hf ha k T (inr m) = ha k T m

held_domain : (d : ℕ) (s : Setting) (A b : Tree) → HeldUnder d s (pi A b) → HeldUnder d s A
held_domain d s A b h = record { fine = h.fine.0; only = λ k T m. h.only k T (inl m); clear = h.clear.0 }

held_body : (d : ℕ) (s : Setting) (A b : Tree) → HeldUnder d s (pi A b) → HeldUnder (suc d) s b
held_body d s A b h = record { fine = h.fine.1; only = λ k T m. h.only k T (inr m); clear = h.clear.1 }

as_pi_held : (d : ℕ) (s : Setting) (A b : Tree) → HeldUnder d s (lam A b) → HeldUnder d s (pi A b)
as_pi_held d s A b h = record { fine = h.fine; only = h.only; clear = h.clear }

-- What the walk puts in is read back as it was.
pub nest_sound : (w : Place) (s : Setting) (T₁ : Name) → WellStated w → IsClear w → ParamsHeld s → (e : Tree) (d : ℕ) (as_ : List Aux) → HeldUnder d s e → AllAux w s as_ → IsSound w (nest s e as_) (Nests w s T₁ d e as_)
nest_sound w s T₁ ok cl ps (app f a) d as_ h all =
    head_nests w s T₁ d (app f a) as_ (args (app f a)) (nest s f as_ >>= λ g. nest s a g.1 >>= λ b. done (app g.0 b.0, b.1)) ok cl ps (held_args d s (app f a) h) all
    (two_nests w s T₁ d d (app f a) f a as_ app (nest_sound w s T₁ ok cl ps f d as_ (held_fun d s f a h) all) (λ bs hb. nest_sound w s T₁ ok cl ps a d bs (held_arg d s f a h) hb)
    (λ g b i j. (i, j)) (λ g b i j. either_only s.params g b i j)
    (λ g b bs xs hg hb. hg (restore (all_stand T₁ 0 bs) s b [] ∷ xs) ∙ ap (λ z. apply f (z ∷ xs)) (hb [])))
    (head (app f a)) (sym (apply_head_args (app f a)))
nest_sound w s T₁ ok cl ps (lam A b) d as_ h all =
    two_nests w s T₁ d (suc d) (lam A b) A b as_ lam (nest_sound w s T₁ ok cl ps A d as_ (held_domain d s A b (as_pi_held d s A b h)) all) (λ bs hb. nest_sound w s T₁ ok cl ps b (suc d) bs (held_body d s A b (as_pi_held d s A b h)) hb)
    (λ g b i j. (i, j)) (λ g b i j. either_only s.params g b i j)
    (λ D c bs xs hD hc. ap (λ z. apply (lam z (restore (all_stand T₁ 0 bs) s c [])) xs) (hD []) ∙ ap (λ z. apply (lam A z) xs) (hc []))
nest_sound w s T₁ ok cl ps (pi A b) d as_ h all =
    two_nests w s T₁ d (suc d) (pi A b) A b as_ pi (nest_sound w s T₁ ok cl ps A d as_ (held_domain d s A b h) all) (λ bs hb. nest_sound w s T₁ ok cl ps b (suc d) bs (held_body d s A b h) hb)
    (λ g b i j. (i, j)) (λ g b i j. either_only s.params g b i j)
    (λ D c bs xs hD hc. ap (λ z. apply (pi z (restore (all_stand T₁ 0 bs) s c [])) xs) (hD []) ∙ ap (λ z. apply (pi A z) xs) (hc []))
nest_sound w s T₁ ok cl ps (let_in A v b) d as_ h all =
    let hA : HeldUnder d s A = record { fine = h.fine.0; only = λ k T m. h.only k T (inl m); clear = h.clear.0 } in
    let hv : HeldUnder d s v = record { fine = h.fine.1; only = λ k T m. h.only k T (inr (inl m)); clear = h.clear.1 } in
    let hb : HeldUnder (suc d) s b = record { fine = h.fine.2; only = λ k T m. h.only k T (inr (inr m)); clear = h.clear.2 } in
    sound_bind w (nest s A as_) _ (Nests w s T₁ d A as_) (Nests w s T₁ d (let_in A v b) as_) (nest_sound w s T₁ ok cl ps A d as_ hA all)
    (λ D hD. sound_bind w (nest s v D.1) _ (Nests w s T₁ d v D.1) (Nests w s T₁ d (let_in A v b) as_) (nest_sound w s T₁ ok cl ps v d D.1 hv hD.auxs)
    (λ u hu. sound_bind w (nest s b u.1) _ (Nests w s T₁ (suc d) b u.1) (Nests w s T₁ d (let_in A v b) as_) (nest_sound w s T₁ ok cl ps b (suc d) u.1 hb hu.auxs)
    (λ c hc. record {
      extends = extends_trans as_ D.1 c.1 hD.extends (extends_trans D.1 u.1 c.1 hu.extends hc.extends);
      reads = λ bs xs ext.
          let ms : List (Name × Original) = all_stand T₁ 0 bs in
          let later : Extends u.1 bs = extends_trans u.1 c.1 bs hc.extends ext in
          ap (λ z. apply (let_in z (restore ms s u.0 []) (restore ms s c.0 [])) xs) (hD.reads bs [] (extends_trans D.1 u.1 bs hu.extends later))
          ∙ (ap (λ z. apply (let_in A z (restore ms s c.0 [])) xs) (hu.reads bs [] later) ∙ ap (λ z. apply (let_in A v z) xs) (hc.reads bs [] ext));
      fine = (hD.fine, hu.fine, hc.fine);
      only = λ k T m. elim m [ inl x ↦ hD.only k T x | inr y ↦ either_only s.params u.0 c.0 hu.only hc.only k T y ];
      auxs = hc.auxs;
    })))
nest_sound w s T₁ ok cl ps (proj S i e) d as_ h all =
    sound_bind w (nest s e as_) _ (Nests w s T₁ d e as_) (Nests w s T₁ d (proj S i e) as_) (nest_sound w s T₁ ok cl ps e d as_ (record { fine = h.fine; only = h.only; clear = h.clear }) all)
    (λ f hf. record { extends = hf.extends; reads = λ bs xs ext. ap (λ z. apply (proj S i z) xs) (hf.reads bs [] ext); fine = hf.fine; only = hf.only; auxs = hf.auxs })
nest_sound w s T₁ ok cl ps (const c ls) d as_ h all = same_nests w s T₁ d (const c ls) as_ h all
nest_sound w s T₁ ok cl ps (var i) d as_ h all = same_nests w s T₁ d (var i) as_ h all
nest_sound w s T₁ ok cl ps (sort l) d as_ h all = same_nests w s T₁ d (sort l) as_ h all
nest_sound w s T₁ ok cl ps (lit k) d as_ h all = same_nests w s T₁ d (lit k) as_ h all
nest_sound w s T₁ ok cl ps wide d as_ h all = same_nests w s T₁ d wide as_ h all
nest_sound w s T₁ ok cl ps (str k) d as_ h all = same_nests w s T₁ d (str k) as_ h all
nest_sound w s T₁ ok cl ps (local k T) d as_ h all = same_nests w s T₁ d (local k T) as_ h all
