-- The walks of a field give positive fields, and so constructors.
use Rattle.std.proofs.Common.{ℕ, zero, suc, ◌≡◌, ◌≤◌, ◌⊎◌, inl, inr, Bool, true, false, ◌&&◌, ◌||◌, not, nat_eq, List, [], ◌∷◌, ◌++◌, length, Option, Some, None, refl, ap, ◌∙◌, if◌then◌else◌, arith}
use Rattle.std.proofs.lemmas.Bool.Decides.{nat_tests}
use Rattle.lk_tree.specs.Tree.{Name, name_discrete, Tree, const, pi, local}
use Rattle.lk_tree.specs.Bind.{opened, bound}
use Rattle.lk_tree.specs.Spine.{apply, head, args}
use Rattle.lk_tree.specs.declared.rule.Rule.TheVariants.{NotPositive}
use Rattle.lk_tree.proofs.Within.{apply_head_args}
use Rattle.lk_rulebook.specs.Place.{Place}
use Rattle.lk_tree.specs.Mentions.{mentions, same_name}
use Rattle.lk_rulebook.specs.Rules.{Reduces}
use Rattle.lk_questions.specs.Program.{Program, done, refuse}
use Rattle.lk_questions.specs.Steps.{is_same_tree}
use Rattle.lk_questions.specs.Sound.{IsSound}
use Rattle.lk_questions.proofs.Soundness.{sound_bind}
use Rattle.lk_claims.proofs.Pieces.{same_tree}
use Rattle.lk_claims.proofs.Facts.{sound_if}
use Rattle.lk_inductive.specs.Block.{Frame, FieldKind, plain, under}
use Rattle.lk_inductive.specs.Relation.{MentionNone, IsListed, IsMember, IsPositive, mentions_none, arrow, member}
use Rattle.lk_inductive.specs.BlockSteps.{after_params, mention_none, is_listed, plain_indices, as_member, last_kind, walk_on, walk}
use Rattle.lk_sound.proofs.Scoped.{In, open_in, next_local, goes_in}

pub and_both : (a b : Bool) → (a && b) ≡ true → (a ≡ true) × (b ≡ true)
and_both true true h = (refl, refl)
and_both true false h = absurd cc
and_both false b h = absurd cc

pub or_one : (a b : Bool) → (a || b) ≡ true → (a ≡ true) ⊎ (b ≡ true)
or_one true b h = inl refl
or_one false b h = inr h

pub not_true : (a : Bool) → not a ≡ true → a ≡ false
not_true true h = absurd cc
not_true false h = refl

-- tests that say yes
pub name_of : (c d : Name) → same_name c d ≡ true → c ≡ d
name_of c d h = go (name_discrete c d) h
  where
    go : (x : Dec (c ≡ d)) → elim x as (λ y. Bool) [ yes e ↦ true | no f ↦ false ] ≡ true → c ≡ d
    go (yes e) h = e
    go (no f) h = absurd cc

listed_right : (ts : List (Name × ℕ)) (T : Name) (n : ℕ) → is_listed ts T n ≡ true → IsListed ts T n
listed_right [] T n h = absurd cc
listed_right (t ∷ ts) T n h = elim (or_one (same_name t.0 T && nat_eq t.1 n) (is_listed ts T n) h) [
  | inl e ↦ let b : (same_name t.0 T ≡ true) × (nat_eq t.1 n ≡ true) = and_both (same_name t.0 T) (nat_eq t.1 n) e in inl (name_of t.0 T b.0, grind (arith, nat_tests, b.1))
  | inr e ↦ inr (listed_right ts T n e)
]

none_right : (ns : List Name) (is : List Tree) → mention_none ns is ≡ true → MentionNone ns is
none_right ns [] h = tt
none_right ns (i ∷ is) h =
    let b : (not (mentions ns i) ≡ true) × (mention_none ns is ≡ true) = and_both (not (mentions ns i)) (mention_none ns is) h in
    (not_true (mentions ns i) b.0, none_right ns is b.1)

Some_is : {A : Type 0} {a b : A} → Some a ≡ Some b → a ≡ b
Some_is e = cc

params_right : (ps xs is : List Tree) → after_params ps xs ≡ Some is → xs ≡ ps ++ is
params_right [] xs is h = Some_is h
params_right (p ∷ ps) [] is h = absurd cc
params_right (p ∷ ps) (x ∷ xs) is h = go (params_right ps xs is) (is_same_tree p x) refl h
  where
    go : (after_params ps xs ≡ Some is → xs ≡ ps ++ is) → (b : Bool) → is_same_tree p x ≡ b → (if b then after_params ps xs else None) ≡ Some is → (x ∷ xs) ≡ (p ∷ (ps ++ is))
    go f true e h = let q : xs ≡ ps ++ is = f h in let s : p ≡ x = same_tree p x e in cc
    go f false e h = absurd cc

indices_right : (F : Frame) (T : Name) (o : Option (List Tree)) (t : Name × List Tree) → plain_indices F T o ≡ Some t →
    (o ≡ Some t.1) × (T ≡ t.0) × IsListed F.types t.0 (length t.1) × MentionNone F.names t.1
indices_right F T None t h = absurd cc
indices_right F T (Some is) t h = go (is_listed F.types T (length is) && mention_none F.names is) refl h
  where
    go : (b : Bool) → (is_listed F.types T (length is) && mention_none F.names is) ≡ b →
        (if b then Some (T, is) else None) ≡ Some t →
        (Some is ≡ Some t.1) × (T ≡ t.0) × IsListed F.types t.0 (length t.1) × MentionNone F.names t.1
    go true e h =
        let p : (T, is) ≡ t = Some_is h in
        let b : (is_listed F.types T (length is) ≡ true) × (mention_none F.names is ≡ true) = and_both (is_listed F.types T (length is)) (mention_none F.names is) e in
        rw (← p) (refl, refl, listed_right F.types T (length is) b.0, none_right F.names is b.1)
    go false e h = absurd cc

member_right : (F : Frame) (h : Tree) (xs : List Tree) (t : Name × List Tree) → as_member F h xs ≡ Some t → IsMember F t.0 t.1 (apply h xs)
member_right F (const T ls) xs t e = go (is_same_tree (const T ls) (const T F.levels)) refl e
  where
    go : (b : Bool) → is_same_tree (const T ls) (const T F.levels) ≡ b →
        (if b then plain_indices F T (after_params F.params xs) else None) ≡ Some t → IsMember F t.0 t.1 (apply (const T ls) xs)
    go true s e =
        let r : (after_params F.params xs ≡ Some t.1) × (T ≡ t.0) × IsListed F.types t.0 (length t.1) × MentionNone F.names t.1 = indices_right F T (after_params F.params xs) t e in
        let q : xs ≡ F.params ++ t.1 = params_right F.params xs t.1 r.0 in
        let k : const T ls ≡ const T F.levels = same_tree (const T ls) (const T F.levels) s in
        let same : const T ls ≡ const t.0 F.levels = k ∙ ap (λ n. const n F.levels) r.1 in
        record { spelled = ap (λ c. apply c xs) same ∙ ap (apply (const t.0 F.levels)) q; listed = r.2; plain = r.3 }
    go false s e = absurd cc
member_right F _ xs t e = absurd cc

-- the last step of a walk
abbrev pub IfMember : Frame → Tree → Option (Name × List Tree) → Type 0
IfMember F e None = Unit {0}
IfMember F e (Some t) = IsMember F t.0 t.1 e

pub if_member : (F : Frame) (e : Tree) → IfMember F e (as_member F (head e) (args e))
if_member F e = go (as_member F (head e) (args e)) refl
  where
    go : (o : Option (Name × List Tree)) → as_member F (head e) (args e) ≡ o → IfMember F e o
    go None h = tt
    go (Some t) h = rw (apply_head_args e) at (member_right F (head e) (args e) t h)

sound_last : (w : Place) (F : Frame) (j : ℕ) (A A' : Tree) (o : Option (Name × List Tree)) → Reduces w A A' → bound A' ≤ j → IfMember F A' o → IsSound w (last_kind o) (IsPositive w F j A)
sound_last w F j A A' None c b m = tt
sound_last w F j A A' (Some t) c b m = member c b m

true_or : (b : Bool) → (b ≡ true) ⊎ (b ≡ false)
true_or true = inl refl
true_or false = inr refl

sound_walk_on : (w : Place) (F : Frame) (j : ℕ) (A A' : Tree) (next : ℕ → Tree → Program FieldKind) →
    ((i : ℕ) (e : Tree) → In i e → IsSound w (next i e) (IsPositive w F i e)) →
    Reduces w A A' → In j A' → IsSound w (walk_on next F j A') (IsPositive w F j A)
sound_walk_on w F j A (pi D E) next f c h =
    let x : In (suc j) (local j D) = next_local j D E h in
    sound_if w (mentions F.names D) (refuse NotPositive) _ (IsPositive w F j A) (λ y. tt)
    (λ n. sound_bind w (next (suc j) (opened E (local j D))) (λ k. done (under (local j D) k)) (IsPositive w F (suc j) (opened E (local j D))) (IsPositive w F j A)
    (f (suc j) (opened E (local j D)) (open_in j (suc j) D E (local j D) (omega arith) h x))
    (λ k p. arrow c h.1 n p))
sound_walk_on w F j A A' next f c h = sound_last w F j A A' (as_member F (head A') (args A')) c h.1 (if_member F A')

pub sound_walk : (w : Place) (fuel : ℕ) (F : Frame) (j : ℕ) (A : Tree) → In j A → IsSound w (walk fuel F j A) (IsPositive w F j A)
sound_walk w zero F j A h = tt
sound_walk w (suc fuel) F j A h = (
  h.0,
  λ A' m. sound_if w (mentions F.names A') (walk_on (walk fuel F) F j A') (done plain) (IsPositive w F j A)
      (λ y. sound_walk_on w F j A A' (walk fuel F) (λ i e k. sound_walk w fuel F i e k) m.0 (goes_in w j A A' h m.0 m.1))
      (λ n. mentions_none m.0 n),
)
