-- What the programs of a recursor come to, case by case.
use Rattle.std.proofs.Common.{◌≡◌, ◌<◌, ◌≤◌, ℕ, Bool, true, false, List, [], ◌∷◌, length, take}
use Rattle.std.proofs.Common.{drop, suc, Option, Some, None, refl, ap, sym, ◌∙◌, if◌then◌else◌}
use Rattle.std.specs.Prelude.{nat_le, slice_get}
use Rattle.std.proofs.lemmas.Bool.Decides.{nat_tests}
use Rattle.std.proofs.Common.{arith}
use Rattle.lk_tree.specs.Tree.{Name, Level, Tree, const}
use Rattle.lk_tree.specs.Spine.{apply, args}
use Rattle.lk_rulebook.specs.Place.{Place, Entry as PlainEntry, Kind, Recursor, RecRule, an_axiom}
use Rattle.lk_rulebook.specs.Place.{a_def, a_thm, an_opaque, a_quot, a_type, a_ctor, a_rec}
use Rattle.lk_rulebook.specs.Structures.{before_major}
use Rattle.lk_questions.specs.Query.{whnf, infer, same}
use Rattle.lk_questions.specs.Program.{Program, done, ask, asked, ◌>>=◌}
use Rattle.lk_questions.specs.Erased.{a_tree, asks, with_tree, erased}
use Rattle.lk_questions.specs.Iota.{CtorApp, only_ctor, to_ctor_when_k, to_ctor_when_structure}
use Rattle.lk_questions.specs.Iota.{iota, core_constant}
use Rattle.lk_questions.specs.Quotients.{by_quot}
use Rattle.lk_store.specs.Contents.{Contents}
use Rattle.lk_iota.specs.declared.sheet.IotaTermSheet.TheVariants.{MajorType, Candidate}
use Rattle.lk_iota.specs.declared.major.Redex.{Redex}
use Rattle.lk_iota.specs.Redexes.{PlainRedex, at_major, split_at, redex_by, redex_at, IsRedex}
use Rattle.lk_iota.specs.Redexes.{IsRedexIf}
use Rattle.lk_iota.specs.OnlyRule.{only_at}
use Rattle.lk_iota.specs.Expansions.{at_ctor, by_only}
use Rattle.lk_iota.specs.Iotas.{after_k, with_k, of_redex, of_redex_if, by_app, at_levels}
use Rattle.lk_iota.specs.Iotas.{by_type_if, type_rest, compared_rest, iota_term_rest}
use Rattle.lk_env.specs.StoredLibrary.{StoredLibrary}

-- what numbers stand for, where they do
pub some_redex : (c : Contents) (l : StoredLibrary) (u : Redex) (o : Option PlainRedex)
    → IsRedexIf c l (Some u) o → (p : PlainRedex) × (o ≡ Some p) × IsRedex c l u p
some_redex c l u (Some p) i = (p, refl, i)
some_redex c l u None i = absurd i

pub none_redex : (c : Contents) (l : StoredLibrary) (o : Option PlainRedex)
    → IsRedexIf c l None o → o ≡ None
none_redex c l None i = refl
none_redex c l (Some p) i = absurd i

-- the candidate: its type is asked for, and compared with the major premise's
abbrev compared : Tree → Tree → Program (Option Tree)
compared ty candidate = do
  own ← asked (infer candidate)
  equal ← asked (same ty own)
  if equal then done (Some candidate) else done None

-- the constructor at these levels, and at the parameters of the major premise's type
abbrev candidate_at : CtorApp → Tree → List Level → Tree
candidate_at b ty ks = apply (const b.name ks) (take b.ctor.parameters (args ty))

-- it is compared where that type has enough arguments
levels_go : (w : Place) (last : Option ℕ) (e : Tree) (p : PlainRedex) (b : CtorApp) (ty : Tree)
    (ks : List Level) (enough : Bool) → nat_le b.ctor.parameters (length (args ty)) ≡ enough
    → erased w a_tree last ((if enough then compared ty (candidate_at b ty ks) else done None)
    >>= λ d. after_k e p d) ≡ erased w a_tree last (at_levels e p b ty (Some ks))
levels_go w last e p b ty ks enough is =
    sym (ap (λ (t : Bool). erased w a_tree last
    ((if t then compared ty (candidate_at b ty ks) else done None) >>= λ d. after_k e p d)) is)

pub too_few : (w : Place) (last : Option ℕ) (e : Tree) (p : PlainRedex) (b : CtorApp) (ty : Tree)
    (ks : List Level) → length (args ty) < b.ctor.parameters
    → erased w a_tree last (after_k e p None) ≡ erased w a_tree last (at_levels e p b ty (Some ks))
too_few w last e p b ty ks few = levels_go w last e p b ty ks false (grind (arith, nat_tests))

-- the candidate's type is asked for
pub candidate_asked : (w : Place) (last : Option ℕ) (e made_from ty made_type candidate : Tree)
    (p : PlainRedex) (b : CtorApp) (ks : List Level) → made_from ≡ e → made_type ≡ ty
    → candidate ≡ candidate_at b ty ks → redex_at w e ≡ Some p
    → b.ctor.parameters ≤ length (args ty)
    → asks last (infer candidate) (with_tree (iota_term_rest w None (Candidate made_from made_type candidate)))
    ≡ erased w a_tree last (at_levels e p b ty (Some ks))
candidate_asked w last e made_from ty made_type candidate p b ks e_is ty_is candidate_is at many =
    let made : Tree = candidate_at b ty ks in
    ap (λ t. asks last (infer candidate) (with_tree (iota_term_rest w None (Candidate t made_type candidate)))) e_is
    ∙ ap (λ t. asks last (infer candidate) (with_tree (iota_term_rest w None (Candidate e t candidate)))) ty_is
    ∙ ap (λ t. asks last (infer t) (with_tree (iota_term_rest w None (Candidate e ty t)))) candidate_is
    ∙ ap (λ o. asks last (infer made) (with_tree (λ own. erased w a_tree None
    (ask (same ty own) (λ equal. compared_rest e o made equal))))) at
    ∙ levels_go w last e p b ty ks true (grind (arith, nat_tests))

only_bind : (rs : List RecRule) (e : Tree) (p : PlainRedex) (m : Tree)
    → ((only_ctor rs >>= λ k. to_ctor_when_structure m k) >>= λ c. at_ctor e p c)
    ≡ (only_ctor rs >>= by_only e p m)
only_bind [] e p m = refl
only_bind (r ∷ []) e p m = refl
only_bind (r ∷ s ∷ rs) e p m = refl

-- m is no constructor: that of the only rule is looked up
pub none_looked : (e : Tree) (p : PlainRedex) (m : Tree)
    → (only_ctor p.recursor.rules >>= by_only e p m) ≡ by_app e p m None
none_looked e p m = sym (only_bind p.recursor.rules e p m)

-- after K, once the constructor of the only rule is looked up
abbrev pub with_only : Tree → PlainRedex → Option CtorApp → Program Tree
with_only e p b = do
  d ← to_ctor_when_k p.recursor p.major b
  after_k e p d

-- the type of the major premise is asked for
pub major_asked : (w : Place) (last : Option ℕ) (e : Tree) (p : PlainRedex) (b : CtorApp) (m : Tree)
    → only_at w p.recursor.rules ≡ Some b → redex_at w e ≡ Some p → m ≡ p.major
    → asks last (infer m) (with_tree (iota_term_rest w None (MajorType e)))
    ≡ erased w a_tree last (with_only e p (Some b))
major_asked w last e p b m is at major =
    ap (λ t. asks last (infer t) (with_tree (iota_term_rest w None (MajorType e)))) major
    ∙ ap (λ o. asks last (infer p.major)
    (with_tree (λ stated. erased w a_tree None (ask (whnf stated) (λ ty. type_rest w e o ty))))) at
    ∙ ap (λ o. asks last (infer p.major)
    (with_tree (λ stated. erased w a_tree None (ask (whnf stated) (λ ty. by_type_if e p ty o))))) is

-- by whether the recursor has K
pub k_is : (w : Place) (last : Option ℕ) (e : Tree) (p : PlainRedex) (t : Bool) → t ≡ p.recursor.k
    → t ≡ true → erased w a_tree last (with_k e p) ≡ erased w a_tree last (of_redex e p)
k_is w last e p t is on = sym (ap
    (λ (k : Bool). erased w a_tree last (if k then with_k e p else after_k e p None)) (sym is ∙ on))

pub no_k_is : (w : Place) (last : Option ℕ) (e : Tree) (p : PlainRedex) (t : Bool)
    → t ≡ p.recursor.k → t ≡ false
    → erased w a_tree last (after_k e p None) ≡ erased w a_tree last (of_redex e p)
no_k_is w last e p t is off = sym
    (ap (λ (k : Bool). erased w a_tree last (if k then with_k e p else after_k e p None))
    (sym is ∙ off))

split_goes : (e : Tree) (ls : List Level) (g : PlainEntry) (r : Recursor) (xs : List Tree)
    → iota e g ls r (take (before_major r) xs) (slice_get xs (before_major r))
    (drop (suc (before_major r)) xs) ≡ of_redex_if e (split_at ls g r xs)
split_goes e ls g r xs = go (slice_get xs (before_major r))
  where
    front : List Tree
    front = take (before_major r) xs

    rest : List Tree
    rest = drop (suc (before_major r)) xs

    go : (o : Option Tree) → iota e g ls r front o rest
        ≡ of_redex_if e (at_major ls g r front o rest)
    go None = refl
    go (Some m) = refl

-- a constant that no quotient unit gives
pub constant_goes : (e : Tree) (c : Name) (ls : List Level) (xs : List Tree) (g : PlainEntry)
    (k : Kind) → by_quot k ≡ false → of_redex_if e (redex_by ls xs g k)
    ≡ core_constant e c ls xs g k
constant_goes e c ls xs g (a_rec r) h = sym (split_goes e ls g r xs)
constant_goes e c ls xs g an_axiom h = refl
constant_goes e c ls xs g (a_def i v) h = refl
constant_goes e c ls xs g (a_thm v) h = refl
constant_goes e c ls xs g (an_opaque v) h = refl
constant_goes e c ls xs g a_quot h = absurd (cc)
constant_goes e c ls xs g (a_type b t) h = refl
constant_goes e c ls xs g (a_ctor b t k) h = refl
