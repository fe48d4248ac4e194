-- What Core of a recursor that is applied goes on with, once the answer is there that it waits for.
use Rattle.std.specs.Prelude.{ℕ, Bool, List, Option, Some, None, Result, if◌then◌else◌}
use Rattle.lk_tree.specs.Tree.{Level, Tree}
use Rattle.lk_tree.specs.Spine.{head}
use Rattle.lk_rulebook.specs.Place.{Place}
use Rattle.lk_questions.specs.Query.{whnf, same}
use Rattle.lk_questions.specs.Program.{Program, done, ask, ◌>>=◌}
use Rattle.lk_questions.specs.Erased.{Value, a_tree, Steps, gives, erased}
use Rattle.lk_questions.specs.Iota.{CtorApp, only_ctor, to_ctor_when_k, levels_at, k_from}
use Rattle.lk_questions.specs.Iota.{as_ctor_app, iota_of, iota_after_k, iota}
use Rattle.lk_questions.specs.Strings.{literal_to_ctor}
use Rattle.lk_store.specs.declared.memory.NoMemory.{NoMemory}
use Rattle.lk_store.specs.Contents.{Contents, tree_at}
use Rattle.lk_ask.specs.declared.next.Next.{Next}
use Rattle.lk_ask.specs.Looks.{Sight}
use Rattle.lk_ask.specs.Gives.{Gives}
use Rattle.lk_ask.specs.Nexts.{next_steps}
use Rattle.lk_ask.specs.Sheets.{sheet_rest}
use Rattle.lk_iota.specs.declared.sheet.IotaTermSheet.{IotaTermSheet}
use Rattle.lk_iota.specs.declared.sheet.IotaTermSheet.TheVariants.{Passed, MajorType, MajorTypeForm}
use Rattle.lk_iota.specs.declared.sheet.IotaTermSheet.TheVariants.{Candidate, Major, StructureType}
use Rattle.lk_iota.specs.declared.sheet.IotaTermSheet.TheVariants.{StructureTypeForm, StructureSort}
use Rattle.lk_iota.specs.declared.sheet.IotaTermSheet.TheVariants.{StructureSortForm}
use Rattle.lk_iota.specs.declared.sheet.IotaTruthSheet.{IotaTruthSheet}
use Rattle.lk_iota.specs.declared.sheet.IotaTruthSheet.TheVariants.{CandidateSame}
use Rattle.lk_iota.specs.Sheets.{IotaSheet, map_iota_term, map_iota_truth, map_iota_sheet}
use Rattle.lk_iota.specs.Sheets.{IsKnownIotaSheet}
use Rattle.lk_iota.specs.Redexes.{PlainRedex, redex_at}
use Rattle.lk_iota.specs.OnlyRule.{only_at}
use Rattle.lk_iota.specs.Expansions.{at_ctor, structure_rest, sort_rest}

-- after K, which may have taken the major premise for a constructor
abbrev pub after_k : Tree → PlainRedex → Option Tree → Program Tree
after_k e p d = iota_after_k e p.entry p.levels p.recursor p.front p.major p.rest d

-- e is this recursor applied, which has K
abbrev pub with_k : Tree → PlainRedex → Program Tree
with_k e p = do
  b ← only_ctor p.recursor.rules
  d ← to_ctor_when_k p.recursor p.major b
  after_k e p d

-- e is this recursor applied
abbrev pub of_redex : Tree → PlainRedex → Program Tree
of_redex e p = iota e p.entry p.levels p.recursor p.front (Some p.major) p.rest

abbrev pub of_redex_if : Tree → Option PlainRedex → Program Tree
of_redex_if e None = done e
of_redex_if e (Some p) = of_redex e p

-- m stands for the major premise
abbrev pub by_subject : Tree → PlainRedex → Tree → Program Tree
by_subject e p m = iota_of e p.entry p.levels p.recursor p.front p.rest m

-- m stands for the major premise, and is no constructor, or this one applied
abbrev pub by_app : Tree → PlainRedex → Tree → Option CtorApp → Program Tree
by_app e p m b = do
  c ← as_ctor_app p.recursor m b
  at_ctor e p c

-- m is the weak head form of the major premise
abbrev pub by_form : Tree → PlainRedex → Tree → Program Tree
by_form e p m = do
  s ← literal_to_ctor m
  by_subject e p s

-- what is no recursor applied is its own Core, here as in the first step
abbrev pub form_rest : Tree → Option PlainRedex → Tree → Program Tree
form_rest e None m = done e
form_rest e (Some p) m = by_form e p m

-- T is the weak head form of the major premise's type, and b the constructor of the only rule
abbrev pub at_levels : Tree → PlainRedex → CtorApp → Tree → Option (List Level) → Program Tree
at_levels e p b T ks = do
  d ← k_from b T ks
  after_k e p d

abbrev pub by_type : Tree → PlainRedex → CtorApp → Tree → Program Tree
by_type e p b T = at_levels e p b T (levels_at b.ind.name (head T))

abbrev pub by_type_if : Tree → PlainRedex → Tree → Option CtorApp → Program Tree
by_type_if e p T None = after_k e p None
by_type_if e p T (Some b) = by_type e p b T

abbrev pub type_rest : Place → Tree → Option PlainRedex → Tree → Program Tree
type_rest w e None T = done e
type_rest w e (Some p) T = by_type_if e p T (only_at w p.recursor.rules)

-- the candidate d, once its type was compared
abbrev pub compared_rest : Tree → Option PlainRedex → Tree → Bool → Program Tree
compared_rest e None d equal = done e
compared_rest e (Some p) d equal = do
  o ← if equal then done (Some d) else done None
  after_k e p o

-- what goes on with a term; last is the last unit that was looked at before
abbrev pub iota_term_rest : Place → Option ℕ → IotaTermSheet Tree → Tree → Steps
iota_term_rest w last Passed v = gives last (a_tree v)
iota_term_rest w last (MajorType e) T₀ =
    erased w a_tree last (ask (whnf T₀) (λ T. type_rest w e (redex_at w e) T))
iota_term_rest w last (MajorTypeForm e) T = erased w a_tree last (type_rest w e (redex_at w e) T)
iota_term_rest w last (Candidate e T d) D =
    erased w a_tree last (ask (same T D) (λ equal. compared_rest e (redex_at w e) d equal))
iota_term_rest w last (Major e) m = erased w a_tree last (form_rest e (redex_at w e) m)
iota_term_rest w last (StructureType e m) T₀ =
    erased w a_tree last (ask (whnf T₀) (λ T. structure_rest w e (redex_at w e) m T))
iota_term_rest w last (StructureTypeForm e m) T =
    erased w a_tree last (structure_rest w e (redex_at w e) m T)
iota_term_rest w last (StructureSort e m T) S₀ =
    erased w a_tree last (ask (whnf S₀) (λ S. sort_rest w e (redex_at w e) m T S))
iota_term_rest w last (StructureSortForm e m T) S =
    erased w a_tree last (sort_rest w e (redex_at w e) m T S)

-- what goes on with yes or no
abbrev pub iota_truth_rest : Place → Option ℕ → IotaTruthSheet Tree → Bool → Steps
iota_truth_rest w last (CandidateSame e d) equal =
    erased w a_tree last (compared_rest e (redex_at w e) d equal)

abbrev pub iota_rest : Place → Option ℕ → IotaSheet Tree → Value → Steps
iota_rest w last = sheet_rest (iota_term_rest w last) (iota_truth_rest w last)

-- what Core of a recursor does next; t is what numbers stand for
abbrev pub iota_next : Place → (ℕ → Tree) → Option ℕ → Next ℕ (IotaSheet ℕ) → Steps
iota_next w t last next = next_steps (λ s. iota_rest w None (map_iota_sheet t s)) t last next

-- a step of Core of a recursor does what the program does; t is what numbers stood for
abbrev pub Reduces : {S R B : Type 0} → (S → Contents) → (S → R) → (R → Sight B) → S → S
    → Result (Next ℕ (IotaSheet ℕ)) NoMemory → ((ℕ → Tree) → Program Tree) → Type 0
Reduces contents rest sight old new result program =
    Gives IsKnownIotaSheet iota_next contents rest sight old new result
    (erased (sight (rest old)).basis.place a_tree (sight (rest old)).last
    (program (tree_at (contents old))))

-- it does what the sheet goes on with, with the term of this number
abbrev pub ResumesTerm : {S R B : Type 0} → (S → Contents) → (S → R) → (R → Sight B) → S → S
    → Result (Next ℕ (IotaSheet ℕ)) NoMemory → IotaTermSheet ℕ → ℕ → Type 0
ResumesTerm contents rest sight old new result sheet e =
    Gives IsKnownIotaSheet iota_next contents rest sight old new result
    (iota_term_rest (sight (rest old)).basis.place (sight (rest old)).last
    (map_iota_term (tree_at (contents old)) sheet) (tree_at (contents old) e))

-- the same, with yes or no
abbrev pub ResumesTruth : {S R B : Type 0} → (S → Contents) → (S → R) → (R → Sight B) → S → S
    → Result (Next ℕ (IotaSheet ℕ)) NoMemory → IotaTruthSheet ℕ → Bool → Type 0
ResumesTruth contents rest sight old new result sheet equal =
    Gives IsKnownIotaSheet iota_next contents rest sight old new result
    (iota_truth_rest (sight (rest old)).basis.place (sight (rest old)).last
    (map_iota_truth (tree_at (contents old)) sheet) equal)
