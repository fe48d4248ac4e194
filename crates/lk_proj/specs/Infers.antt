-- What Infer of a projection goes on with, once the term is there that it waits for.
use Rattle.std.specs.Prelude.{ℕ, zero, suc, ◌-◌, Bool, true, ◌&&◌, reverse}
use Rattle.std.specs.Prelude.{Option, Some, None, Result}
use Rattle.lk_tree.specs.Tree.{Name, Tree, proj}
use Rattle.lk_tree.specs.Level.{is_zero_level}
use Rattle.lk_tree.specs.Bind.{opened, has_var}
use Rattle.lk_tree.specs.Spine.{head}
use Rattle.lk_tree.specs.declared.rule.Rule.TheVariants.{BadProjection, PropProjection, LevelCount}
use Rattle.lk_rulebook.specs.Place.{Place}
use Rattle.lk_questions.specs.Query.{whnf}
use Rattle.lk_questions.specs.Program.{Program, done, refuse, ask, ◌>>=◌}
use Rattle.lk_questions.specs.Erased.{a_tree, Steps, with_tree, erased}
use Rattle.lk_questions.specs.Steps.{given, as_sort, as_pi}
use Rattle.lk_questions.specs.Iota.{levels_at}
use Rattle.lk_questions.specs.Projections.{past_parameters, is_prop_if, field_type, of_type}
use Rattle.lk_store.specs.declared.memory.NoMemory.{NoMemory}
use Rattle.lk_store.specs.Contents.{Contents, tree_at}
use Rattle.lk_ask.specs.declared.next.Next.{Next}
use Rattle.lk_ask.specs.Looks.{Sight}
use Rattle.lk_ask.specs.Gives.{Gives}
use Rattle.lk_ask.specs.Nexts.{next_steps}
use Rattle.lk_proj.specs.declared.sheet.Applied.{Applied}
use Rattle.lk_proj.specs.declared.sheet.FieldPi.{FieldPi}
use Rattle.lk_proj.specs.declared.sheet.InferSheet.{InferSheet}
use Rattle.lk_proj.specs.declared.sheet.InferSheet.TheVariants.{Subject, SubjectForm, Sort}
use Rattle.lk_proj.specs.declared.sheet.InferSheet.TheVariants.{SortForm, Parameter, Field}
use Rattle.lk_proj.specs.declared.sheet.InferSheet.TheVariants.{FieldSort, FieldSortForm}
use Rattle.lk_proj.specs.Sheets.{map_infer, IsKnownInfer}
use Rattle.lk_proj.specs.Nodes.{of_proj}

-- e is a projection, and T the type of its subject in weak head form
abbrev pub subject_rest : Tree → Tree → Program Tree
subject_rest e T = of_proj e λ S i s. of_type S i s T (levels_at S (head T))

-- the Pis of the fields stand in t
abbrev pub fields_rest : Tree → Bool → Tree → Program Tree
fields_rest e q t = of_proj e λ S i s. field_type S s q 0 i t

-- the parameters are put for the first Pis of r before
abbrev pub parameters_rest : Applied Tree → Bool → Tree → Program Tree
parameters_rest a q r =
    past_parameters (reverse a.arguments) a.parameters r >>= λ t. fields_rest a.projection q t

-- the same, where r is the constructor's type at levels that may be too many or too few
abbrev pub constructor_rest : Applied Tree → Bool → Option Tree → Program Tree
constructor_rest a q (Some r) = parameters_rest a q r
constructor_rest a q None = refuse LevelCount

-- the same, where K is to be the sort of the structure
abbrev pub sort_rest : Applied Tree → Option Tree → Tree → Program Tree
sort_rest a r K = as_sort K >>= λ l. constructor_rest a (is_zero_level l) r

-- R is to be a Pi, for which b is put before
abbrev pub parameter_rest : Applied Tree → Tree → Bool → Tree → Program Tree
parameter_rest a b q R = (as_pi BadProjection R
    >>= λ p. past_parameters (reverse a.arguments) a.parameters (opened p.1 b))
    >>= λ t. fields_rest a.projection q t

-- the Pi of field j has these parts, and n Pis further on stands that of the field asked for
abbrev pub next_field : Name → Tree → Bool → ℕ → ℕ → Tree × Tree → Program Tree
next_field S s q j zero p = done p.0
next_field S s q j (suc n) p = field_type S s q (suc j) n (opened p.1 (proj S j s))

-- whether its domain is to be a proposition, in a structure that is one or not
abbrev pub must_be_prop : Bool → ℕ → Tree → Bool
must_be_prop q zero B = q
must_be_prop q (suc n) B = q && has_var 0 B

abbrev pub field_pi : Name → Tree → Bool → ℕ → ℕ → Tree × Tree → Program Tree
field_pi S s q j n p = is_prop_if (must_be_prop q n p.1) p.0 >>= λ allowed.
    given allowed PropProjection (next_field S s q j n p)

-- R is to be the Pi of field j
abbrev pub field_rest : Tree → ℕ → Bool → Tree → Program Tree
field_rest e j q R = of_proj e λ S i s.
    as_pi BadProjection R >>= λ p. field_pi S s q j (i - j) p

-- K is to be the sort of the domain, a proposition
abbrev pub field_sort_rest : FieldPi Tree → Tree → Program Tree
field_sort_rest p K = of_proj p.projection λ S i s.
    (as_sort K >>= λ l. done (is_zero_level l)) >>= λ allowed.
    given allowed PropProjection
    (next_field S s true p.number (i - p.number) (p.domain, p.body))

-- what a sheet goes on with, once the term is there; last is the last unit looked at before
abbrev pub infer_rest : Place → Option ℕ → InferSheet Tree → Tree → Steps
infer_rest w last (Subject e) T₀ = erased w a_tree last (ask (whnf T₀) (λ T. subject_rest e T))
infer_rest w last (SubjectForm e) T = erased w a_tree last (subject_rest e T)
infer_rest w last (Sort a r) K = erased w a_tree last (ask (whnf K) (λ S. sort_rest a r S))
infer_rest w last (SortForm a r) S = erased w a_tree last (sort_rest a r S)
infer_rest w last (Parameter a b q) R = erased w a_tree last (parameter_rest a b q R)
infer_rest w last (Field e j q) R = erased w a_tree last (field_rest e j q R)
infer_rest w last (FieldSort p) K =
    erased w a_tree last (ask (whnf K) (λ S. field_sort_rest p S))
infer_rest w last (FieldSortForm p) S = erased w a_tree last (field_sort_rest p S)

-- what Infer of a projection does next; t is what numbers stand for
abbrev pub infer_next : Place → (ℕ → Tree) → Option ℕ → Next ℕ (InferSheet ℕ) → Steps
infer_next w t last next =
    next_steps (λ s. with_tree (infer_rest w None (map_infer t s))) t last next

-- a step does what the program does; t is what numbers stood for
abbrev pub Infers : {S R B : Type 0} → (S → Contents) → (S → R) → (R → Sight B) → S → S
    → Result (Next ℕ (InferSheet ℕ)) NoMemory → ((ℕ → Tree) → Program Tree) → Type 0
Infers contents rest sight old new result program =
    Gives IsKnownInfer infer_next contents rest sight old new result
    (erased (sight (rest old)).basis.place a_tree (sight (rest old)).last
    (program (tree_at (contents old))))

-- it does what the sheet goes on with, now that the term is there
abbrev pub Resumes : {S R B : Type 0} → (S → Contents) → (S → R) → (R → Sight B) → S → S
    → Result (Next ℕ (InferSheet ℕ)) NoMemory → InferSheet ℕ → ℕ → Type 0
Resumes contents rest sight old new result sheet e =
    Gives IsKnownInfer infer_next contents rest sight old new result
    (infer_rest (sight (rest old)).basis.place (sight (rest old)).last
    (map_infer (tree_at (contents old)) sheet) (tree_at (contents old) e))
