-- The auxiliary types, made of what they are made of, with the occurrences in their constructors replaced.
use Rattle.std.specs.Prelude.{ℕ, List, length, Option, Some, None}
use Rattle.lk_tree.specs.Tree.{Name, Tree}
use Rattle.lk_rulebook.specs.Place.{Place, Ctor, BlockType}
use Rattle.lk_questions.specs.Program.{Program, done, ◌>>=◌}
use Rattle.lk_inductive.specs.Enlarged.{Aux, Setting, aux_name, aux_ctor, aux_from}
use Rattle.lk_inductive.specs.Nested.{nest, aux_types}
use Rattle.lk_inductive.specs.Recursors.{pis}
use Rattle.lk_nested.specs.Findings.{Finding, finding}
use Rattle.lk_enlarge.specs.Drafts.{PlainDraft, PlainOutline, outline_of}
use Rattle.lk_enlarge.specs.Each.{each}

-- with the name n, the parent T and the type e
abbrev pub ctor_with : Setting → PlainDraft → Name → Name → Tree → Ctor
ctor_with s d n T e = record { name = n; levels = s.levels; type = e; parent = T; place = d.place; parameters = length s.params; fields = d.fields }

abbrev pub type_with : Setting → ℕ → Name → Tree → List Ctor → BlockType
type_with s n T e cs = record { name = T; levels = s.levels; type = e; parameters = length s.params; indices = n; ctors = cs }

-- the constructor of auxiliary type i that is e past the parameters
abbrev pub drafted : Setting → ℕ → PlainDraft → Tree → Ctor
drafted s i d e = ctor_with s d (aux_ctor i d.name) (aux_name i) (pis s.params e)

-- auxiliary type i
abbrev pub outlined : Setting → ℕ → PlainOutline → List Ctor → BlockType
outlined s i o cs = type_with s o.indices (aux_name i) (pis s.params o.type) cs

-- each with its occurrences replaced
abbrev pub nest_draft : Setting → ℕ → PlainDraft → List Aux → Program (Ctor × List Aux)
nest_draft s i d as_ = nest s d.type as_ >>= λ e. done (drafted s i d e.0, e.1)

abbrev pub nest_outline : Setting → ℕ → PlainOutline → List Aux → Program (BlockType × List Aux)
nest_outline s i o as_ = each (nest_draft s i) o.ctors as_ >>= λ cs. done (outlined s i o cs.0, cs.1)

-- auxiliary type i, where there is one
abbrev pub next_by : Setting → ℕ → List Aux → Option Aux → Program (Option BlockType × List Aux)
next_by s i as_ None = done (None, as_)
next_by s i as_ (Some a) = nest_outline s i (outline_of a) as_ >>= λ t. done (Some t.0, t.1)

abbrev pub nest_next : Setting → ℕ → List Aux → Program (Option BlockType × List Aux)
nest_next s i as_ = next_by s i as_ (aux_from as_ i)

-- what is found of them
abbrev pub draft_nests : Place → Setting → ℕ → PlainDraft → List Aux → Finding (Ctor × List Aux)
draft_nests w s i d as_ = finding w (nest_draft s i d as_)

abbrev pub drafts_nest : Place → Setting → ℕ → List PlainDraft → List Aux → Finding (List Ctor × List Aux)
drafts_nest w s i ds as_ = finding w (each (nest_draft s i) ds as_)

abbrev pub outline_nests : Place → Setting → ℕ → PlainOutline → List Aux → Finding (BlockType × List Aux)
outline_nests w s i o as_ = finding w (nest_outline s i o as_)

abbrev pub next_nests : Place → Setting → ℕ → List Aux → Finding (Option BlockType × List Aux)
next_nests w s i as_ = finding w (nest_next s i as_)

-- of all auxiliary types
abbrev pub types_nest : Place → Setting → List Aux → Finding (List BlockType × List Aux)
types_nest w s as_ = finding w (aux_types 1025 s 0 as_)
