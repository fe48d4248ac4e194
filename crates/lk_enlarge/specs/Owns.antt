-- A stated constructor with its occurrences replaced.
use Rattle.std.specs.Prelude.{Bool, List}
use Rattle.lk_tree.specs.Tree.{Tree}
use Rattle.lk_rulebook.specs.Place.{Place, Ctor, BlockType}
use Rattle.lk_questions.specs.Program.{Program, done, ◌>>=◌}
use Rattle.lk_inductive.specs.Enlarged.{Aux, Setting}
use Rattle.lk_inductive.specs.Nested.{held_ctor, own_ctor, own_ctors, own_types}
use Rattle.lk_nested.specs.Findings.{Finding, finding}

-- with another type
abbrev pub typed : Ctor → Tree → Ctor
typed c t = record c { type = t }

-- what is found of it, once it is known whether it holds an occurrence
abbrev pub held : Place → Setting → Ctor → Bool → List Aux → Finding (Ctor × List Aux)
held w s c h as_ = finding w (held_ctor s c as_ h)

abbrev pub owns : Place → Setting → Ctor → List Aux → Finding (Ctor × List Aux)
owns w s c as_ = finding w (own_ctor s c as_)

-- what is found of several, one after another
abbrev pub all_owns : Place → Setting → List Ctor → List Aux → Finding (List Ctor × List Aux)
all_owns w s cs as_ = finding w (own_ctors s cs as_)

-- a stated type with other constructors
abbrev pub with_ctors : BlockType → List Ctor → BlockType
with_ctors t cs = record t { ctors = cs }

-- one type, by its constructors
abbrev pub own_type : Setting → BlockType → List Aux → Program (BlockType × List Aux)
own_type s t as_ = own_ctors s t.ctors as_ >>= λ cs. done (with_ctors t cs.0, cs.1)

abbrev pub type_owns : Place → Setting → BlockType → List Aux → Finding (BlockType × List Aux)
type_owns w s t as_ = finding w (own_type s t as_)

-- a block's own types
abbrev pub types_own : Place → Setting → List BlockType → List Aux → Finding (List BlockType × List Aux)
types_own w s ts as_ = finding w (own_types s ts as_)
