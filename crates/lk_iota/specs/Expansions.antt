-- A major premise of a structure's type, which is taken for the constructor of its projections.
use Rattle.std.specs.Prelude.{Option, Some, None, List, [], if◌then◌else◌}
use Rattle.lk_tree.specs.Tree.{Level, Tree}
use Rattle.lk_tree.specs.Level.{is_zero_level}
use Rattle.lk_tree.specs.Spine.{head, args}
use Rattle.lk_rulebook.specs.Place.{Place}
use Rattle.lk_questions.specs.Program.{Program, done, ◌>>=◌}
use Rattle.lk_questions.specs.Steps.{as_sort}
use Rattle.lk_questions.specs.Iota.{CtorApp, levels_at, expanded, expand_at, iota_at_ctor}
use Rattle.lk_questions.specs.Iota.{to_ctor_when_structure}
use Rattle.lk_iota.specs.Redexes.{PlainRedex}
use Rattle.lk_iota.specs.OnlyRule.{only_at}

-- the constructor that is applied in place of the major premise
abbrev pub at_ctor : Tree → PlainRedex → Option CtorApp → Program Tree
at_ctor e p c = iota_at_ctor e p.entry p.levels p.recursor p.front p.rest c

-- m stands for the major premise and is no constructor, and k is that of the only rule
abbrev pub by_only : Tree → PlainRedex → Tree → Option CtorApp → Program Tree
by_only e p m k = do
  c ← to_ctor_when_structure m k
  at_ctor e p c

-- T is the weak head form of the type of m
abbrev pub by_structure : Tree → PlainRedex → Tree → CtorApp → Tree → Program Tree
by_structure e p m k T = do
  c ← expand_at k m T (levels_at k.ind.name (head T))
  at_ctor e p c

abbrev pub by_structure_if : Tree → PlainRedex → Tree → Tree → Option CtorApp → Program Tree
by_structure_if e p m T None = at_ctor e p None
by_structure_if e p m T (Some k) = by_structure e p m k T

abbrev pub structure_rest : Place → Tree → Option PlainRedex → Tree → Tree → Program Tree
structure_rest w e None m T = done e
structure_rest w e (Some p) m T = by_structure_if e p m T (only_at w p.recursor.rules)

-- there are levels wherever an expansion is made
abbrev pub levels_or_empty : Option (List Level) → List Level
levels_or_empty (Some ls) = ls
levels_or_empty None = []

-- the constructor of its projections, which m is taken for; T is its type
abbrev pub expansion : Tree → CtorApp → Tree → CtorApp
expansion m k T = expanded k (levels_or_empty (levels_at k.ind.name (head T))) m (args T)

-- l is the level of the sort of T: m is not taken for it where it is a proof
abbrev pub unless_zero : Tree → CtorApp → Tree → Level → Program (Option CtorApp)
unless_zero m k T l = if is_zero_level l then done None else done (Some (expansion m k T))

abbrev pub at_level : Tree → PlainRedex → Tree → CtorApp → Tree → Level → Program Tree
at_level e p m k T l = do
  c ← unless_zero m k T l
  at_ctor e p c

-- S is the sort of T in weak head form
abbrev pub by_sort : Tree → PlainRedex → Tree → CtorApp → Tree → Tree → Program Tree
by_sort e p m k T S = do
  c ← (do
    l ← as_sort S
    unless_zero m k T l)
  at_ctor e p c

abbrev pub by_sort_if : Tree → PlainRedex → Tree → Tree → Tree → Option CtorApp → Program Tree
by_sort_if e p m T S None = at_ctor e p None
by_sort_if e p m T S (Some k) = by_sort e p m k T S

abbrev pub sort_rest : Place → Tree → Option PlainRedex → Tree → Tree → Tree → Program Tree
sort_rest w e None m T S = done e
sort_rest w e (Some p) m T S = by_sort_if e p m T S (only_at w p.recursor.rules)
