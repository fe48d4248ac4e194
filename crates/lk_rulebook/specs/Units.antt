-- A unit as the file states it, and what a name means at a place of a library.
use Rattle.std.specs.Prelude.{ℕ, suc, List, [], ◌∷◌, ◌++◌, take, Bool, true, ◌&&◌, Option, Some, None, option_and_then, max, if◌then◌else◌}
use Rattle.lk_tree.specs.Tree.{Name, name_discrete, Tree}
use Rattle.lk_tree.specs.Scan.{is_bound, is_narrow}
use Rattle.lk_tree.specs.declared.rule.Rule.{Rule}
use Rattle.lk_tree.specs.declared.rule.Rule.TheVariants.{LooseVariable, WideLiteral}
use Rattle.lk_rulebook.specs.Place.{Place, Entry, Kind, an_axiom, a_def, a_thm, an_opaque, a_quot, a_type, a_ctor, a_rec, Hint, Ctor, BlockType, Block, RecRule, BlockRecursor}

-- what a declaration states beside its name, level parameters and type
pub data Body : Type 0 where
  as_axiom : Body
  as_def : Hint → Tree → Body
  as_thm : Tree → Body
  as_opaque : Tree → Body
  as_quot : Body

pub record Decl : Type 0 where
  pub name : Name
  pub levels : List Name
  pub type : Tree
  pub body : Body

-- a declaration alone, or the types of a block with its recursors
pub data LibraryUnit : Type 0 where
  of_decl : Decl → LibraryUnit
  of_block : Block → List BlockRecursor → LibraryUnit

abbrev pub Library : Type 0
Library = List LibraryUnit

-- names with their entries: the members of a unit, or what is partial (given while its own block is being checked)
abbrev pub Members : Type 0
Members = List (Name × Entry)

abbrev pub type_entries : Block → List BlockType → Members
type_entries b [] = []
type_entries b (t ∷ ts) = (t.name, record { levels = t.levels; type = t.type; kind = a_type b t }) ∷ type_entries b ts

abbrev pub ctor_entries : Block → BlockType → List Ctor → Members
ctor_entries b t [] = []
ctor_entries b t (c ∷ cs) = (c.name, record { levels = c.levels; type = c.type; kind = a_ctor b t c }) ∷ ctor_entries b t cs

abbrev pub all_ctor_entries : Block → List BlockType → Members
all_ctor_entries b [] = []
all_ctor_entries b (t ∷ ts) = ctor_entries b t t.ctors ++ all_ctor_entries b ts

abbrev pub rec_members : List BlockRecursor → Members
rec_members [] = []
rec_members (r ∷ rs) = (r.name, record { levels = r.levels; type = r.type; kind = a_rec r.recursor }) ∷ rec_members rs

-- the recursors as they are partial, without rules
abbrev pub rec_entries : List BlockRecursor → Members
rec_entries [] = []
rec_entries (r ∷ rs) = (r.name, record { levels = r.levels; type = r.type; kind = a_rec (record r.recursor { rules = [] }) }) ∷ rec_entries rs

-- partial once the types of a block are checked (a member is partial where it is given while its own block is being checked)
abbrev pub partial_types : Block → Members
partial_types b = type_entries b b.types

-- partial too once its constructors are checked, before the recursors
abbrev pub partial_members : Block → List BlockRecursor → Members
partial_members b stated = all_ctor_entries b b.types ++ rec_entries stated

abbrev pub kind_of : Body → Kind
kind_of as_axiom = an_axiom
kind_of (as_def h v) = a_def h v
kind_of (as_thm v) = a_thm v
kind_of (as_opaque v) = an_opaque v
kind_of as_quot = a_quot

-- the members of a unit: of a block its types, their constructors, its recursors
abbrev pub members_of : LibraryUnit → Members
members_of (of_decl d) = (d.name, record { levels = d.levels; type = d.type; kind = kind_of d.body }) ∷ []
members_of (of_block b rs) = type_entries b b.types ++ (all_ctor_entries b b.types ++ rec_members rs)

-- trees, each with the level parameters that its member declares
abbrev pub Trees : Type 0
Trees = List (List Name × Tree)

abbrev pub body_trees : List Name → Body → Trees
body_trees ps (as_def h v) = (ps, v) ∷ []
body_trees ps (as_thm v) = (ps, v) ∷ []
body_trees ps (as_opaque v) = (ps, v) ∷ []
body_trees ps as_axiom = []
body_trees ps as_quot = []

abbrev pub type_trees : List BlockType → Trees
type_trees [] = []
type_trees (t ∷ ts) = (t.levels, t.type) ∷ type_trees ts

abbrev pub ctor_trees : List Ctor → Trees
ctor_trees [] = []
ctor_trees (c ∷ cs) = (c.levels, c.type) ∷ ctor_trees cs

abbrev pub all_ctor_trees : List BlockType → Trees
all_ctor_trees [] = []
all_ctor_trees (t ∷ ts) = ctor_trees t.ctors ++ all_ctor_trees ts

abbrev pub rule_trees : List Name → List RecRule → Trees
rule_trees ps [] = []
rule_trees ps (r ∷ rs) = (ps, r.value) ∷ rule_trees ps rs

abbrev pub rec_trees : List BlockRecursor → Trees
rec_trees [] = []
rec_trees (r ∷ rs) = (r.levels, r.type) ∷ (rule_trees r.levels r.recursor.rules ++ rec_trees rs)

-- the trees of a unit, member by member
abbrev pub trees_of : LibraryUnit → Trees
trees_of (of_decl d) = (d.levels, d.type) ∷ body_trees d.levels d.body
trees_of (of_block b rs) = type_trees b.types ++ (all_ctor_trees b.types ++ rec_trees rs)

abbrev pub all_bound : Trees → Bool
all_bound [] = true
all_bound (e ∷ es) = is_bound 0 e.1 && all_bound es

abbrev pub all_narrow : Trees → Bool
all_narrow [] = true
all_narrow (e ∷ es) = is_narrow e.1 && all_narrow es

-- the rule of the first test that fails
abbrev pub first_broken : List (Bool × Rule) → Option Rule
first_broken [] = None
first_broken (t ∷ ts) = if t.0 then first_broken ts else Some t.1

-- why a look-up of the unit's members is refused
abbrev pub flaw_of : LibraryUnit → Option Rule
flaw_of u = first_broken ((all_bound (trees_of u), LooseVariable) ∷ (all_narrow (trees_of u), WideLiteral) ∷ [])

pub record Found : Type 0 where
  pub unit : ℕ
  pub flaw : Option Rule
  pub entry : Entry

abbrev pub given_by : Members → Name → Option Entry
given_by [] c = None
given_by (m ∷ ms) c = elim (name_discrete m.0 c) [ yes e ↦ Some m.1 | no f ↦ given_by ms c ]

-- the first if it is there, else the second
abbrev pub first_of_two : Option Found → Option Found → Option Found
first_of_two (Some e) o = Some e
first_of_two None o = o

-- the entry that unit u, with number i, gives
abbrev pub at_unit : ℕ → LibraryUnit → Option Entry → Option Found
at_unit i u None = None
at_unit i u (Some e) = Some (record { unit = i; flaw = flaw_of u; entry = e })

-- an entry that is partial
abbrev pub at_partial : ℕ → Option Entry → Option Found
at_partial n None = None
at_partial n (Some e) = Some (record { unit = n; flaw = None; entry = e })

-- the member in the first unit that gives the name, where the first unit has number i
abbrev pub first_giving : ℕ → Library → Name → Option Found
first_giving i [] c = None
first_giving i (u ∷ us) c = first_of_two (at_unit i u (given_by (members_of u) c)) (first_giving (suc i) us c)

abbrev pub unit_or : Option Found → ℕ → ℕ
unit_or None n = n
unit_or (Some f) n = f.unit

-- the entry, where its unit has no flaw
abbrev pub flawless : Found → Option Entry
flawless f = elim (f.flaw) [ None ↦ Some f.entry | Some r ↦ None ]

-- the place at which each name means what is found
abbrev pub place_by : ℕ → (Name → Option Found) → Place
place_by n found = record {
  means = λ c. option_and_then flawless (found c);
  origin = λ c. unit_or (found c) n;
  flaw = λ c. option_and_then (λ f. f.flaw) (found c);
}

-- the place of unit n
abbrev pub place_of : Library → ℕ → Members → Place
place_of us n partial = place_by n (λ c. first_of_two (at_partial n (given_by partial c)) (first_giving 0 (take n us) c))

-- the later of two units that were looked at, by their numbers
abbrev pub later : Option ℕ → Option ℕ → Option ℕ
later None t = t
later (Some m) None = Some m
later (Some m) (Some n) = Some (max m n)
