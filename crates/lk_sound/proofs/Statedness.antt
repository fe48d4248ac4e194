-- What a library gives is closed and holds no Local.
use Rattle.std.proofs.Common.{ℕ, suc, ◌≡◌, List, [], ◌∷◌, ◌++◌, take, Option, Some, None, refl, inl, inr}
use Rattle.std.specs.Prelude.{option_and_then}
use Rattle.lk_tree.specs.Tree.{Name, Tree}
use Rattle.lk_tree.specs.Bind.{bound}
use Rattle.lk_tree.specs.declared.rule.Rule.{Rule}
use Rattle.lk_tree.specs.WellFormed.{IsStated}
use Rattle.lk_rulebook.specs.Place.{Entry, Hint, Kind, a_def, a_thm, a_type, a_rec, Ctor, BlockType, Block, RecRule, Recursor, BlockRecursor}
use Rattle.lk_rulebook.specs.Units.{Body, as_axiom, as_def, as_thm, as_opaque, as_quot, LibraryUnit, of_decl, of_block, Library, members_of, kind_of, type_entries, all_ctor_entries, rec_members, trees_of, body_trees, type_trees, ctor_trees, all_ctor_trees, rule_trees, rec_trees, given_by, first_of_two, at_unit, flaw_of, flawless, first_giving, place_of}
use Rattle.lk_rulebook.specs.Structures.{IsRuleOf}
use Rattle.lk_rulebook.specs.Rules.{HasValue, of_def, of_thm}
use Rattle.lk_rulebook.specs.Stated.{GivesNoLocal}
use Rattle.lk_rulebook.proofs.Scans.{AllStated, stated_split, unflawed_stated}
use Rattle.lk_questions.specs.Sound.{WellStated, KindStated, CtorsStated, TypesStated, RulesStated}
use Rattle.lk_inductive.specs.Whole.{RecsStated, BlockStated}
use Rattle.lk_inductive.proofs.Partials.{MembersStated, given_stated, stated_append}
use Rattle.lk_sound.proofs.BlockYes.{type_entries_stated, all_ctor_entries_stated}

body_stated : (ps : List Name) (b : Body) → AllStated (body_trees ps b) → KindStated (kind_of b)
body_stated ps as_axiom h = tt
body_stated ps (as_def i v) h = h.0
body_stated ps (as_thm v) h = h.0
body_stated ps (as_opaque v) h = h.0
body_stated ps as_quot h = tt

ctors_stated : (cs : List Ctor) → AllStated (ctor_trees cs) → CtorsStated cs
ctors_stated [] h = tt
ctors_stated (c ∷ cs) h = (h.0, ctors_stated cs h.1)

types_stated : (ts : List BlockType) → AllStated (type_trees ts) → AllStated (all_ctor_trees ts) → TypesStated ts
types_stated [] h k = tt
types_stated (t ∷ ts) h k =
    let r : AllStated (ctor_trees t.ctors) × AllStated (all_ctor_trees ts) = stated_split (ctor_trees t.ctors) (all_ctor_trees ts) k in
    ((h.0, ctors_stated t.ctors r.0), types_stated ts h.1 r.1)

rules_stated : (ps : List Name) (rs : List RecRule) → AllStated (rule_trees ps rs) → RulesStated rs
rules_stated ps [] h = tt
rules_stated ps (r ∷ rs) h = (h.0, rules_stated ps rs h.1)

recs_stated : (rs : List BlockRecursor) → AllStated (rec_trees rs) → RecsStated rs
recs_stated [] h = tt
recs_stated (r ∷ rs) h =
    let s : AllStated (rule_trees r.levels r.recursor.rules) × AllStated (rec_trees rs) = stated_split (rule_trees r.levels r.recursor.rules) (rec_trees rs) h.1 in
    ((h.0, rules_stated r.levels r.recursor.rules s.0), recs_stated rs s.1)

-- the trees of a block
pub block_stated : (b : _) (rs : List BlockRecursor) → AllStated (trees_of (of_block b rs)) → BlockStated b rs
block_stated b rs h =
    let x : AllStated (type_trees b.types) × AllStated (all_ctor_trees b.types ++ rec_trees rs) = stated_split (type_trees b.types) (all_ctor_trees b.types ++ rec_trees rs) h in
    let y : AllStated (all_ctor_trees b.types) × AllStated (rec_trees rs) = stated_split (all_ctor_trees b.types) (rec_trees rs) x.1 in
    record { types = types_stated b.types x.0 y.0; recs = recs_stated rs y.1 }

rec_members_stated : (rs : List BlockRecursor) → RecsStated rs → MembersStated (rec_members rs)
rec_members_stated [] h = tt
rec_members_stated (r ∷ rs) h = ((h.0.0, h.0.1), rec_members_stated rs h.1)

pub members_stated : (u : LibraryUnit) → AllStated (trees_of u) → MembersStated (members_of u)
members_stated (of_decl d) h = ((h.0, body_stated d.levels d.body h.1), tt)
members_stated (of_block b rs) h =
    let s : BlockStated b rs = block_stated b rs h in
    stated_append (type_entries b b.types) (all_ctor_entries b b.types ++ rec_members rs) (type_entries_stated b b.types s.types s.types)
    (stated_append (all_ctor_entries b b.types) (rec_members rs) (all_ctor_entries_stated b b.types s.types) (rec_members_stated rs s.recs))

found_stated : (i : ℕ) (us : Library) (c : Name) (e : Entry) → option_and_then flawless (first_giving i us c) ≡ Some e → IsStated e.type × KindStated e.kind
found_stated i [] c e m = absurd cc
found_stated i (u ∷ us) c e m = go (given_by (members_of u) c) refl (found_stated (suc i) us c e) m
  where
    Some_is : {a b : Entry} → Some a ≡ Some b → a ≡ b
    Some_is e = cc

    unflawed : (x : Entry) (o : Option Rule) → elim o as (λ y. Option Entry) [ None ↦ Some x | Some r ↦ None ] ≡ Some e → (o ≡ None) × (x ≡ e)
    unflawed x None k = (refl, Some_is k)
    unflawed x (Some r) k = absurd cc

    go : (g : Option Entry) → given_by (members_of u) c ≡ g → (option_and_then flawless (first_giving (suc i) us c) ≡ Some e → IsStated e.type × KindStated e.kind) →
        option_and_then flawless (first_of_two (at_unit i u g) (first_giving (suc i) us c)) ≡ Some e → IsStated e.type × KindStated e.kind
    go (Some x) j r k = let q : (flaw_of u ≡ None) × (x ≡ e) = unflawed x (flaw_of u) k in given_stated (members_of u) c e (members_stated u (unflawed_stated u q.0)) (rw (← q.1) j)
    go None j r k = r k

pub all_well_stated : (us : Library) (n : ℕ) → WellStated (place_of us n [])
all_well_stated us n c e m = found_stated 0 (take n us) c e m

-- so no tree has a Local
value_bound : (k : Kind) (s : KindStated k) (h : Hint) (v : Tree) → k ≡ a_def h v → bound v ≡ 0
value_bound k s h v e = let t : KindStated (a_def h v) = rw e at s in t.1

proof_bound : (k : Kind) (s : KindStated k) (v : Tree) → k ≡ a_thm v → bound v ≡ 0
proof_bound k s v e = let t : KindStated (a_thm v) = rw e at s in t.1

has_value_bound : (g : Entry) (v : Tree) → KindStated g.kind → HasValue g v → bound v ≡ 0
has_value_bound g v s (of_def {h = h} e) = value_bound g.kind s h v e
has_value_bound g v s (of_thm e) = proof_bound g.kind s v e

ctor_bound : (k : Kind) (s : KindStated k) (b : Block) (t : BlockType) (c : Ctor) → k ≡ a_type b t → t.ctors ≡ c ∷ [] → bound c.type ≡ 0
ctor_bound k s b t c e f = let x : KindStated (a_type b t) = rw e at s in let y : CtorsStated (c ∷ []) = rw f at x.0.1 in y.0.1

rule_bound : (rs : List RecRule) (rule : RecRule) → RulesStated rs → IsRuleOf rule rs → bound rule.value ≡ 0
rule_bound [] rule s h = absurd h
rule_bound (r ∷ rs) rule s (inl e) = rw (← e) s.0.1
rule_bound (r ∷ rs) rule s (inr h) = rule_bound rs rule s.1 h

rules_bound : (k : Kind) (s : KindStated k) (r : Recursor) (rule : RecRule) → k ≡ a_rec r → IsRuleOf rule r.rules → bound rule.value ≡ 0
rules_bound k s r rule e h = let t : KindStated (a_rec r) = rw e at s in rule_bound r.rules rule t h

pub all_no_local : (us : Library) (n : ℕ) → GivesNoLocal (place_of us n [])
all_no_local us n = record {
  types = λ c g m. (all_well_stated us n c g m).0.1;
  values = λ c g v m h. has_value_bound g v (all_well_stated us n c g m).1 h;
  ctors = λ S g b t c m k one. ctor_bound g.kind (all_well_stated us n S g m).1 b t c k one;
  rules = λ R g r rule m k h. rules_bound g.kind (all_well_stated us n R g m).1 r rule k h;
}
