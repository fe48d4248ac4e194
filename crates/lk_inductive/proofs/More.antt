-- Derivations stay where more is given.
use Rattle.std.proofs.Common.{ℕ, ◌≡◌, inl, inr, refl, List, [], ◌∷◌, Option, Some, None, true}
use Rattle.lk_tree.specs.Tree.{Name, Level, Tree, const}
use Rattle.lk_tree.specs.Levels.{put_levels}
use Rattle.lk_tree.specs.WellFormed.{IsWellFormed}
use Rattle.lk_rulebook.specs.Place.{Place, Entry, Block, BlockType, Ctor, Recursor, RecRule, a_quot, a_type, a_ctor, a_rec}
use Rattle.lk_rulebook.specs.Structures.{IsRuleOf, Structure, UnitLike, StructureAt, Projectable, CtorApp, RecApp, on_major}
use Rattle.lk_rulebook.specs.Names.{nat, string, bool_name, op_name, quot_mk, quot_lift, quot_ind}
use Rattle.lk_rulebook.specs.Shapes.{Given, AllGiven, HasNat, HasString}
use Rattle.lk_rulebook.specs.NumberLaws.{Law, stated_by}
use Rattle.lk_rulebook.specs.Literals.{by_def, may_give, IsOperation, IsDef, CanBeStated, IsResult, a_number, a_truth, expansion_names, Expands, ReadsText, as_it_is, as_text, Reads, by_text, as_zero, as_succ}
use Rattle.lk_rulebook.specs.Quotients.{IsQuot}
use Rattle.lk_tree.specs.Operations.{Op, succ, Value}
use Rattle.std.specs.Str.{chars}
use Rattle.lk_rulebook.specs.Rules.{HasValue, of_def, of_thm, IsGivenAt, at_levels, Field, HasType, t_sort, t_local, t_const, t_app, t_lam, t_pi, t_let, t_lit, t_str, t_proj, HasSort, has_sort, IsProposition, is_prop, Reduces, r_refl, r_trans, r_head, r_beta, r_zeta, r_delta, r_proj, r_major, r_iota, r_k, r_struct, r_quot_lift, r_quot_ind, r_op, IsDefEq, e_refl, e_reduce, e_sort, e_const, e_app, e_lam, e_pi, e_proj, e_eta_left, e_eta_right, e_struct_left, e_struct_right, e_unit, e_proof, e_zero_left, e_zero_right, e_succ_left, e_succ_right, e_str_left, e_str_right, MeetsLaws, meets, AllHold, no_more_laws, holds, ReduceToNumerals, no_more_numerals, numeral, IsNotProposition, not_prop, IsByFields, by_fields, ProjectionsEqual, no_more_fields, project, IsTypeAfterParameters, no_more, next, IsFieldType, here, past}
use Rattle.lk_inductive.specs.Grows.{IsWithin}

-- what is no recursor without rules is kept as it is
kept : (w w' : Place) → IsWithin w w' → (c : Name) (e : Entry) → w.means c ≡ Some e → ((r : Recursor) → e.kind ≡ a_rec r → r.rules ≡ [] → ⊥) → w'.means c ≡ Some e
kept w w' i c e m h = elim (i c e m) [
  | inl k ↦ k
  | inr g ↦ absurd (h g.2.recursor g.2.kind g.2.no_rules)
]

pub type_kept : (w w' : Place) → IsWithin w w' → (c : Name) (e : Entry) (block : Block) (ind : BlockType) → w.means c ≡ Some e → e.kind ≡ a_type block ind → w'.means c ≡ Some e
type_kept w w' i c e block ind m k = kept w w' i c e m (λ r h z. cc)

ctor_kept : (w w' : Place) → IsWithin w w' → (c : Name) (e : Entry) (block : Block) (ind : BlockType) (ctor : Ctor) → w.means c ≡ Some e → e.kind ≡ a_ctor block ind ctor → w'.means c ≡ Some e
ctor_kept w w' i c e block ind ctor m k = kept w w' i c e m (λ r h z. cc)

value_kept : (w w' : Place) → IsWithin w w' → (c : Name) (e : Entry) (v : Tree) → w.means c ≡ Some e → HasValue e v → w'.means c ≡ Some e
value_kept w w' i c e v m (of_def k) = kept w w' i c e m (λ r h z. cc)
value_kept w w' i c e v m (of_thm k) = kept w w' i c e m (λ r h z. cc)

rec_inj : {r s : Recursor} → a_rec r ≡ a_rec s → r ≡ s
rec_inj e = cc

-- a recursor with a rule is kept
rule_kept : (w w' : Place) → IsWithin w w' → (R : Name) (e : Entry) (r : Recursor) (rule : RecRule) → w.means R ≡ Some e → e.kind ≡ a_rec r → IsRuleOf rule r.rules → w'.means R ≡ Some e
rule_kept w w' i R e r rule m k h = kept w w' i R e m (λ s j z.
    let same : s ≡ r = rec_inj cc in
    let none : r.rules ≡ [] = rw (← same) z in
    let gone : IsRuleOf rule [] = rw none at h in absurd gone)

-- the constant's type is the same, whatever entry gives it
const_more : (w w' : Place) → IsWithin w w' → {c : Name} {ls : List Level} (g : IsGivenAt w c ls) → IsWellFormed (at_levels g g.entry.type) → HasType w' (const c ls) (at_levels g g.entry.type)
const_more w w' i {c = c} {ls = ls} g f = elim (i c g.entry g.given) [
  | inl k ↦ t_const (record { entry = g.entry; given = k; levels_are = g.levels_are }) f
  | inr x ↦
      let there : IsGivenAt w' c ls = record { entry = x.0; given = x.1; levels_are = rw (← x.2.levels) g.levels_are } in
      let fine : IsWellFormed (put_levels x.0.levels ls x.0.type) = rw (← x.2.levels, ← x.2.type) f in
      let t : HasType w' (const c ls) (put_levels x.0.levels ls x.0.type) = t_const there fine in
      rw (x.2.levels, x.2.type) t
]

-- what has a value is kept
abbrev more_valued : (w w' : Place) → IsWithin w w' → {c : Name} {ls : List Level} {v : Tree} (g : IsGivenAt w c ls) → HasValue g.entry v → IsGivenAt w' c ls
more_valued w w' i {c = c} {v = v} g h = record { entry = g.entry; given = value_kept w w' i c g.entry v g.given h; levels_are = g.levels_are }

pub more_nat : (w w' : Place) → IsWithin w w' → HasNat w → HasNat w'
more_nat w w' i h = record {
  entry = h.entry;
  block = h.block;
  inductive = h.inductive;
  level = h.level;
  zero_ctor = h.zero_ctor;
  succ_ctor = h.succ_ctor;
  given = type_kept w w' i nat h.entry h.block h.inductive h.given h.kind;
  kind = h.kind;
  no_levels = h.no_levels;
  type = h.type;
  level_is_one = h.level_is_one;
  counts = h.counts;
  ctors = h.ctors;
  zero_is = h.zero_is;
  succ_is = h.succ_is;
}

abbrev more_string : (w w' : Place) → IsWithin w w' → HasString w → HasString w'
more_string w w' i h = record {
  entry = h.entry;
  block = h.block;
  inductive = h.inductive;
  level = h.level;
  given = type_kept w w' i string h.entry h.block h.inductive h.given h.kind;
  kind = h.kind;
  no_levels = h.no_levels;
  type = h.type;
  level_is_one = h.level_is_one;
  one_type = h.one_type;
}

more_given : (w w' : Place) → IsWithin w w' → (c : Name) → Given w c → Given w' c
more_given w w' i c g = elim (i c g.0 g.1) [
  | inl k ↦ (g.0, k)
  | inr x ↦ (x.0, x.1)
]

more_all : (w w' : Place) → IsWithin w w' → (cs : List Name) → AllGiven w cs → AllGiven w' cs
more_all w w' i [] g = tt
more_all w w' i (c ∷ cs) g = (more_given w w' i c g.0, more_all w w' i cs g.1)

more_expands : (w w' : Place) → IsWithin w w' → {s : List ℕ} → Expands w s → Expands w' s
more_expands w w' i {s = s} x = record {
  shape = more_string w w' i x.shape;
  ctor = x.ctor;
  one_ctor = x.one_ctor;
  ctor_is = x.ctor_is;
  is_text = x.is_text;
  names_given = more_all w w' i (expansion_names (chars s)) x.names_given;
}

more_text : (w w' : Place) → IsWithin w w' → {m m' : Tree} → ReadsText w m m' → ReadsText w' m m'
more_text w w' i as_it_is = as_it_is
more_text w w' i (as_text x) = as_text (more_expands w w' i x)

more_reads : (w w' : Place) → IsWithin w w' → {m m' : Tree} → Reads w m m' → Reads w' m m'
more_reads w w' i (by_text r) = by_text (more_text w w' i r)
more_reads w w' i as_zero = as_zero
more_reads w w' i as_succ = as_succ

no_rec_gives : (op : Op) (r : Recursor) → may_give op (a_rec r) ≡ true → ⊥
no_rec_gives succ r h = absurd cc
no_rec_gives _ r h = absurd cc

-- what gives an operation is kept
operation_kept : (w w' : Place) → IsWithin w w' → (op : Op) (o : IsOperation w op) → w'.means (op_name op) ≡ Some o.entry
operation_kept w w' i op o = kept w w' i (op_name op) o.entry o.given (λ r k z. let before : may_give op (a_rec r) ≡ true = rw k at o.kind in no_rec_gives op r before)

abbrev more_operation : (w w' : Place) → IsWithin w w' → (op : Op) → IsOperation w op → IsOperation w' op
more_operation w w' i op o = record { entry = o.entry; given = operation_kept w w' i op o; kind = o.kind }

def_kept : (w w' : Place) → IsWithin w w' → (c : Name) → IsDef w c → IsDef w' c
def_kept w w' i c d = record { entry = d.entry; given = kept w w' i c d.entry d.given (λ r k z. let before : by_def (a_rec r) ≡ true = rw k at d.kind in absurd cc); kind = d.kind }

more_stated : (w w' : Place) → IsWithin w w' → (o : Option Op) → CanBeStated w o → CanBeStated w' o
more_stated w w' i None h = tt
more_stated w w' i (Some op) h = def_kept w w' i (op_name op) h

more_result : (w w' : Place) → IsWithin w w' → {o : Option Value} {r : Tree} → IsResult w o r → IsResult w' o r
more_result w w' i (a_number h) = a_number h
more_result w w' i (a_truth {b = b} g) = a_truth (more_given w w' i (bool_name b) g)

more_quot : (w w' : Place) → IsWithin w w' → (c : Name) → IsQuot w c → IsQuot w' c
more_quot w w' i c h = record { entry = h.entry; given = kept w w' i c h.entry h.given (λ r k z. let e : h.entry.kind ≡ a_quot = h.kind in cc); kind = h.kind }

abbrev more_ctor_app : (w w' : Place) → IsWithin w w' → CtorApp w → CtorApp w'
more_ctor_app w w' i c = record {
  name = c.name;
  levels = c.levels;
  args = c.args;
  entry = c.entry;
  block = c.block;
  ind = c.ind;
  ctor = c.ctor;
  given = ctor_kept w w' i c.name c.entry c.block c.ind c.ctor c.given c.kind;
  kind = c.kind;
}

-- a recursor takes as many arguments before and after its rules come
more_on_major : (w w' : Place) → IsWithin w w' → (R : RecApp w) {e m m' : Tree} → Reduces w' e m → Reads w' m m' → Reduces w' (on_major R e) (on_major R m')
more_on_major w w' i R p d = elim (i R.name R.entry R.given) [
  | inl k ↦ r_major (record { name = R.name; levels = R.levels; front = R.front; entry = R.entry; recursor = R.recursor; given = k; kind = R.kind; front_is = R.front_is; fine = R.fine }) p d
  | inr g ↦
      let same : R.recursor ≡ g.2.recursor = rec_inj cc in
      r_major (record {
        name = R.name;
        levels = R.levels;
        front = R.front;
        entry = g.0;
        recursor = record g.2.recursor { rules = g.2.rules };
        given = g.1;
        kind = g.2.kind_then;
        front_is = rw same at R.front_is;
        fine = R.fine;
      }) p d
]

-- one that has a rule is kept
abbrev ruled_app : (w w' : Place) → IsWithin w w' → (R : RecApp w) (rule : RecRule) → IsRuleOf rule R.recursor.rules → RecApp w'
ruled_app w w' i R rule h = record {
  name = R.name;
  levels = R.levels;
  front = R.front;
  entry = R.entry;
  recursor = R.recursor;
  given = rule_kept w w' i R.name R.entry R.recursor rule R.given R.kind h;
  kind = R.kind;
  front_is = R.front_is;
  fine = R.fine;
}

only_rule : {rs : List RecRule} (rule : RecRule) → rs ≡ rule ∷ [] → IsRuleOf rule rs
only_rule rule e = rw e (inl refl)

abbrev more_structure : (w w' : Place) → IsWithin w w' → Structure w → Structure w'
more_structure w w' i h = record {
  ctor_name = h.ctor_name;
  entry = h.entry;
  block = h.block;
  ind = h.ind;
  ctor = h.ctor;
  given = ctor_kept w w' i h.ctor_name h.entry h.block h.ind h.ctor h.given h.kind;
  kind = h.kind;
  one_ctor = h.one_ctor;
  like = h.like;
}

abbrev more_unit : (w w' : Place) → IsWithin w w' → UnitLike w → UnitLike w'
more_unit w w' i h = record {
  name = h.name;
  entry = h.entry;
  block = h.block;
  ind = h.ind;
  ctor = h.ctor;
  given = type_kept w w' i h.name h.entry h.block h.ind h.given h.kind;
  kind = h.kind;
  one_ctor = h.one_ctor;
  like = h.like;
  no_fields = h.no_fields;
}

abbrev more_structure_at : (w w' : Place) → IsWithin w w' → StructureAt w → StructureAt w'
more_structure_at w w' i S = record { structure = more_structure w w' i S.structure; levels = S.levels; params = S.params; params_are = S.params_are }

abbrev more_projectable : (w w' : Place) → IsWithin w w' → Projectable w → Projectable w'
more_projectable w w' i S = record {
  name = S.name;
  levels = S.levels;
  args = S.args;
  entry = S.entry;
  block = S.block;
  ind = S.ind;
  ctor = S.ctor;
  given = type_kept w w' i S.name S.entry S.block S.ind S.given S.kind;
  kind = S.kind;
  args_are = S.args_are;
  one_ctor = S.one_ctor;
  levels_are = S.levels_are;
}

mutual
  pub more_type : (w w' : Place) → IsWithin w w' → {e A : Tree} → HasType w e A → HasType w' e A
  more_type w w' i t_sort = t_sort
  more_type w w' i (t_local f) = t_local f
  more_type w w' i (t_const g f) = const_more w w' i g f
  more_type w w' i (t_app f p a q) = t_app (more_type w w' i f) (more_reduct w w' i p) (more_type w w' i a) (more_equal w w' i q)
  more_type w w' i (t_lam fresh a f) = t_lam fresh (more_sort w w' i a) (more_type w w' i f)
  more_type w w' i (t_pi fresh a f) = t_pi fresh (more_sort w w' i a) (more_sort w w' i f)
  more_type w w' i (t_let a v q f) = t_let (more_sort w w' i a) (more_type w w' i v) (more_equal w w' i q) (more_type w w' i f)
  more_type w w' i (t_lit h n) = t_lit (more_nat w w' i h) n
  more_type w w' i (t_str h) = t_str (more_string w w' i h)
  more_type w w' i (t_proj S h r lt s p f) = t_proj (more_projectable w w' i S) (more_type w w' i h) (more_reduct w w' i r) lt (more_sort w w' i s) (more_past w w' i p) (more_field w w' i f)

  pub more_sort : (w w' : Place) → IsWithin w w' → {A : Tree} {l : Level} → HasSort w A l → HasSort w' A l
  more_sort w w' i (has_sort t r) = has_sort (more_type w w' i t) (more_reduct w w' i r)

  pub more_prop : (w w' : Place) → IsWithin w w' → {A : Tree} → IsProposition w A → IsProposition w' A
  more_prop w w' i (is_prop h z) = is_prop (more_sort w w' i h) z

  pub more_reduct : (w w' : Place) → IsWithin w w' → {a b : Tree} → Reduces w a b → Reduces w' a b
  more_reduct w w' i (r_refl f) = r_refl f
  more_reduct w w' i (r_trans p q) = r_trans (more_reduct w w' i p) (more_reduct w w' i q)
  more_reduct w w' i (r_head p f) = r_head (more_reduct w w' i p) f
  more_reduct w w' i (r_beta f) = r_beta f
  more_reduct w w' i (r_zeta f) = r_zeta f
  more_reduct w w' i (r_delta g h f) = r_delta (more_valued w w' i g h) h f
  more_reduct w w' i (r_proj c p d e f) = r_proj (more_ctor_app w w' i c) (more_reduct w w' i p) (more_text w w' i d) e f
  more_reduct w w' i (r_major R p d) = more_on_major w w' i R (more_reduct w w' i p) (more_reads w w' i d)
  more_reduct w w' i (r_iota R c h f g) =
      r_iota (ruled_app w w' i R h.rule h.is_rule) (more_ctor_app w w' i c)
      (record { rule = h.rule; is_rule = h.is_rule; for_ctor = h.for_ctor; levels_are = h.levels_are; args_are = h.args_are }) f g
  more_reduct w w' i (r_k R k h p d q) =
      r_k (ruled_app w w' i R k.only.rule (only_rule k.only.rule k.only.one_rule))
      (record {
        ctor = more_ctor_app w w' i k.ctor;
        rest = k.rest;
        k_is = k.k_is;
        only = record { rule = k.only.rule; one_rule = k.only.one_rule; for_ctor = k.only.for_ctor };
        params_are = k.params_are;
      }) (more_type w w' i h) (more_reduct w w' i p) (more_type w w' i d) (more_equal w w' i q)
  more_reduct w w' i (r_struct R S h t p o) =
      r_struct (ruled_app w w' i R h.rule (only_rule h.rule h.one_rule)) (more_structure_at w w' i S)
      (record { rule = h.rule; one_rule = h.one_rule; for_ctor = h.for_ctor }) (more_type w w' i t) (more_reduct w w' i p) (more_no_proof w w' i o)
  more_reduct w w' i (r_quot_lift ls ks q m f p) = r_quot_lift ls ks (more_quot w w' i quot_lift q) (more_quot w w' i quot_mk m) f (more_reduct w w' i p)
  more_reduct w w' i (r_quot_ind ls ks q m f p) = r_quot_ind ls ks (more_quot w w' i quot_ind q) (more_quot w w' i quot_mk m) f (more_reduct w w' i p)
  more_reduct w w' i (r_op op es ns r o h l s x) =
      r_op op es ns r (more_operation w w' i op o) (more_nat w w' i h) (more_laws w w' i l) (more_numerals w w' i s) (more_result w w' i x)

  pub more_equal : (w w' : Place) → IsWithin w w' → {a b : Tree} → IsDefEq w a b → IsDefEq w' a b
  more_equal w w' i (e_refl f) = e_refl f
  more_equal w w' i (e_reduce p q r) = e_reduce (more_reduct w w' i p) (more_reduct w w' i q) (more_equal w w' i r)
  more_equal w w' i (e_sort h) = e_sort h
  more_equal w w' i (e_const h) = e_const h
  more_equal w w' i (e_app u v p q) = e_app u v (more_equal w w' i p) (more_equal w w' i q)
  more_equal w w' i (e_lam fresh p q) = e_lam fresh (more_equal w w' i p) (more_equal w w' i q)
  more_equal w w' i (e_pi fresh p q) = e_pi fresh (more_equal w w' i p) (more_equal w w' i q)
  more_equal w w' i (e_proj p) = e_proj (more_equal w w' i p)
  more_equal w w' i (e_eta_left v t p q) = e_eta_left v (more_type w w' i t) (more_reduct w w' i p) (more_equal w w' i q)
  more_equal w w' i (e_eta_right v t p q) = e_eta_right v (more_type w w' i t) (more_reduct w w' i p) (more_equal w w' i q)
  more_equal w w' i (e_struct_left S xs v b) = e_struct_left (more_structure_at w w' i S) xs v (more_by_fields w w' i b)
  more_equal w w' i (e_struct_right S xs v b) = e_struct_right (more_structure_at w w' i S) xs v (more_by_fields w w' i b)
  more_equal w w' i (e_unit s ls bs a b A B u v n ha r hb q) =
      e_unit (more_unit w w' i s) ls bs a b A B u v n (more_type w w' i ha) (more_reduct w w' i r) (more_type w w' i hb) (more_equal w w' i q)
  more_equal w w' i (e_proof u v a p b q) = e_proof u v (more_type w w' i a) (more_prop w w' i p) (more_type w w' i b) (more_equal w w' i q)
  more_equal w w' i e_zero_left = e_zero_left
  more_equal w w' i e_zero_right = e_zero_right
  more_equal w w' i (e_succ_left f q) = e_succ_left f (more_equal w w' i q)
  more_equal w w' i (e_succ_right f q) = e_succ_right f (more_equal w w' i q)
  more_equal w w' i (e_str_left x q) = e_str_left (more_expands w w' i x) (more_equal w w' i q)
  more_equal w w' i (e_str_right x q) = e_str_right (more_expands w w' i x) (more_equal w w' i q)

  -- what holds of an operation holds of it still
  pub more_laws : (w w' : Place) → IsWithin w w' → {op : Op} {g : Entry} → MeetsLaws w op g → MeetsLaws w' op g
  more_laws w w' i (meets {op = op} n s h) = meets n (more_stated w w' i (stated_by op) s) (more_hold w w' i h)

  more_hold : (w w' : Place) → IsWithin w w' → {laws : List Law} → AllHold w laws → AllHold w' laws
  more_hold w w' i no_more_laws = no_more_laws
  more_hold w w' i (holds q h) = holds (more_equal w w' i q) (more_hold w w' i h)

  more_numerals : (w w' : Place) → IsWithin w w' → {es : List Tree} {ns : List ℕ} → ReduceToNumerals w es ns → ReduceToNumerals w' es ns
  more_numerals w w' i no_more_numerals = no_more_numerals
  more_numerals w w' i (numeral p n s) = numeral (more_reduct w w' i p) n (more_numerals w w' i s)

  pub more_no_proof : (w w' : Place) → IsWithin w w' → {T : Tree} → IsNotProposition w T → IsNotProposition w' T
  more_no_proof w w' i (not_prop t h) = not_prop (more_sort w w' i t) h

  more_by_fields : (w w' : Place) (i : IsWithin w w') → {S : StructureAt w} {xs : List Tree} {a : Tree} → IsByFields w S xs a → IsByFields w' (more_structure_at w w' i S) xs a
  more_by_fields w w' i (by_fields n ha hb q p) = by_fields n (more_type w w' i ha) (more_type w w' i hb) (more_equal w w' i q) (more_project w w' i p)

  more_project : (w w' : Place) → IsWithin w w' → {J : Name} {a : Tree} {j : ℕ} {xs : List Tree} → ProjectionsEqual w J a j xs → ProjectionsEqual w' J a j xs
  more_project w w' i no_more_fields = no_more_fields
  more_project w w' i (project c p) = project (more_equal w w' i c) (more_project w w' i p)

  more_past : (w w' : Place) → IsWithin w w' → {T r : Tree} {n : ℕ} {bs : List Tree} → IsTypeAfterParameters w T n bs r → IsTypeAfterParameters w' T n bs r
  more_past w w' i no_more = no_more
  more_past w w' i (next c p) = next (more_reduct w w' i c) (more_past w w' i p)

  more_field : (w w' : Place) → IsWithin w w' → {f : Field} {A r : Tree} {j : ℕ} → IsFieldType w f A j r → IsFieldType w' f A j r
  more_field w w' i (here c h) = here (more_reduct w w' i c) (λ z. more_prop w w' i (h z))
  more_field w w' i (past c h f) = past (more_reduct w w' i c) (λ z v. more_prop w w' i (h z v)) (more_field w w' i f)
