-- A block without auxiliary types meets the block and the recursor relation itself.
use Rattle.std.proofs.Common.{ℕ, suc, ◌≡◌, ◌≤◌, ◌<◌, List, [], ◌∷◌, ◌++◌, refl, sym, ap, subst, ◌∙◌, arith}
use Rattle.std.proofs.lemmas.List.{append-nil}
use Rattle.lk_tree.specs.Tree.{Name, Tree, var, sort, const, app, lam, pi, let_in, proj, lit, wide, str, local}
use Rattle.lk_tree.specs.Bind.{open_at, open_var, close_at, opened, close, bound}
use Rattle.lk_tree.specs.WellFormed.{IsWellFormed, IsWellFormedUnder}
use Rattle.lk_tree.proofs.Binding.{Opening, opening, below, at, above, Closing, closing, closed, stays, open_fine}
use Rattle.lk_rulebook.specs.Place.{Place, Block, BlockType, Ctor}
use Rattle.lk_rulebook.specs.Units.{Members}
use Rattle.lk_questions.specs.Sound.{IsStated, CtorsStated, TypesStated}
use Rattle.lk_inductive.specs.Block.{Shape}
use Rattle.lk_inductive.specs.Relation.{AreNumbered, IsBlock}
use Rattle.lk_inductive.specs.Recursors.{number, BlockRecursor, minors, recursors_by}
use Rattle.lk_inductive.specs.Compare.{AreRecs}
use Rattle.lk_inductive.specs.Whole.{partial_types, partial_members, BlockStated, BlockDerived}
use Rattle.lk_inductive.specs.Nested.{Setting, Larger, larger_block, bare_entries}
use Rattle.lk_inductive.specs.Restore.{Original, first_name, all_stand, restoring}
use Rattle.lk_inductive.specs.NestedTask.{setting_of, restoring_of}
use Rattle.lk_inductive.specs.NestedRelation.{ReadsPast, read_rest, read_past, ReadsAs, as_stated, past_params, IsOwnCtor, OwnCtors, no_own_ctor, own_ctor_more, IsOwnType, OwnTypes, no_own_type, own_type_more, AuxTypes, aux_more, middle_half, NestedDerived}
use Rattle.lk_inductive.proofs.ReadBack.{back_none, same_recs}
use Rattle.lk_sound.proofs.Scoped.{local_bound, open_bound}
use Rattle.lk_sound.proofs.Telescopes.{params_numbered}

-- what was opened with a new Local is closed again
var_closes : (d i k : ℕ) (A : Tree) → i < suc d → Opening d i (local k A) → close_at d k (open_var d (local k A) i) ≡ var i
unfolding close_at
var_closes d i k A l (below h e) = rw e refl
var_closes d i k A l (at h e) = rw e (filled (closing d k k A))
  where
    filled : Closing d k k A → close_at d k (local k A) ≡ var i
    filled (closed j q) = q ∙ ap var (sym h)
    filled (stays j q) = absurd (j refl)
var_closes d i k A l (above h e) = absurd (omega arith)

local_stays : (d k j : ℕ) (T : Tree) → bound (local j T) ≤ k → Closing d k j T → close_at d k (local j T) ≡ local j T
unfolding bound
local_stays d k j T b (closed h e) = absurd (omega arith)
local_stays d k j T b (stays h e) = e

closes : (d k : ℕ) (A b : Tree) → IsWellFormedUnder (suc d) b → bound b ≤ k → close_at d k (open_at d (local k A) b) ≡ b
unfolding open_at close_at bound
closes d k A (var i) f h = var_closes d i k A f (opening d i (local k A))
closes d k A (sort l) f h = refl
closes d k A (const c ls) f h = refl
closes d k A (app g a) f h = rw (closes d k A g f.0 (omega arith), closes d k A a f.1 (omega arith)) refl
closes d k A (lam B b) f h = rw (closes d k A B f.0 (omega arith), closes (suc d) k A b f.1 (omega arith)) refl
closes d k A (pi B b) f h = rw (closes d k A B f.0 (omega arith), closes (suc d) k A b f.1 (omega arith)) refl
closes d k A (let_in B a b) f h = rw (closes d k A B f.0 (omega arith), closes d k A a f.1 (omega arith), closes (suc d) k A b f.2 (omega arith)) refl
closes d k A (proj S i s) f h = rw (closes d k A s f h) refl
closes d k A (lit n) f h = refl
closes d k A wide f h = refl
closes d k A (str s) f h = refl
closes d k A (local j T) f h = local_stays d k j T h (closing d k j T)

pi_bounds : (j : ℕ) (A B : Tree) → bound (pi A B) ≤ j → bound B ≤ j
unfolding bound
pi_bounds j A B h = omega arith

past_same : (qs : Setting) (j : ℕ) (ps : List Tree) (e e' : Tree) → AreNumbered j ps → IsWellFormed e → bound e ≤ j → ReadsPast qs [] ps e e' → e' ≡ e
past_same qs j ps e e' n f b (read_rest x r) = sym (back_none qs x []) ∙ r
past_same qs j ps e e' n f b (read_past {P = P} {A = A} {B = B} {ps = rest} x r) =
    let l : bound P ≤ suc j = rw n.0.1 (local_bound j n.0.0 n.0.2.1) in
    let fp : IsWellFormed P = rw n.0.1 n.0.2 in
    let small : bound B ≤ j = pi_bounds j A B b in
    let one : x ≡ opened B P = past_same qs (suc j) rest (opened B P) x n.1 (open_fine 0 P B f.1 fp) (open_bound (suc j) B P (omega arith) l) r in
    let two : close (number P) (opened B P) ≡ B = subst (λ Q. close (number Q) (opened B Q) ≡ B) (sym n.0.1) (closes 0 j n.0.0 B f.1 small) in
    ap (λ y. pi A (close (number P) y)) one ∙ ap (pi A) two

reads_same : (s : Setting) (e e' : Tree) → AreNumbered 0 s.params → IsStated e → ReadsAs s [] e e' → e' ≡ e
reads_same s e e' n st (as_stated r) = refl
reads_same s e e' n st (past_params r) = past_same s 0 s.params e e' n st.0 (omega (arith, st.1)) r

ctor_same : (s : Setting) (c d : Ctor) → AreNumbered 0 s.params → IsStated c.type → IsOwnCtor s [] c d → d ≡ c
ctor_same s c d n st h =
    let t : d.type ≡ c.type = reads_same s c.type d.type n st h.type in
    ap (λ x. record d { name = x }) h.name
    ∙ (ap (λ x. record d { name = c.name; levels = x }) h.levels
    ∙ (ap (λ x. record d { name = c.name; levels = c.levels; type = x }) t
    ∙ (ap (λ x. record d { name = c.name; levels = c.levels; type = c.type; parent = x }) h.parent
    ∙ (ap (λ x. record d { name = c.name; levels = c.levels; type = c.type; parent = c.parent; place = x }) h.place
    ∙ (ap (λ x. record d { name = c.name; levels = c.levels; type = c.type; parent = c.parent; place = c.place; parameters = x }) h.parameters
    ∙ ap (λ x. record c { fields = x }) h.fields)))))

ctors_same : (s : Setting) (cs ds : List Ctor) → AreNumbered 0 s.params → CtorsStated cs → OwnCtors s [] cs ds → ds ≡ cs
ctors_same s cs ds n st no_own_ctor = refl
ctors_same s cs ds n st (own_ctor_more {c = c} {d = d} {cs = cs'} {ds = ds'} h k) = ap (λ x. x ∷ ds') (ctor_same s c d n st.0 h) ∙ ap (λ xs. c ∷ xs) (ctors_same s cs' ds' n st.1 k)

type_same : (s : Setting) (t u : BlockType) → AreNumbered 0 s.params → CtorsStated t.ctors → IsOwnType s [] t u → u ≡ t
type_same s t u n st h =
    let cs : u.ctors ≡ t.ctors = ctors_same s t.ctors u.ctors n st h.ctors in
    ap (λ x. record u { name = x }) h.name
    ∙ (ap (λ x. record u { name = t.name; levels = x }) h.levels
    ∙ (ap (λ x. record u { name = t.name; levels = t.levels; type = x }) h.type
    ∙ (ap (λ x. record u { name = t.name; levels = t.levels; type = t.type; parameters = x }) h.parameters
    ∙ (ap (λ x. record u { name = t.name; levels = t.levels; type = t.type; parameters = t.parameters; indices = x }) h.indices
    ∙ ap (λ x. record t { ctors = x }) cs))))

types_same : (s : Setting) (ts us : List BlockType) → AreNumbered 0 s.params → TypesStated ts → OwnTypes s [] ts us → us ≡ ts
types_same s ts us n st no_own_type = refl
types_same s ts us n st (own_type_more {t = t} {u = u} {ts = ts'} {us = us'} h k) = ap (λ x. x ∷ us') (type_same s t u n st.0.1 h) ∙ ap (λ xs. t ∷ xs) (types_same s ts' us' n st.1 k)

no_types : (w : Place) (s : Setting) (ms : List (Name × Original)) (i : ℕ) (ts : List BlockType) → AuxTypes w s ms [] i ts → ts ≡ []
no_types w s ms i [] h = refl
no_types w s ms i (t ∷ ts) (aux_more e x h) = absurd cc

-- the larger block is the stated one
larger_same : (lg : Larger) (b : Block) → lg.own ≡ b.types → lg.aux ≡ [] → larger_block lg ≡ b
larger_same lg b e f = ap (λ ts. record { types = ts ++ lg.aux }) e ∙ (ap (λ us. record { types = b.types ++ us }) f ∙ ap (λ ts. record { types = ts }) (append-nil b.types))

pub nothing_nested : (places : Members → Place) (b : Block) (stated : List BlockRecursor) (s : Shape) → BlockStated b stated → (g : NestedDerived places b stated s) → g.larger.auxs ≡ [] → BlockDerived places b stated s
nothing_nested places b stated s st g none =
    let lg : Larger = g.larger in
    let set : Setting = setting_of b s.params in
    let own0 : OwnTypes set (all_stand (first_name b.types) 0 lg.auxs) b.types lg.own = g.enlarged.own in
    let own : OwnTypes set [] b.types lg.own = subst (λ as_. OwnTypes set (all_stand (first_name b.types) 0 as_) b.types lg.own) none own0 in
    let aux0 : AuxTypes (places (partial_types b)) set (all_stand (first_name b.types) 0 lg.auxs) lg.auxs 0 lg.aux = g.enlarged.aux in
    let aux : AuxTypes (places (partial_types b)) set [] [] 0 lg.aux = subst (λ as_. AuxTypes (places (partial_types b)) set (all_stand (first_name b.types) 0 as_) as_ 0 lg.aux) none aux0 in
    let no_aux_type : lg.aux ≡ [] = no_types (places (partial_types b)) set [] 0 lg.aux aux in
    let same_own : lg.own ≡ b.types = types_same set b.types lg.own (params_numbered (places []) (larger_block lg).types s.params g.block.params) st.types own in
    let same : larger_block lg ≡ b = larger_same lg b same_own no_aux_type in
    let middle : middle_half b lg ≡ partial_types b = ap (λ us. partial_types b ++ bare_entries us) no_aux_type ∙ append-nil (partial_types b) in
    let block1 : IsBlock (places []) (places (partial_types b)) (larger_block lg) s = subst (λ h. IsBlock (places []) (places h) (larger_block lg) s) middle g.block in
    let recs1 : AreRecs (places (partial_types b ++ partial_members b stated)) (recursors_by (restoring_of b set lg) s) stated = subst (λ h. AreRecs (places (h ++ partial_members b stated)) (recursors_by (restoring_of b set lg) s) stated) middle g.recs in
    let recs2 : AreRecs (places (partial_types b ++ partial_members b stated)) (recursors_by (restoring [] set) s) stated =
    subst (λ as_. AreRecs (places (partial_types b ++ partial_members b stated)) (recursors_by (restoring (all_stand (first_name b.types) 0 as_) set) s) stated) none recs1 in record {
      counts = g.counts;
      types_sorted = g.types_sorted;
      ctors_sorted = g.ctors_sorted;
      block = subst (λ x. IsBlock (places []) (places (partial_types b)) x s) same block1;
      recs = subst (λ rs. AreRecs (places (partial_types b ++ partial_members b stated)) rs stated) (same_recs s set (minors s) s.types) recs2;
    }
