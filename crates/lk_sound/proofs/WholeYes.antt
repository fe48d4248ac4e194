-- A yes of the whole check, of a block with nested occurrences too, is a derivation.
use Rattle.std.proofs.Common.{ℕ, suc, ◌≡◌, ◌<◌, ◌+◌, inl, inr, List, [], ◌∷◌, ◌++◌, length, take, Option, Some, None, refl, sym, ap, ◌∙◌, subst, arith}
use Rattle.std.specs.Prelude.{option_and_then}
use Rattle.lk_tree.specs.Tree.{Name, name_discrete, Tree, local}
use Rattle.lk_tree.specs.WellFormed.{AllWellFormed}
use Rattle.lk_tree.proofs.Lists.{AnyLocal}
use Rattle.lk_rulebook.specs.Place.{Place, Entry, Block, BlockType, a_type}
use Rattle.lk_rulebook.specs.Units.{Members, LibraryUnit, given_by, first_of_two, first_giving, flawless, place_of, at_partial}
use Rattle.lk_questions.specs.Answer.{IfAnswered, plain_answer}
use Rattle.lk_questions.specs.Program.{Table}
use Rattle.lk_questions.specs.Sound.{WellStated, TypesStated, IsSoundPlace, IsSoundTable}
use Rattle.lk_table_sound.proofs.Derivations.{ans_sound}
use Rattle.lk_inductive.specs.Block.{frame_of, parameters_of, type_entries, all_ctor_entries}
use Rattle.lk_inductive.specs.Relation.{IsAmong, AreNumbered, IsBlock, CountsAgree}
use Rattle.lk_inductive.specs.BlockSteps.{TypeParts, counts_steps, types_steps, all_ctor_sorts, shape_steps}
use Rattle.lk_inductive.specs.Recursors.{BlockRecursor, recursors_by}
use Rattle.lk_inductive.specs.Compare.{compare_steps, rec_entries, AreRecs}
use Rattle.lk_inductive.specs.Whole.{partial_types, partial_members, AllCtorsSorted, BlockStated}
use Rattle.lk_inductive.specs.Nested.{Setting, Larger, larger_block, enlarge, aux_sorts, aux_indices, bare_entries}
use Rattle.lk_inductive.specs.Restore.{first_name, all_stand}
use Rattle.lk_inductive.specs.NestedTask.{setting_of, restoring_of, nested_shape, whole_task}
use Rattle.lk_inductive.specs.NestedRelation.{Clear, ClearCtors, ClearTypes, IsClear, IsEnlarged, middle_half, last_half, NestedDerived}
use Rattle.lk_inductive.specs.Task.{here, run_task, IsSoundTask}
use Rattle.lk_inductive.proofs.Tasks.{sound_run_task, sound_here, sound_then}
use Rattle.lk_inductive.proofs.Partials.{MembersStated, well_stated_half, stated_append}
use Rattle.lk_sound.proofs.BlockTypes.{IsTyped, IsHeaded, sound_types}
use Rattle.lk_sound.proofs.Counts.{sound_counts}
use Rattle.lk_sound.proofs.Ctors.{sound_shape_at}
use Rattle.lk_sound.proofs.BuiltRecursors.{recursors_by_fine}
use Rattle.lk_sound.proofs.BlockYes.{numbered_fine, shape_fine, sound_compare, sound_all_ctor_sorts, types_sorted, type_entries_stated, all_ctor_entries_stated, rec_entries_stated}
use Rattle.lk_rulebook.specs.Units.{Library, of_block, members_of}
use Rattle.lk_rulebook.specs.Scan.{AreNew}
use Rattle.lk_verdict.specs.GoodUnit.{IsClearLibrary}
use Rattle.lk_verdict.proofs.Clears.{all_clear}
use Rattle.lk_sound.proofs.Lawful.{AllMembers, IsFresh, lawful_half, block_fresh, aux_fresh, fresh_append}
use Rattle.lk_sound.proofs.Clears.{AllClear}
use Rattle.lk_sound.proofs.Instances.{AllHeld, ParamsHeld}
use Rattle.lk_sound.proofs.Enlarges.{Ground, Enlarging, sound_enlarge}
use Rattle.lk_sound.proofs.RestoredTrees.{reading_keeps}
use Rattle.lk_sound.proofs.Overs.{larger_first, below_count, SortsAgree, sound_aux_sorts, larger_over, larger_count}

-- P0 .. as the checks of the types found them
locals_clear : (j : ℕ) (ps : List Tree) → AreNumbered j ps → AllClear ps
locals_clear j [] n = tt
locals_clear j (p ∷ ps) n = (rw n.0.1 tt, locals_clear (suc j) ps n.1)

params_held : (w : Place) (b : Block) (v : TypeParts) → IsTyped w b v → ParamsHeld (setting_of b v.params)
params_held w b v h = record {
  fine = numbered_fine 0 v.params h.numbered;
  only = h.only;
  clear = locals_clear 0 v.params h.numbered;
  below = λ k T m. let q : k < 0 + length v.params = below_count 0 v.params k T h.numbered m in omega (arith, q);
}

all_held : (s : Setting) (ps : List Tree) → AllWellFormed ps → AllClear ps → ((k : ℕ) (T : Tree) → AnyLocal k T ps → IsAmong (local k T) s.params) → AllHeld 0 s ps
all_held s [] f c o = tt
all_held s (p ∷ ps) f c o = (record { fine = f.0; only = λ k T m. o k T (inl m); clear = c.0 }, all_held s ps f.1 c.1 (λ k T m. o k T (inr m)))

ground : (before w : Place) (b : Block) (v : TypeParts) → WellStated w → IsClear w → IsTyped before b v → Ground w (setting_of b v.params)
ground before w b v ok cl h =
    let p : ParamsHeld (setting_of b v.params) = params_held before b v h in record {
      stated = ok;
      clear = cl;
      params = p;
      numbered = h.numbered;
      held = all_held (setting_of b v.params) v.params p.fine p.clear p.only;
    }

bare_stated : (ts : List BlockType) → TypesStated ts → MembersStated (bare_entries ts)
bare_stated [] st = tt
bare_stated (t ∷ ts) st = ((st.0.0, ((st.0.0, tt), ((st.0.0, tt), tt))), bare_stated ts st.1)

all_stated : (ts us : List BlockType) → TypesStated ts → TypesStated us → TypesStated (ts ++ us)
all_stated [] us a b = b
all_stated (t ∷ ts) us a b = (a.0, all_stated ts us a.1 b)

-- the larger block's types, as the walk of constructors wants them
larger_headed : (before w : Place) (b : Block) (v : TypeParts) (lg : Larger) → IsTyped before b v → Ground w (setting_of b v.params) → Enlarging w (setting_of b v.params) b lg → SortsAgree v.sort lg.auxs →
    IsHeaded before (larger_block lg) (record v { indices = v.indices ++ aux_indices lg.auxs })
larger_headed before w b v lg t g e so = record {
  count = larger_count w (setting_of b v.params) _ lg.auxs b.types lg.own lg.aux e.stands_for_it.own e.stands_for_it.aux t.count;
  params = rw t.count t.params;
  first = larger_first before (setting_of b v.params) _ b.types lg.own lg.aux v.params e.stands_for_it.own t.first;
  types = larger_over before w (setting_of b v.params) b lg v.sort v.indices g.params g.numbered e.stands_for_it e.auxs so t.types;
}

-- each place at which a block is checked is sound
pub record SoundHalves (places : Members → Place) (b : Block) (stated : List BlockRecursor) : Type 0 where
  pub start : IsSoundPlace (places [])
  pub types : IsSoundPlace (places (partial_types b))
  pub middle : (w : Place) (s : Setting) (lg : Larger) → IsEnlarged w s b lg → MembersStated (middle_half b lg) → IsSoundPlace (places (middle_half b lg))
  pub last : (w : Place) (s : Setting) (lg : Larger) → IsEnlarged w s b lg → MembersStated (last_half b stated lg) → IsSoundPlace (places (last_half b stated lg))

sound_nested_shape : (places : Members → Place) (fuel : ℕ) (b : Block) (stated : List BlockRecursor) (v : TypeParts) (lg : Larger) → BlockStated b stated → SoundHalves places b stated →
    CountsAgree b → IsTyped (places []) b v → AllCtorsSorted (places (partial_types b)) b.types → Ground (places (partial_types b)) (setting_of b v.params) → Enlarging (places (partial_types b)) (setting_of b v.params) b lg → SortsAgree v.sort lg.auxs →
    IsSoundTask places (partial_types b) (nested_shape fuel b stated v lg) (λ s h. NestedDerived places b stated s)
sound_nested_shape places fuel b stated v lg st ok counts t sorted g e so =
    let s : Setting = setting_of b v.params in
    let before : Place = places [] in
    let middle : Members = middle_half b lg in
    let last : Members = last_half b stated lg in
    let middle_ok : MembersStated middle = stated_append (partial_types b) (bare_entries lg.aux) (type_entries_stated b b.types st.types st.types) (bare_stated lg.aux e.aux) in
    let last_ok : MembersStated last = stated_append middle (partial_members b stated) middle_ok (stated_append (all_ctor_entries b b.types) (rec_entries stated) (all_ctor_entries_stated b b.types st.types) (rec_entries_stated stated st.recs)) in
    let parts : TypeParts = record v { indices = v.indices ++ aux_indices lg.auxs } in
    sound_then places middle (here (shape_steps fuel (larger_block lg) parts)) _ (λ shape h. (IsBlock before (places middle) (larger_block lg) shape × (shape.params ≡ v.params)) × (h ≡ middle)) (λ x h. NestedDerived places b stated x)
    (sound_here places middle (shape_steps fuel (larger_block lg) parts) (λ shape. IsBlock before (places middle) (larger_block lg) shape × (shape.params ≡ v.params)) (λ shape h. (IsBlock before (places middle) (larger_block lg) shape × (shape.params ≡ v.params)) × (h ≡ middle)) (ok.middle (places (partial_types b)) s lg e.stands_for_it middle_ok) (λ x y. (y, refl))
    (sound_shape_at before (places middle) fuel (larger_block lg) parts (larger_headed before (places (partial_types b)) b v lg t g e so) (all_stated lg.own lg.aux e.own e.aux)))
    (λ shape h block. rw block.1 (
    sound_then places last (here (compare_steps (recursors_by (restoring_of b s lg) shape) stated)) _ (λ y h. AreRecs (places last) (recursors_by (restoring_of b s lg) shape) stated) (λ x h. NestedDerived places b stated x)
    (sound_here places last (compare_steps (recursors_by (restoring_of b s lg) shape) stated) (λ y. AreRecs (places last) (recursors_by (restoring_of b s lg) shape) stated) (λ y h. AreRecs (places last) (recursors_by (restoring_of b s lg) shape) stated) (ok.last (places (partial_types b)) s lg e.stands_for_it last_ok) (λ y x. x)
    (sound_compare (places last) (recursors_by (restoring_of b s lg) shape) stated
    (recursors_by_fine (restoring_of b s lg) shape (reading_keeps (places (partial_types b)) s (first_name b.types) lg.auxs e.auxs) (shape_fine before (places middle) (larger_block lg) shape block.0.0)) st.recs))
    (λ y h recs. record {
      counts = counts;
      types_sorted = types_sorted before (frame_of b v.params v.sort) b.types v.indices t.types;
      ctors_sorted = sorted;
      larger = lg;
      enlarged = subst (λ ps. IsEnlarged (places (partial_types b)) (setting_of b ps) b lg) (sym block.0.1) e.stands_for_it;
      block = block.0.0;
      recs = subst (λ ps. AreRecs (places last) (recursors_by (restoring_of b (setting_of b ps) lg) shape) stated) (sym block.0.1) recs;
    })))

pub sound_whole : (places : Members → Place) (fuel : ℕ) (b : Block) (stated : List BlockRecursor) → BlockStated b stated → ClearTypes b.types → SoundHalves places b stated → IsClear (places (partial_types b)) →
    IsSoundTask places [] (whole_task fuel b stated) (λ s h. NestedDerived places b stated s)
sound_whole places fuel b stated st clear ok cl =
    let before : Place = places [] in
    let among : Place = places (partial_types b) in
    sound_then places [] (here (counts_steps b)) _ (λ y h. CountsAgree b × (h ≡ [])) (λ s h. NestedDerived places b stated s)
    (sound_here places [] (counts_steps b) (λ y. CountsAgree b) (λ y h. CountsAgree b × (h ≡ [])) ok.start (λ y c. (c, refl)) (sound_counts before b))
    (λ y h counts. rw counts.1 (
    sound_then places [] (here (types_steps (parameters_of b) b.types)) _ (λ v h. IsTyped before b v × (h ≡ [])) (λ s h. NestedDerived places b stated s)
    (sound_here places [] (types_steps (parameters_of b) b.types) (IsTyped before b) (λ v h. IsTyped before b v × (h ≡ [])) ok.start (λ v t. (t, refl)) (sound_types before b st.types))
    (λ v h t. rw t.1 (
    sound_then places (partial_types b) (here (all_ctor_sorts b.types)) _ (λ ls h. AllCtorsSorted among b.types × (h ≡ partial_types b)) (λ s h. NestedDerived places b stated s)
    (sound_here places (partial_types b) (all_ctor_sorts b.types) (λ ls. AllCtorsSorted among b.types) (λ ls h. AllCtorsSorted among b.types × (h ≡ partial_types b)) ok.types (λ ls t. (t, refl)) (sound_all_ctor_sorts among b.types st.types))
    (λ ls h sorted. rw sorted.1 (
    let g : Ground among (setting_of b v.params) = ground before among b v ok.types.stated cl t.0 in
    sound_then places (partial_types b) (here (enlarge (setting_of b v.params) b.types)) _ (λ lg h. Enlarging among (setting_of b v.params) b lg × (h ≡ partial_types b)) (λ s h. NestedDerived places b stated s)
    (sound_here places (partial_types b) (enlarge (setting_of b v.params) b.types) (Enlarging among (setting_of b v.params) b) (λ lg h. Enlarging among (setting_of b v.params) b lg × (h ≡ partial_types b)) ok.types (λ lg e. (e, refl)) (sound_enlarge among (setting_of b v.params) g b st.types clear))
    (λ lg h e. rw e.1 (
    sound_then places (partial_types b) (here (aux_sorts v.sort lg.auxs)) _ (λ z h. SortsAgree v.sort lg.auxs × (h ≡ partial_types b)) (λ s h. NestedDerived places b stated s)
    (sound_here places (partial_types b) (aux_sorts v.sort lg.auxs) (λ z. SortsAgree v.sort lg.auxs) (λ z h. SortsAgree v.sort lg.auxs × (h ≡ partial_types b)) ok.types (λ z q. (q, refl)) (sound_aux_sorts among v.sort lg.auxs))
    (λ z h so. rw so.1 (sound_nested_shape places fuel b stated v lg st ok counts.0 t.0 sorted.0 g e.0 so.0))))))))))

-- no name of the block is marked
Some_is : {A : Type 0} {a b : A} → Some a ≡ Some b → a ≡ b
Some_is e = cc

type_is : {b c : Block} {t u : BlockType} → a_type b t ≡ a_type c u → (b ≡ c) × (t ≡ u)
type_is e = (cc, cc)

given_clear : (b : Block) (ts : List BlockType) (c : Name) (e : Entry) (d : Block) (t : BlockType) → ClearTypes b.types → ClearTypes ts → given_by (type_entries b ts) c ≡ Some e → e.kind ≡ a_type d t → (Clear t.type × ClearCtors t.ctors) × ClearTypes d.types
given_clear b [] c e d t all cl g k = absurd cc
given_clear b (u ∷ ts) c e d t all cl g k = go (given_clear b ts c e d t all cl.1) (name_discrete u.name c) g
  where
    here_it : record { levels = u.levels; type = u.type; kind = a_type b u } ≡ e → (Clear t.type × ClearCtors t.ctors) × ClearTypes d.types
    here_it i =
        let q : a_type b u ≡ a_type d t = ap (λ x. x.kind) i ∙ k in
        let p : (b ≡ d) × (u ≡ t) = type_is q in
        (rw p.1 at cl.0, subst (λ x. ClearTypes x.types) p.0 all)

    go : (given_by (type_entries b ts) c ≡ Some e → e.kind ≡ a_type d t → (Clear t.type × ClearCtors t.ctors) × ClearTypes d.types) → (x : Dec (u.name ≡ c)) →
        elim x as (λ y. Option Entry) [ yes z ↦ Some (record { levels = u.levels; type = u.type; kind = a_type b u }) | no f ↦ given_by (type_entries b ts) c ] ≡ Some e → (Clear t.type × ClearCtors t.ctors) × ClearTypes d.types
    go f (yes z) h = here_it (Some_is h)
    go f (no z) h = f h k

half_clear : (us : List LibraryUnit) (n : ℕ) (b : Block) → IsClear (place_of us n []) → ClearTypes b.types → IsClear (place_of us n (partial_types b))
half_clear us n b cl all c e d t = go (given_by (partial_types b) c) refl
  where
    go : (g : Option Entry) → given_by (partial_types b) c ≡ g → option_and_then flawless (first_of_two (at_partial n g) (first_giving 0 (take n us) c)) ≡ Some e → e.kind ≡ a_type d t → (Clear t.type × ClearCtors t.ctors) × ClearTypes d.types
    go (Some x) i m k = let q : x ≡ e = Some_is m in given_clear b b.types c e d t all all (i ∙ ap Some q) k
    go None i m k = cl c e d t m k

-- where names are new
sound_halves : (us : Library) (n : ℕ) (b : Block) (stated : List BlockRecursor) → IsSoundPlace (place_of us n []) → IsClearLibrary us → AreNew us n (members_of (of_block b stated)) → BlockStated b stated → SoundHalves (place_of us n) b stated
sound_halves us n b stated ok cl new st =
    let fresh : AllMembers (IsFresh us n) (partial_types b) × AllMembers (IsFresh us n) (partial_members b stated) = block_fresh us n b stated new in
    let at : (h : Members) → MembersStated h → AllMembers (IsFresh us n) h → IsSoundPlace (place_of us n h) = λ h s f. record { stated = well_stated_half us n h ok.stated s; lawful = lawful_half us n h f ok.lawful } in
    let middle : (w : Place) (s : Setting) (lg : Larger) → IsEnlarged w s b lg → AllMembers (IsFresh us n) (middle_half b lg) = λ w s lg e.
    fresh_append us n (partial_types b) (bare_entries lg.aux) fresh.0 (aux_fresh us n cl w s (all_stand (first_name b.types) 0 lg.auxs) lg.auxs 0 lg.aux e.aux) in
    record {
      start = ok;
      types = at (partial_types b) (type_entries_stated b b.types st.types st.types) fresh.0;
      middle = λ w s lg e ms. at (middle_half b lg) ms (middle w s lg e);
      last = λ w s lg e ms. at (last_half b stated lg) ms (fresh_append us n (middle_half b lg) (partial_members b stated) (middle w s lg e) fresh.1);
    }

pub yes_whole : (table : Table) → IsSoundTable table → (us : Library) (n : ℕ) (b : Block) (stated : List BlockRecursor) (budget : ℕ) → IsSoundPlace (place_of us n []) → IsClearLibrary us → AreNew us n (members_of (of_block b stated)) → BlockStated b stated → ClearTypes b.types →
    IfAnswered (run_task (place_of us n) (λ w. plain_answer table w) [] budget (whole_task (suc budget) b stated)) (λ v c t. NestedDerived (place_of us n) b stated v.0)
yes_whole table sound us n b stated budget ok cl new st clear =
    sound_run_task (place_of us n) (λ w. plain_answer table w) (λ s h. NestedDerived (place_of us n) b stated s) (λ w wok q left a. ans_sound table sound w wok q left a) [] budget (whole_task (suc budget) b stated)
    (sound_whole (place_of us n) (suc budget) b stated st clear (sound_halves us n b stated ok cl new st) (half_clear us n b (all_clear us n cl) clear))
