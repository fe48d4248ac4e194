-- What is known of every larger block that the walk finds: it has the levels of the block.
use Rattle.std.proofs.Common.{◌≡◌, List, [], ◌∷◌, ◌++◌, Option, None, Some, Ok, Err, Result, refl, subst, IfOk}
use Rattle.std.specs.Prelude.{IfSome}
use Rattle.lk_tree.specs.Tree.{Name}
use Rattle.lk_tree.specs.declared.rule.Rule.{Rule}
use Rattle.lk_rulebook.specs.Place.{Place, Entry, BlockType}
use Rattle.lk_questions.specs.Program.{Program, done, refuse, ask, look}
use Rattle.lk_ask.specs.declared.stop.Stop.{Stop}
use Rattle.lk_inductive.specs.Block.{levels_of}
use Rattle.lk_inductive.specs.Nested.{Aux, Setting, Larger as PlainLarger, larger_block, own_ctors, own_types, aux_types, enlarge}
use Rattle.lk_inductive.proofs.Always.{Always, always_any, always_bind}
use Rattle.lk_nested.specs.Findings.{Finding, found, looked, finding, Finds}
use Rattle.lk_store.specs.Contents.{Contents}
use Rattle.lk_enlarge.specs.declared.larger.Larger.{Larger}
use Rattle.lk_enlarge.specs.Larger.{larger_at, larger_or}
use Rattle.lk_block.specs.Wholes.{block_of}

-- what a program that is run by look-ups alone finds is what it is done with
looked_meets : {A : Type 0} (P : A → Type 0) (o : Option Entry) (flaw : Option Rule) (r : Rule) (g : Entry → Finding A) (v : A)
    → ((e : Entry) → g e ≡ found v → P v) → looked o flaw r g ≡ found v → P v
looked_meets P None flaw r g v next h = absurd cc
looked_meets P (Some e) flaw r g v next h = next e h

pub found_meets : {A : Type 0} (w : Place) (p : Program A) (P : A → Type 0) (v : A) → Always p P → finding w p ≡ found v → P v
found_meets w (done u) P v always h = let same : u ≡ v = cc in subst P same always
found_meets w (refuse r) P v always h = absurd cc
found_meets w (ask q f) P v always h = absurd cc
found_meets w (look r c f) P v always h =
    looked_meets P (w.means c) (w.flaw c) r (λ e. finding w (f e)) v (λ e i. found_meets w (f e) P v (always e) i) h

-- the first type keeps its levels, whatever types come behind
abbrev HasLevels : List Name → List BlockType × List Aux → Type 0
HasLevels ns o = (ys : List BlockType) → levels_of (block_of (o.0 ++ ys)) ≡ ns

first_levels : (s : Setting) (t : BlockType) (ts : List BlockType) (as_ : List Aux) → Always (own_types s (t ∷ ts) as_) (HasLevels t.levels)
first_levels s t ts as_ =
    always_bind (own_ctors s t.ctors as_) _ (λ cs. Unit {0}) (HasLevels t.levels) (always_any (own_ctors s t.ctors as_))
    (λ cs x. always_bind (own_types s ts cs.1) (λ us. done (record t { ctors = cs.0 } ∷ us.0, us.1)) (λ us. Unit {0}) (HasLevels t.levels) (always_any (own_types s ts cs.1)) (λ us y. λ ys. refl))

abbrev KeepsLevels : List BlockType → PlainLarger → Type 0
KeepsLevels ts lg = levels_of (larger_block lg) ≡ levels_of (block_of ts)

abbrev with_types : List BlockType × List Aux → List BlockType × List Aux → Program PlainLarger
with_types own aux = done (record { own = own.0; aux = aux.0; auxs = aux.1 })

levels_kept : (s : Setting) (ts : List BlockType) → Always (enlarge s ts) (KeepsLevels ts)
levels_kept s [] = refl
levels_kept s (t ∷ ts) =
    always_bind (own_types s (t ∷ ts) []) _ (HasLevels t.levels) (KeepsLevels (t ∷ ts)) (first_levels s t ts [])
    (λ own h. always_bind (aux_types 1025 s 0 own.1) (with_types own) (λ aux. Unit {0}) (KeepsLevels (t ∷ ts)) (always_any (aux_types 1025 s 0 own.1)) (λ aux x. h aux.0))

pub larger_levels : (w : Place) (s : Setting) (ts : List BlockType) (c : Contents) (r : Result (Option Larger) Stop) → Finds (finding w (enlarge s ts)) (larger_or c ts) r
    → IfOk r (λ o. IfSome o (λ l. levels_of (larger_block (larger_at c l)) ≡ levels_of (block_of ts)))
larger_levels w s ts c (Ok (Some l)) h = found_meets w (enlarge s ts) (KeepsLevels ts) (larger_at c l) (levels_kept s ts) h
larger_levels w s ts c (Ok None) h = tt
larger_levels w s ts c (Err stop) h = tt

-- what the walk finds at equal settings, of equal types
pub finds_moved : (w : Place) (c : Contents) (r : Result (Option Larger) Stop) {s s' : Setting} {ts ts' : List BlockType} → s' ≡ s → ts' ≡ ts
    → Finds (finding w (enlarge s' ts')) (larger_or c ts') r → Finds (finding w (enlarge s ts)) (larger_or c ts) r
finds_moved w c r {s} {s'} {ts} {ts'} es ets h =
    subst (λ us. Finds (finding w (enlarge s us)) (larger_or c us) r) ets (subst (λ z. Finds (finding w (enlarge z ts')) (larger_or c ts') r) es h)
