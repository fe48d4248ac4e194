-- Stages from the larger block on, told of what is equal, and of what a store stands for once it has grown.
use Rattle.std.proofs.Common.{◌≡◌, ℕ, List, [], ◌∷◌, map, Result, refl, ap, subst, ◌∙◌}
use Rattle.std.proofs.lemmas.List.Elements.{All-weaker}
use Rattle.lk_tree.specs.Tree.{Tree, param, const}
use Rattle.lk_tree.specs.Spine.{apply}
use Rattle.lk_rulebook.specs.Place.{Block, BlockRecursor}
use Rattle.lk_questions.specs.Program.{Table}
use Rattle.lk_ask.specs.declared.stop.Stop.{Stop}
use Rattle.lk_store.specs.Contents.{Contents, name_at, Extends}
use Rattle.lk_env.proofs.Stays.{types_stay}
use Rattle.lk_inductive.specs.Block.{AreLocals}
use Rattle.lk_inductive.specs.BlockSteps.{TypeParts as PlainParts}
use Rattle.lk_inductive.specs.Enlarged.{Setting, Larger as PlainLarger}
use Rattle.lk_declaration.specs.Checked.{IsCheckOutcome}
use Rattle.lk_auxiliary.proofs.Others.{auxs_stay}
use Rattle.lk_enlarge.specs.declared.larger.Larger.{Larger}
use Rattle.lk_enlarge.specs.Larger.{larger_at, IsLargerIn}
use Rattle.lk_restore.specs.declared.originals.Original.{Original}
use Rattle.lk_restore.specs.declared.originals.Original.TheVariants.{Applied, Renamed}
use Rattle.lk_restore.specs.Originals.{IsStanding, AreStanding, AreReadOver}
use Rattle.lk_block.specs.Stages.{Places, shape_stage, auxiliary_stage, larger_stage}
use Rattle.leancheck.proofs.Staging.{moved_five}

-- equal stages
pub shape_moved : {t t' : Table} {ps ps' : Places} (fuel : ℕ) {b b' : Block} {rs rs' : List BlockRecursor} {q q' : PlainParts} {lg lg' : PlainLarger} {n n' : ℕ} (r : Result (Unit {0}) Stop)
    → t' ≡ t → ps' ≡ ps → b' ≡ b → rs' ≡ rs → q' ≡ q → lg' ≡ lg → n' ≡ n
    → IsCheckOutcome (shape_stage t' ps' fuel b' rs' q' lg' n') r → IsCheckOutcome (shape_stage t ps fuel b rs q lg n) r
shape_moved {t} {t'} {ps} {ps'} fuel {b} {b'} {rs} {rs'} {q} {q'} {lg} {lg'} {n} {n'} r et eps eb ers eq elg en h =
    moved_five (λ t ps b rs q. IsCheckOutcome (shape_stage t ps fuel b rs q lg n) r) et eps eb ers eq
    (subst (λ x. IsCheckOutcome (shape_stage t' ps' fuel b' rs' q' x n) r) elg (subst (λ m. IsCheckOutcome (shape_stage t' ps' fuel b' rs' q' lg' m) r) en h))

pub auxiliary_moved : {t t' : Table} {ps ps' : Places} (fuel : ℕ) {b b' : Block} {rs rs' : List BlockRecursor} {q q' : PlainParts} {lg lg' : PlainLarger} {n n' : ℕ} (r : Result (Unit {0}) Stop)
    → t' ≡ t → ps' ≡ ps → b' ≡ b → rs' ≡ rs → q' ≡ q → lg' ≡ lg → n' ≡ n
    → IsCheckOutcome (auxiliary_stage t' ps' fuel b' rs' q' lg' n') r → IsCheckOutcome (auxiliary_stage t ps fuel b rs q lg n) r
auxiliary_moved {t} {t'} {ps} {ps'} fuel {b} {b'} {rs} {rs'} {q} {q'} {lg} {lg'} {n} {n'} r et eps eb ers eq elg en h =
    moved_five (λ t ps b rs q. IsCheckOutcome (auxiliary_stage t ps fuel b rs q lg n) r) et eps eb ers eq
    (subst (λ x. IsCheckOutcome (auxiliary_stage t' ps' fuel b' rs' q' x n) r) elg (subst (λ m. IsCheckOutcome (auxiliary_stage t' ps' fuel b' rs' q' lg' m) r) en h))

pub larger_moved : {t t' : Table} {ps ps' : Places} (fuel : ℕ) {b b' : Block} {rs rs' : List BlockRecursor} {q q' : PlainParts} {n n' : ℕ} (r : Result (Unit {0}) Stop)
    → t' ≡ t → ps' ≡ ps → b' ≡ b → rs' ≡ rs → q' ≡ q → n' ≡ n
    → IsCheckOutcome (larger_stage t' ps' fuel b' rs' q' n') r → IsCheckOutcome (larger_stage t ps fuel b rs q n) r
larger_moved {t} {t'} {ps} {ps'} fuel {b} {b'} {rs} {rs'} {q} {q'} {n} {n'} r et eps eb ers eq en h =
    moved_five (λ t ps b rs q. IsCheckOutcome (larger_stage t ps fuel b rs q n) r) et eps eb ers eq
    (subst (λ m. IsCheckOutcome (larger_stage t' ps' fuel b' rs' q' m) r) en h)

-- the larger block stays
module _ (c d : Contents) (x : Extends c d) where
  pub larger_stays : (l : Larger) → IsLargerIn c l → larger_at d l ≡ larger_at c l
  larger_stays l h = rw (types_stay c d x l.own.items h.own_in, types_stay c d x l.auxiliary.items h.auxiliary_in, auxs_stay c d x l.stand.items h.stand_in) refl

-- where something stands for something, it is at the levels and the parameters of a setting, whatever its names
standing_aside : (c : Contents) (s t : Setting) → s.levels ≡ t.levels → s.params ≡ t.params → (o : Original) → IsStanding c s o → IsStanding c t o
standing_aside c s t levels params (Applied n J from to) h =
    (h.0 ∙ ap (λ ls. apply (const (name_at c n) (map param ls)) s.params) levels ∙ ap (λ ps. apply (const (name_at c n) (map param t.levels)) ps) params, h.1)
standing_aside c s t levels params (Renamed n R) h = tt

pub stand_aside : (c : Contents) (s t : Setting) → s.levels ≡ t.levels → s.params ≡ t.params → (os : List Original) → AreStanding c s os → AreStanding c t os
stand_aside c s t levels params os h = All-weaker (IsStanding c s) (IsStanding c t) (standing_aside c s t levels params) os h

pub read_over : (os : List Original) (ps : List Tree) → AreLocals ps → AreReadOver os ps
read_over [] ps h = tt
read_over (o ∷ os) ps h = h
