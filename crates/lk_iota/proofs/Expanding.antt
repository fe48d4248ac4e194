-- What a major premise in the type of a structure comes to, case by case.
use Rattle.std.proofs.Common.{◌≡◌, ℕ, Bool, true, false, ◌&&◌, List, [], ◌∷◌, length, Option, Some}
use Rattle.std.proofs.Common.{None, refl, ap, sym, subst, ◌∙◌, if◌then◌else◌, nat_eq}
use Rattle.lk_tree.specs.Tree.{Level, Tree}
use Rattle.lk_tree.specs.Level.{is_zero_level}
use Rattle.lk_tree.specs.Spine.{head, args}
use Rattle.lk_rulebook.specs.Place.{Place, Kind, Ctor, a_ctor}
use Rattle.lk_rulebook.specs.Structures.{is_structure_like}
use Rattle.lk_questions.specs.Query.{whnf, infer}
use Rattle.lk_questions.specs.Program.{Program, done, ask, asked, ◌>>=◌}
use Rattle.lk_questions.specs.Erased.{a_tree, asks, gives, with_tree, erased}
use Rattle.lk_questions.specs.Steps.{sort_of}
use Rattle.lk_questions.specs.Iota.{CtorApp, builds_structure, has_one_ctor, levels_at, expand_at}
use Rattle.lk_questions.specs.Iota.{expanded}
use Rattle.lk_store.specs.Contents.{Contents}
use Rattle.lk_mentions.specs.declared.structures.Structure.{Structure}
use Rattle.lk_mentions.specs.Structures.{is_alone, structure_in, IsStructureIf}
use Rattle.lk_iota.specs.declared.sheet.IotaTermSheet.TheVariants.{StructureType, StructureSort}
use Rattle.lk_iota.specs.Redexes.{PlainRedex, redex_at}
use Rattle.lk_iota.specs.OnlyRule.{only_at}
use Rattle.lk_iota.specs.Expansions.{at_ctor, by_only, by_structure, by_structure_if}
use Rattle.lk_iota.specs.Expansions.{structure_rest, levels_or_empty, by_sort_if, sort_rest}
use Rattle.lk_iota.specs.Iotas.{iota_term_rest}

alone : (cs : List Ctor) → is_alone cs ≡ has_one_ctor cs
alone [] = refl
alone (c ∷ []) = refl
alone (c ∷ d ∷ cs) = refl

-- it is that of a structure, or not
module _ (c : Contents) (k : CtorApp) (g : Kind) (kind : g ≡ a_ctor k.block k.ind k.ctor) where
  structure_is : structure_in g ≡ (if builds_structure k then Some (k.ind, k.ctor) else None)
  structure_is = ap structure_in kind
      ∙ ap (λ (b : Bool). if b && is_structure_like k.block k.ind k.ctor then Some (k.ind, k.ctor)
      else None) (alone k.ind.ctors)

  pub builds : (s : Structure) → IsStructureIf c (Some s) (structure_in g)
      → builds_structure k ≡ true
  builds s h = go (builds_structure k) (subst (IsStructureIf c (Some s)) structure_is h)
    where
      go : (b : Bool) → IsStructureIf c (Some s) (if b then Some (k.ind, k.ctor) else None)
          → b ≡ true
      go true i = refl
      go false i = absurd i

  pub builds_none : IsStructureIf c None (structure_in g) → builds_structure k ≡ false
  builds_none h = go (builds_structure k) (subst (IsStructureIf c None) structure_is h)
    where
      go : (b : Bool) → IsStructureIf c None (if b then Some (k.ind, k.ctor) else None)
          → b ≡ false
      go true i = absurd i
      go false i = refl

module _ (w : Place) (last : Option ℕ) (e : Tree) (p : PlainRedex) (m : Tree) (k : CtorApp)
    (at : redex_at w e ≡ Some p) (only : only_at w p.recursor.rules ≡ Some k) where
  -- the type of m is asked for
  abbrev structure_asked : Program (Option CtorApp)
  structure_asked = do
    T₀ ← asked (infer m)
    T ← asked (whnf T₀)
    expand_at k m T (levels_at k.ind.name (head T))

  abbrev when_structure : Bool → Program (Option CtorApp)
  when_structure b = if b then structure_asked else done None

  pub type_asked : builds_structure k ≡ true
      → asks last (infer m) (with_tree (iota_term_rest w None (StructureType e m)))
      ≡ erased w a_tree last (by_only e p m (Some k))
  type_asked is =
      ap (λ o. asks last (infer m) (with_tree (λ T₀. erased w a_tree None
      (ask (whnf T₀) (λ T. structure_rest w e o m T))))) at
      ∙ ap (λ o. asks last (infer m) (with_tree (λ T₀. erased w a_tree None
      (ask (whnf T₀) (λ T. by_structure_if e p m T o))))) only
      ∙ ap (λ b. erased w a_tree last (when_structure b >>= at_ctor e p)) (sym is)

  pub no_structure : builds_structure k ≡ false
      → gives last (a_tree e) ≡ erased w a_tree last (by_only e p m (Some k))
  no_structure is = ap (λ b. erased w a_tree last (when_structure b >>= at_ctor e p)) (sym is)

  module _ (T : Tree) (ls : List Level) (levels : levels_at k.ind.name (head T) ≡ Some ls) where
    -- the sort of that type is asked for
    abbrev level_asked : List Level → Program (Option CtorApp)
    level_asked ks = do
      l ← sort_of T
      if is_zero_level l then done None else done (Some (expanded k ks m (args T)))

    abbrev when_many : List Level → Bool → Program (Option CtorApp)
    when_many ks b = if b then level_asked ks else done None

    pub sort_asked : nat_eq (length (args T)) k.ctor.parameters ≡ true
        → asks last (infer T) (with_tree (iota_term_rest w None (StructureSort e m T)))
        ≡ erased w a_tree last (by_structure e p m k T)
    sort_asked is =
        ap (λ o. asks last (infer T) (with_tree (λ S₀. erased w a_tree None
        (ask (whnf S₀) (λ S. sort_rest w e o m T S))))) at
        ∙ ap (λ o. asks last (infer T) (with_tree (λ S₀. erased w a_tree None
        (ask (whnf S₀) (λ S. by_sort_if e p m T S o))))) only
        ∙ ap (λ o. erased w a_tree last (level_asked (levels_or_empty o) >>= at_ctor e p)) levels
        ∙ ap (λ n. erased w a_tree last (when_many ls n >>= at_ctor e p)) (sym is)
        ∙ ap (λ o. erased w a_tree last (expand_at k m T o >>= at_ctor e p)) (sym levels)
