-- A spelled term is made: own nodes are made in turn.
use Rattle.std.proofs.Common.{◌≡◌, ℕ, ◌+◌, ◌<◌, List, [], ◌∷◌, length, sym, ap, subst, ◌∙◌, inl, inr, ◌⊎◌, below_more}
use Rattle.lk_tree.specs.Tree.{zero_level, wide}
use Rattle.lk_store.proofs.Columns.{length-push}
use Rattle.lk_store.specs.Contents.{Contents, Extends, name_of, level_of, list_of, tree_of, IsTree, tree_at}
use Rattle.lk_store.specs.declared.sizes.Sizes.{Sizes}
use Rattle.lk_spell.proofs.Growing.{extends_grown, stands, sizes_grown, same_after, same_before}
use Rattle.lk_spell.proofs.Inside.{AreIn, own_in}
use Rattle.lk_spell.proofs.Moving.{moves, same}
use Rattle.lk_spell.specs.Moved.{AreDone, moved}
use Rattle.lk_spell.specs.Numbers.{IsDone, Translates, Adds, number_or}
use Rattle.lk_spell.specs.Parts.{IsSame, IsPartIn, number_of}
use Rattle.lk_spell.specs.Sizes.{AreSizes, next_part, Numbered}
use Rattle.lk_spell.specs.Spelled.{grown, grown_by, IsOwnIn, AreOwn, IsSpelled, spelled_tree}
use Rattle.lk_spell.specs.Standing.{own_parts, IsNumberOf}
use Rattle.lk_spell.specs.declared.numbers.Numbers.{Numbers}
use Rattle.lk_spell.specs.declared.part.Part.{Part}
use Rattle.lk_spell.specs.declared.part.Part.TheVariants as part
use Rattle.lk_spell.specs.declared.spelled.OwnNode.{OwnNode}
use Rattle.lk_spell.specs.declared.spelled.OwnNode.TheVariants as own
use Rattle.lk_spell.specs.declared.spelled.Spelled.{Spelled}

-- a number below one more is below, or the last one
last : {X : Type 0} (xs : List X) (n size : ℕ) (as_part : ℕ → Part) → size ≡ length xs → n < length xs + 1 → (n < length xs) ⊎ (as_part n ≡ as_part size)
last xs n size as_part is lt =
    below_more (λ k. (k < length xs) ⊎ (as_part k ≡ as_part size)) (length xs) (λ k l. inl l) (inr (ap as_part (sym is))) n lt

part_new : (c : Contents) (s : Sizes) (x : OwnNode) (p : Part) → AreSizes c s → IsPartIn (grown c x) p → IsPartIn c p ⊎ (p ≡ next_part s x)
part_new c s (own.Name x) (part.Name n) h is = last c.names n s.names (part.Name) h.names (rw (length-push [] c.names (name_of c x)) at is)
part_new c s (own.Name x) (part.Text n) h is = inl is
part_new c s (own.Name x) (part.Level n) h is = inl is
part_new c s (own.Name x) (part.List n) h is = inl is
part_new c s (own.Name x) (part.Term n) h is = inl is
part_new c s (own.Text x) (part.Name n) h is = inl is
part_new c s (own.Text x) (part.Text n) h is = last c.texts n s.texts (part.Text) h.texts (rw (length-push [] c.texts x) at is)
part_new c s (own.Text x) (part.Level n) h is = inl is
part_new c s (own.Text x) (part.List n) h is = inl is
part_new c s (own.Text x) (part.Term n) h is = inl is
part_new c s (own.Level x) (part.Name n) h is = inl is
part_new c s (own.Level x) (part.Text n) h is = inl is
part_new c s (own.Level x) (part.Level n) h is = last c.levels n s.levels (part.Level) h.levels (rw (length-push zero_level c.levels (level_of c x)) at is)
part_new c s (own.Level x) (part.List n) h is = inl is
part_new c s (own.Level x) (part.Term n) h is = inl is
part_new c s (own.List x) (part.Name n) h is = inl is
part_new c s (own.List x) (part.Text n) h is = inl is
part_new c s (own.List x) (part.Level n) h is = inl is
part_new c s (own.List x) (part.List n) h is = last c.lists n s.lists (part.List) h.lists (rw (length-push [] c.lists (list_of c x)) at is)
part_new c s (own.List x) (part.Term n) h is = inl is
part_new c s (own.Term x) (part.Name n) h is = inl is
part_new c s (own.Term x) (part.Text n) h is = inl is
part_new c s (own.Term x) (part.Level n) h is = inl is
part_new c s (own.Term x) (part.List n) h is = inl is
part_new c s (own.Term x) (part.Term n) h is = last c.trees n s.terms (part.Term) h.terms (rw (length-push wide c.trees (tree_of c x)) at is)

-- two numbers of one own node stand for the same
both_same : (c e d : Contents) (s : Sizes) (x : OwnNode) (n : ℕ) → IsNumberOf c e x (number_of (next_part s x)) → IsNumberOf c d x n → IsSame e d (next_part s x) n
both_same c e d s (own.Name x) n h i = (h.known, record { known = i.known; is = i.is ∙ sym h.is })
both_same c e d s (own.Text x) n h i = (h.known, record { known = i.known; is = i.is ∙ sym h.is })
both_same c e d s (own.Level x) n h i = (h.known, record { known = i.known; is = i.is ∙ sym h.is })
both_same c e d s (own.List x) n h i = (h.known, record { known = i.known; is = i.is ∙ sym h.is })
both_same c e d s (own.Term x) n h i = (h.known, record { known = i.known; is = i.is ∙ sym h.is })

all_done : (c : Contents) (m : Numbers) → ((p : Part) → IsPartIn c p → IsDone m p) → (ps : List Part) → AreIn c ps → AreDone m ps
all_done c m done [] h = tt
all_done c m done (p ∷ ps) h = (done p h.0, all_done c m done ps h.1)

-- Own nodes are made in d, and the rest are not yet: what those that are made stand for over b is `now`.
pub record IsMaking (b d : Contents) (all rest : List OwnNode) (sizes : Sizes) (numbers : Numbers) : Type 0 where
  pub now : Contents
  pub own : AreOwn now rest
  pub whole : grown_by now rest ≡ grown_by b all
  pub sized : AreSizes now sizes
  pub translates : Translates now d numbers
  pub done : (p : Part) → IsPartIn now p → IsDone numbers p

module _ (b d : Contents) (all rest : List OwnNode) (sizes : Sizes) (m : Numbers) (x : OwnNode) (more : List OwnNode)
    (is : rest ≡ x ∷ more) (h : IsMaking b d all rest sizes m) where
  first : AreOwn h.now (x ∷ more)
  first = subst (AreOwn h.now) is h.own

  pub makes_done : AreDone m (own_parts x)
  makes_done = all_done h.now m h.done (own_parts x) (own_in h.now x first.0)

  pub makes_known : IsOwnIn d (moved m x)
  makes_known = (moves h.now d m h.translates x makes_done).0

  module _ (d' : Contents) (sizes' : Sizes) (m' : Numbers) (p : Part) (n : ℕ) (grows : Extends d d')
      (made : IsNumberOf d d' (moved m x) n) (numbered : Numbered sizes sizes' x p) (adds : Adds m m' p n) where
    this : IsSame (grown h.now x) d' p n
    this = rw numbered.part (both_same h.now (grown h.now x) d' sizes x n (stands h.now sizes x h.sized) ((moves h.now d m h.translates x makes_done).1 d' n made))

    translates : Translates (grown h.now x) d' m'
    translates q r found = elim (adds.came q r found) [
      | inl was ↦ same_after (grown h.now x) d d' q r grows (same_before h.now (grown h.now x) d q r (extends_grown h.now x) (h.translates q r was))
      | inr new ↦ rw (new.0, new.1) this
    ]

    done : (q : Part) → IsPartIn (grown h.now x) q → IsDone m' q
    done q there = elim (part_new h.now sizes x q h.sized there) [
      | inl was ↦ adds.stays q (h.done q was)
      | inr new ↦ rw (new ∙ sym numbered.part) adds.there
    ]

    pub makes : IsMaking b d' all more sizes' m'
    makes = record {
      now = grown h.now x;
      own = first.1;
      whole = subst (λ xs. grown_by h.now xs ≡ grown_by b all) is h.whole;
      sized = rw numbered.sizes (sizes_grown h.now sizes x h.sized);
      translates = translates;
      done = done;
    }

-- all are made
pub made_all : (b d : Contents) (s : Spelled) (sizes : Sizes) (m : Numbers) → IsMaking b d s.own.items [] sizes m → IsSpelled b s
    → IsDone m (part.Term s.root) × IsTree d (number_or m (part.Term s.root)) (spelled_tree b s)
made_all b d s sizes m h spelled =
    let root : s.root < length h.now.trees = subst (λ c. s.root < length c.trees) (sym h.whole) spelled.root in
    let done = h.done (part.Term s.root) root in
    (done, subst (λ c. IsTree d (number_or m (part.Term s.root)) (tree_at c s.root)) h.whole (same h.now d m h.translates (part.Term s.root) done).1)
