-- What was spelled is the term.
use Rattle.std.proofs.Common.{◌≡◌, ℕ, ◌<◌, [], length, sym, arith}
use Rattle.lk_store.specs.Contents.{Contents, Extends, tree_at}
use Rattle.lk_spell.proofs.Moving.{same}
use Rattle.lk_spell.specs.Numbers.{IsDone, number_or}
use Rattle.lk_spell.specs.Spelled.{grown_by, IsSpelled, spelled_tree}
use Rattle.lk_spell.specs.Spelling.{IsSpeller}
use Rattle.lk_spell.specs.declared.part.Part.TheVariants as part
use Rattle.lk_spell.specs.declared.speller.Speller.{Speller}
use Rattle.lk_spell.specs.declared.spelled.Spelled.{Spelled}

module _ (b c : Contents) (r : Spelled) (e : ℕ) where
  -- a term of the library
  module _ (own : r.own.items ≡ []) (root : r.root ≡ e) (known : e < length b.trees) where
    pub plain_spelled : IsSpelled b r
    plain_spelled = record { own = rw own tt; root = rw (own, root) known; few = rw own (omega arith) }

    pub plain_tree : Extends b c → spelled_tree b r ≡ tree_at c e
    plain_tree x = rw (own, root) (sym (x.trees.same e known))

  module _ (s : Speller) (h : IsSpeller b c s) (done : IsDone s.numbers (part.Term e)) (own : r.own.items ≡ s.own.items) (root : r.root ≡ number_or s.numbers (part.Term e)) where
    pub whole_spelled : IsSpelled b r
    whole_spelled = record {
      own = rw own h.own;
      root = rw (own, root) (same c (grown_by b s.own.items) s.numbers h.numbers (part.Term e) done).1.known;
      few = rw (own, ← h.counted) h.few;
    }

    pub whole_tree : spelled_tree b r ≡ tree_at c e
    whole_tree = rw (own, root) (same c (grown_by b s.own.items) s.numbers h.numbers (part.Term e) done).1.is
