-- A question is marked as derived.
use Rattle.std.proofs.Common.{◌≡◌, ℕ, Bool, true, false, length, refl, sym, subst, ◌∙◌}
use Rattle.std.specs.Prelude.{if◌then◌else◌}
use Rattle.lk_rulebook.specs.Place.{Place}
use Rattle.lk_written.specs.Written.{Keeps}
use Rattle.lk_store.specs.Contents.{Contents, tree_at}
use Rattle.lk_ask.specs.declared.query.Query.{Query}
use Rattle.lk_ask.specs.Questions.{query_of, IsKnownQuery}
use Rattle.lk_memo.specs.Keys.{key_of, same_key}
use Rattle.lk_memo.proofs.Keys.{key_exact, key_of-injective}
use Rattle.lk_derive.specs.declared.notes.Notes.{Notes}
use Rattle.lk_derive.specs.declared.derivation.Derivation.{Derivation}
use Rattle.lk_derive.specs.Notes.{stated_at, IsNotes}
use Rattle.lk_derive.specs.Derived.{IsDerived, IsDerivedIn, is_marked, Marks, IsDerivation, Derives}
use Rattle.lk_derive.proofs.Determined.{derived_stays}

module _ (w : Place) (c : Contents) (old new : Derivation) (now : Notes) (q : Query ℕ) (h : IsDerivation w c old) (notes : IsNotes w c now) (keeps : Keeps (stated_at c old.notes) (stated_at c now))
    (marks : Marks (record old { notes = now }) new q) (known : IsKnownQuery (length c.trees) q) (derived : IsDerived w (stated_at c now) (query_of (tree_at c) q)) where
  at_once : (p : Query ℕ) → (b : Bool) → same_key (key_of q) (key_of p) ≡ b → (if b then true else is_marked old p) ≡ true → IsDerivedIn w c (stated_at c now) p
  at_once p true e m =
      let same : q ≡ p = key_of-injective q p (key_exact (key_of q) (key_of p) e) in
      subst (IsDerivedIn w c (stated_at c now)) same (record { known = known; derived = derived })
  at_once p false e m =
      let was = h.marked p m in
      record { known = was.known; derived = derived_stays w (stated_at c old.notes) (stated_at c now) (query_of (tree_at c) p) keeps was.derived }

  pub marked : Derives w c c old new (query_of (tree_at c) q)
  marked = record {
    derivation = record {
      notes = subst (IsNotes w c) (sym marks.notes) notes;
      marked = λ p m. subst (λ (n : Notes). IsDerivedIn w c (stated_at c n) p) (sym marks.notes) (at_once p (same_key (key_of q) (key_of p)) refl (sym (marks.marked p) ∙ m));
    };
    keeps = subst (λ (n : Notes). Keeps (stated_at c old.notes) (stated_at c n)) (sym marks.notes) keeps;
    derived = subst (λ (n : Notes). IsDerived w (stated_at c n) (query_of (tree_at c) q)) (sym marks.notes) derived;
  }

-- nothing is written, and no question is marked
pub none_marked : (w : Place) (c : Contents) (d : Derivation) → IsNotes w c d.notes → ((q : Query ℕ) → is_marked d q ≡ false) → IsDerivation w c d
none_marked w c d notes none = record {
  notes = notes;
  marked = λ q m. let e : false ≡ true = sym (none q) ∙ m in absurd (cc);
}
