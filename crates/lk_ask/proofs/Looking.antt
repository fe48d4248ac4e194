-- Look-ups that were made.
use Rattle.std.proofs.Common.{◌≡◌, ℕ, Option, Some, None, refl, ap, sym, ◌∙◌}
use Rattle.std.specs.Prelude.{IsSome, IfErr, Result, Ok, Err}
use Rattle.lk_tree.specs.Tree.{Name}
use Rattle.lk_tree.specs.declared.rule.Rule.{Rule}
use Rattle.lk_rulebook.specs.Place.{Place, Entry as PlainEntry}
use Rattle.lk_questions.specs.Answer.{later}
use Rattle.lk_questions.specs.Program.{Program, look}
use Rattle.lk_questions.specs.Erased.{Value, refuses, looked, erased}
use Rattle.lk_questions.specs.Settled.{fails, settle_look, settle}
use Rattle.lk_store.specs.Store.{contents_of}
use Rattle.lk_env.specs.declared.entry.Entry.{Entry}
use Rattle.lk_env.specs.Entries.{IsMeaning, IsAnswer}
use Rattle.lk_env.specs.StoredLibrary.{StoredLibrary}
use Rattle.lk_ask.specs.Constants.{IsFound, IsRefusedBy}

-- what the library answers is what was found
pub found_is : (l : StoredLibrary) (w : Place) (x : Name) (before last : Option ℕ) (e : Entry) → IsMeaning (contents_of l.tables) l.units w x e → last ≡ later before (Some e.origin) → IsFound l w x before e last
found_is l w x before last e m looked_at = go (w.means x) refl m.given
  where
    go : (o : Option PlainEntry) → w.means x ≡ o → IsSome o → IsFound l w x before e last
    go None h s = absurd (cc)
    go (Some g) h s = record { entry = g; is = sym m.means ∙ h; means = h; looked = looked_at ∙ ap (λ u. later before (Some u)) (sym m.origin) }

module _ {A : Type 0} (w : Place) (f : A → Value) (x : Name) where
  looked_found : (r : Rule) (before : Option ℕ) (k : PlainEntry → Program A) (o : Option PlainEntry) (g : PlainEntry) → o ≡ Some g
      → looked r before o (w.origin x) (w.flaw x) (λ u e. erased w f u (k e)) ≡ erased w f (later before (Some (w.origin x))) (k g)
  looked_found r before k o g h = ap (λ y. looked r before y (w.origin x) (w.flaw x) (λ u e. erased w f u (k e))) h

  -- the program goes on with the entry that was found
  pub found_goes : (r : Rule) (k : PlainEntry → Program A) (l : StoredLibrary) (before last : Option ℕ) (e : Entry) → (h : IsFound l w x before e last)
      → erased w f before (look r x k) ≡ erased w f last (k h.entry)
  found_goes r k l before last e h = looked_found r before k (w.means x) h.entry h.means ∙ ap (λ u. erased w f u (k h.entry)) (sym h.looked)

  -- a look-up that finds nothing
  pub refused_goes : (missing : Rule) (k : PlainEntry → Program A) (before : Option ℕ) (rule : Rule) → IsRefusedBy missing w x rule → erased w f before (look missing x k) ≡ refuses rule
  refused_goes missing k before rule h =
      ap (λ o. looked missing before o (w.origin x) (w.flaw x) (λ u e. erased w f u (k e))) h.means ∙ ap refuses (sym h.rule)

-- the same of a program that asks nothing
module _ {A : Type 0} (w : Place) (x : Name) where
  pub found_settles : (r : Rule) (k : PlainEntry → Program A) (l : StoredLibrary) (before last : Option ℕ) (e : Entry) → (h : IsFound l w x before e last)
      → settle w before (look r x k) ≡ settle w last (k h.entry)
  found_settles r k l before last e h =
      ap (λ o. settle_look r before o (w.origin x) (w.flaw x) (λ u g. settle w u (k g))) h.means ∙ ap (λ u. settle w u (k h.entry)) (sym h.looked)

  pub refused_settles : (missing : Rule) (k : PlainEntry → Program A) (before : Option ℕ) (rule : Rule) → IsRefusedBy missing w x rule → settle w before (look missing x k) ≡ fails rule
  refused_settles missing k before rule h =
      ap (λ o. settle_look missing before o (w.origin x) (w.flaw x) (λ u g. settle w u (k g))) h.means ∙ ap fails (sym h.rule)

-- a name that is refused at a place means nothing there
pub refused_means : (l : StoredLibrary) (w : Place) (x : Name) (o : Result Entry Rule) → IsAnswer (contents_of l.tables) l.units w x o → IfErr o (λ r. w.means x ≡ None)
refused_means l w x (Ok e) h = tt
refused_means l w x (Err r) h = h.means
