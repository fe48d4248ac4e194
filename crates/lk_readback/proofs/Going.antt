-- Texts that go on as others do, one after another.
use Rattle.std.proofs.Common.{◌≡◌, Bool, true, false, List, [], ◌∷◌, length, Some, refl, sym}
use Rattle.std.proofs.Common.{subst, ◌∙◌}
use Rattle.std.specs.Prelude.{All, slice_get, if◌then◌else◌, reverse}
use Rattle.std.proofs.lemmas.List.{reverse-append}
use Rattle.std.proofs.lemmas.List.Elements.{All-head, All-tail, All-push}
use Rattle.lk_tree.specs.Tree.{zero_level}
use Rattle.lk_rulebook.specs.Place.{RecRule}
use Rattle.lk_book.specs.Course.{Course}
use Rattle.lk_trim.specs.Written.{Written, File}
use Rattle.lk_readback.specs.Stated.{IsRead}
use Rattle.lk_readback.proofs.Growing.{Grows, Fits, IsReadOn, Goes}
use Rattle.lk_readback.proofs.Fronts.{get_front, grows_refl, grows_trans, fits_front}

-- the anonymous name and level 0 stand before all others
pub record Begins (w : Written) : Type 0 where
  pub anonymous : slice_get w.names 0 ≡ Some []
  pub zero : slice_get w.levels 0 ≡ Some zero_level

pub read_begins : (f : File) (rules : List RecRule) (c : Course) → IsRead f rules c
    → Begins f.written
read_begins f rules c read = record { anonymous = read.anonymous; zero = read.zero }

pub begins_grows : (f g : File) → Grows f g → Begins f.written → Begins g.written
begins_grows f g a h = record {
  anonymous = get_front f.written.names g.written.names 0 [] a.names h.anonymous;
  zero = get_front f.written.levels g.written.levels 0 zero_level a.levels h.zero;
}

pub goes_refl : (f : File) → Goes f f
goes_refl f = record {
  grows = grows_refl f;
  on = λ rules c read fits. record {
    after = c;
    read = read;
    same_lines = refl;
    same_budgets = refl;
  };
}

-- what goes on, and is read on from there
pub goes_on : (f g h : File) → Goes f g → Grows g h
    → (Begins f.written → (rules : List RecRule) (c : Course) → IsRead g rules c
    → Fits (length c.state.lines) h → IsReadOn g h rules c)
    → Goes f h
goes_on f g h a b next = record {
  grows = grows_trans f g h a.grows b;
  on = λ rules c read fits.
      let first = a.on rules c read (fits_front (length c.state.lines) g h b fits) in
      let FitsWith : _ → Type 0 = λ ls. Fits (length ls) h in
      let second =
      next (read_begins f rules c read) rules first.after first.read
      (subst FitsWith (sym first.same_lines) fits) in
      record {
        after = second.after;
        read = second.read;
        same_lines = second.same_lines ∙ first.same_lines;
        same_budgets = second.same_budgets ∙ first.same_budgets;
      };
}

pub goes_trans : (f g h : File) → Goes f g → Goes g h → Goes f h
goes_trans f g h a b = goes_on f g h a b.grows (λ begins. b.on)

pub goes_if : (b : Bool) (f h : File) → Goes f h → Goes f (if b then f else h)
goes_if true f h a = goes_refl f
goes_if false f h a = a

pub grows_if : (b : Bool) (f h : File) → Grows f h → Grows f (if b then f else h)
grows_if true f h a = grows_refl f
grows_if false f h a = a

-- what holds of a file in which it holds already, and of the other one
pub either_file : (P : File → Type 0) (b : Bool) (f h : File) → (b ≡ true → P f) → P h
    → P (if b then f else h)
either_file P true f h one other = one refl
either_file P false f h one other = other

pub all_reverse : {X : Type 0} (P : X → Type 0) (xs : List X) → All P xs → All P (reverse xs)
all_reverse P [] h = h
all_reverse {X} P (x ∷ xs) h =
    let Q : List X → Type 0 = All P in
    subst Q (sym (reverse-append (x ∷ []) xs))
    (All-push P (reverse xs) x (all_reverse P xs (All-tail P x xs h)) (All-head P x xs h))
