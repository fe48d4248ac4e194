-- One list goes on as the other: what stands in the first, its place and its lines.
use Rattle.std.proofs.Common.{◌≡◌, ℕ, zero, suc, ◌==◌, ◌+◌, ◌≤◌, ◌^◌, Bool, true, false}
use Rattle.std.proofs.Common.{List, [], ◌∷◌, ◌++◌, length, Option, Some, None, refl, ap, sym, subst}
use Rattle.std.proofs.Common.{◌∙◌, append_assoc, arith, cond}
use Rattle.std.specs.Prelude.{All, option_map, slice_get}
use Rattle.std.specs.List.{onto_first, slice_split}
use Rattle.std.proofs.lemmas.List.{append-nil, length-append}
use Rattle.std.proofs.lemmas.List.Elements.{All-cons, All-head, All-tail, All-nil}
use Rattle.lk_book.specs.File.{lines_of}
use Rattle.lk_trim.specs.Written.{File, place, stands, number_at}
use Rattle.lk_trim.proofs.Places.{or_last, place_last}
use Rattle.lk_readback.specs.Within.{defined_count}
use Rattle.lk_readback.proofs.Growing.{IsFront, Grows, Fits}

pub front_refl : {X : Type 0} (xs : List X) → IsFront xs xs
front_refl xs = record { more = []; is = sym (append-nil xs) }

pub front_trans : {X : Type 0} (xs ys zs : List X) → IsFront xs ys → IsFront ys zs → IsFront xs zs
front_trans xs ys zs h k = record {
  more = h.more ++ k.more;
  is = k.is ∙ ap (λ l. l ++ k.more) h.is ∙ append_assoc xs h.more k.more;
}

pub front_append : {X : Type 0} (xs ys : List X) → IsFront xs (xs ++ ys)
front_append xs ys = record { more = ys; is = refl }

pub front_length : {X : Type 0} (xs ys : List X) → IsFront xs ys → length xs ≤ length ys
front_length xs ys h =
    let is : length ys ≡ length xs + length h.more = ap length h.is ∙ length-append xs h.more in
    omega arith

-- what stands at a place keeps it
pub get_append : {X : Type 0} (xs ys : List X) (n : ℕ) (x : X) → slice_get xs n ≡ Some x
    → slice_get (xs ++ ys) n ≡ Some x
get_append [] ys n x h = absurd cc
get_append (y ∷ xs) ys zero x h = h
get_append (y ∷ xs) ys (suc n) x h = get_append xs ys n x h

pub get_front : {X : Type 0} (xs ys : List X) (n : ℕ) (x : X) → IsFront xs ys
    → slice_get xs n ≡ Some x → slice_get ys n ≡ Some x
get_front xs ys n x f h = ap (λ l. slice_get l n) f.is ∙ get_append xs f.more n x h

pub some_length : {X : Type 0} (xs : List X) (x : X) → slice_get xs 0 ≡ Some x → 1 ≤ length xs
some_length [] x h = absurd cc
some_length (y ∷ xs) x h = omega arith

module _ {A : Type 0} (d : Discrete A) where
  -- the number of what stands in a list gives it
  pub place_get : (xs : List A) (x : A) → stands (place d xs x) ≡ true
      → slice_get xs (number_at (place d xs x)) ≡ Some x
  place_get [] x h = absurd cc
  place_get (y ∷ ys) x h = go (d y x) (place d ys x) h (place_get ys x)
    where
      later : (o : Option ℕ) → stands (option_map suc o) ≡ true
          → (stands o ≡ true → slice_get ys (number_at o) ≡ Some x)
          → slice_get (y ∷ ys) (number_at (option_map suc o)) ≡ Some x
      later None s rest = absurd cc
      later (Some i) s rest = rest refl

      go : (e : Dec (y ≡ x)) (o : Option ℕ)
          → stands (elim e as (λ y. Option ℕ) [ yes f ↦ Some 0 | no f ↦ option_map suc o ]) ≡ true
          → (stands o ≡ true → slice_get ys (number_at o) ≡ Some x)
          → slice_get (y ∷ ys)
          (number_at (elim e as (λ y. Option ℕ) [ yes f ↦ Some 0 | no f ↦ option_map suc o ]))
          ≡ Some x
      go (yes f) o s rest = ap Some f
      go (no f) o s rest = later o s rest

  -- what stands in a list keeps its place
  pub place_append : (xs ys : List A) (x : A) → stands (place d xs x) ≡ true
      → place d (xs ++ ys) x ≡ place d xs x
  place_append [] ys x h = absurd cc
  place_append (y ∷ xs) ys x h = go (d y x) (place d xs x) h (place_append xs ys x)
    where
      later : (o : Option ℕ) → stands (option_map suc o) ≡ true → stands o ≡ true
      later None s = s
      later (Some i) s = refl

      go : (e : Dec (y ≡ x)) (o : Option ℕ)
          → stands (elim e as (λ y. Option ℕ) [ yes f ↦ Some 0 | no f ↦ option_map suc o ]) ≡ true
          → (stands o ≡ true → place d (xs ++ ys) x ≡ o)
          → elim e as (λ y. Option ℕ)
          [ yes f ↦ Some 0 | no f ↦ option_map suc (place d (xs ++ ys) x) ]
          ≡ elim e as (λ y. Option ℕ) [ yes f ↦ Some 0 | no f ↦ option_map suc o ]
      go (yes f) o s rest = refl
      go (no f) o s rest = ap (option_map suc) (rest (later o s))

  pub place_front : (xs ys : List A) (x : A) → IsFront xs ys → stands (place d xs x) ≡ true
      → place d ys x ≡ place d xs x
  place_front xs ys x f h = ap (λ l. place d l x) f.is ∙ place_append xs f.more x h

  pub has_front : (xs ys : List A) (x : A) → IsFront xs ys → stands (place d xs x) ≡ true
      → stands (place d ys x) ≡ true
  has_front xs ys x f h = ap stands (place_front xs ys x f h) ∙ h

  -- the last one stands in the list, and so does the first one
  pub has_last : (xs : List A) (x : A) → stands (place d (xs ++ x ∷ []) x) ≡ true
  has_last xs x = ap stands (place_last d xs x) ∙ either (place d xs x)
    where
      either : (o : Option ℕ) → stands (or_last o (length xs)) ≡ true
      either None = refl
      either (Some i) = refl

  pub has_first : (xs : List A) (x : A) → slice_get xs 0 ≡ Some x → stands (place d xs x) ≡ true
  has_first [] x h = absurd cc
  has_first (y ∷ ys) x h = go (d y x)
    where
      same : y ≡ x
      same = cc

      go : (e : Dec (y ≡ x))
          → stands (elim e as (λ y. Option ℕ)
          [ yes f ↦ Some 0 | no f ↦ option_map suc (place d ys x) ])
          ≡ true
      go (yes f) = refl
      go (no f) = absurd (f same)

-- each line of the one text is no longer than that of the other
abbrev Under : List (List ℕ) → List (List ℕ) → Type 0
Under [] ms = Unit {0}
Under (l ∷ ls) [] = ⊥
Under (l ∷ ls) (m ∷ ms) = (length l ≤ length m) × Under ls ms

under_onto : (b : ℕ) (ls ms : List (List ℕ)) → Under ls ms
    → Under (onto_first b ls) (onto_first b ms)
under_onto b [] [] h = (omega arith, tt)
under_onto b [] (m ∷ ms) h = (omega arith, tt)
under_onto b (l ∷ ls) [] h = absurd h
under_onto b (l ∷ ls) (m ∷ ms) h = let k = h.0 in (omega arith, h.1)

under_step : (b : Bool) (x : ℕ) (ls ms : List (List ℕ)) → Under ls ms
    → Under (cond b ([] ∷ ls) (onto_first x ls)) (cond b ([] ∷ ms) (onto_first x ms))
under_step true x ls ms h = (omega arith, h)
under_step false x ls ms h = under_onto x ls ms h

abbrev HasLine : List (List ℕ) → Type 0
HasLine [] = ⊥
HasLine (l ∷ ls) = Unit {0}

some_step : (b : Bool) (x : ℕ) (ls : List (List ℕ))
    → HasLine (cond b ([] ∷ ls) (onto_first x ls))
some_step true x ls = tt
some_step false x [] = tt
some_step false x (l ∷ ls) = tt

some_line : (bytes : List ℕ) → HasLine (lines_of bytes)
unfolding lines_of
some_line [] = tt
some_line (x ∷ xs) = some_step (x == 10) x (slice_split (λ b. b == 10) xs)

under_nil : (ls : List (List ℕ)) → HasLine ls → Under ([] ∷ []) ls
under_nil [] h = absurd h
under_nil (l ∷ ls) h = (omega arith, tt)

lines_under : (xs ys : List ℕ) → Under (lines_of xs) (lines_of (xs ++ ys))
unfolding lines_of
lines_under [] ys = under_nil (lines_of ys) (some_line ys)
lines_under (x ∷ xs) ys =
    under_step (x == 10) x (lines_of xs) (lines_of (xs ++ ys)) (lines_under xs ys)

all_under : (n : ℕ) (ls ms : List (List ℕ)) → Under ls ms → All (λ line. length line ≤ n) ms
    → All (λ line. length line ≤ n) ls
all_under n [] ms u h = All-nil (λ line. length line ≤ n)
all_under n (l ∷ ls) [] u h = absurd u
all_under n (l ∷ ls) (m ∷ ms) u h =
    let first = All-head (λ line. length line ≤ n) m ms h in
    let here = u.0 in
    All-cons (λ line. length line ≤ n) l ls (omega arith)
    (all_under n ls ms u.1 (All-tail (λ line. length line ≤ n) m ms h))

-- the lines of what a text begins with
pub lines_front : (n : ℕ) (xs ys : List ℕ) → IsFront xs ys
    → All (λ line. length line ≤ n) (lines_of ys) → All (λ line. length line ≤ n) (lines_of xs)
lines_front n xs ys f h =
    let P : List ℕ → Type 0 = λ l. All (λ line. length line ≤ n) (lines_of l) in
    all_under n (lines_of xs) (lines_of (xs ++ f.more)) (lines_under xs f.more) (subst P f.is h)

behind_onto : (n x : ℕ) (ls : List (List ℕ)) → All (λ line. length line ≤ n) (onto_first x ls)
    → All (λ line. length line ≤ n) ls
behind_onto n x [] h = All-nil (λ line. length line ≤ n)
behind_onto n x (l ∷ ls) h =
    let first = All-head (λ line. length line ≤ n) (x ∷ l) ls h in
    All-cons (λ line. length line ≤ n) l ls (omega arith)
    (All-tail (λ line. length line ≤ n) (x ∷ l) ls h)

behind_step : (b : Bool) (n x : ℕ) (ls : List (List ℕ))
    → All (λ line. length line ≤ n) (cond b ([] ∷ ls) (onto_first x ls))
    → All (λ line. length line ≤ n) ls
behind_step true n x ls h = All-tail (λ line. length line ≤ n) [] ls h
behind_step false n x ls h = behind_onto n x ls h

-- the lines of what a text ends with
pub lines_behind : (n : ℕ) (xs ys : List ℕ) → All (λ line. length line ≤ n) (lines_of (xs ++ ys))
    → All (λ line. length line ≤ n) (lines_of ys)
unfolding lines_of
lines_behind n [] ys h = h
lines_behind n (x ∷ xs) ys h =
    lines_behind n xs ys (behind_step (x == 10) n x (lines_of (xs ++ ys)) h)

pub grows_refl : (f : File) → Grows f f
grows_refl f = record {
  text = front_refl f.text;
  names = front_refl f.written.names;
  levels = front_refl f.written.levels;
  trees = front_refl f.written.trees;
  rules = omega arith;
}

pub grows_trans : (f g h : File) → Grows f g → Grows g h → Grows f h
grows_trans f g h a b =
    let one = a.rules in
    let two = b.rules in
    record {
      text = front_trans f.text g.text h.text a.text b.text;
      names = front_trans f.written.names g.written.names h.written.names a.names b.names;
      levels = front_trans f.written.levels g.written.levels h.written.levels a.levels b.levels;
      trees = front_trans f.written.trees g.written.trees h.written.trees a.trees b.trees;
      rules = omega arith;
    }

pub defined_grows : (f g : File) → Grows f g → defined_count f.written ≤ defined_count g.written
defined_grows f g a =
    let names = front_length f.written.names g.written.names a.names in
    let levels = front_length f.written.levels g.written.levels a.levels in
    let trees = front_length f.written.trees g.written.trees a.trees in
    let rules = a.rules in
    omega arith

-- what a text that keeps the limits begins with keeps them
pub fits_front : (members : ℕ) (f g : File) → Grows f g → Fits members g → Fits members f
fits_front members f g a h =
    let many = defined_grows f g a in
    let items = h.items in
    let input = h.input in
    let long = front_length f.text g.text a.text in
    record {
      lines = lines_front (2 ^ 24) f.text g.text a.text h.lines;
      input = omega arith;
      items = omega arith;
    }
