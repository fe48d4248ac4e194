-- The list with one more submission.
use Rattle.std.proofs.Common.{◌≡◌, ℕ, suc, ◌+◌, ◌^◌, ◌<◌, ◌≤◌, List, [], ◌∷◌, ◌++◌, length, map, drop, refl, sym, ap, ◌∙◌, subst, arith, append-nil, length-append, zero-add}
use Rattle.std.specs.Prelude.{◌==◌, if◌then◌else◌}
use Rattle.std.proofs.lemmas.List.{map-append, drop-append-le, length-map}
use Rattle.std.proofs.lemmas.List.Sums.{sum_by-append}
use Rattle.std.proofs.lemmas.Grind.{flat_map-append}
use Rattle.atomic_table.specs.Table.{Me}
use Rattle.lk_rulebook.specs.Units.{LibraryUnit}
use Rattle.lk_session.specs.declared.mark.Mark.{Mark}
use Rattle.lk_session.specs.declared.view.View.{View}
use Rattle.lk_session.specs.declared.view.Submission.{Submission}
use Rattle.atomic_table.specs.Seated.{TableId}
use Rattle.lk_session.specs.Rule.{book_view, times, once_below}
use Rattle.lk_session.specs.Seats.{Token, IsBook}
use Rattle.lk_session.specs.Steps.{met, counted, AreOnce}
use Rattle.lk_session.specs.Texts.{Says, SharedText, bytes_of, texts_of, units_in, units_of, marks_of, AreFaultless, IsFaultless}
use Rattle.lk_session.specs.Reading.{AreBehind}
use Rattle.lk_session.proofs.Cutting.{once_not}
use Rattle.lk_session.proofs.Prefixes.{all_cons, all_none}

pub units_more : (stated : Says) (xs : List Submission) (call : Submission) → units_of stated (xs ++ call ∷ []) ≡ units_of stated xs ++ units_in stated call.text
units_more stated xs call =
    flat_map-append (λ (x : Submission). units_in stated x.text) xs (call ∷ [])
    ∙ ap (λ (l : List LibraryUnit). units_of stated xs ++ l) (append-nil (units_in stated call.text))

pub length_more : (stated : Says) (xs : List Submission) (call : Submission) → length (units_of stated (xs ++ call ∷ [])) ≡ length (units_of stated xs) + length (units_in stated call.text)
length_more stated xs call = ap length (units_more stated xs call) ∙ length-append (units_of stated xs) (units_in stated call.text)

pub length-marks : (stated : Says) (first : ℕ) (xs : List Submission) → length (marks_of stated first xs) ≡ length xs
length-marks stated first [] = refl
length-marks stated first (x ∷ xs) = ap suc (length-marks stated (first + length (units_in stated x.text)) xs)

abbrev mark : ℕ → ℕ → ℕ → Mark
mark tag first count = record { tag = tag; first = first; count = count }

marks_more : (stated : Says) (first : ℕ) (xs : List Submission) (call : Submission)
    → marks_of stated first (xs ++ call ∷ []) ≡ marks_of stated first xs ++ record { tag = call.tag; first = first + length (units_of stated xs); count = length (units_in stated call.text) } ∷ []
marks_more stated first [] call = ap (λ (k : ℕ). record { tag = call.tag; first = k; count = length (units_in stated call.text) } ∷ []) (let e : first ≡ first + 0 = omega arith in e)
marks_more stated first (x ∷ xs) call =
    let here = length (units_in stated x.text) in
    let n : first + here + length (units_of stated xs) ≡ first + length (units_of stated (x ∷ xs)) = omega (arith, length-append (units_in stated x.text) (units_of stated xs)) in
    ap (λ (l : List Mark). record { tag = x.tag; first = first; count = here } ∷ l)
    (marks_more stated (first + here) xs call ∙ ap (λ (k : ℕ). marks_of stated (first + here) xs ++ record { tag = call.tag; first = k; count = length (units_in stated call.text) } ∷ []) n)

-- the book's seat after Meet, Count and Part
pub added_book : (seat m n p : Me ℕ View) (w : View) (call : Submission) (place : ℕ) → seat ≡ (book_view seat.0.seen, []) → m ≡ (met seat.0 w, seat.1) → n ≡ (counted call place m.0, m.1) → p ≡ (book_view n.0.seen, n.1)
    → (p ≡ (book_view p.0.seen, [])) × (p.0.seen ≡ seat.0.seen ++ call ∷ [])
added_book seat m n p w call place s-is m-is n-is p-is =
    let seen : Me ℕ View → List Submission = λ x. x.0.seen in
    let hand : Me ℕ View → List (ℕ × ℕ) = λ x. x.1 in
    let ns : seen n ≡ seen seat ++ call ∷ [] = ap seen n-is ∙ ap (λ (x : Me ℕ View). seen x ++ call ∷ []) m-is in
    let ps : seen p ≡ seen n = ap seen p-is in
    let none : hand n ≡ [] = ap hand n-is ∙ (ap hand m-is ∙ ap hand s-is) in
    (p-is ∙ (λ i. (book_view (sym ps i), none i)), ps ∙ ns)

pub marked : (stated : Says) (seen after : List Submission) (call : Submission) (marks reserved pushed : List Mark) (tag first count : ℕ) → marks ≡ marks_of stated 0 seen → after ≡ seen ++ call ∷ [] → reserved ≡ marks
    → pushed ≡ reserved ++ record { tag = tag; first = first; count = count } ∷ [] → call.tag ≡ tag → first ≡ length (units_of stated seen) → count ≡ length (units_in stated call.text) → pushed ≡ marks_of stated 0 after
marked stated seen after call marks reserved pushed tag first count m a r p t f n =
    let line : mark tag first count ≡ mark call.tag (0 + length (units_of stated seen)) (length (units_in stated call.text)) = λ i. mark (sym t i) ((f ∙ sym (zero-add (length (units_of stated seen)))) i) (n i) in
    p ∙ (ap (λ (l : List Mark). l ++ mark tag first count ∷ []) (r ∙ m) ∙ (ap (λ (x : Mark). marks_of stated 0 seen ++ x ∷ []) line ∙ (sym (marks_more stated 0 seen call) ∙ ap (marks_of stated 0) (sym a))))

-- the texts of the list with one more
pub texts_more : (xs : List Submission) (call : Submission) → texts_of (xs ++ call ∷ []) ≡ texts_of xs ++ call.text ∷ []
texts_more xs call = map-append (λ (x : Submission). x.text) xs (call ∷ [])

pub texted : (seen after : List Submission) (call : Submission) (texts reserved pushed : List SharedText) (text : SharedText) → map bytes_of texts ≡ texts_of seen → after ≡ seen ++ call ∷ [] → reserved ≡ texts → pushed ≡ reserved ++ text ∷ []
    → call.text ≡ bytes_of text → map bytes_of pushed ≡ texts_of after
texted seen after call texts reserved pushed text t a r p c =
    ap (map bytes_of) p ∙ (map-append bytes_of reserved (text ∷ []) ∙ (ap (λ (l : List SharedText). map bytes_of l ++ bytes_of text ∷ []) r
    ∙ ((λ i. t i ++ sym c i ∷ []) ∙ (sym (texts_more seen call) ∙ ap texts_of (sym a)))))

pub faultless_more : (stated : Says) (xs : List (List ℕ)) (x : List ℕ) → AreFaultless stated xs → IsFaultless stated x → AreFaultless stated (xs ++ x ∷ [])
faultless_more stated [] x all one = all_cons (λ (t : List ℕ). IsFaultless stated t) x [] one (all_none (λ (t : List ℕ). IsFaultless stated t))
faultless_more stated (y ∷ xs) x all one =
    all_cons (λ (t : List ℕ). IsFaultless stated t) y (xs ++ x ∷ []) (all 0 y (omega arith))
    (faultless_more stated xs x (λ k d lt. all (suc k) d (omega (arith, lt))) one)

-- the texts behind, with that of one more submission
pub behind_more : (stated : Says) (read : ℕ) (xs : List Submission) (call : Submission) (texts pushed : List SharedText) (text : SharedText) → read ≤ length xs → AreBehind stated read xs texts → pushed ≡ texts ++ text ∷ []
    → call.text ≡ bytes_of text → IsFaultless stated (bytes_of text) → length xs + 1 < 2 ^ 64 → AreBehind stated read (xs ++ call ∷ []) pushed
behind_more stated read xs call texts pushed text le b p c ok few =
    let all : map bytes_of pushed ≡ map bytes_of texts ++ bytes_of text ∷ [] = ap (map bytes_of) p ∙ map-append bytes_of texts (text ∷ []) in
    let n : read ≤ length (texts_of xs) = omega (arith, length-map xs (λ (x : Submission). x.text)) in
    let d : drop read (texts_of (xs ++ call ∷ [])) ≡ drop read (texts_of xs) ++ call.text ∷ [] = ap (drop read) (texts_more xs call) ∙ drop-append-le read (texts_of xs) (call.text ∷ []) n in
    record {
      texts_are = all ∙ ((λ i. b.texts_are i ++ sym c i ∷ []) ∙ sym d);
      faultless = subst (λ (l : List (List ℕ)). AreFaultless stated l) (sym all) (faultless_more stated (map bytes_of texts) (bytes_of text) b.faultless ok);
      short = (let l = length-append xs (call ∷ []) in omega arith);
    }

-- a place that is not below the first word is none of the caller's own
pub new_place : (v w m : View) (n : ℕ) → m ≡ met v w → AreOnce m n → times n w ≡ 0
new_place v w m n is once =
    let a : times n m ≤ once_below n n = once n in
    let b : once_below n n ≡ 0 = once_not n in
    let c : times n m ≡ times n v + times n w = ap (times n) is ∙ sum_by-append (λ y. if y == n then 1 else 0) v.mine w.mine in
    omega arith

-- what lies under the lock, with one more submission
pub book_more : (table : TableId) (stated : Says) (t p : Token) (texts texts_room texts' : List SharedText) (marks marks_room marks' : List Mark) (units tag count : ℕ) (call : Submission) (text : SharedText)
    → IsBook table stated t texts marks units → p.table_id ≡ table → (p.me ≡ (book_view p.me.0.seen, [])) × (p.me.0.seen ≡ t.me.0.seen ++ call ∷ [])
    → call.tag ≡ tag → call.text ≡ bytes_of text → count ≡ length (units_in stated (bytes_of text)) → IsFaultless stated (bytes_of text) → units + count ≤ 65536
    → texts_room ≡ texts → texts' ≡ texts_room ++ text ∷ [] → marks_room ≡ marks → marks' ≡ marks_room ++ record { tag = tag; first = units; count = count } ∷ []
    → IsBook table stated p texts' marks' (units + count)
book_more table stated t p texts texts_room texts' marks marks_room marks' units tag count call text b of seat is_tag is_text is_count ok few tr tp mr mp =
    let seen = t.me.0.seen in
    let number : count ≡ length (units_in stated call.text) = is_count ∙ ap (λ (x : List ℕ). length (units_in stated x)) (sym is_text) in
    let all = length_more stated seen call in
    let is = b.units_are in
    let whole : length (units_of stated p.me.0.seen) ≡ length (units_of stated (seen ++ call ∷ [])) = ap (λ (l : List Submission). length (units_of stated l)) seat.1 in
    record {
      of = of;
      view = seat.0;
      texts_are = texted seen p.me.0.seen call texts texts_room texts' text b.texts_are seat.1 tr tp is_text;
      marks_are = marked stated seen p.me.0.seen call marks marks_room marks' tag units count b.marks_are seat.1 mr mp is_tag is number;
      units_are = omega arith;
      few = few;
      faultless = subst (λ (l : List Submission). AreFaultless stated (texts_of l)) (sym seat.1)
          (subst (λ (l : List (List ℕ)). AreFaultless stated l) (sym (texts_more seen call)) (faultless_more stated (texts_of seen) call.text b.faultless (subst (λ (x : List ℕ). IsFaultless stated x) (sym is_text) ok)));
    }
