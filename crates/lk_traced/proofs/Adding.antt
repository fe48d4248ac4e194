-- One more line in the section that is begun.
use Rattle.std.proofs.Common.{◌≡◌, ℕ, ◌==◌, nat_eq, Bool, true, false, List, [], ◌∷◌, ◌++◌, length, map, refl, ap, sym, ◌∙◌, subst, Ok, Err, Vec, ◌+◌, arith}
use Rattle.std.specs.Prelude.{Option, Some, None, Result, zip, All, if◌then◌else◌}
use Rattle.std.specs.declared.alloc.Global.{Global}
use Rattle.std.specs.HashSet.{contains}
use Rattle.std.proofs.lemmas.Bool.Decides.{nat_tests}
use Rattle.std.proofs.lemmas.List.{map-append, length-append}
use Rattle.std.proofs.lemmas.List.Elements.{All-push}
use Rattle.lk_store.specs.Contents.{Contents}
use Rattle.lk_written.specs.Line.{Line as WrittenLine}
use Rattle.lk_trace.specs.declared.sections.Line.{Line}
use Rattle.lk_trace.specs.Meaning.{line_of, IsLineIn}
use Rattle.lk_trace.specs.Files.{file_line}
use Rattle.lk_lines.specs.declared.words.Word.{Word}
use Rattle.lk_lines.specs.declared.words.Word.TheVariants.{IndexTaken, TraceOrder}
use Rattle.lk_lines.specs.Reading.{◌>>=◌}
use Rattle.lk_lines.specs.Values.{Value}
use Rattle.lk_units.specs.Numbering.{entry}
use Rattle.lk_units.specs.State.{State, put, all_known}
use Rattle.lk_units.specs.Held.{Fails, Makes}
use Rattle.lk_units.specs.declared.assembler.TakeError.{TakeError}
use Rattle.lk_units.proofs.Lines.{fails_then}
use Rattle.lk_traced.specs.Derived.{line_said}
use Rattle.lk_traced.specs.Placed.{OpenSection, Behind, places_of, with_derivation, derivation_said}
use Rattle.lk_traced.specs.Begun.{lines_held, one_more, HoldsBegun, IsBegunIn, HoldsOpen, HoldsSections, FollowsSections}
use Rattle.lk_traced.specs.declared.sections.BegunSection.{BegunSection}
use Rattle.lk_traced.specs.declared.sections.Sections.{Sections}
use Rattle.lk_traced.proofs.Derive.{all_same}

-- two lists side by side, and one more of each
zip_push : {A B : Type 0} (xs : List A) (ys : List B) (a : A) (b : B) → length xs ≡ length ys → zip (xs ++ a ∷ []) (ys ++ b ∷ []) ≡ zip xs ys ++ (a, b) ∷ []
zip_push [] [] a b e = refl
zip_push [] (y ∷ ys) a b e = absurd (omega arith)
zip_push (x ∷ xs) [] a b e = absurd (omega arith)
zip_push (x ∷ xs) (y ∷ ys) a b e = ap (λ ps. (x, y) ∷ ps) (zip_push xs ys a b (omega arith))

held_length : (c : Contents) (ns : List ℕ) (ls : List Line) → length ns ≡ length ls → length (lines_held c ns ls) ≡ length ls
held_length c [] [] e = refl
held_length c [] (l ∷ ls) e = absurd (omega arith)
held_length c (n ∷ ns) [] e = absurd (omega arith)
held_length c (n ∷ ns) (l ∷ ls) e = let more = held_length c ns ls (omega arith) in omega arith

held_push : (c : Contents) (ns : List ℕ) (ls : List Line) (n : ℕ) (l : Line) → length ns ≡ length ls
    → lines_held c (ns ++ n ∷ []) (ls ++ l ∷ []) ≡ lines_held c ns ls ++ record { number = n; line = line_of c l } ∷ []
held_push c ns ls n l e = ap (map (file_line c)) (zip_push ns ls n l e) ∙ map-append (file_line c) (zip ns ls) ((n, l) ∷ [])

place_push : (b : Bool) (e old mean : Option ℕ) (i j : ℕ) → e ≡ (if b then Some i else old) → i ≡ j → old ≡ mean → e ≡ (if b then Some j else mean)
place_push true e old mean i j h is same = h ∙ ap Some is
place_push false e old mean i j h is same = h ∙ same

pub begun_push : (o n : BegunSection) (c : Contents) (p : OpenSection) (number own place : ℕ) (l : Line) → place ≡ length o.lines.items → n.number ≡ o.number → n.unit ≡ o.unit → n.lines.items ≡ o.lines.items ++ l ∷ []
    → n.numbers.items ≡ o.numbers.items ++ number ∷ [] → ((q : ℕ) → entry n.places q ≡ (if q == own then Some place else entry o.places q))
    → IsBegunIn c o → HoldsBegun o c p → HoldsBegun n c (one_more number own (line_of c l) p)
begun_push o n c p number own place l len a u ls ns ps k h =
    let count : place ≡ length p.lines = len ∙ sym (held_length c o.numbers.items o.lines.items k.numbered) ∙ ap length h.lines in
    record {
      number = a ∙ h.number;
      unit = u ∙ h.unit;
      lines = rw (ls, ns) (held_push c o.numbers.items o.lines.items number l k.numbered ∙ ap (λ xs. xs ++ record { number = number; line = line_of c l } ∷ []) h.lines);
      places = λ q. place_push (q == own) (entry n.places q) (entry o.places q) (p.places q) place (length p.lines) (ps q) count (h.places q);
    }

pub begun_push_known : (o n : BegunSection) (c : Contents) (number : ℕ) (l : Line) → n.lines.items ≡ o.lines.items ++ l ∷ [] → n.numbers.items ≡ o.numbers.items ++ number ∷ []
    → IsBegunIn c o → IsLineIn c l → IsBegunIn c n
begun_push_known o n c number l ls ns k h =
    let same = k.numbered in
    record {
      lines_in = rw ls (All-push (IsLineIn c) o.lines.items l k.lines_in h);
      numbered = rw (ls, ns) (length-append o.numbers.items (number ∷ []) ∙ ap (λ i. i + 1) same ∙ sym (length-append o.lines.items (l ∷ [])));
    }

same_test : (a b : ℕ) → (a == b) ≡ (b == a)
same_test a b = grind (arith, nat_tests)

taken_push : (b b' e old mean : Bool) → b ≡ b' → e ≡ (if b then true else old) → old ≡ mean → e ≡ (if b' then true else mean)
taken_push true b' e old mean h is same = rw (← h) is
taken_push false b' e old mean h is same = rw (← h) (is ∙ same)

module _ (s n : Sections) (c : Contents) (b : Behind) (o m : BegunSection) (number own : ℕ) (line : WrittenLine) where
  -- the section that is begun has one more line, under its own number
  pub added : s.begun ≡ Some o → n.begun ≡ Some m → n.kinds ≡ s.kinds → n.ended ≡ s.ended → n.least ≡ s.least
      → ((q : ℕ) → contains nat_eq n.taken q ≡ (if nat_eq own q then true else contains nat_eq s.taken q))
      → ((p : OpenSection) → HoldsBegun o c p → HoldsBegun m c (one_more number own line p)) → HoldsSections s c b
      → FollowsSections n c (Ok tt) (with_derivation number b own line)
  added is now kinds ended least taken grows h = go b.begun refl (rw is at h.begun)
    where
      go : (p : Option OpenSection) → b.begun ≡ p → HoldsOpen (Some o) c p → FollowsSections n c (Ok tt) (with_derivation number b own line)
      go None e k = absurd k
      go (Some p) e k = (
        record b { begun = Some (one_more number own line p); taken = λ q. if q == own then true else b.taken q },
        rw e refl,
        record {
          kinds = rw kinds h.kinds;
          ended = rw ended h.ended;
          begun = rw now (grows p k);
          least = rw least h.least;
          taken = λ q. taken_push (nat_eq own q) (q == own) (contains nat_eq n.taken q) (contains nat_eq s.taken q) (b.taken q) (same_test own q) (taken q) (h.taken q);
        },
      )

-- What a line of a derivation states, where its number may be that of another line.
module _ {X : Type 0} (s : Sections) (c : Contents) (b : Behind) (h : HoldsSections s c b) (st : State) (own : ℕ) (values : List Value) (next : WrittenLine → Result X Word) where
  pub taken_already : contains nat_eq s.taken own ≡ true → (derivation_said st b own values >>= next) ≡ Err IndexTaken
  taken_already is = rw (← h.taken own, is) refl

  pub derived_then : (line : WrittenLine) → contains nat_eq s.taken own ≡ false → line_said st (places_of b.begun) values ≡ Ok line → (derivation_said st b own values >>= next) ≡ next line
  derived_then line is made = rw (← h.taken own, is, made) refl

  pub derived_stops : (e : TakeError) → contains nat_eq s.taken own ≡ false → Fails e (line_said st (places_of b.begun) values) → Fails e (derivation_said st b own values >>= next)
  derived_stops e is f = rw (← h.taken own, is) (fails_then e (line_said st (places_of b.begun) values) next f)

-- no section is begun
pub added_nowhere : (s : Sections) (c : Contents) (b : Behind) (number own : ℕ) (line : WrittenLine) → s.begun ≡ None → HoldsSections s c b → with_derivation number b own line ≡ Err TraceOrder
added_nowhere s c b number own line is h = go b.begun refl (rw is at h.begun)
  where
    go : (p : Option OpenSection) → b.begun ≡ p → HoldsOpen None c p → with_derivation number b own line ≡ Err TraceOrder
    go None e k = rw e refl
    go (Some p) e k = absurd k

-- the places of premises are the same by either numbering
pub makes_same : (f g : ℕ → Option ℕ) (ns : List ℕ) (r : Result (Vec ℕ Global) TakeError) → ((q : ℕ) → f q ≡ g q) → Makes (λ (v : Vec ℕ Global). v.items) r (all_known f ns) → Makes (λ (v : Vec ℕ Global). v.items) r (all_known g ns)
makes_same f g ns r same m = let P : Result (List ℕ) Word → Type 0 = Makes (λ (v : Vec ℕ Global). v.items) r in subst P (all_same f g ns same) m
