-- The constructors that the types of the lines so far list.
use Rattle.std.proofs.Common.{◌≡◌, ℕ, nat_eq, Bool, true, false, List, [], ◌∷◌, ◌++◌, refl, ap, sym, ◌∙◌, append_assoc}
use Rattle.std.specs.Prelude.{◌&&◌, ◌||◌, Option, Some, None, is_some, if◌then◌else◌}
use Rattle.std.proofs.Common.{arith}
use Rattle.std.proofs.lemmas.Bool.Decides.{nat_tests}
use Rattle.std.specs.List.{list_any}
use Rattle.std.specs.HashSet as hash_set
use Rattle.std.specs.HashSet.{HashSet}
use Rattle.lk_members.specs.declared.members.Key.{Key}
use Rattle.lk_members.specs.declared.fault.MemberFault.TheVariants.{BadCount, RepeatedMember}
use Rattle.lk_members.specs.declared.line.TypeHead.{TypeHead}
use Rattle.lk_members.specs.Lines.{or_next, has, type_here, type_of, a_type}
use Rattle.lk_members.specs.Faults.{fault_of, bad_lists, lists_ctor}
use Rattle.lk_members.specs.Stored.{NumberedLine, NumberedMember}
use Rattle.lk_members.specs.Indices.{key_eq}
use Rattle.lk_members.specs.Finishing.{AreFaultless, IsFaultless, Listed, is_listed_by}

-- what a line states of a type
abbrev pub stated_here : NumberedMember → ℕ → Option (TypeHead × List ℕ)
stated_here s x = type_here nat_eq s x

pub record IsListing {S : Type 0} (lines rest : List NumberedLine) (listed : HashSet Key S) : Type 0 where
  pub done : List NumberedLine
  pub whole : done ++ rest ≡ lines
  pub faultless : AreFaultless done rest
  pub is_done : Listed done listed

pub or_next_assoc : {A : Type 0} (a b c : Option A) → or_next (or_next a b) c ≡ or_next a (or_next b c)
or_next_assoc (Some x) b c = refl
or_next_assoc None b c = refl

pub type_of-append : (xs ys : List NumberedLine) (x : ℕ) → type_of nat_eq (xs ++ ys) x ≡ or_next (type_of nat_eq xs x) (type_of nat_eq ys x)
type_of-append [] ys x = refl
type_of-append (l ∷ xs) ys x = ap (or_next (type_here nat_eq l.said x)) (type_of-append xs ys x) ∙ sym (or_next_assoc (type_here nat_eq l.said x) (type_of nat_eq xs x) (type_of nat_eq ys x))

-- where nothing is wrong with a type, it has no line yet
new_lem : (a b : Bool) → (if a then Some BadCount else (if b then Some RepeatedMember else None)) ≡ None → (a ≡ false) × (b ≡ false)
new_lem true b h = cc
new_lem false true h = cc
new_lem false false h = (refl, refl)

pub type_is_new : (before : List NumberedLine) (n : ℕ) (ts cs : List ℕ) (t : TypeHead) → fault_of nat_eq before (a_type n ts cs t) ≡ None → (bad_lists nat_eq before n ts cs ≡ false) × (is_some (type_of nat_eq before n) ≡ false)
type_is_new before n ts cs t h = new_lem (bad_lists nat_eq before n ts cs) (is_some (type_of nat_eq before n)) h

-- one more type
more_lists : (o : Option (TypeHead × List ℕ)) (same : Bool) (cs : List ℕ) (t : TypeHead) (x : ℕ) → (same ≡ true → is_some o ≡ false)
    → lists_ctor nat_eq (or_next o (or_next (if same then Some (t, cs) else None) None)) x ≡ ((same && has nat_eq cs x) || lists_ctor nat_eq o x)
more_lists None true cs t x h = or_false (has nat_eq cs x)
  where
    or_false : (b : Bool) → b ≡ (b || false)
    or_false true = refl
    or_false false = refl
more_lists None false cs t x h = refl
more_lists (Some u) true cs t x h = let e = h refl in cc
more_lists (Some u) false cs t x h = refl

test_is : (m n : ℕ) → nat_eq m n ≡ true → m ≡ n
test_is m n h = grind (arith, nat_tests)

listed_more : {S : Type 0} (before : List NumberedLine) (l : NumberedLine) (n : ℕ) (ts cs : List ℕ) (t : TypeHead) (old new : HashSet Key S) → l.said ≡ a_type n ts cs t → fault_of nat_eq before l.said ≡ None
    → ((q : Key) → hash_set.contains key_eq new q ≡ (is_listed_by n cs q || hash_set.contains key_eq old q)) → Listed before old → Listed (before ++ l ∷ []) new
listed_more before l n ts cs t old new is fine added h q =
    let new_type = (type_is_new before n ts cs t (ap (fault_of nat_eq before) (sym is) ∙ fine)).1 in
    let still = λ (e : nat_eq n q.under ≡ true). ap (λ u. is_some (type_of nat_eq before u)) (sym (test_is n q.under e)) ∙ new_type in
    let is_more = more_lists (type_of nat_eq before q.under) (nat_eq n q.under) cs t q.name still in
    let whole : type_of nat_eq (before ++ l ∷ []) q.under ≡ or_next (type_of nat_eq before q.under) (or_next (stated_here (a_type n ts cs t) q.under) None) =
    type_of-append before (l ∷ []) q.under ∙ ap (λ (s : NumberedMember). or_next (type_of nat_eq before q.under) (or_next (stated_here s q.under) None)) is in
    added q ∙ ap (λ b. is_listed_by n cs q || b) (h q) ∙ sym is_more ∙ ap (λ o. lists_ctor nat_eq o q.name) (sym whole)

pub begins : {S : Type 0} (lines : List NumberedLine) (s : HashSet Key S) → s.keys ≡ [] → IsFaultless lines → IsListing lines lines s
begins lines s e fine = record {
  done = [];
  whole = refl;
  faultless = fine;
  is_done = λ q. ap (list_any (key_eq q)) e;
}

pub passes : {S : Type 0} (lines : List NumberedLine) (l : NumberedLine) (rest : List NumberedLine) (s : HashSet Key S) → ((x : ℕ) → stated_here l.said x ≡ None) → IsListing lines (l ∷ rest) s → IsListing lines rest s
passes lines l rest s none m = record {
  done = m.done ++ l ∷ [];
  whole = append_assoc m.done (l ∷ []) rest ∙ m.whole;
  faultless = m.faultless.1;
  is_done = λ q.
      m.is_done q ∙ ap (λ o. lists_ctor nat_eq o q.name) (sym (type_of-append m.done (l ∷ []) q.under ∙ ap (λ o. or_next (type_of nat_eq m.done q.under) (or_next o None)) (none q.under) ∙ or_none (type_of nat_eq m.done q.under)));
}
  where
    or_none : {A : Type 0} (o : Option A) → or_next o None ≡ o
    or_none (Some x) = refl
    or_none None = refl

pub lists : {S : Type 0} (lines : List NumberedLine) (l : NumberedLine) (rest : List NumberedLine) (n : ℕ) (ts cs : List ℕ) (t : TypeHead) (old new : HashSet Key S) → l.said ≡ a_type n ts cs t
    → ((q : Key) → hash_set.contains key_eq new q ≡ (is_listed_by n cs q || hash_set.contains key_eq old q)) → IsListing lines (l ∷ rest) old → IsListing lines rest new
lists lines l rest n ts cs t old new is added m = record {
  done = m.done ++ l ∷ [];
  whole = append_assoc m.done (l ∷ []) rest ∙ m.whole;
  faultless = m.faultless.1;
  is_done = listed_more m.done l n ts cs t old new is m.faultless.0 added m.is_done;
}
