-- What passes came to together, once one more is taken in.
use Rattle.std.proofs.Common.{◌≡◌, ℕ, zero, suc, ◌+◌, ◌||◌, Bool, true, false, List, [], ◌∷◌, ◌++◌, length, get_or, slice_get, Ok, Result, Some, refl, sym, ap, ◌∙◌, subst, arith, length-append, append-nil}
use Rattle.std.specs.Prelude.{IfOk}
use Rattle.std.proofs.lemmas.List.Elements.{All-append}
use mathlib.Core.List.{IsPrefix}
use Rattle.lk_store.specs.declared.memory.NoMemory.{NoMemory}
use Rattle.lk_session.specs.declared.view.View.{View}
use Rattle.lk_session.specs.Steps.{both_views}
use Rattle.lk_session.specs.Texts.{Says}
use Rattle.lk_session.proofs.Prefixes.{prefix_get, prefix_length, prefix_trans}
use Rattle.lk_callers.specs.declared.turns.Turns.{Turns}
use Rattle.lk_callers.specs.declared.calling.Called.{Called}
use Rattle.lk_callers.specs.Answered.{AreCalled, AreRight, IsCalled, IsGathered, IsRight}
use Rattle.lk_callers.proofs.Owning.{joined}
use Rattle.lk_callers.proofs.Replies.{rights_grow}

pub or_true : (a b whole : Bool) → a ≡ true → whole ≡ a → whole ≡ (a || b)
or_true true b whole h e = e
or_true false b whole h e = absurd cc

pub or_false : (a b whole : Bool) → a ≡ false → whole ≡ b → whole ≡ (a || b)
or_false true b whole h e = absurd cc
or_false false b whole h e = e

get_or_at : {A : Type 0} (xs : List A) (k : ℕ) (x d : A) → slice_get xs k ≡ Some x → get_or xs k d ≡ x
get_or_at [] k x d e = absurd cc
get_or_at (y ∷ xs) zero x d e = cc
get_or_at (y ∷ xs) (suc k) x d e = get_or_at xs k x d e

get_last : {A : Type 0} (xs : List A) (x : A) → slice_get (xs ++ x ∷ []) (length xs) ≡ Some x
get_last [] x = refl
get_last (y ∷ xs) x = get_last xs x

module _ {B T : Type 0} (stated : Says) (texts : List (List ℕ)) (t : Turns) (budget : ℕ) where
  -- the last of some that came first
  pub called_at : (all front : List (Result (Called B T) NoMemory)) (r : Result (Called B T) NoMemory) → IsPrefix (front ++ r ∷ []) all → AreCalled stated texts t budget (length texts) all
      → IfOk r (IsCalled stated texts t budget (length texts) (length front))
  called_at all front r p are =
      let at : slice_get all (length front) ≡ Some r = prefix_get (front ++ r ∷ []) all (length front) r p (get_last front r) in
      let n = prefix_length (front ++ r ∷ []) all p in
      let m = length-append front (r ∷ []) in
      subst (λ (x : Result (Called B T) NoMemory). IfOk x (IsCalled stated texts t budget (length texts) (length front))) (get_or_at all (length front) r r at) (are (length front) r (omega arith))

  pub one_gathered : (n : ℕ) (c : Called B T) → IsCalled stated texts t budget (length texts) n c → IsGathered stated texts t budget n (n + 1) c
  one_gathered n c i = record { added = i.added; right = i.right; passes = (let p = i.passes in omega arith) }

  pub gathered_more : (low high : ℕ) (all one joint : Called B T) → IsGathered stated texts t budget (low + 1) high all → IsGathered stated texts t budget low (low + 1) one
      → IsPrefix all.pass.known.seen joint.pass.known.seen → IsPrefix one.pass.known.seen joint.pass.known.seen → joint.pass.known ≡ both_views all.pass.known one.pass.known
      → joint.replies.items ≡ all.replies.items ++ one.replies.items → joint.full ≡ (all.full || one.full) → IsGathered stated texts t budget low high joint
  gathered_more low high all one joint a b pa pb both replies full =
      let v = all.pass.known in
      let u = one.pass.known in
      let w = joint.pass.known in
      let q = a.passes in
      let o = b.passes in
      let sum : w.passes ≡ v.passes + u.passes = ap (λ (x : View). x.passes) both in
      record {
        added = joined texts stated t low high v u w all.full one.full a.added b.added pa pb (ap (λ (x : View). x.mine) both) (omega arith) joint.full full;
        right = subst (AreRight stated budget w.seen) (sym replies)
            (All-append (IsRight stated budget w.seen) all.replies.items one.replies.items (rights_grow stated budget v.seen w.seen all.replies.items pa a.right) (rights_grow stated budget u.seen w.seen one.replies.items pb b.right));
        passes = omega arith;
      }

-- what the last pass of all came to
pub last_gathered : {B T : Type 0} (stated : Says) (all front : List (Result (Called B T) NoMemory)) (r : Result (Called B T) NoMemory) (c : Called B T) → all ≡ front ++ r ∷ [] → r ≡ Ok c
    → (texts : List (List ℕ)) (t : Turns) (budget : ℕ) → AreCalled stated texts t budget (length texts) all → IsGathered stated texts t budget (length front) (length all) c
last_gathered {B} {T} stated all front r c is ok texts t budget are =
    let called : IfOk r (IsCalled stated texts t budget (length texts) (length front)) = called_at stated texts t budget all front r ([], append-nil (front ++ r ∷ []) ∙ sym is) are in
    let one : IsCalled stated texts t budget (length texts) (length front) c = subst (λ (x : Result (Called B T) NoMemory). IfOk x (IsCalled stated texts t budget (length texts) (length front))) ok called in
    let n : length all ≡ length front + 1 = ap length is ∙ length-append front (r ∷ []) in
    subst (λ (h : ℕ). IsGathered stated texts t budget (length front) h c) (sym n) (one_gathered stated texts t budget (length front) c one)

-- and what the next one makes of it
pub next_gathered : {B T : Type 0} (stated : Says) (all front before : List (Result (Called B T) NoMemory)) (r : Result (Called B T) NoMemory) (one joint now : Called B T) → IsPrefix before all → before ≡ front ++ r ∷ [] → r ≡ Ok one
    → ((texts : List (List ℕ)) (t : Turns) (budget low high : ℕ) → IsGathered stated texts t budget (low + 1) high now → IsGathered stated texts t budget low (low + 1) one → IsGathered stated texts t budget low high joint)
    → ((texts : List (List ℕ)) (t : Turns) (budget : ℕ) → AreCalled stated texts t budget (length texts) all → IsGathered stated texts t budget (length before) (length all) now)
    → (texts : List (List ℕ)) (t : Turns) (budget : ℕ) → AreCalled stated texts t budget (length texts) all → IsGathered stated texts t budget (length front) (length all) joint
next_gathered {B} {T} stated all front before r one joint now p is ok step had texts t budget are =
    let called : IfOk r (IsCalled stated texts t budget (length texts) (length front)) = called_at stated texts t budget all front r (subst (λ (l : List (Result (Called B T) NoMemory)). IsPrefix l all) is p) are in
    let called_one : IsCalled stated texts t budget (length texts) (length front) one = subst (λ (x : Result (Called B T) NoMemory). IfOk x (IsCalled stated texts t budget (length texts) (length front))) ok called in
    let n : length before ≡ length front + 1 = ap length is ∙ length-append front (r ∷ []) in
    step texts t budget (length front) (length all) (subst (λ (h : ℕ). IsGathered stated texts t budget h (length all) now) n (had texts t budget are)) (one_gathered stated texts t budget (length front) one called_one)

pub front_begins : {A : Type 0} (all before front : List A) (r : A) → IsPrefix before all → before ≡ front ++ r ∷ [] → IsPrefix front all
front_begins {A} all before front r p is = prefix_trans front before all (r ∷ [], sym is) p

pub none_left : {A : Type 0} (xs : List A) → length xs ≡ 0 → xs ≡ []
none_left [] e = refl
none_left (x ∷ xs) e = absurd (omega (arith, e))
