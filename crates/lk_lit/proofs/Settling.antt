-- Programs that ask nothing, from an earlier state, or at once.
use Rattle.std.proofs.Common.{◌≡◌, Some, refl, ap, sym, subst, ◌∙◌}
use Rattle.std.specs.Prelude.{Result, Ok, Err, IfOk}
use Rattle.lk_tree.specs.Tree.{Name}
use Rattle.lk_tree.specs.declared.rule.Rule.{Rule}
use Rattle.lk_tree.specs.declared.rule.Rule.TheVariants.{NoBuiltin}
use Rattle.lk_rulebook.specs.Place.{Entry as PlainEntry}
use Rattle.lk_questions.specs.Program.{Program, look, ◌>>=◌}
use Rattle.lk_questions.specs.Settled.{fails, settle}
use Rattle.lk_questions.proofs.Settling.{settle_on, settle_no}
use Rattle.lk_store.specs.declared.memory.NoMemory.{NoMemory}
use Rattle.lk_store.specs.Contents.{Contents, Extends}
use Rattle.lk_store.proofs.Extending.{Extends-trans}
use Rattle.lk_store.proofs.Made.{Extends-self}
use Rattle.lk_ask.specs.Looks.{Basis, Sight, entry_at}
use Rattle.lk_ask.specs.Settles.{settled_as, Settles}
use Rattle.lk_ask.proofs.Looking.{found_settles, refused_settles}
use Rattle.lk_lit.specs.declared.given.Given.{Given}
use Rattle.lk_lit.specs.Givens.{FindsBuiltin}

module _ {S R B C : Type 0} {contents : S → Contents} {rest : S → R} {sight : R → Sight B} where
  -- a look-up of a built-in name that is given
  pub given_settles : {old new : S} {x : Name} {given : Given} (k : PlainEntry → Program C)
      → (found : FindsBuiltin contents rest sight old new (Ok (Ok given)) x)
      → settle (sight (rest old)).basis.place (sight (rest old)).last (look NoBuiltin x k)
      ≡ settle (sight (rest new)).basis.place (sight (rest new)).last (k found.finds.found.entry)
  given_settles {old} {new} {x} {given} k found =
      let b = (sight (rest old)).basis in
      let seen = (sight (rest new)).last in
      let h = found.finds.found in
      found_settles b.place x NoBuiltin k b.library (sight (rest old)).last seen given.entry h
      ∙ ap (λ (c : Basis B). settle c.place seen (k h.entry)) (sym found.stays)

  -- and of one that is not
  pub none_settles : {old new : S} {x : Name} {r : Rule} (k : PlainEntry → Program C)
      → FindsBuiltin contents rest sight old new (Ok (Err r)) x
      → settle (sight (rest old)).basis.place (sight (rest old)).last (look NoBuiltin x k) ≡ fails r
  none_settles {old} {new} {x} {r} k found =
      refused_settles (sight (rest old)).basis.place x NoBuiltin k (sight (rest old)).last r found.finds

module _ {S R B A C : Type 0} {contents : S → Contents} {rest : S → R} {sight : R → Sight B}
    {is : Contents → A → C} where
  -- nothing was done
  pub settles_now : {program : Contents → Program C} (s : S) (result : Result A Rule)
      → settle (sight (rest s)).basis.place (sight (rest s)).last (program (contents s))
      ≡ settled_as (is (contents s)) (sight (rest s)).last result
      → Settles contents rest sight s s (Ok result) is program
  settles_now s result h = record { keeps = Extends-self (contents s); stays = refl; comes_to = h }

  -- what comes to the same from a later state
  pub settles_before : {before after : Contents → Program C} {old middle new : S}
      {result : Result (Result A Rule) NoMemory} → Extends (contents old) (contents middle)
      → (sight (rest middle)).basis ≡ (sight (rest old)).basis
      → settle (sight (rest old)).basis.place (sight (rest old)).last (before (contents old))
      ≡ settle (sight (rest middle)).basis.place (sight (rest middle)).last (after (contents middle))
      → Settles contents rest sight middle new result is after
      → Settles contents rest sight old new result is before
  settles_before {before} {after} {old} {middle} {new} {result} keeps stays same h = record {
    keeps = Extends-trans (contents old) (contents middle) (contents new) keeps h.keeps;
    stays = h.stays ∙ stays;
    comes_to = subst (λ p. IfOk result (λ r. p ≡ settled_as (is (contents new)) (sight (rest new)).last r))
        (sym same) h.comes_to;
  }

  -- the same program in other words
  pub same_program : {before after : Contents → Program C} {old new : S}
      {result : Result (Result A Rule) NoMemory} → before (contents old) ≡ after (contents old)
      → Settles contents rest sight old new result is after
      → Settles contents rest sight old new result is before
  same_program {before} {after} {old} {new} same h =
      settles_before (Extends-self (contents old)) refl
      (ap (settle (sight (rest old)).basis.place (sight (rest old)).last) same) h

  -- a built-in name is given, and its entry goes on
  pub given_on : {before : Contents → Program C} {old middle new : S}
      {result : Result (Result A Rule) NoMemory} {x : Name} {given : Given}
      (after : PlainEntry → Contents → Program C) (k : PlainEntry → Program C)
      → FindsBuiltin contents rest sight old middle (Ok (Ok given)) x
      → before (contents old) ≡ look NoBuiltin x k
      → ((g : PlainEntry) → k g ≡ after g (contents middle))
      → ((g : PlainEntry) → entry_at (sight (rest middle)).basis given.entry ≡ Some g
      → Settles contents rest sight middle new result is (after g))
      → Settles contents rest sight old new result is before
  given_on {before} {old} {middle} {new} {result} {x} {given} after k found program goes then =
      let before_it = sight (rest old) in
      let after_it = sight (rest middle) in
      let h = found.finds.found in
      let there : entry_at after_it.basis given.entry ≡ Some h.entry =
      subst (λ c. entry_at c given.entry ≡ Some h.entry) (sym found.stays) h.is in
      let same = ap (settle before_it.basis.place before_it.last) program ∙ given_settles k found
      ∙ ap (settle after_it.basis.place after_it.last) (goes h.entry) in
      settles_before found.keeps found.stays same (then h.entry there)

  -- a built-in name is refused
  pub none_given : {before : Contents → Program C} {old new : S} {x : Name} {r : Rule}
      (k : PlainEntry → Program C) → FindsBuiltin contents rest sight old new (Ok (Err r)) x
      → before (contents old) ≡ look NoBuiltin x k
      → Settles contents rest sight old new (Ok (Err r)) is before
  none_given {before} {old} {new} {x} {r} k found program =
      let before_it = sight (rest old) in
      record {
        keeps = found.keeps;
        stays = found.stays;
        comes_to = ap (settle before_it.basis.place before_it.last) program ∙ none_settles k found;
      }

-- one program behind another
module _ {S R B A C D E : Type 0} {contents : S → Contents} {rest : S → R} {sight : R → Sight B}
    {first : Contents → A → D} {is : Contents → E → C} where
  pub settles_on : {before : Contents → Program C} {program : Contents → Program D} {old middle new : S}
      {result : Result (Result E Rule) NoMemory} {v : A} (after : Contents → Program C) (k : D → Program C)
      → Settles contents rest sight old middle (Ok (Ok v)) first program
      → before (contents old) ≡ (program (contents old) >>= k)
      → k (first (contents middle) v) ≡ after (contents middle)
      → Settles contents rest sight middle new result is after
      → Settles contents rest sight old new result is before
  settles_on {before} {program} {old} {middle} {new} {result} {v} after k s same goes h =
      let b = (sight (rest old)).basis in
      let last = (sight (rest old)).last in
      let seen = (sight (rest middle)).last in
      let x = first (contents middle) v in
      settles_before s.keeps s.stays
      (ap (settle b.place last) same
      ∙ settle_on b.place last seen x (program (contents old)) k s.comes_to
      ∙ ap (settle b.place seen) goes
      ∙ ap (λ (c : Basis B). settle c.place seen (after (contents middle))) (sym s.stays)) h

  pub settles_not : {before : Contents → Program C} {program : Contents → Program D} {old new : S} {r : Rule}
      (k : D → Program C) → Settles contents rest sight old new (Ok (Err r)) first program
      → before (contents old) ≡ (program (contents old) >>= k)
      → Settles contents rest sight old new (Ok (Err r)) is before
  settles_not {before} {program} {old} {new} {r} k s same =
      let b = (sight (rest old)).basis in
      let last = (sight (rest old)).last in
      record {
        keeps = s.keeps;
        stays = s.stays;
        comes_to = ap (settle b.place last) same
            ∙ settle_no b.place last r (program (contents old)) k s.comes_to;
      }
