-- How what holds of an answer goes through after, and_then and looked_up.
use Rattle.std.proofs.Common.{ℕ, ◌≡◌, ◌+◌, Option, Some, None, refl, ap, subst}
use Rattle.lk_tree.specs.declared.rule.Rule.{Rule}
use Rattle.lk_rulebook.specs.Place.{Entry}
use Rattle.lk_questions.specs.Answer.{Outcome, answered, refused, spent, after, and_then, looked_up, later, IfAnswered}

pub if_after : {A : Type 0} (P : A → ℕ → Option ℕ → Type 0) (c : ℕ) (t : Option ℕ) (o : Outcome A) →
    IfAnswered o (λ v d u. P v (c + d) (later t u)) → IfAnswered (after c t o) P
if_after P c t (answered v d u) h = h
if_after P c t (refused r) h = tt
if_after P c t spent h = tt

pub if_and_then : {A B : Type 0} (Q : A → ℕ → Option ℕ → Type 0) (P : B → ℕ → Option ℕ → Type 0) (o : Outcome A) (next : A → ℕ → Outcome B) →
    IfAnswered o Q →
    ((v : A) (c : ℕ) (t : Option ℕ) → Q v c t → IfAnswered (next v c) (λ u d s. P u (c + d) (later t s))) →
    IfAnswered (and_then o next) P
if_and_then Q P (answered v c t) next q h = if_after P c t (next v c) (h v c t q)
if_and_then Q P (refused r) next q h = tt
if_and_then Q P spent next q h = tt

pub if_found : {A : Type 0} (P : A → ℕ → Option ℕ → Type 0) (r : Rule) (m : Option Entry) (n : ℕ) (f : Option Rule) (next : Entry → Outcome A) →
    ((e : Entry) → m ≡ Some e → IfAnswered (next e) (λ v d u. P v (0 + d) (later (Some n) u))) →
    IfAnswered (looked_up r m n f next) P
if_found P r None n f next h = tt
if_found P r (Some e) n f next h = if_after P 0 (Some n) (next e) (h e refl)

pub if_map : {A : Type 0} (P Q : A → ℕ → Option ℕ → Type 0) (o : Outcome A) →
    ((v : A) (c : ℕ) (t : Option ℕ) → P v c t → Q v c t) → IfAnswered o P → IfAnswered o Q
if_map P Q (answered v c t) f h = f v c t h
if_map P Q (refused r) f h = tt
if_map P Q spent f h = tt

pub and_then_same : {A B : Type 0} (o : Outcome A) (f g : A → ℕ → Outcome B) → ((v : A) (c : ℕ) → f v c ≡ g v c) → and_then o f ≡ and_then o g
and_then_same (answered v c t) f g h = ap (after c t) (h v c)
and_then_same (refused r) f g h = refl
and_then_same spent f g h = refl

pub found_same : {A : Type 0} (r : Rule) (m : Option Entry) (n : ℕ) (fl : Option Rule) (f g : Entry → Outcome A) → ((e : Entry) → f e ≡ g e) → looked_up r m n fl f ≡ looked_up r m n fl g
found_same r None n fl f g h = refl
found_same r (Some e) n fl f g h = ap (after 0 (Some n)) (h e)

-- an entry that is there
pub found_there : {A : Type 0} (r : Rule) (m : Option Entry) (n : ℕ) (fl : Option Rule) (e : Entry) (next : Entry → Outcome A) →
    m ≡ Some e → looked_up r m n fl next ≡ after 0 (Some n) (next e)
found_there r m n fl e next there = rw there refl

-- P of the answer that there is
pub of_answered : {A : Type 0} (P : A → ℕ → Option ℕ → Type 0) (o : Outcome A) (v : A) (c : ℕ) (t : Option ℕ) →
    o ≡ answered v c t → IfAnswered o P → P v c t
of_answered P o v c t e h = subst (λ x. IfAnswered x P) e h
