-- A part of a sound table is sound, and what it answers the table answers.
use Rattle.std.proofs.Common.{ℕ, zero, suc, ◌≡◌, ◌-◌, Option, Some, None, refl, ap}
use Rattle.lk_tree.specs.declared.rule.Rule.{Rule}
use Rattle.lk_rulebook.specs.Place.{Place, Entry}
use Rattle.lk_questions.specs.Query.{Query, AnswerTo}
use Rattle.lk_questions.specs.Program.{Program, done, refuse, ask, look, Table, ◌>>=◌}
use Rattle.lk_questions.specs.Answer.{Outcome, answered, refused, spent, after, and_then, looked_up, IfAnswered, outcome_of, answer_to_depth, plain_answer}
use Rattle.lk_questions.specs.Sound.{IsJustified, IsSound, IsSoundTable}
use Rattle.lk_questions.specs.Parts.{IsPart, stops, ends, asks, looks, IsPartOf}

-- each program is a part of itself
pub part_itself : {A : Type 0} (p : Program A) → IsPart p p
part_itself (done v) = ends
part_itself (refuse r) = stops
part_itself (ask q k) = asks (λ v. part_itself (k v))
part_itself (look r c k) = looks (λ e. part_itself (k e))

-- a row by hand that follows the table's program so far
pub part_bind : {A B : Type 0} (p whole : Program A) (k l : A → Program B) → IsPart p whole → ((v : A) → IsPart (k v) (l v)) → IsPart (p >>= k) (whole >>= l)
part_bind _ _ k l stops h = stops
part_bind _ _ k l (ends {v = v}) h = h v
part_bind _ _ k l (asks {k = f} {whole = g} i) h = asks (λ v. part_bind (f v) (g v) k l (i v) h)
part_bind _ _ k l (looks {k = f} {whole = g} i) h = looks (λ e. part_bind (f e) (g e) k l (i e) h)

-- a part of a sound program is sound
pub sound_part : {A : Type 0} (w : Place) (p whole : Program A) (P : A → Type 0) → IsPart p whole → IsSound w whole P → IsSound w p P
sound_part w _ _ P stops s = tt
sound_part w _ _ P ends s = s
sound_part w _ _ P (asks {k = k} {whole = l} h) s = (s.0, λ v m. sound_part w (k v) (l v) P (h v) (s.1 v m))
sound_part w _ _ P (looks {k = k} {whole = l} h) s = λ e m. sound_part w (k e) (l e) P (h e) (s e m)

pub sound_part_of : (part table : Table) → IsPartOf part table → IsSoundTable table → IsSoundTable part
sound_part_of part table h s w ok q a = sound_part w (part q) (table q) (IsJustified w q) (h q) (s w ok q a)

-- what o answers o' answers too
abbrev pub Gives : {A : Type 0} → Outcome A → Outcome A → Type 0
Gives o o' = IfAnswered o (λ v c t. o' ≡ answered v c t)

pub gives_after : {A : Type 0} (c : ℕ) (t : Option ℕ) (o o' : Outcome A) → Gives o o' → Gives (after c t o) (after c t o')
gives_after c t (answered v d u) o' h = ap (after c t) h
gives_after c t (refused r) o' h = tt
gives_after c t spent o' h = tt

pub gives_then : {A B : Type 0} (o o' : Outcome A) (k l : A → ℕ → Outcome B) → Gives o o' → ((v : A) (c : ℕ) → Gives (k v c) (l v c)) → Gives (and_then o k) (and_then o' l)
gives_then (answered v c t) o' k l h g = rw h (gives_after c t (k v c) (l v c) (g v c))
gives_then (refused r) o' k l h g = tt
gives_then spent o' k l h g = tt

pub gives_found : {A : Type 0} (r : Rule) (m : Option Entry) (n : ℕ) (f : Option Rule) (k l : Entry → Outcome A) → ((e : Entry) → Gives (k e) (l e)) → Gives (looked_up r m n f k) (looked_up r m n f l)
gives_found r None n f k l g = tt
gives_found r (Some e) n f k l g = gives_after 0 (Some n) (k e) (l e) (g e)

pub run_gives : {A : Type 0} (w : Place) (f g : (q : Query) → ℕ → Outcome (AnswerTo q)) → ((q : Query) (b : ℕ) → Gives (f q b) (g q b)) →
    (p whole : Program A) (b : ℕ) → IsPart p whole → Gives (outcome_of w f b p) (outcome_of w g b whole)
run_gives w f g h _ _ b stops = tt
run_gives w f g h _ _ b ends = refl
run_gives w f g h _ _ b (asks {q = q} {k = k} {whole = l} i) =
    gives_then (f q b) (g q b) (λ v c. outcome_of w f (b - c) (k v)) (λ v c. outcome_of w g (b - c) (l v)) (h q b) (λ v c. run_gives w f g h (k v) (l v) (b - c) (i v))
run_gives w f g h _ _ b (looks {r = r} {c = c} {k = k} {whole = l} i) =
    gives_found r (w.means c) (w.origin c) (w.flaw c) (λ e. outcome_of w f b (k e)) (λ e. outcome_of w g b (l e)) (λ e. run_gives w f g h (k e) (l e) b (i e))

answer_gives : (part table : Table) → IsPartOf part table → (w : Place) (depth : ℕ) (q : Query) (b : ℕ) → Gives (answer_to_depth part w depth q b) (answer_to_depth table w depth q b)
unfolding answer_to_depth
answer_gives part table h w zero q b = tt
answer_gives part table h w (suc depth) q zero = tt
answer_gives part table h w (suc depth) q (suc b) =
    gives_after 1 None (outcome_of w (answer_to_depth part w depth) b (part q)) (outcome_of w (answer_to_depth table w depth) b (table q))
    (run_gives w (answer_to_depth part w depth) (answer_to_depth table w depth) (λ x i. answer_gives part table h w depth x i) (part q) (table q) b (h q))

pub ans_gives : (part table : Table) → IsPartOf part table → (w : Place) (q : Query) (b : ℕ) → Gives (plain_answer part w q b) (plain_answer table w q b)
ans_gives part table h w q b = answer_gives part table h w b q b
