-- What a program is done with, whatever answers come.
use Rattle.std.proofs.Common.{◌≡◌, Bool, true, false, refl, if◌then◌else◌}
use Rattle.lk_tree.specs.declared.rule.Rule.{Rule}
use Rattle.lk_rulebook.specs.Place.{Entry}
use Rattle.lk_questions.specs.Query.{AnswerTo}
use Rattle.lk_questions.specs.Program.{Program, done, refuse, ask, look, ◌>>=◌}
use Rattle.lk_questions.specs.Steps.{given}

-- it has the property
abbrev pub Always : {A : Type 0} → Program A → (A → Type 0) → Type 0
Always (done v) P = P v
Always (refuse r) P = Unit {0}
Always (ask q k) P = (v : AnswerTo q) → Always (k v) P
Always (look r c k) P = (e : Entry) → Always (k e) P

pub always_any : {A : Type 0} (p : Program A) → Always p (λ v. Unit {0})
always_any (done v) = tt
always_any (refuse r) = tt
always_any (ask q k) = λ v. always_any (k v)
always_any (look r c k) = λ e. always_any (k e)

pub always_bind : {A B : Type 0} (p : Program A) (k : A → Program B) (Q : A → Type 0) (P : B → Type 0) → Always p Q → ((v : A) → Q v → Always (k v) P) → Always (p >>= k) P
always_bind (done v) k Q P s h = h v s
always_bind (refuse r) k Q P s h = tt
always_bind (ask q f) k Q P s h = λ v. always_bind (f v) k Q P (s v) h
always_bind (look r c f) k Q P s h = λ e. always_bind (f e) k Q P (s e) h

pub always_given : {A : Type 0} (b : Bool) (r : Rule) (p : Program A) (P : A → Type 0) → (b ≡ true → Always p P) → Always (given b r p) P
always_given true r p P h = h refl
always_given false r p P h = tt

pub always_if : {A : Type 0} (b : Bool) (p q : Program A) (P : A → Type 0) → Always p P → Always q P → Always (if b then p else q) P
always_if true p q P h i = h
always_if false p q P h i = i
