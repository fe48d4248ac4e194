-- Bytes that lead from one course to another.
use Rattle.std.proofs.Common.{◌≡◌, ◌≢◌, ℕ, List, [], ◌∷◌, ◌++◌, Ok, refl, sym, ◌∙◌, ap, append_assoc, subst}
use Rattle.std.specs.Prelude.{Result, true}
use Rattle.std.proofs.lemmas.List.Elements.{All-append}
use Rattle.lk_token.specs.Lines.{HasNoLineFeed}
use Rattle.lk_lines.specs.declared.line.Fault.{Fault}
use Rattle.lk_lines.specs.declared.line.LineError.{LineError}
use Rattle.lk_lines.specs.declared.line.LineError.TheVariants as errors
use Rattle.lk_book.specs.File.{lines_of, after}
use Rattle.lk_book.specs.Courses.{Step, over, Fails, Goes, Passes, Stops}
use Rattle.lk_book.proofs.FirstLines.{lines_of-line, has_more-lines_of}

after_fails : {A B : Type 0} (e : LineError) (said : Result A Fault) (next : A → Result B Fault) → Fails e said → Fails e (after said next)
after_fails errors.NoMemory said next h = tt
after_fails (errors.Fault f) said next h = rw h refl

-- a line of which the first bytes were held
text_lem : (held line text more : List ℕ) → text ≡ held ++ line → held ++ line ++ 10 ∷ more ≡ text ++ 10 ∷ more
text_lem held line text more e = ap (λ l. l ++ 10 ∷ more) (sym e)

text_none : (held line text : List ℕ) → text ≡ held ++ line → HasNoLineFeed held → HasNoLineFeed line → HasNoLineFeed text
text_none held line text e h i = let P : List ℕ → Type 0 = HasNoLineFeed in subst P (sym e) (All-append (λ b. b ≢ 10) held line h i)

module _ {C : Type 0} (step : Step C) where
  line_over : (c : C) (line more : List ℕ) → HasNoLineFeed line → over step c (lines_of (line ++ 10 ∷ more)) ≡ after (step c true line) (λ d. over step d (lines_of more))
  line_over c line more h = rw (lines_of-line line more h, has_more-lines_of more) refl

  line_then : (c : C) (bytes line more rest : List ℕ) → bytes ≡ line ++ 10 ∷ more → HasNoLineFeed line
      → over step c (lines_of (bytes ++ rest)) ≡ after (step c true line) (λ d. over step d (lines_of (more ++ rest)))
  line_then c bytes line more rest e h = rw (e, append_assoc line (10 ∷ more) rest) (line_over c line (more ++ rest) h)

  pub passes_none : (Stands : C → Type 0) (c : C) (bytes : List ℕ) → Stands c → Passes step Stands c bytes bytes
  passes_none Stands c bytes h = record { course = c; stands = h; leads = λ rest. refl }

  -- one line more
  pub passes_line : (Stands New : C → Type 0) (c : C) (whole bytes line more : List ℕ) (p : Passes step Stands c whole bytes) → bytes ≡ line ++ 10 ∷ more → HasNoLineFeed line
      → Goes New (Ok tt) (step p.course true line) → Passes step New c whole more
  passes_line Stands New c whole bytes line more p e h g = record {
    course = g.0;
    stands = g.2;
    leads = λ rest. p.leads rest ∙ line_then p.course bytes line more rest e h ∙ ap (λ said. after said (λ d. over step d (lines_of (more ++ rest)))) g.1;
  }

  pub passes_stops : (Stands : C → Type 0) (c : C) (whole bytes line more : List ℕ) (x : LineError) (p : Passes step Stands c whole bytes) → bytes ≡ line ++ 10 ∷ more → HasNoLineFeed line
      → Fails x (step p.course true line) → Stops step x c whole
  passes_stops Stands c whole bytes line more x p e h g rest =
      let is = p.leads rest ∙ line_then p.course bytes line more rest e h in
      let P : Result C Fault → Type 0 = Fails x in
      subst P (sym is) (after_fails x (step p.course true line) (λ d. over step d (lines_of (more ++ rest))) g)

  pub passes_then : (Stands New : C → Type 0) (c : C) (whole bytes left : List ℕ) (p : Passes step Stands c whole bytes) → Passes step New p.course bytes left → Passes step New c whole left
  passes_then Stands New c whole bytes left p q = record { course = q.course; stands = q.stands; leads = λ rest. p.leads rest ∙ q.leads rest }

  pub stops_then : (Stands : C → Type 0) (c : C) (whole bytes : List ℕ) (x : LineError) (p : Passes step Stands c whole bytes) → Stops step x p.course bytes → Stops step x c whole
  stops_then Stands c whole bytes x p h rest = let P : Result C Fault → Type 0 = Fails x in subst P (sym (p.leads rest)) (h rest)

  pub held_passes : (Stands New : C → Type 0) (c : C) (held line text more : List ℕ) → text ≡ held ++ line → HasNoLineFeed held → HasNoLineFeed line → Stands c
      → Goes New (Ok tt) (step c true text) → Passes step New c (held ++ line ++ 10 ∷ more) more
  unfolding passes_none
  held_passes Stands New c held line text more e h i s g =
      passes_line Stands New c _ _ text more (passes_none Stands c (held ++ line ++ 10 ∷ more) s) (text_lem held line text more e) (text_none held line text e h i) g

  pub held_stops : (Stands : C → Type 0) (c : C) (held line text more : List ℕ) (x : LineError) → text ≡ held ++ line → HasNoLineFeed held → HasNoLineFeed line → Stands c
      → Fails x (step c true text) → Stops step x c (held ++ line ++ 10 ∷ more)
  unfolding passes_none
  held_stops Stands c held line text more x e h i s g =
      passes_stops Stands c _ _ text more x (passes_none Stands c (held ++ line ++ 10 ∷ more) s) (text_lem held line text more e) (text_none held line text e h i) g

  pub passes_left : (Stands : C → Type 0) (c : C) (whole left clear kept : List ℕ) → clear ≡ [] → kept ≡ clear ++ left → Passes step Stands c whole left → Passes step Stands c whole kept
  passes_left Stands c whole left clear kept none e p = let P : List ℕ → Type 0 = Passes step Stands c whole in subst P (sym (rw none at e)) p
