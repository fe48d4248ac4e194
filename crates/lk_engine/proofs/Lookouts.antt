-- What a step, an answer that is kept, and a question leave of a lookout, and what they come to.
use Rattle.std.proofs.Common.{◌≡◌, ◌≢◌, ℕ, Bool, true, false, ◌<◌, [], Option, Some, None, Ok, Err, Result, refl, ap, sym, subst, ◌∙◌, arith}
use Rattle.std.specs.Prelude.{IfOk, IfErr, IfSome, OnOk}
use Rattle.lk_questions.specs.Erased.{Steps}
use Rattle.lk_rulebook.specs.Units.{Members}
use Rattle.lk_rulebook.specs.Units.{place_of as unit_place}
use Rattle.lk_questions.specs.Table.{steps}
use Rattle.lk_store.specs.declared.tables.Tables.{Tables}
use Rattle.lk_store.specs.declared.memory.NoMemory.{NoMemory as Wanting}
use Rattle.lk_store.specs.Contents.{Contents, tree_at, Extends}
use Rattle.lk_store.specs.Store.{over, contents_of}
use Rattle.lk_store.proofs.Extending.{Extends-trans}
use Rattle.lk_store.proofs.Made.{Extends-self}
use Rattle.lk_store.specs.Layers.{layers_contents, Layers}
use Rattle.lk_env.specs.declared.entry.Partial.{Partial}
use Rattle.lk_env.specs.declared.entry.Site.{Site}
use Rattle.lk_env.specs.Scopes.{place_in}
use Rattle.lk_env.specs.Units.{library_of}
use Rattle.lk_env.specs.StoredScope.{StoredScope, lent_by}
use Rattle.lk_meter.specs.declared.meter.Meter.{Meter}
use Rattle.lk_ask.specs.declared.kept.Kept.{Kept}
use Rattle.lk_ask.specs.declared.next.Next.{Next}
use Rattle.lk_ask.specs.declared.next.Next.TheVariants.{Done}
use Rattle.lk_ask.specs.declared.query.Query.{Query}
use Rattle.lk_ask.specs.declared.query.Answer.{Answer}
use Rattle.lk_ask.specs.declared.stop.Stop.{Stop}
use Rattle.lk_ask.specs.declared.stop.Stop.TheVariants.{Spent, NoMemory}
use Rattle.lk_ask.specs.Questions.{query_of, value_at, IsKnownAnswer}
use Rattle.lk_ask.specs.Gives.{Gives}
use Rattle.lk_ask.specs.Looks.{Sight}
use Rattle.lk_ask.specs.Outcomes.{IsStop}
use Rattle.lk_ask.specs.Outlook.{Outlook}
use Rattle.lk_engine.specs.Sheets.{AnySheet, IsKnownAny}
use Rattle.lk_memo.specs.declared.memo.PrivateMemo.{PrivateMemo}
use Rattle.lk_desk.specs.Job.{job_of}
use Rattle.lk_engine.specs.Entries.{IsTrueAt, AreTrue}
use Rattle.lk_engine.specs.Lookouts.{place_of, AreTrueAt, standing_at, places_at, out_at, GivesMembers, Stays, Metered, Pays, Repeats, Opens, Answers, Tidies, Shares, Stands}
use Rattle.lk_engine.specs.Rests.{next_of, Starts}
use Rattle.lk_engine.proofs.Frames.{entries_steady}
use Rattle.lk_engine.proofs.Links.{opened, opened_waits, not_opened}
use Rattle.lk_engine.proofs.Waiting.{waits_given}
use Rattle.lk_engine.specs.Shared.{Shared}

-- what a lookout sees, by all but its terms
abbrev pub sight_at : {R : Type 0} → StoredScope × Site × Meter × R → Sight (StoredScope × Site × R)
sight_at r = record {
  basis = record {
    library = lent_by r.0;
    place = place_in r.0 r.1;
    left = r.2.left;
    beside = (r.0, r.1, r.3);
  };
  last = r.2.last;
}

-- a step over a lookout
abbrev IsStep : {T R : Type 0} → (T → Contents) → (T → R) → Outlook T → Outlook T
    → Result (Next ℕ (AnySheet ℕ)) Wanting → Steps → Type 0
IsStep contents rest old new result does = Gives IsKnownAny next_of (λ s. contents s.terms)
    (λ s. (s.scope, s.site, s.meter, rest s.terms)) sight_at old new result does

-- what is answered is what was kept
kept_known : (n : ℕ) (kept : Answer ℕ) (r : Result (Answer ℕ) Stop)
    → IfOk r (λ answer. answer ≡ kept) → IsKnownAnswer n kept → IfOk r (IsKnownAnswer n)
kept_known n kept (Ok answer) is h = rw is h
kept_known n kept (Err stop) is h = tt

spent_only : (left cost : ℕ) (r : Result (Answer ℕ) Stop)
    → IfErr r (λ e. (e ≡ Spent) × (left < cost)) → r ≢ Err NoMemory
spent_only left cost (Ok answer) h e = absurd cc
spent_only left cost (Err stop) h e = let p = h.0 in absurd cc

pub repeat_has_memory : {T : Type 0} {old new : Outlook T} {kept : Kept}
    {result : Result (Answer ℕ) Stop} → Repeats old new result kept → result ≢ Err NoMemory
repeat_has_memory {T} {old} {new} {kept} {result} r = spent_only old.meter.left kept.cost
    result r.spent

module _ {T R : Type 0} {contents : T → Contents} {rest : T → R} where
  pub standing_stays : {old new : Outlook T} → Stays contents rest old new
      → standing_at new.scope new.site ≡ standing_at old.scope old.site
  standing_stays {old} {new} h =
      ap (λ l. standing_at l new.site) h.library ∙ ap (standing_at old.scope) h.site

  pub place_stays : {old new : Outlook T} → Stays contents rest old new → place_of new ≡ place_of old
  place_stays h = ap (λ s. s.place) (standing_stays h)

  -- what is kept is true where it was, and the other way
  pub entries_there : {old new : Outlook T} {c : Contents} {memo : PrivateMemo} → Stays contents rest old new
      → AreTrueAt old c memo → AreTrueAt new c memo
  entries_there {old} {new} {c} {memo} h e =
      subst (λ (l : StoredScope). AreTrue l.library (place_of new) c memo) (sym h.library)
      (subst (λ w. AreTrue old.scope.library w c memo) (sym (place_stays h)) e)

  pub entries_back : {old new : Outlook T} {c : Contents} {memo : PrivateMemo} → Stays contents rest old new
      → AreTrueAt new c memo → AreTrueAt old c memo
  entries_back {old} {new} {c} {memo} h e =
      subst (λ (l : StoredScope). AreTrue l.library (place_of old) c memo) h.library
      (subst (λ w. AreTrue new.scope.library w c memo) (place_stays h) e)

  pub stays_on : {old between new : Outlook T} → Stays contents rest old between
      → Stays contents rest between new → Stays contents rest old new
  stays_on g h = record {
    library = h.library ∙ g.library;
    site = h.site ∙ g.site;
    keeps =
        Extends-trans _ _ _ g.keeps h.keeps;
    others = h.others ∙ g.others;
  }

  pub metered_stays : {old new : Outlook T} → Metered old new → Stays contents rest old new
  metered_stays {old} {new} h = record {
    library = h.library;
    site = h.site;
    keeps = rw h.terms
        (Extends-self (contents old.terms));
    others = ap rest h.terms;
  }

  -- terms were made, and of what is seen no more than the last unit is another one
  pub sight_stays : {old new : Outlook T} → Extends (contents old.terms) (contents new.terms)
      → (sight_at (new.scope, new.site, new.meter, rest new.terms)).basis
      ≡ (sight_at (old.scope, old.site, old.meter, rest old.terms)).basis
      → Stays contents rest old new
  sight_stays keeps same = record {
    library = ap (λ b. b.beside.0) same;
    site = ap (λ b. b.beside.1) same;
    keeps = keeps;
    others = ap (λ b. b.beside.2) same;
  }

  pub step_stays : {old new : Outlook T} {result : Result (Next ℕ (AnySheet ℕ)) Wanting} {does : Steps}
      → IsStep contents rest old new result does → Stays contents rest old new
  step_stays h = sight_stays h.keeps h.stays

  -- a question is opened
  pub first_opens : {old between new : Outlook T} {query : Query ℕ} {next : Next ℕ (AnySheet ℕ)}
      → Pays old between (Ok tt) 1 None
      → Starts (λ s. contents s.terms) (λ s. (s.scope, s.site, s.meter, rest s.terms)) sight_at between new (Ok next) query
      → Opens contents rest old new (Ok next) query
  first_opens {old} {between} {new} {query} {next} p h =
      let left : new.meter.left ≡ between.meter.left = ap (λ b. b.left) h.stays in
      let place : place_of between ≡ place_of old = place_stays (metered_stays p.stays) in
      let runs = rw (place, p.stays.terms, p.last) at h.runs in
      record {
        stays = stays_on (metered_stays p.stays) (sight_stays h.keeps h.stays);
        known = h.known;
        runs = opened (place_of old) (tree_at (contents old.terms)) (tree_at (contents new.terms)) query
            next old.meter.left new.meter.left new.meter.last (omega (arith, p.paid.0)) (left ∙ p.paid.1) runs;
        waits = opened_waits (place_of old) (tree_at (contents old.terms)) (tree_at (contents new.terms)) query
            next new.meter.last runs;
        less = omega (arith, p.paid, left);
        err = tt;
      }

  -- nothing is left for it
  pub not_paid : {old new : Outlook T} {query : Query ℕ} {stop : Stop} → Pays old new (Err stop) 1 None
      → Opens contents rest old new (Err stop) query
  not_paid {old} {new} {query} p = record {
    stays = metered_stays p.stays;
    known = tt;
    runs = tt;
    waits = tt;
    less = tt;
    err = rw p.spent.0 (not_opened (place_of old) (tree_at (contents old.terms)) query old.meter.left
        p.spent.1);
  }

  -- its answer is kept
  pub repeat_opens : {old new : Outlook T} {query : Query ℕ} {kept : Kept} {answer : Answer ℕ}
      → Repeats old new (Ok answer) kept
      → IsTrueAt (place_of old) (contents old.terms) query kept
      → Opens contents rest old new (Ok (Done answer)) query
  repeat_opens {old} {new} {query} {kept} {answer} r h = record {
    stays = metered_stays r.stays;
    known = rw (r.answer, r.stays.terms) h.answer;
    runs = rw r.stays.terms (sym (r.exact (contents old.terms) _ h.is));
    waits = waits_given steps (place_of old) (query_of (tree_at (contents old.terms)) query) new.meter.last
        (value_at (tree_at (contents new.terms)) answer);
    less = omega (arith, r.paid, h.is.some);
    err = tt;
  }

  pub repeat_stops : {old new : Outlook T} {query : Query ℕ} {kept : Kept} {stop : Stop}
      → Repeats old new (Err stop) kept
      → IsTrueAt (place_of old) (contents old.terms) query kept
      → Opens contents rest old new (Err stop) query
  repeat_stops {old} r h = record {
    stays = metered_stays r.stays;
    known = tt;
    runs = tt;
    waits = tt;
    less = tt;
    err =
        r.exact (contents old.terms) _ h.is;
  }

  pub repeat_answers : {old new : Outlook T} {query : Query ℕ} {kept : Kept}
      {result : Result (Answer ℕ) Stop} {later : PrivateMemo}
      → Repeats old new result kept → IsTrueAt (place_of old) (contents old.terms) query kept
      → AreTrueAt old (contents old.terms) later
      → Answers contents rest old new later result query
  repeat_answers {old} {new} {query} {kept} {result} r h true_later = record {
    stays = metered_stays r.stays;
    entries_true = rw r.stays.terms true_later;
    known = kept_known _ kept.answer result r.answer (rw r.stays.terms h.answer);
    outcome = rw r.stays.terms (r.exact (contents old.terms) _ h.is);
    nothing_left = λ l. repeat_has_memory r;
  }

  -- a question has no answer
  pub halts : {old new : Outlook T} {query : Query ℕ} {stop : Stop} {later : PrivateMemo}
      → Stays contents rest old new → AreTrueAt old (contents new.terms) later
      → IsStop (out_at contents old query) stop → (old.meter.left ≡ 0 → stop ≢ NoMemory)
      → Answers contents rest old new later (Err stop) query
  halts s e h n = record {
    stays = s;
    entries_true = e;
    known = tt;
    outcome = h;
    nothing_left = λ l same. n l (cc);
  }

-- a question that was opened, and one for which nothing is left
pub not_spent : {A : Type 0} (r : Result A Stop) (x : A) → r ≡ Ok x → r ≡ Err Spent → ⊥
not_spent r x p q = absurd cc

pub has_memory : {A : Type 0} (r : Result A Stop) (stop : Stop) → r ≡ Err stop → r ≡ Err Spent
    → stop ≢ NoMemory
has_memory r stop p q e = absurd cc

-- a desk is for the library and the place that stood
pub shares_on : (old new : Outlook Layers) (share : Option Shared) → new.scope.library ≡ old.scope.library
    → place_of new ≡ place_of old → IfSome share (Shares old) → IfSome share (Shares new)
shares_on old new None library place h = tt
shares_on old new (Some share) library place h = record {
  job = h.job ∙ ap job_of (sym library);
  looks = λ unit is. place ∙ h.looks unit is
      ∙ ap (λ l. unit_place (library_of l) unit []) (sym library);
}

-- an engine goes on
pub still_stands : {old new : Outlook Layers} {memo later : PrivateMemo}
    {share : Option Shared} → Stays layers_contents (λ l. l.base) old new
    → Stands old memo share → AreTrueAt old (layers_contents new.terms) later
    → Stands new later share
still_stands {old} {new} {memo} {later} {share} h s e = record {
  base = h.others ∙ s.base ∙ ap (λ (l : StoredScope). l.library.tables) (sym h.library);
  entries_true = entries_there h e;
  shared = shares_on old new share (ap (λ (l : StoredScope). l.library) h.library) (place_stays h) s.shared;
}

-- the same, where nothing else is kept
pub looked_stands : {old new : Outlook Layers} {memo : PrivateMemo} {share : Option Shared}
    → Stays layers_contents (λ l. l.base) old new → Stands old memo share
    → Stands new memo share
looked_stands {old} {new} {memo} h s =
    still_stands h s (entries_steady h.keeps old.scope.library (place_of old) memo s.entries_true)

-- the same, after terms were made
pub made_stands : {old new : Outlook Layers} {memo : PrivateMemo} {share : Option Shared}
    → ◌≡◌ {A = StoredScope × Site × Meter × Tables} (new.scope, new.site, new.meter, new.terms.base)
    (old.scope, old.site, old.meter, old.terms.base)
    → Extends (layers_contents old.terms) (layers_contents new.terms)
    → Stands old memo share → Stands new memo share
made_stands {old} {new} {memo} h x s =
    still_stands (record {
      library = ap (λ r. r.0) h;
      site = ap (λ r. r.1) h;
      keeps = x;
      others = ap
          (λ r. r.3) h;
    }) s (entries_steady x old.scope.library (place_of old) memo s.entries_true)

-- what is given is how questions are answered from then on
pub gives_standing : {old new : Outlook Layers} {partial : Partial} {aux : Members} → GivesMembers old new partial aux
    → standing_at new.scope new.site ≡ record { basis = (old.scope.library, old.site.unit); table = steps; place = places_at (old.scope.library, old.site.unit) partial aux }
gives_standing {old} {new} {partial} {aux} h = rw (h.library, h.site, h.auxiliary) refl

-- what is given beside, where there was memory, is how questions are answered from then on
pub gives_beside : (old new : Outlook Layers) (partial : Partial) (aux : Members) (r : Result (Unit {0}) Wanting) → OnOk r (GivesMembers old new partial aux)
    → OnOk r (standing_at new.scope new.site ≡ record { basis = (old.scope.library, old.site.unit); table = steps; place = places_at (old.scope.library, old.site.unit) partial aux })
gives_beside old new partial aux (Ok u) h = gives_standing h
gives_beside old new partial aux (Err e) h = tt

-- and who is at work stays in any case
pub gives_basis : (old new : Outlook Layers) (partial : Partial) (aux : Members) (r : Result (Unit {0}) Wanting) → OnOk r (GivesMembers old new partial aux)
    → IfErr r (λ e. new ≡ old) → (standing_at new.scope new.site).basis ≡ (standing_at old.scope old.site).basis
gives_basis old new partial aux (Ok u) h e = rw (h.library, h.site) refl
gives_basis old new partial aux (Err x) h e = ap (λ s. (s.scope.library, s.site.unit)) e

-- a store over a library's has what the library has, once it was tidied
pub tidied : (library : Tables) (scope : Contents) (old new : Layers) (stays : Bool)
    → old.base ≡ library → Extends (contents_of library) scope
    → Extends scope (layers_contents old) → Tidies old new stays
    → Extends (contents_of library) (layers_contents new)
tidied library scope old new true base x y h =
    subst (λ t. Extends (contents_of library) (layers_contents t)) (sym (h.same refl))
    (Extends-trans (contents_of library) scope (layers_contents old) x y)
tidied library scope old new false base x y h = subst (λ c. Extends (contents_of library) c)
    (sym (h.emptied refl ∙ ap (λ t. contents_of t) base)) (Extends-self (contents_of library))
