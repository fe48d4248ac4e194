-- The end of a type, and a type after the first one.
use Rattle.std.proofs.Common.{◌≡◌, ℕ, Bool, true, false, List, length, Ok, Err, Result, refl, sym, ap, subst, ◌∙◌}
use Rattle.lk_tree.specs.Tree.{Tree, Level}
use Rattle.lk_tree.specs.LevelTest.{level_test}
use Rattle.lk_tree.specs.declared.rule.Rule.TheVariants.{BlockShape}
use Rattle.lk_questions.specs.Program.{Program, done, refuse, ◌>>=◌}
use Rattle.lk_questions.specs.Steps.{given, sort_of}
use Rattle.lk_questions.specs.Levels.{tested}
use Rattle.lk_inductive.specs.BlockSteps.{telescope, over, type_end}
use Rattle.lk_ask.specs.declared.stop.Stop.{Stop}
use Rattle.lk_ask.specs.declared.stop.Stop.TheVariants.{No, Spent, NoMemory}
use Rattle.lk_ask.specs.Asking.{Standing}
use Rattle.lk_declaration.specs.Courses.{Goes, Halts, ComesTo, Refuses}
use Rattle.lk_block.specs.Forms.{level_form, end_form, next_form}
use Rattle.lk_declaration.proofs.Running.{goes_on, halts_later, gives_on, halts_first, settles_on, ends_at}

module _ {Base : Type 0} (t u : Standing Base) (stays : u ≡ t) (j n : ℕ) (r : Tree) (b : ℕ) where
  pub end_halts : (stop : Stop) → Halts t (telescope j n r) b stop → Halts t (type_end j n r) b stop
  end_halts stop h = halts_first t (telescope j n r) (λ xs. level_form xs.1 >>= λ l. done (xs.0, l)) b stop h

  pub end_halts_later : (xs : List Tree) (e : Tree) (c : ℕ) (stop : Stop) → Goes t (telescope j n r) b (xs, e) c → Halts u (level_form e) c stop → Halts t (type_end j n r) b stop
  end_halts_later xs e c stop first h =
      halts_later t u stays (telescope j n r) (λ xs. level_form xs.1 >>= λ l. done (xs.0, l)) b c (xs, e) stop first
      (halts_first u (level_form e) (λ l. done (xs, l)) c stop h)

  pub end_goes : (xs qs : List Tree) (e : Tree) (l : Level) (c d : ℕ) → Goes t (telescope j n r) b (xs, e) c → Goes u (level_form e) c l d → qs ≡ xs → Goes t (type_end j n r) b (qs, l) d
  end_goes xs qs e l c d first second kept =
      goes_on t u stays (telescope j n r) (λ xs. level_form xs.1 >>= λ l. done (xs.0, l)) b c d (xs, e) (qs, l) first
      (ends_at u (level_form e) (λ l. done (xs, l)) c d d l (xs, l) (qs, l) second refl (ap (λ q. (q, l)) kept) refl)

module _ {Base : Type 0} (t : Standing Base) (j n : ℕ) (r : Tree) (b : ℕ) (l l' m : Level) (qs : List Tree) (c : ℕ) (level_kept : l' ≡ l) where
  moved_test : (p : Program Bool) → tested (level_test m l') ≡ p → (tested (level_test m l) >>= λ equal. given equal BlockShape (done qs)) ≡ (p >>= λ equal. given equal BlockShape (done qs))
  moved_test p e = ap (λ k. tested (level_test m k) >>= λ equal. given equal BlockShape (done qs)) (sym level_kept) ∙ ap (λ q. q >>= λ equal. given equal BlockShape (done qs)) e

  pub at_level_goes : (equal : Bool) → Goes t (type_end j n r) b (qs, m) c → tested (level_test m l') ≡ done equal → equal ≡ true → Goes t (end_form j n l r) b qs c
  at_level_goes equal first e agrees =
      settles_on t (type_end j n r) (λ e. tested (level_test e.1 l) >>= λ equal. given equal BlockShape (done e.0)) b c (qs, m) (λ (q : List Tree). q) (Ok qs) first
      (moved_test (done equal) e ∙ ap (λ q. given q BlockShape (done qs)) agrees)

  pub at_level_differs : (equal : Bool) → Goes t (type_end j n r) b (qs, m) c → tested (level_test m l') ≡ done equal → equal ≡ false → Halts t (end_form j n l r) b (No BlockShape)
  at_level_differs equal first e differs =
      settles_on t (type_end j n r) (λ e. tested (level_test e.1 l) >>= λ equal. given equal BlockShape (done e.0)) b c (qs, m) (λ (q : List Tree). q) (Err (No BlockShape)) first
      (moved_test (done equal) e ∙ ap (λ q. given q BlockShape (done qs)) differs)

  pub at_level_stops : (stop : Stop) → Goes t (type_end j n r) b (qs, m) c → Refuses (tested (level_test m l')) stop → Halts t (end_form j n l r) b stop
  at_level_stops stop first e = settles_on t (type_end j n r) (λ e. tested (level_test e.1 l) >>= λ equal. given equal BlockShape (done e.0)) b c (qs, m) (λ (q : List Tree). q) (Err stop) first (go stop e)
    where
      go : (s : Stop) → Refuses (tested (level_test m l')) s → Refuses (tested (level_test m l) >>= λ equal. given equal BlockShape (done qs)) s
      go (No q) h = moved_test (refuse q) h
      go Spent h = absurd h
      go NoMemory h = tt

module _ {Base : Type 0} (t u : Standing Base) (stays : u ≡ t) (ps ps' : List Tree) (T T' : Tree) (l l' : Level) (n : ℕ) (b : ℕ)
    (params_kept : ps' ≡ ps) (kind_kept : T' ≡ T) where
  pub next_halts_later : (s : Level) (c : ℕ) (stop : Stop) → Goes t (sort_of T) b s c → Halts u (over ps' T') c stop → Halts t (next_form ps l n T) b stop
  next_halts_later s c stop first h =
      halts_later t u stays (sort_of T) (λ s. over ps T >>= λ r. end_form (length ps) n l r) b c s stop first
      (halts_first u (over ps T) (λ r. end_form (length ps) n l r) c stop (subst (λ q. Halts u (over q T) c stop) params_kept (subst (λ q. Halts u (over ps' q) c stop) kind_kept h)))

  pub next_gives : {X : Type 0} (v : Standing Base) (same_after : v ≡ u) (s : Level) (r : Tree) (m c d left : ℕ) (value : X → List Tree) (res : Result X Stop)
      → m ≡ length ps → l' ≡ l → Goes t (sort_of T) b s c → Goes u (over ps' T') c r d → ComesTo v (end_form m n l' r) d value left res → ComesTo t (next_form ps l n T) b value left res
  next_gives v same_after s r m c d left value res count level_kept first second third =
      gives_on t u stays (sort_of T) (λ s. over ps T >>= λ r. end_form (length ps) n l r) b c left s value res first
      (gives_on u v same_after (over ps T) (λ r. end_form (length ps) n l r) c d left r value res
      (subst (λ q. Goes u (over q T) c r d) params_kept (subst (λ q. Goes u (over ps' q) c r d) kind_kept second))
      (subst (λ k. ComesTo v (end_form k n l r) d value left res) count (subst (λ k. ComesTo v (end_form m n k r) d value left res) level_kept third)))
