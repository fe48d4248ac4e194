-- A head's test, by what the test for any nested occurrence says.
use Rattle.std.proofs.Common.{◌≡◌, Bool, true, false, List, Option, Some, None, Ok, Err, Result, refl, sym, ap, ◌∙◌}
use Rattle.std.specs.Prelude.{◌||◌, nat_eq, length, if◌then◌else◌}
use Rattle.lk_tree.specs.Tree.{Name, Level, Tree, var, sort, const, app, lam, pi, let_in, proj, lit, wide, str, local}
use Rattle.lk_tree.specs.Spine.{head, args}
use Rattle.lk_tree.specs.Mentions.{is_one_of}
use Rattle.lk_tree.specs.declared.rule.Rule.{Rule}
use Rattle.lk_tree.specs.declared.rule.Rule.TheVariants.{UnknownConstant}
use Rattle.lk_rulebook.specs.Place.{Place, Entry, Kind, an_axiom, a_def, a_thm, an_opaque, a_quot, a_type, a_ctor, a_rec}
use Rattle.lk_questions.specs.Program.{Program, done, look}
use Rattle.lk_inductive.specs.BlockSteps.{mention_none, is_among}
use Rattle.lk_inductive.specs.Nested.{holds_kind, holds_head}
use Rattle.lk_ask.specs.declared.stop.Stop.{Stop}
use Rattle.lk_ask.specs.declared.stop.Stop.TheVariants.{No, Spent, NoMemory}
use Rattle.lk_nested.specs.Findings.{Finding, found, refused, looked, finding}
use Rattle.lk_nested.specs.Nestings.{IsHeadTest, function_of}
use Rattle.lk_nested.specs.Occurrences.{Test, passes, occurs, fails, kind_test, entry_test, head_test, test_at, is_occurrence}
use Rattle.lk_nested.specs.Unmet.{First, nothing, new, refused_by, by_test, first_unmet}
use Rattle.lk_nested.specs.Halts.{IsTested, first_below}

module _ (w : Place) where
  -- what a test says of any nested occurrence
  holds : Test → Finding Bool → Finding Bool
  holds passes next = next
  holds (occurs J ls b t) next = found true
  holds (fails r) next = refused r

  kind_holds : (J : Name) (ls : List Level) (xs : List Tree) (k : Kind) (next : Program Bool) → finding w (holds_kind xs k next) ≡ holds (kind_test J ls xs k) (finding w next)
  unfolding holds
  kind_holds J ls xs an_axiom next = refl
  kind_holds J ls xs (a_def h v) next = refl
  kind_holds J ls xs (a_thm v) next = refl
  kind_holds J ls xs (an_opaque v) next = refl
  kind_holds J ls xs a_quot next = refl
  kind_holds J ls xs (a_type b t) next = go (nat_eq (length xs) t.parameters)
    where
      go : (x : Bool) → finding w (if x then done true else next) ≡ holds (if x then occurs J ls b t else passes) (finding w next)
      go true = refl
      go false = refl
  kind_holds J ls xs (a_ctor b t k) next = refl
  kind_holds J ls xs (a_rec r) next = refl

  entry_holds : (J : Name) (ls : List Level) (xs : List Tree) (next : Program Bool) (o : Option Entry) (flaw : Option Rule)
      → looked o flaw UnknownConstant (λ g. finding w (holds_kind xs g.kind next)) ≡ holds (entry_test J ls xs o flaw) (finding w next)
  unfolding holds
  entry_holds J ls xs next None flaw = refl
  entry_holds J ls xs next (Some g) flaw = kind_holds J ls xs g.kind next

  head_holds : (ns : List Name) (h : Tree) (xs : List Tree) (next : Program Bool) → finding w (holds_head ns h xs next) ≡ holds (head_test w ns h xs) (finding w next)
  unfolding holds
  head_holds ns (const J ls) xs next = go (is_one_of ns J || mention_none ns xs)
    where
      go : (x : Bool) → finding w (if x then next else look UnknownConstant J λ g. holds_kind xs g.kind next) ≡ holds (if x then passes else entry_test J ls xs (w.means J) (w.flaw J)) (finding w next)
      go true = refl
      go false = entry_holds J ls xs next (w.means J) (w.flaw J)
  head_holds ns (var i) xs next = refl
  head_holds ns (sort l) xs next = refl
  head_holds ns (app f a) xs next = refl
  head_holds ns (lam A b) xs next = refl
  head_holds ns (pi A B) xs next = refl
  head_holds ns (let_in A v b) xs next = refl
  head_holds ns (proj S i e) xs next = refl
  head_holds ns (lit n) xs next = refl
  head_holds ns wide xs next = refl
  head_holds ns (str k) xs next = refl
  head_holds ns (local k T) xs next = refl

  found_holds : (q : Test) → holds q (found false) ≡ found true → is_occurrence q ≡ true
  unfolding holds
  found_holds passes h = absurd cc
  found_holds (occurs J ls b t) h = refl
  found_holds (fails r) h = absurd cc

  passes_holds : (q : Test) → holds q (found false) ≡ found false → q ≡ passes
  unfolding holds
  passes_holds passes h = refl
  passes_holds (occurs J ls b t) h = absurd cc
  passes_holds (fails r) h = absurd cc

  fails_holds : (q : Test) (r : Rule) → holds q (found true) ≡ refused r → q ≡ fails r
  unfolding holds
  fails_holds passes r h = absurd cc
  fails_holds (occurs J ls b t) r h = absurd cc
  fails_holds (fails s) r h = cc

  head_tested : (ns : List Name) (h : Tree) (xs : List Tree) (r : Result Bool Stop) → IsHeadTest w ns h xs r → IsTested (head_test w ns h xs) r
  head_tested ns h xs (Ok true) t = found_holds (head_test w ns h xs) (sym (head_holds ns h xs (done false)) ∙ t (done false))
  head_tested ns h xs (Ok false) t = passes_holds (head_test w ns h xs) (sym (head_holds ns h xs (done false)) ∙ t (done false))
  head_tested ns h xs (Err (No r)) t = fails_holds (head_test w ns h xs) r (sym (head_holds ns h xs (done true)) ∙ t (done true))
  head_tested ns h xs (Err Spent) t = absurd (t (done true))
  head_tested ns h xs (Err NoMemory) t = tt

-- what is no application, and what is one
pub not_applied : (w : Place) (ns : List Name) (t : Tree) → function_of t ≡ None → test_at w ns t ≡ passes
not_applied w ns (app f a) h = absurd cc
not_applied w ns (lam A b) h = refl
not_applied w ns (pi A B) h = refl
not_applied w ns (let_in A v b) h = refl
not_applied w ns (proj S i s) h = refl
not_applied w ns (const c ls) h = refl
not_applied w ns (var i) h = refl
not_applied w ns (sort l) h = refl
not_applied w ns (lit n) h = refl
not_applied w ns wide h = refl
not_applied w ns (str s) h = refl
not_applied w ns (local k T) h = refl

pub applied : (w : Place) (ns : List Name) (t f : Tree) (r : Result Bool Stop) → function_of t ≡ Some f → IsHeadTest w ns (head t) (args t) r → IsTested (test_at w ns t) r
applied w ns (app g a) f r h test = head_tested w ns (head (app g a)) (args (app g a)) r test
applied w ns (lam A b) f r h test = absurd cc
applied w ns (pi A B) f r h test = absurd cc
applied w ns (let_in A v b) f r h test = absurd cc
applied w ns (proj S i s) f r h test = absurd cc
applied w ns (const c ls) f r h test = absurd cc
applied w ns (var i) f r h test = absurd cc
applied w ns (sort l) f r h test = absurd cc
applied w ns (lit n) f r h test = absurd cc
applied w ns wide f r h test = absurd cc
applied w ns (str s) f r h test = absurd cc
applied w ns (local k T) f r h test = absurd cc

-- whether there is something new, by a tree's test
module _ (w : Place) (ns : List Name) (met : List Tree) where
  pub by_parts : (t : Tree) → test_at w ns t ≡ passes → first_unmet w ns met t ≡ first_below w ns met t
  by_parts (app f a) h = ap (λ q. by_test q (is_among (app f a) met) (app f a) (first_below w ns met (app f a))) h
  by_parts (lam A b) h = refl
  by_parts (pi A B) h = refl
  by_parts (let_in A v b) h = refl
  by_parts (proj S i s) h = refl
  by_parts (const c ls) h = refl
  by_parts (var i) h = refl
  by_parts (sort l) h = refl
  by_parts (lit n) h = refl
  by_parts wide h = refl
  by_parts (str s) h = refl
  by_parts (local k T) h = refl

  -- an occurrence, met or new
  at_once : (q : Test) (t : Tree) (below : First) (known : Bool) → is_occurrence q ≡ true → by_test q known t below ≡ (if known then nothing else new t)
  at_once passes t below known h = absurd cc
  at_once (occurs J ls b u) t below true h = refl
  at_once (occurs J ls b u) t below false h = refl
  at_once (fails r) t below known h = absurd cc

  pub occurring : (t : Tree) (known : Bool) → is_occurrence (test_at w ns t) ≡ true → is_among t met ≡ known → first_unmet w ns met t ≡ (if known then nothing else new t)
  occurring (app f a) known h is =
      ap (λ k. by_test (test_at w ns (app f a)) k (app f a) (first_below w ns met (app f a))) is ∙ at_once (test_at w ns (app f a)) (app f a) (first_below w ns met (app f a)) known h
  occurring (lam A b) known h is = absurd cc
  occurring (pi A B) known h is = absurd cc
  occurring (let_in A v b) known h is = absurd cc
  occurring (proj S i s) known h is = absurd cc
  occurring (const c ls) known h is = absurd cc
  occurring (var i) known h is = absurd cc
  occurring (sort l) known h is = absurd cc
  occurring (lit n) known h is = absurd cc
  occurring wide known h is = absurd cc
  occurring (str s) known h is = absurd cc
  occurring (local k T) known h is = absurd cc
