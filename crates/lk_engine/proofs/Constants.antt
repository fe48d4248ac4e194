-- Core of an application whose head is a constant, which was looked up.
use Rattle.std.proofs.Common.{◌≡◌, ℕ, true, false, List, Option, Some, None, refl, sym, ap, subst}
use Rattle.std.specs.Prelude.{Result}
use Rattle.lk_tree.specs.Tree.{Name, Level, Tree, const}
use Rattle.lk_tree.specs.declared.rule.Rule.TheVariants.{UnknownConstant}
use Rattle.lk_tree.specs.Spine.{head, args}
use Rattle.lk_rulebook.specs.Place.{Place, Kind, Entry as PlainEntry, an_axiom, a_def, a_thm, an_opaque, a_quot, a_type, a_ctor, a_rec}
use Rattle.lk_questions.specs.Erased.{a_tree, Steps, erased}
use Rattle.lk_questions.specs.Program.{Program}
use Rattle.lk_questions.specs.Iota.{core_constant}
use Rattle.lk_questions.specs.Core.{core_applied}
use Rattle.lk_questions.specs.Quotients.{by_quot, core_quot}
use Rattle.lk_store.specs.declared.memory.NoMemory.{NoMemory}
use Rattle.lk_store.specs.Contents.{Contents, name_at, list_at, tree_at}
use Rattle.lk_env.specs.declared.entry.Entry.{Entry}
use Rattle.lk_ask.specs.declared.next.Next.{Next}
use Rattle.lk_ask.specs.Constants.{IsFound}
use Rattle.lk_ask.specs.Gives.{Gives}
use Rattle.lk_ask.specs.Looks.{Sight, entry_at}
use Rattle.lk_ask.proofs.Looking.{found_goes}
use Rattle.lk_ask.proofs.Steps.{same_steps, after_look, carried}
use Rattle.lk_iota.specs.Redexes.{redex_by, redex_of, redex_at}

-- what a head means
redex_head : (w : Place) (h : Tree) (x : Name) (ls : List Level) (xs : List Tree) (g : PlainEntry)
    → const x ls ≡ h → w.means x ≡ Some g → redex_of w h xs ≡ redex_by ls xs g g.kind
redex_head w h x ls xs g is means =
    subst (λ t. redex_of w t xs ≡ redex_by ls xs g g.kind) is
    (ap (λ (o : Option PlainEntry). elim o [ Some d ↦ redex_by ls xs d d.kind | None ↦ None ])
    means)

-- Core of a constant of quotient types
by_quotient : (e : Tree) (x : Name) (ls : List Level) (xs : List Tree) (g : PlainEntry) (k : Kind)
    → by_quot k ≡ true → core_quot e x xs ≡ core_constant e x ls xs g k
by_quotient e x ls xs g a_quot is = refl
by_quotient e x ls xs g an_axiom is = absurd cc
by_quotient e x ls xs g (a_def h v) is = absurd cc
by_quotient e x ls xs g (a_thm v) is = absurd cc
by_quotient e x ls xs g (an_opaque v) is = absurd cc
by_quotient e x ls xs g (a_type b t) is = absurd cc
by_quotient e x ls xs g (a_ctor b t k) is = absurd cc
by_quotient e x ls xs g (a_rec r) is = absurd cc

-- Core of e by a constant and by what that means
abbrev by_meaning : Contents → ℕ → ℕ → ℕ → PlainEntry → Program Tree
by_meaning c name levels e g =
    core_constant (tree_at c e) (name_at c name) (list_at c levels) (args (tree_at c e)) g g.kind

abbrev by_constant : Contents → ℕ → ℕ → ℕ → Program Tree
by_constant c name levels e =
    core_applied (tree_at c e) (const (name_at c name) (list_at c levels)) (args (tree_at c e))

module _ {S R B X : Type 0} {known_sheet : ℕ → X → Type 0}
    {next_in : Place → (ℕ → Tree) → Option ℕ → Next ℕ X → Steps}
    {contents : S → Contents} {rest : S → R} {sight : R → Sight B} where
  -- it goes on by the entry that was found
  by_entry : {old middle new : S} {result : Result (Next ℕ X) NoMemory}
      → contents middle ≡ contents old
      → (sight (rest middle)).basis ≡ (sight (rest old)).basis
      → (name levels e : ℕ) (entry : Entry)
      → (h : IsFound (sight (rest old)).basis.library (sight (rest old)).basis.place
      (name_at (contents old) name) (sight (rest old)).last entry (sight (rest middle)).last)
      → Gives known_sheet next_in contents rest sight middle new result
      (erased (sight (rest middle)).basis.place a_tree (sight (rest middle)).last
      (by_meaning (contents middle) name levels e h.entry))
      → Gives known_sheet next_in contents rest sight old new result
      (erased (sight (rest old)).basis.place a_tree (sight (rest old)).last
      (by_constant (contents old) name levels e))
  by_entry {old} {middle} same stays name levels e entry h k =
      let b = (sight (rest old)).basis in
      let last = (sight (rest middle)).last in
      let E = tree_at (contents old) e in
      let x = name_at (contents old) name in
      let ls = list_at (contents old) levels in
      let g = h.entry in
      same_steps (sym (found_goes b.place a_tree x UnknownConstant
      (λ d. core_constant E x ls (args E) d d.kind) b.library _ last entry h))
      (after_look (λ m c. erased c.place a_tree last (by_meaning m name levels e g)) same stays k)

  -- no quotient unit gives the constant: a recursor's first step is taken, if it is one
  pub by_recursor : {old middle new : S} {result : Result (Next ℕ X) NoMemory}
      → contents middle ≡ contents old
      → (sight (rest middle)).basis ≡ (sight (rest old)).basis
      → (name levels e : ℕ) (entry : Entry)
      → (h : IsFound (sight (rest old)).basis.library (sight (rest old)).basis.place
      (name_at (contents old) name) (sight (rest old)).last entry (sight (rest middle)).last)
      → const (name_at (contents old) name) (list_at (contents old) levels)
      ≡ head (tree_at (contents old) e)
      → by_quot h.entry.kind ≡ false
      → ((c : Name) (g : PlainEntry) → entry_at (sight (rest middle)).basis entry ≡ Some g
      → by_quot g.kind ≡ false
      → redex_at (sight (rest middle)).basis.place (tree_at (contents middle) e)
      ≡ redex_by (list_at (contents middle) levels) (args (tree_at (contents middle) e)) g g.kind
      → Gives known_sheet next_in contents rest sight middle new result
      (erased (sight (rest middle)).basis.place a_tree (sight (rest middle)).last
      (core_constant (tree_at (contents middle) e) c (list_at (contents middle) levels)
      (args (tree_at (contents middle) e)) g g.kind)))
      → Gives known_sheet next_in contents rest sight old new result
      (erased (sight (rest old)).basis.place a_tree (sight (rest old)).last
      (by_constant (contents old) name levels e))
  by_recursor {old} {middle} same stays name levels e entry h is not_quot begins =
      let b = (sight (rest old)).basis in
      let E = tree_at (contents old) e in
      let x = name_at (contents old) name in
      let ls = list_at (contents old) levels in
      let g = h.entry in
      let there = carried (λ k c. entry_at c entry ≡ Some g) same stays h.is in
      let redex = carried (λ k c. redex_at c.place (tree_at k e)
      ≡ redex_by (list_at k levels) (args (tree_at k e)) g g.kind) same stays
      (redex_head b.place (head E) x ls (args E) g is h.means) in
      by_entry same stays name levels e entry h
      (begins (name_at (contents middle) name) g there not_quot redex)

  -- a quotient unit gives it
  pub by_quotient_unit : {old middle new : S} {result : Result (Next ℕ X) NoMemory}
      → contents middle ≡ contents old
      → (sight (rest middle)).basis ≡ (sight (rest old)).basis
      → (name levels e : ℕ) (entry : Entry)
      → (h : IsFound (sight (rest old)).basis.library (sight (rest old)).basis.place
      (name_at (contents old) name) (sight (rest old)).last entry (sight (rest middle)).last)
      → const (name_at (contents old) name) (list_at (contents old) levels)
      ≡ head (tree_at (contents old) e)
      → by_quot h.entry.kind ≡ true
      → ((ls : List Level) → head (tree_at (contents middle) e)
      ≡ const (name_at (contents middle) name) ls
      → Gives known_sheet next_in contents rest sight middle new result
      (erased (sight (rest middle)).basis.place a_tree (sight (rest middle)).last
      (core_quot (tree_at (contents middle) e) (name_at (contents middle) name)
      (args (tree_at (contents middle) e)))))
      → Gives known_sheet next_in contents rest sight old new result
      (erased (sight (rest old)).basis.place a_tree (sight (rest old)).last
      (by_constant (contents old) name levels e))
  by_quotient_unit {old} {middle} same stays name levels e entry h is quot begins =
      let ls = list_at (contents middle) levels in
      let g = h.entry in
      let there = subst (λ k. head (tree_at k e)
      ≡ const (name_at k name) (list_at k levels)) (sym same) (sym is) in
      let m = tree_at (contents middle) e in
      let steps = ap (erased (sight (rest middle)).basis.place a_tree (sight (rest middle)).last)
      (by_quotient m (name_at (contents middle) name) ls (args m) g g.kind quot) in
      by_entry same stays name levels e entry h (same_steps steps (begins ls there))
