-- A step behind a look-up of a constructor.
use Rattle.std.proofs.Common.{◌≡◌, ℕ, List, length, Option, refl, ap, sym, subst, ◌∙◌}
use Rattle.std.specs.Prelude.{Result, Ok, Err}
use Rattle.lk_tree.specs.Tree.{Tree}
use Rattle.lk_tree.specs.declared.rule.Rule.{Rule}
use Rattle.lk_questions.specs.Program.{Program, ◌>>=◌}
use Rattle.lk_questions.specs.Erased.{a_tree, erased}
use Rattle.lk_questions.proofs.Settling.{goes_on}
use Rattle.lk_questions.specs.Iota.{CtorApp}
use Rattle.lk_store.specs.declared.memory.NoMemory.{NoMemory}
use Rattle.lk_store.specs.Contents.{Contents, tree_at}
use Rattle.lk_ask.specs.declared.next.Next.{Next}
use Rattle.lk_ask.specs.declared.next.Next.TheVariants.{No}
use Rattle.lk_ask.specs.Looks.{Sight}
use Rattle.lk_ask.proofs.Settles.{behind, refused_behind}
use Rattle.lk_ask.specs.Nexts.{IsKnownNext}
use Rattle.lk_ask.proofs.Steps.{looked_once}
use Rattle.lk_constructor.specs.declared.constructor.AppliedConstructor.{AppliedConstructor}
use Rattle.lk_constructor.specs.Looking.{LooksUp}
use Rattle.lk_iota.specs.Sheets.{IotaSheet, IsKnownIotaSheet}
use Rattle.lk_iota.specs.Iotas.{iota_next, Reduces}

module _ {S R B : Type 0} {contents : S → Contents} {rest : S → R} {sight : R → Sight B}
    {middle : S} where
  module _ {old : S} {xs : List Tree} {ctor : Option CtorApp} {program : Program (Option CtorApp)}
      (k : Option CtorApp → Program Tree) where
    -- it goes on with what was found
    pub found_on : {new : S} {result : Result (Next ℕ (IotaSheet ℕ)) NoMemory}
        (u : Option AppliedConstructor) (o : Option CtorApp)
        → LooksUp contents rest sight old middle (Ok u) xs ctor program → ctor ≡ o
        → Reduces contents rest sight middle new result (λ t. k o)
        → Reduces contents rest sight old new result (λ t. program >>= k)
    found_on {new} {result} u o found is h = behind a_tree k u found.settles
        (subst (λ c. Reduces contents rest sight middle new result (λ t. k c)) (sym is) h)

    -- what comes next is there at once
    pub found_once : {next : Next ℕ (IotaSheet ℕ)} (u : Option AppliedConstructor)
        (o : Option CtorApp) → LooksUp contents rest sight old middle (Ok u) xs ctor program
        → ctor ≡ o → contents middle ≡ contents old
        → IsKnownNext IsKnownIotaSheet (length (contents old).trees) next
        → iota_next (sight (rest old)).basis.place (tree_at (contents old))
        (sight (rest middle)).last next
        ≡ erased (sight (rest old)).basis.place a_tree (sight (rest middle)).last (k o)
        → Reduces contents rest sight old middle (Ok next) (λ t. program >>= k)
    found_once {next} u o found is same known comes =
        let w = (sight (rest old)).basis.place in
        let last = (sight (rest middle)).last in
        looked_once old middle next _ same found.settles.stays known
        (comes ∙ ap (λ c. erased w a_tree last (k c)) (sym is)
        ∙ sym (goes_on w a_tree (sight (rest old)).last last ctor program k
        found.settles.comes_to))

    pub refused_on : (r : Rule) → LooksUp contents rest sight old middle (Err r) xs ctor program
        → Reduces contents rest sight old middle (Ok (No r)) (λ t. program >>= k)
    refused_on r found = refused_behind a_tree k r (λ w t last. refl) found.settles

  -- a step behind it, over what numbers stood for before
  pub over_old : {new : S} {result : Result (Next ℕ (IotaSheet ℕ)) NoMemory} (d : Contents)
      (program : (ℕ → Tree) → Program Tree) → contents middle ≡ d
      → Reduces contents rest sight middle new result program
      → Reduces contents rest sight middle new result (λ t. program (tree_at d))
  over_old {new} {result} d program same h = subst
      (λ c. Reduces contents rest sight middle new result (λ t. program (tree_at c))) same h
