-- The element of a major premise that is Quot.mk, and what goes on with it.
use Rattle.std.proofs.Common.{◌≡◌, ℕ, suc, ◌+◌, Bool, true, List, [], ◌∷◌, length, map}
use Rattle.std.proofs.Common.{drop, get_or, Option, None, refl, ap, sym, ◌∙◌, arith, if◌then◌else◌}
use Rattle.std.proofs.lemmas.List.{drop-map}
use Rattle.lk_tree.specs.Tree.{Name, Level, Tree, const, app}
use Rattle.lk_tree.specs.Spine.{apply}
use Rattle.lk_tree.specs.Mentions.{same_name}
use Rattle.lk_tree.specs.declared.rule.Rule.TheVariants.{UnknownConstant}
use Rattle.lk_rulebook.specs.Place.{Place, Entry as PlainEntry}
use Rattle.lk_rulebook.specs.Names.{quot_mk}
use Rattle.lk_questions.specs.Query.{core}
use Rattle.lk_questions.specs.Program.{Program, done, look}
use Rattle.lk_questions.specs.Erased.{a_tree, asks, gives, with_tree, erased}
use Rattle.lk_questions.specs.Quotients.{by_quot, at_mk}
use Rattle.lk_store.specs.Contents.{Contents, tree_at, Extends}
use Rattle.lk_subst.specs.Numbers.{trees-steady}
use Rattle.lk_env.specs.declared.entry.Entry.{Entry}
use Rattle.lk_env.specs.StoredLibrary.{StoredLibrary}
use Rattle.lk_ask.specs.Constants.{IsFound}
use Rattle.lk_ask.proofs.Looking.{found_goes}
use Rattle.lk_quot.specs.declared.redex.Redex.{Redex}
use Rattle.lk_quot.specs.Redexes.{PlainRedex, at_element, looked_mk, IsKnownRedex}
use Rattle.lk_quot.proofs.Naming.{is_same_name}

-- what is made of the function, the element and what came behind the major premise
pub applied : (c d f : Contents) (u : Redex) (front element next : ℕ) (others : List ℕ)
    → Extends c d → IsKnownRedex (length c.trees) u
    → others ≡ drop (u.before + 1) u.arguments.items
    → tree_at d front ≡ app (tree_at c u.function) (tree_at c element)
    → tree_at f next ≡ apply (tree_at d front) (map (tree_at d) others) → (last : Option ℕ)
    → asks last (core (tree_at f next)) (with_tree (λ v. gives None (a_tree v)))
    ≡ asks last (core (apply (app (tree_at c u.function) (tree_at c element))
    (map (tree_at c) (drop (suc u.before) u.arguments.items))))
    (with_tree (λ v. gives None (a_tree v)))
applied c d f u front element next others x known behind front_is is last =
    let es = u.arguments.items in
    let n : u.before + 1 ≡ suc u.before = omega arith in
    let same : map (tree_at d) others ≡ map (tree_at c) (drop (suc u.before) es) =
    ap (map (tree_at d)) (behind ∙ ap (λ k. drop k es) n)
    ∙ sym (drop-map (tree_at d) (suc u.before) es)
    ∙ ap (drop (suc u.before)) (trees-steady c d es x known.arguments_in)
    ∙ drop-map (tree_at c) (suc u.before) es in
    ap (λ e. asks last (core e) (with_tree (λ v. gives None (a_tree v))))
    (is ∙ ap (λ ys. apply (tree_at d front) ys) same
    ∙ ap (λ t. apply t (map (tree_at c) (drop (suc u.before) es))) front_is)

-- a quotient unit gives Quot.mk, or not
pub looked_is : (w : Place) (e : Tree) (p : PlainRedex) (a : Tree) (l : StoredLibrary)
    (x : Name) (before last : Option ℕ) (entry : Entry) (h : IsFound l w x before entry last)
    → x ≡ quot_mk → (b : Bool) → by_quot h.entry.kind ≡ b
    → erased w a_tree before (looked_mk e p a)
    ≡ erased w a_tree last (if b then at_element p a else done e)
looked_is w e p a l x before last entry h is b given =
    let k : PlainEntry → Program Tree = λ g. if by_quot g.kind then at_element p a else done e in
    ap (λ y. erased w a_tree before (look UnknownConstant y k)) (sym is)
    ∙ found_goes w a_tree x UnknownConstant k l before last entry h
    ∙ ap (λ (t : Bool). erased w a_tree last (if t then at_element p a else done e)) given

-- Quot.mk with three arguments, of which the number a is the last
pub three_are : (t : ℕ → Tree) (e : Tree) (p : PlainRedex) (c : Name) (ks : List Level)
    (xs : List Tree) (es : List ℕ) (a : ℕ) → map t es ≡ xs → length es ≡ 3
    → a ≡ get_or es 2 a → c ≡ quot_mk
    → at_mk e p.function p.rest (const c ks) xs ≡ looked_mk e p (t a)
three_are t e p c ks xs (x ∷ y ∷ z ∷ []) a are three last is =
    let same : same_name c quot_mk ≡ true = is_same_name c quot_mk true (λ on. is, λ i. refl) in
    ap (at_mk e p.function p.rest (const c ks)) (sym are)
    ∙ ap (λ (b : Bool). if b then looked_mk e p (t z) else done e) same
    ∙ ap (λ k. looked_mk e p (t k)) (sym last)
three_are t e p c ks xs [] a are three last is = absurd (omega arith)
three_are t e p c ks xs (x ∷ []) a are three last is = absurd (omega arith)
three_are t e p c ks xs (x ∷ y ∷ []) a are three last is = absurd (omega arith)
three_are t e p c ks xs (x ∷ y ∷ z ∷ v ∷ es) a are three last is = absurd (omega arith)
