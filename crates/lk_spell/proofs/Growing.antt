-- Contents grow by own nodes.
use Rattle.std.proofs.Common.{◌≡◌, ℕ, ◌+◌, List, [], ◌∷◌, ◌++◌, refl, sym, ◌∙◌, arith}
use Rattle.std.specs.Prelude.{count_by, if◌then◌else◌}
use Rattle.std.proofs.lemmas.Grind.{common_steps}
use Rattle.lk_tree.specs.Tree.{zero_level, wide}
use Rattle.lk_store.specs.Contents.{Contents, Extends, name_of, level_of, list_of, tree_of}
use Rattle.lk_store.proofs.Columns.{Keeps-self, Keeps-push, length-push, at-push}
use Rattle.lk_store.proofs.Extending.{Extends-trans}
use Rattle.lk_store.specs.declared.sizes.Sizes.{Sizes}
use Rattle.lk_spell.specs.Parts.{IsPartIn, IsSame, number_of}
use Rattle.lk_spell.specs.Sizes.{AreSizes, next_part, next_sizes}
use Rattle.lk_spell.specs.Spelled.{grown, grown_by, IsOwnIn, AreOwn, is_counted}
use Rattle.lk_spell.specs.Standing.{IsNumberOf}
use Rattle.lk_spell.specs.declared.part.Part.{Part}
use Rattle.lk_spell.specs.declared.part.Part.TheVariants as part
use Rattle.lk_spell.specs.declared.spelled.OwnNode.{OwnNode}
use Rattle.lk_spell.specs.declared.spelled.OwnNode.TheVariants.{Name, Text, Level, List as Levels, Term}

pub Extends-self : (c : Contents) → Extends c c
Extends-self c = record { names = Keeps-self [] c.names; texts = Keeps-self [] c.texts; levels = Keeps-self zero_level c.levels; lists = Keeps-self [] c.lists; trees = Keeps-self wide c.trees }

pub extends_grown : (c : Contents) (x : OwnNode) → Extends c (grown c x)
extends_grown c (Name n) = record { names = Keeps-push [] c.names (name_of c n); texts = Keeps-self [] c.texts; levels = Keeps-self zero_level c.levels; lists = Keeps-self [] c.lists; trees = Keeps-self wide c.trees }
extends_grown c (Text t) = record { names = Keeps-self [] c.names; texts = Keeps-push [] c.texts t; levels = Keeps-self zero_level c.levels; lists = Keeps-self [] c.lists; trees = Keeps-self wide c.trees }
extends_grown c (Level l) = record { names = Keeps-self [] c.names; texts = Keeps-self [] c.texts; levels = Keeps-push zero_level c.levels (level_of c l); lists = Keeps-self [] c.lists; trees = Keeps-self wide c.trees }
extends_grown c (Levels ls) = record { names = Keeps-self [] c.names; texts = Keeps-self [] c.texts; levels = Keeps-self zero_level c.levels; lists = Keeps-push [] c.lists (list_of c ls); trees = Keeps-self wide c.trees }
extends_grown c (Term e) = record { names = Keeps-self [] c.names; texts = Keeps-self [] c.texts; levels = Keeps-self zero_level c.levels; lists = Keeps-self [] c.lists; trees = Keeps-push wide c.trees (tree_of c e) }

pub extends_grown_by : (c : Contents) (xs : List OwnNode) → Extends c (grown_by c xs)
extends_grown_by c [] = Extends-self c
extends_grown_by c (x ∷ xs) = Extends-trans c (grown c x) (grown_by (grown c x) xs) (extends_grown c x) (extends_grown_by (grown c x) xs)

-- one own node more
pub grown_push : (c : Contents) (xs : List OwnNode) (x : OwnNode) → grown_by c (xs ++ x ∷ []) ≡ grown (grown_by c xs) x
grown_push c [] x = refl
grown_push c (y ∷ xs) x = grown_push (grown c y) xs x

pub own_push : (c : Contents) (xs : List OwnNode) (x : OwnNode) → AreOwn c xs → IsOwnIn (grown_by c xs) x → AreOwn c (xs ++ x ∷ [])
own_push c [] x h i = (i, tt)
own_push c (y ∷ xs) x h i = (h.0, own_push (grown c y) xs x h.1 i)

pub count_push : (xs : List OwnNode) (x : OwnNode) → count_by is_counted (xs ++ x ∷ []) ≡ count_by is_counted xs + (if is_counted x then 1 else 0)
count_push xs x = grind (arith, common_steps)

-- the next number of its kind stands for an own node
pub stands : (c : Contents) (s : Sizes) (x : OwnNode) → AreSizes c s → IsNumberOf c (grown c x) x (number_of (next_part s x))
stands c s (Name n) h = record { known = rw (h.names, length-push [] c.names (name_of c n)) (omega arith); is = rw h.names (at-push [] c.names (name_of c n)) }
stands c s (Text t) h = record { known = rw (h.texts, length-push [] c.texts t) (omega arith); is = rw h.texts (at-push [] c.texts t) }
stands c s (Level l) h = record { known = rw (h.levels, length-push zero_level c.levels (level_of c l)) (omega arith); is = rw h.levels (at-push zero_level c.levels (level_of c l)) }
stands c s (Levels ls) h = record { known = rw (h.lists, length-push [] c.lists (list_of c ls)) (omega arith); is = rw h.lists (at-push [] c.lists (list_of c ls)) }
stands c s (Term e) h = record { known = rw (h.terms, length-push wide c.trees (tree_of c e)) (omega arith); is = rw h.terms (at-push wide c.trees (tree_of c e)) }

pub sizes_grown : (c : Contents) (s : Sizes) (x : OwnNode) → AreSizes c s → AreSizes (grown c x) (next_sizes s x)
sizes_grown c s (Name n) h = record { names = rw (h.names, length-push [] c.names (name_of c n)) refl; texts = h.texts; levels = h.levels; lists = h.lists; terms = h.terms }
sizes_grown c s (Text t) h = record { names = h.names; texts = rw (h.texts, length-push [] c.texts t) refl; levels = h.levels; lists = h.lists; terms = h.terms }
sizes_grown c s (Level l) h = record { names = h.names; texts = h.texts; levels = rw (h.levels, length-push zero_level c.levels (level_of c l)) refl; lists = h.lists; terms = h.terms }
sizes_grown c s (Levels ls) h = record { names = h.names; texts = h.texts; levels = h.levels; lists = rw (h.lists, length-push [] c.lists (list_of c ls)) refl; terms = h.terms }
sizes_grown c s (Term e) h = record { names = h.names; texts = h.texts; levels = h.levels; lists = h.lists; terms = rw (h.terms, length-push wide c.trees (tree_of c e)) refl }

-- what a number stands for stays
pub same_after : (c d d' : Contents) (p : Part) (n : ℕ) → Extends d d' → IsSame c d p n → IsSame c d' p n
same_after c d d' (part.Name k) n x h = (h.0, record { known = let l = x.names.longer in let i = h.1.known in omega arith; is = x.names.same n h.1.known ∙ h.1.is })
same_after c d d' (part.Text k) n x h = (h.0, record { known = let l = x.texts.longer in let i = h.1.known in omega arith; is = x.texts.same n h.1.known ∙ h.1.is })
same_after c d d' (part.Level k) n x h = (h.0, record { known = let l = x.levels.longer in let i = h.1.known in omega arith; is = x.levels.same n h.1.known ∙ h.1.is })
same_after c d d' (part.List k) n x h = (h.0, record { known = let l = x.lists.longer in let i = h.1.known in omega arith; is = x.lists.same n h.1.known ∙ h.1.is })
same_after c d d' (part.Term k) n x h = (h.0, record { known = let l = x.trees.longer in let i = h.1.known in omega arith; is = x.trees.same n h.1.known ∙ h.1.is })

pub same_before : (c c' d : Contents) (p : Part) (n : ℕ) → Extends c c' → IsSame c d p n → IsSame c' d p n
same_before c c' d (part.Name k) n x h = (let l = x.names.longer in let i = h.0 in omega arith, record { known = h.1.known; is = h.1.is ∙ sym (x.names.same k h.0) })
same_before c c' d (part.Text k) n x h = (let l = x.texts.longer in let i = h.0 in omega arith, record { known = h.1.known; is = h.1.is ∙ sym (x.texts.same k h.0) })
same_before c c' d (part.Level k) n x h = (let l = x.levels.longer in let i = h.0 in omega arith, record { known = h.1.known; is = h.1.is ∙ sym (x.levels.same k h.0) })
same_before c c' d (part.List k) n x h = (let l = x.lists.longer in let i = h.0 in omega arith, record { known = h.1.known; is = h.1.is ∙ sym (x.lists.same k h.0) })
same_before c c' d (part.Term k) n x h = (let l = x.trees.longer in let i = h.0 in omega arith, record { known = h.1.known; is = h.1.is ∙ sym (x.trees.same k h.0) })

pub same_self : (c : Contents) (p : Part) → IsPartIn c p → IsSame c c p (number_of p)
same_self c (part.Name k) h = (h, record { known = h; is = refl })
same_self c (part.Text k) h = (h, record { known = h; is = refl })
same_self c (part.Level k) h = (h, record { known = h; is = refl })
same_self c (part.List k) h = (h, record { known = h; is = refl })
same_self c (part.Term k) h = (h, record { known = h; is = refl })
