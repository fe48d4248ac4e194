-- The names before a name, which wait for their lines while a walk goes up.
use Rattle.std.proofs.Common.{◌≡◌, ℕ, ◌<◌, List, [], ◌∷◌, ◌++◌, length, refl, ap, sym, ◌∙◌, arith}
use Rattle.std.specs.Prelude.{true, false, reverse}
use Rattle.std.proofs.lemmas.Bool.{cond-true, cond-false}
use Rattle.std.proofs.lemmas.List.{reverse-append, reverse-reverse, length_push}
use Rattle.lk_tree.specs.Tree.{Name, Part, name_discrete}
use Rattle.lk_store.specs.Contents.{Contents, name_at}
use Rattle.lk_trim.specs.Written.{File, stands}
use Rattle.lk_trim.specs.Names.{has_name, add_name, write_back, write_name}
use Rattle.lk_trim.specs.Stored.{IsParent, is_anonymous, written_at}
use Rattle.lk_trim.specs.declared.numbers.Numbers.{Numbers}
use Rattle.lk_trim.proofs.Places.{place_first}

-- the lines of names, from the last to the first
abbrev pub added : Contents → List ℕ → File → File
added c [] f = f
added c (n ∷ ns) f = add_name (reverse (name_at c n)) (added c ns f)

pub added-push : (c : Contents) (ns : List ℕ) (n : ℕ) (f : File) → added c (ns ++ n ∷ []) f ≡ added c ns (add_name (reverse (name_at c n)) f)
added-push c [] n f = refl
added-push c (m ∷ ms) n f = ap (add_name (reverse (name_at c m))) (added-push c ms n f)

-- the name has its line
pub written_already : (x : Name) (f : File) → has_name f.written x ≡ true → write_name x f ≡ f
written_already x f h = go (reverse x) (reverse-reverse x)
  where
    go : (ps : List Part) → reverse ps ≡ x → write_back ps f ≡ f
    go [] e = refl
    go (p ∷ ps) e = cond-true (has_name f.written (reverse (p ∷ ps))) f _ (ap (has_name f.written) e ∙ h)

-- it has none
pub written_behind : (x parent : Name) (p : Part) (f : File) → parent ++ p ∷ [] ≡ x → has_name f.written x ≡ false → write_name x f ≡ add_name (reverse x) (write_name parent f)
written_behind x parent p f e h =
    ap (λ ps. write_back ps f) turned
    ∙ cond-false (has_name f.written (reverse (p ∷ reverse parent))) f _ (ap (λ ps. has_name f.written (reverse ps)) (sym turned) ∙ ap (has_name f.written) (reverse-reverse x) ∙ h)
    ∙ ap (λ ps. add_name ps (write_name parent f)) (sym turned)
  where
    turned : reverse x ≡ p ∷ reverse parent
    turned = ap reverse (sym e) ∙ reverse-append parent (p ∷ [])

-- the anonymous name needs none
pub is_named : (c : Contents) (n : Numbers) (x : Name) → has_name (written_at c n) x ≡ false → is_anonymous x ≡ false
is_named c n [] h =
    let t : has_name (written_at c n) [] ≡ true = ap stands (place_first name_discrete [] _) in
    let d : true ≡ false = sym t ∙ h in
    absurd cc
is_named c n (p ∷ ps) h = refl

-- up
pub goes_up : (c : Contents) (n parent : ℕ) (ns ms : List ℕ) (f g : File) → IsParent c n parent → has_name f.written (name_at c n) ≡ false → ms ≡ ns ++ n ∷ []
    → added c ns (write_name (name_at c n) f) ≡ g → added c ms (write_name (name_at c parent) f) ≡ g
goes_up c n parent ns ms f g i h pushed r =
    ap (λ l. added c l (write_name (name_at c parent) f)) pushed ∙ added-push c ns n (write_name (name_at c parent) f)
    ∙ ap (added c ns) (sym (written_behind (name_at c n) (name_at c parent) i.part f i.is h)) ∙ r

pub up_less : (c : Contents) (n parent : ℕ) → IsParent c n parent → length (name_at c parent) < length (name_at c n)
up_less c n parent i = let e = ap length (sym i.is) ∙ length_push (name_at c parent) i.part in omega arith

-- and down
pub goes_down : (c : Contents) (n : ℕ) (ns ms : List ℕ) (f f' g : File) → ns ≡ ms ++ n ∷ [] → f' ≡ add_name (reverse (name_at c n)) f → added c ns f ≡ g → added c ms f' ≡ g
goes_down c n ns ms f f' g popped is r = ap (added c ms) is ∙ sym (added-push c ms n f) ∙ ap (λ l. added c l f) (sym popped) ∙ r
