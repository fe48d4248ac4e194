-- Steps of writing one after another, and over a list.
use Rattle.std.proofs.Common.{◌≡◌, ℕ, suc, ◌+◌, ◌-◌, ◌<◌, List, [], ◌∷◌, ◌++◌, map, length, refl, ap, sym, subst, ◌∙◌, append_assoc, arith}
use Rattle.std.specs.Prelude.{All}
use Rattle.std.specs.List.{range_with_len}
use Rattle.std.proofs.lemmas.List.Elements.{All-head, All-map, All-weaker}
use Rattle.std.proofs.lemmas.List.FromFn.{length-range_with_len}
use Rattle.lk_rulebook.specs.Place.{type_names}
use Rattle.lk_store.specs.Contents.{name_at}
use Rattle.lk_env.specs.declared.unit.Constructor.{Constructor}
use Rattle.lk_env.specs.declared.unit.BlockType.{BlockType}
use Rattle.lk_env.specs.Units.{constructor_at, type_at, IsConstructorIn, IsTypeIn}
use Rattle.lk_trim.specs.Units.{ctor_names, one_rule_more}
use Rattle.lk_trim.proofs.Appending.{fields_one}
use Rattle.lk_store.specs.Contents.{Contents}
use Rattle.lk_trim.specs.declared.numbers.Numbers.{Numbers}
use Rattle.lk_trim.specs.declared.numbers.Writer.{Writer}
use Rattle.lk_trim.specs.Written.{Written, File, line, fields, counted}
use Rattle.lk_trim.specs.Stored.{written_at, file_at, AreNumbersIn, Writes}

abbrev file_of : List ℕ → Written → File
file_of t w = record { text = t; written = w }

-- and then
pub then_writes : {c : Contents} {f g : File → File} {a b d : Writer} → Writes c f a b → Writes c g b d → Writes c (λ x. g (f x)) a d
then_writes {c} {f} {g} h k = record { numbers = k.numbers; file = k.file ∙ ap g h.file }

-- the same function in another form
pub writes_as : {c : Contents} {f g : File → File} {a b : Writer} → f ≡ g → Writes c f a b → Writes c g a b
writes_as {c} {f} {g} {a} {b} e h = subst (λ x. Writes c x a b) e h

-- a line is written
line_file : (c : Contents) (old new : Writer) (says : Written → List ℕ) (mid : List ℕ) → mid ≡ old.out.items ++ says (written_at c old.numbers) → new.out.items ≡ mid ++ 10 ∷ []
    → new.numbers ≡ old.numbers → file_at c new ≡ line says (file_at c old)
unfolding line
line_file c old new says mid said last numbers =
    ap (λ n. file_of new.out.items (written_at c n)) numbers
    ∙ ap (λ t. file_of t (written_at c old.numbers)) (last ∙ ap (λ t. t ++ 10 ∷ []) said ∙ append_assoc old.out.items (says (written_at c old.numbers)) (10 ∷ []))

pub line_writes : {c : Contents} {old new : Writer} → AreNumbersIn c old.numbers → (says : Written → List ℕ) (mid : List ℕ) → mid ≡ old.out.items ++ says (written_at c old.numbers) → new.out.items ≡ mid ++ 10 ∷ []
    → new.numbers ≡ old.numbers → Writes c (line says) old new
line_writes {c} {old} {new} k says mid said last numbers = record { numbers = rw numbers k; file = line_file c old new says mid said last numbers }

-- one of a list, and those behind it
module _ {X Y : Type 0} (at : X → Y) (one : Y → File → File) (all : List Y → File → File) (step : (y : Y) (ys : List Y) (f : File) → all (y ∷ ys) f ≡ all ys (one y f)) where
  pub each_more : (x : X) (rest more : List X) (f g h : File) → rest ≡ x ∷ more → g ≡ one (at x) f → all (map at rest) f ≡ h → all (map at more) g ≡ h
  each_more x rest more f g h cut is r = ap (all (map at more)) is ∙ sym (step (at x) (map at more) f) ∙ ap (λ l. all (map at l) f) (sym cut) ∙ r

pub first_known : {X : Type 0} (P : X → Type 0) (x : X) (more rest : List X) → rest ≡ x ∷ more → All P rest → P x
first_known P x more rest cut h = All-head P x more (subst (All P) cut h)

-- one rule more is counted
pub counts_rule : {c : Contents} {old new : Writer} → AreNumbersIn c old.numbers → new.out.items ≡ old.out.items → new.numbers.names ≡ old.numbers.names → new.numbers.levels ≡ old.numbers.levels → new.numbers.trees ≡ old.numbers.trees
    → new.numbers.rules ≡ old.numbers.rules + 1 → Writes c one_rule_more old new
counts_rule {c} {old} {new} k out names levels trees rules = record {
  numbers = record { interned = k.interned; names_apart = k.names_apart; names_in = rw names k.names_in; levels_in = rw levels k.levels_in; trees_in = rw trees k.trees_in };
  file =
      ap (λ t. file_of t (written_at c new.numbers)) out
      ∙ ap (λ n. file_of old.out.items (written_at c n)) (numbers_are old.numbers new.numbers names levels trees rules);
}
  where
    numbers_of : List ℕ → List ℕ → List ℕ → ℕ → Numbers
    numbers_of n l t r = record { names = n; levels = l; trees = t; rules = r }

    numbers_are : (a b : Numbers) → b.names ≡ a.names → b.levels ≡ a.levels → b.trees ≡ a.trees → b.rules ≡ a.rules + 1 → b ≡ numbers_of a.names a.levels a.trees (a.rules + 1)
    numbers_are a b e f g h =
        ap (λ x. numbers_of x b.levels b.trees b.rules) e ∙ ap (λ x. numbers_of a.names x b.trees b.rules) f ∙ ap (λ x. numbers_of a.names a.levels x b.rules) g ∙ ap (numbers_of a.names a.levels a.trees) h

-- four pieces of a line
pub four_parts : (o a b d n p q r s : List ℕ) → a ≡ o ++ p → b ≡ a ++ q → d ≡ b ++ r → n ≡ d ++ s → n ≡ o ++ (p ++ (q ++ (r ++ s)))
four_parts o a b d n p q r s e f g h =
    h ∙ ap (λ x. x ++ s) (g ∙ ap (λ x. x ++ r) (f ∙ ap (λ x. x ++ q) e))
    ∙ append_assoc (o ++ p ++ q) r s ∙ append_assoc (o ++ p) q (r ++ s) ∙ append_assoc o p (q ++ (r ++ s))

-- a range of numbers, one after another
pub range_more : (n e : ℕ) → n < e → range_with_len n (e - n) ≡ n ∷ range_with_len (n + 1) (e - (n + 1))
range_more n e l = let s : e - n ≡ suc (e - (n + 1)) = omega (arith, l) in ap (range_with_len n) s

pub counted_range : (o a n : List ℕ) (first k count : ℕ) → a ≡ o ++ fields (count ∷ []) → n ≡ a ++ fields (range_with_len first k) → count ≡ k → n ≡ o ++ counted (range_with_len first k)
counted_range o a n first k count e f same =
    let r : List ℕ = range_with_len first k in
    f ∙ ap (λ x. x ++ fields r) (e ∙ ap (λ i. o ++ fields (i ∷ [])) (same ∙ sym (length-range_with_len first k)))
    ∙ append_assoc o (fields (length r ∷ [])) (fields r) ∙ ap (λ x. o ++ x) (sym (fields_one (length r) r))

-- names of constructors and of types
module _ (c : Contents) where
  pub ctor_names_at : (ks : List Constructor) → ctor_names (map (constructor_at c) ks) ≡ map (name_at c) (map (λ (k : Constructor). k.name) ks)
  ctor_names_at [] = refl
  ctor_names_at (k ∷ ks) = ap (λ ns. name_at c k.name ∷ ns) (ctor_names_at ks)

  pub type_names_at : (ts : List BlockType) → type_names (map (type_at c) ts) ≡ map (name_at c) (map (λ (t : BlockType). t.name) ts)
  type_names_at [] = refl
  type_names_at (t ∷ ts) = ap (λ ns. name_at c t.name ∷ ns) (type_names_at ts)

  pub ctor_names_known : (ks : List Constructor) (ns : List ℕ) → ns ≡ map (λ (k : Constructor). k.name) ks → All (IsConstructorIn c) ks → All (λ n. n < length c.names) ns
  ctor_names_known ks ns is h = rw is (All-map (λ n. n < length c.names) (λ (k : Constructor). k.name) ks (All-weaker (IsConstructorIn c) (λ (k : Constructor). k.name < length c.names) (λ k i. i.stated.name_in) ks h))

  pub type_names_known : (ts : List BlockType) (ns : List ℕ) → ns ≡ map (λ (t : BlockType). t.name) ts → All (IsTypeIn c) ts → All (λ n. n < length c.names) ns
  type_names_known ts ns is h = rw is (All-map (λ n. n < length c.names) (λ (t : BlockType). t.name) ts (All-weaker (IsTypeIn c) (λ (t : BlockType). t.name < length c.names) (λ t i. i.stated.name_in) ts h))
