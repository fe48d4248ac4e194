-- Lists that have the same at each place, and lists made of them.
use Rattle.std.proofs.Common.{◌≡◌, ℕ, ◌+◌, ◌<◌, List, [], ◌∷◌, length, get_or, take, refl}
use Rattle.std.specs.Prelude.{All, map}
use Rattle.std.specs.List.{AllZip}
use Rattle.std.proofs.lemmas.List.{take_more}
use Rattle.std.proofs.lemmas.List.Elements.{All-head, All-tail}
use Rattle.std.proofs.lemmas.Slice.Zip.{all_zipped_more}

-- one place more
pub more_same : {X : Type 0} (R : X → X → Type 0) (xs ys : List X) (i : ℕ) (x y : X)
    → i < length xs → i < length ys → x ≡ get_or xs i x → y ≡ get_or ys i y
    → R x y → AllZip R (take i xs) (take i ys) → AllZip R (take (i + 1) xs) (take (i + 1) ys)
more_same R xs ys i x y l m at_x at_y here before =
    rw (take_more xs i x l, take_more ys i y m, ← at_x, ← at_y)
    (all_zipped_more R (take i xs) (take i ys) x y before here)

-- R holds of known things just where f makes the same of them
module _ {X Y : Type 0} (f : X → Y) (P : X → Type 0) (R : X → X → Type 0) where
  pub same_made : ((x y : X) → P x → P y → R x y → f x ≡ f y) → (xs ys : List X)
      → All P xs → All P ys → AllZip R xs ys → map f xs ≡ map f ys
  same_made each [] [] h k z = refl
  same_made each [] (y ∷ ys) h k z = absurd z
  same_made each (x ∷ xs) [] h k z = absurd z
  same_made each (x ∷ xs) (y ∷ ys) h k z =
      let first : f x ≡ f y = each x y (All-head P x xs h) (All-head P y ys k) z.0 in
      let rest : map f xs ≡ map f ys =
      same_made each xs ys (All-tail P x xs h) (All-tail P y ys k) z.1 in
      cc

  pub made_same : ((x y : X) → P x → P y → f x ≡ f y → R x y) → (xs ys : List X)
      → All P xs → All P ys → map f xs ≡ map f ys → AllZip R xs ys
  made_same each [] [] h k e = tt
  made_same each [] (y ∷ ys) h k e = absurd cc
  made_same each (x ∷ xs) [] h k e = absurd cc
  made_same each (x ∷ xs) (y ∷ ys) h k e =
      let first : f x ≡ f y = cc in
      let rest : map f xs ≡ map f ys = cc in (
        each x y (All-head P x xs h) (All-head P y ys k) first,
        made_same each xs ys (All-tail P x xs h) (All-tail P y ys k) rest,
      )

-- known numbers, of which f makes the same only of one
module _ {Y : Type 0} (f : ℕ → Y) (P : ℕ → Type 0) where
  pub same_numbers : ((m n : ℕ) → P m → P n → f m ≡ f n → m ≡ n) → (ms ns : List ℕ)
      → All P ms → All P ns → map f ms ≡ map f ns → ms ≡ ns
  same_numbers each [] [] h k e = refl
  same_numbers each [] (n ∷ ns) h k e = absurd cc
  same_numbers each (m ∷ ms) [] h k e = absurd cc
  same_numbers each (m ∷ ms) (n ∷ ns) h k e =
      let one : f m ≡ f n = cc in
      let more : map f ms ≡ map f ns = cc in
      let first : m ≡ n = each m n (All-head P m ms h) (All-head P n ns k) one in
      let rest : ms ≡ ns =
      same_numbers each ms ns (All-tail P m ms h) (All-tail P n ns k) more in
      cc
