-- Facts on what keys stand for.
use Rattle.std.proofs.Common.{◌≡◌, ℕ, Bool, true, false, ◌+◌, ◌-◌, ◌<◌, ◌≤◌, ◌^◌, List, [], ◌∷◌, ◌++◌, length, get_or, refl, ap, sym, ◌∙◌, arith, nat_lt}
use Rattle.std.proofs.lemmas.Bool.Decides.{nat_tests}
use Rattle.lk_tree.specs.Tree.{Name, Part, text, number, Level, zero_level, succ_level, param, Tree, var, sort, proj, lit, wide, str, local}
use Rattle.lk_store.specs.Values.{Keeps, AreApart}
use Rattle.lk_store.specs.Keys.{decoded, IsCode, IsShortCode, AreNumbers, key_name, IsNameBelow, key_level, IsLevelBelow, key_list, IsListBelow, Parts, key_tree, IsTreeBelow, IsMarkedTree}
use Rattle.lk_store.specs.declared.key.Number.{Number}
use Rattle.lk_store.specs.declared.key.NameKey.{NameKey}
use Rattle.lk_store.specs.declared.key.NameKey.TheVariants as name
use Rattle.lk_store.specs.declared.key.LevelKey.{LevelKey}
use Rattle.lk_store.specs.declared.key.LevelKey.TheVariants.{Zero, Succ, Max, IMax, Param}
use Rattle.lk_store.specs.declared.key.ListKey.{ListKey}
use Rattle.lk_store.specs.declared.key.ListKey.TheVariants.{Empty, Cons}
use Rattle.lk_store.specs.declared.key.TreeKey.{TreeKey}
use Rattle.lk_store.specs.declared.key.TreeKey.TheVariants.{Var, Sort, Const, App, Lam, Pi, Let, Proj, Lit, Wide, Str, Local}
use Rattle.lk_store.specs.declared.key.TreeRow.{TreeRow}

abbrev pub no_number : Number
no_number = record { value = 0 }

test_cases : (t : Bool) (P : Type 0) → ((t ≡ true) → P) → ((t ≡ false) → P) → P
test_cases true P is differs = is refl
test_cases false P is differs = differs refl

-- Codes.
pub decoded-keeps : (ns ms : List Number) (code : ℕ) → Keeps no_number ns ms → IsCode ns code → decoded ms code ≡ decoded ns code
decoded-keeps ns ms code x h = test_cases (nat_lt code (2 ^ 31)) (decoded ms code ≡ decoded ns code)
    (λ e. rw (e) refl)
    (λ e. let at : code - 2 ^ 31 < length ns = grind (arith, nat_tests) in rw (e) (ap (λ (n : Number). n.value) (x.same (code - 2 ^ 31) at)))

pub code-keeps : (ns ms : List Number) (code : ℕ) → Keeps no_number ns ms → IsCode ns code → IsCode ms code
code-keeps ns ms code x h = let l = x.longer in omega arith

pub short-keeps : (ns ms : List Number) (code : ℕ) → Keeps no_number ns ms → IsShortCode ns code → IsShortCode ms code
short-keeps ns ms code x h = record { there = code-keeps ns ms code x h.there; short = rw (decoded-keeps ns ms code x h.there) h.short }

pub decoded-small : (ns : List Number) (code : ℕ) → code < 2 ^ 31 → decoded ns code ≡ code
decoded-small ns code h = let e : nat_lt code (2 ^ 31) ≡ true = grind (arith, nat_tests) in rw e refl

pub decoded-large : (ns : List Number) (i : ℕ) → decoded ns (i + 2 ^ 31) ≡ (get_or ns i no_number).value
decoded-large ns i =
    let e : nat_lt (i + 2 ^ 31) (2 ^ 31) ≡ false = grind (arith, nat_tests) in
    let at : i + 2 ^ 31 - 2 ^ 31 ≡ i = omega arith in
    rw (e, at) refl

number-eta : (m n : Number) → m.value ≡ n.value → m ≡ n
number-eta m n h = ap (λ (v : ℕ). let r : Number = record { value = v } in r) h

-- two codes of one number are one
pub decoded-injective : (ns : List Number) → AreNumbers ns → (a b : ℕ) → IsCode ns a → IsCode ns b → decoded ns a ≡ decoded ns b → a ≡ b
decoded-injective ns s a b ha hb h =
    test_cases (nat_lt a (2 ^ 31)) (a ≡ b)
    (λ ea. test_cases (nat_lt b (2 ^ 31)) (a ≡ b)
    (λ eb. rw (ea, eb) at h)
    (λ eb.
    let i : b - 2 ^ 31 < length ns = grind (arith, nat_tests) in
    let large = s.large (b - 2 ^ 31) no_number i in
    let g : a ≡ (get_or ns (b - 2 ^ 31) no_number).value = rw (ea, eb) at h in
    absurd (grind (arith, nat_tests))))
    (λ ea. let i : a - 2 ^ 31 < length ns = grind (arith, nat_tests) in
    test_cases (nat_lt b (2 ^ 31)) (a ≡ b)
    (λ eb.
    let large = s.large (a - 2 ^ 31) no_number i in
    let g : (get_or ns (a - 2 ^ 31) no_number).value ≡ b = rw (ea, eb) at h in
    absurd (grind (arith, nat_tests)))
    (λ eb.
    let j : b - 2 ^ 31 < length ns = grind (arith, nat_tests) in
    let g : (get_or ns (a - 2 ^ 31) no_number).value ≡ (get_or ns (b - 2 ^ 31) no_number).value = rw (ea, eb) at h in
    let same = s.apart.apart (a - 2 ^ 31) (b - 2 ^ 31) i j (number-eta (get_or ns (a - 2 ^ 31) no_number) (get_or ns (b - 2 ^ 31) no_number) g) in
    grind (arith, nat_tests)))

-- Names.
pub key_name-keeps : (texts : List (List ℕ)) (vs us : List Name) (k : NameKey) → Keeps [] vs us → IsNameBelow (length texts) (length vs) k → key_name texts us k ≡ key_name texts vs k
key_name-keeps texts vs us name.Anonymous x h = refl
key_name-keeps texts vs us (name.Text n s) x h = ap (λ m. m ++ text (get_or texts s []) ∷ []) (x.same n h.0)
key_name-keeps texts vs us (name.Number n i) x h = ap (λ m. m ++ number i ∷ []) (x.same n h)

pub key_name-texts : (ts us : List (List ℕ)) (vs : List Name) (k : NameKey) → Keeps [] ts us → IsNameBelow (length ts) (length vs) k → key_name us vs k ≡ key_name ts vs k
key_name-texts ts us vs name.Anonymous x h = refl
key_name-texts ts us vs (name.Text n s) x h = ap (λ t. get_or vs n [] ++ text t ∷ []) (x.same s h.1)
key_name-texts ts us vs (name.Number n i) x h = refl

pub name_below-more : (a b n m : ℕ) (k : NameKey) → a ≤ b → n ≤ m → IsNameBelow a n k → IsNameBelow b m k
name_below-more a b n m name.Anonymous p q h = tt
name_below-more a b n m (name.Text c s) p q h = (omega arith, omega arith)
name_below-more a b n m (name.Number c i) p q h = omega arith

-- the last component of a name, and what stands before it
no_component : (xs : Name) (p : Part) → [] ≡ xs ++ p ∷ [] → ⊥
no_component [] p h = cc
no_component (x ∷ xs) p h = cc

last_component : (xs ys : Name) (p q : Part) → xs ++ p ∷ [] ≡ ys ++ q ∷ [] → (xs ≡ ys) × (p ≡ q)
last_component [] [] p q h = (refl, (cc))
last_component [] (y ∷ ys) p q h = let t : [] ≡ ys ++ q ∷ [] = cc in absurd (no_component ys q t)
last_component (x ∷ xs) [] p q h = let t : [] ≡ xs ++ p ∷ [] = cc in absurd (no_component xs p t)
last_component (x ∷ xs) (y ∷ ys) p q h =
    let t : xs ++ p ∷ [] ≡ ys ++ q ∷ [] = cc in
    let e : x ≡ y = cc in
    let r = last_component xs ys p q t in
    let f = r.0 in (cc, r.1)

pub key_name-injective : (ts : List (List ℕ)) (ns : List Name) → AreApart [] ts → AreApart [] ns → (j k : NameKey) → IsNameBelow (length ts) (length ns) j → IsNameBelow (length ts) (length ns) k
    → key_name ts ns j ≡ key_name ts ns k → j ≡ k
key_name-injective ts ns ta na name.Anonymous name.Anonymous hj hk e = refl
key_name-injective ts ns ta na name.Anonymous (name.Text b t) hj hk e = absurd (no_component (get_or ns b []) (text (get_or ts t [])) e)
key_name-injective ts ns ta na name.Anonymous (name.Number b i) hj hk e = absurd (no_component (get_or ns b []) (number i) e)
key_name-injective ts ns ta na (name.Text a s) name.Anonymous hj hk e = absurd (no_component (get_or ns a []) (text (get_or ts s [])) (sym e))
key_name-injective ts ns ta na (name.Number a i) name.Anonymous hj hk e = absurd (no_component (get_or ns a []) (number i) (sym e))
key_name-injective ts ns ta na (name.Text a s) (name.Text b t) hj hk e =
    let r = last_component (get_or ns a []) (get_or ns b []) (text (get_or ts s [])) (text (get_or ts t [])) e in
    let last = r.1 in
    let same : get_or ts s [] ≡ get_or ts t [] = cc in
    let p = na.apart a b hj.0 hk.0 r.0 in let q = ta.apart s t hj.1 hk.1 same in cc
key_name-injective ts ns ta na (name.Number a i) (name.Number b j) hj hk e =
    let r = last_component (get_or ns a []) (get_or ns b []) (number i) (number j) e in
    let last = r.1 in
    let same : i ≡ j = cc in
    let p = na.apart a b hj hk r.0 in cc
key_name-injective ts ns ta na (name.Text a s) (name.Number b i) hj hk e =
    let last = (last_component (get_or ns a []) (get_or ns b []) (text (get_or ts s [])) (number i) e).1 in absurd (cc)
key_name-injective ts ns ta na (name.Number a i) (name.Text b t) hj hk e =
    let last = (last_component (get_or ns a []) (get_or ns b []) (number i) (text (get_or ts t [])) e).1 in absurd (cc)

-- Levels.
pub key_level-keeps : (names : List Name) (vs us : List Level) (k : LevelKey) → Keeps zero_level vs us → IsLevelBelow (length names) (length vs) k → key_level names us k ≡ key_level names vs k
key_level-keeps names vs us Zero x h = refl
key_level-keeps names vs us (Succ l) x h = ap succ_level (x.same l h)
key_level-keeps names vs us (Max l m) x h = let p = x.same l h.0 in let q = x.same m h.1 in cc
key_level-keeps names vs us (IMax l m) x h = let p = x.same l h.0 in let q = x.same m h.1 in cc
key_level-keeps names vs us (Param n) x h = refl

pub key_level-names : (ns ms : List Name) (vs : List Level) (k : LevelKey) → Keeps [] ns ms → IsLevelBelow (length ns) (length vs) k → key_level ms vs k ≡ key_level ns vs k
key_level-names ns ms vs Zero x h = refl
key_level-names ns ms vs (Succ l) x h = refl
key_level-names ns ms vs (Max l m) x h = refl
key_level-names ns ms vs (IMax l m) x h = refl
key_level-names ns ms vs (Param n) x h = ap param (x.same n h)

pub level_below-more : (names mames n m : ℕ) (k : LevelKey) → names ≤ mames → n ≤ m → IsLevelBelow names n k → IsLevelBelow mames m k
level_below-more names mames n m Zero a b h = tt
level_below-more names mames n m (Succ l) a b h = omega arith
level_below-more names mames n m (Max l k) a b h = (omega arith, omega arith)
level_below-more names mames n m (IMax l k) a b h = (omega arith, omega arith)
level_below-more names mames n m (Param k) a b h = omega arith

pub key_level-injective : (ns : List Name) (ls : List Level) → AreApart [] ns → AreApart zero_level ls → (j k : LevelKey) → IsLevelBelow (length ns) (length ls) j → IsLevelBelow (length ns) (length ls) k
    → key_level ns ls j ≡ key_level ns ls k → j ≡ k
key_level-injective ns ls na la Zero Zero hj hk e = refl
key_level-injective ns ls na la (Succ a) (Succ b) hj hk e = let p = la.apart a b hj hk (cc) in cc
key_level-injective ns ls na la (Max a b) (Max c d) hj hk e = let p = la.apart a c hj.0 hk.0 (cc) in let q = la.apart b d hj.1 hk.1 (cc) in cc
key_level-injective ns ls na la (IMax a b) (IMax c d) hj hk e = let p = la.apart a c hj.0 hk.0 (cc) in let q = la.apart b d hj.1 hk.1 (cc) in cc
key_level-injective ns ls na la (Param a) (Param b) hj hk e = let p = na.apart a b hj hk (cc) in cc
key_level-injective ns ls na la j k hj hk e = cc

-- Lists of levels.
pub key_list-keeps : (ls : List Level) (vs us : List (List Level)) (k : ListKey) → Keeps [] vs us → IsListBelow (length ls) (length vs) k → key_list ls us k ≡ key_list ls vs k
key_list-keeps ls vs us Empty x h = refl
key_list-keeps ls vs us (Cons l m) x h = ap (λ r. get_or ls l zero_level ∷ r) (x.same m h.1)

pub key_list-levels : (ls ms : List Level) (vs : List (List Level)) (k : ListKey) → Keeps zero_level ls ms → IsListBelow (length ls) (length vs) k → key_list ms vs k ≡ key_list ls vs k
key_list-levels ls ms vs Empty x h = refl
key_list-levels ls ms vs (Cons l m) x h = ap (λ r. r ∷ get_or vs m []) (x.same l h.0)

pub list_below-more : (a b n m : ℕ) (k : ListKey) → a ≤ b → n ≤ m → IsListBelow a n k → IsListBelow b m k
list_below-more a b n m Empty p q h = tt
list_below-more a b n m (Cons l k) p q h = (omega arith, omega arith)

pub key_list-injective : (ls : List Level) (qs : List (List Level)) → AreApart zero_level ls → AreApart [] qs → (j k : ListKey) → IsListBelow (length ls) (length qs) j → IsListBelow (length ls) (length qs) k
    → key_list ls qs j ≡ key_list ls qs k → j ≡ k
key_list-injective ls qs la qa Empty Empty hj hk e = refl
key_list-injective ls qs la qa (Cons a b) (Cons c d) hj hk e = let p = la.apart a c hj.0 hk.0 (cc) in let q = qa.apart b d hj.1 hk.1 (cc) in cc
key_list-injective ls qs la qa j k hj hk e = cc

-- Trees.
pub record PartsKeep (p q : Parts) : Type 0 where
  pub numbers : Keeps no_number p.numbers q.numbers
  pub names : Keeps [] p.names q.names
  pub texts : Keeps [] p.texts q.texts
  pub levels : Keeps zero_level p.levels q.levels
  pub lists : Keeps [] p.lists q.lists

pub key_tree-keeps : (p : Parts) (vs us : List Tree) (k : TreeKey) → Keeps wide vs us → IsTreeBelow p (length vs) k → key_tree p us k ≡ key_tree p vs k
key_tree-keeps p vs us (Var i) x h = refl
key_tree-keeps p vs us (Sort l) x h = refl
key_tree-keeps p vs us (Const c ls) x h = refl
key_tree-keeps p vs us (App f a) x h = let r = x.same f h.0 in let s = x.same a h.1 in cc
key_tree-keeps p vs us (Lam A b) x h = let r = x.same A h.0 in let s = x.same b h.1 in cc
key_tree-keeps p vs us (Pi A b) x h = let r = x.same A h.0 in let s = x.same b h.1 in cc
key_tree-keeps p vs us (Let A v b) x h = let r = x.same A h.0 in let s = x.same v h.1 in let t = x.same b h.2 in cc
key_tree-keeps p vs us (Proj S i s) x h = ap (proj (get_or p.names S []) (decoded p.numbers i)) (x.same s h.2)
key_tree-keeps p vs us (Lit n) x h = refl
key_tree-keeps p vs us Wide x h = refl
key_tree-keeps p vs us (Str s) x h = refl
key_tree-keeps p vs us (Local k T) x h = ap (local (decoded p.numbers k)) (x.same T h.1)

pub key_tree-parts : (p q : Parts) (vs : List Tree) (k : TreeKey) → PartsKeep p q → IsTreeBelow p (length vs) k → key_tree q vs k ≡ key_tree p vs k
key_tree-parts p q vs (Var i) x h = ap var (decoded-keeps p.numbers q.numbers i x.numbers h.there)
key_tree-parts p q vs (Sort l) x h = ap sort (x.levels.same l h)
key_tree-parts p q vs (Const c ls) x h = let r = x.names.same c h.0 in let s = x.lists.same ls h.1 in cc
key_tree-parts p q vs (App f a) x h = refl
key_tree-parts p q vs (Lam A b) x h = refl
key_tree-parts p q vs (Pi A b) x h = refl
key_tree-parts p q vs (Let A v b) x h = refl
key_tree-parts p q vs (Proj S i s) x h = let r = x.names.same S h.0 in let t = decoded-keeps p.numbers q.numbers i x.numbers h.1.there in cc
key_tree-parts p q vs (Lit n) x h = ap lit (decoded-keeps p.numbers q.numbers n x.numbers h)
key_tree-parts p q vs Wide x h = refl
key_tree-parts p q vs (Str s) x h = ap str (x.texts.same s h)
key_tree-parts p q vs (Local k T) x h = ap (λ n. local n (get_or vs T wide)) (decoded-keeps p.numbers q.numbers k x.numbers h.0.there)

pub tree_below-parts : (p q : Parts) (n : ℕ) (k : TreeKey) → PartsKeep p q → IsTreeBelow p n k → IsTreeBelow q n k
tree_below-parts p q n (Var i) x h = short-keeps p.numbers q.numbers i x.numbers h
tree_below-parts p q n (Sort l) x h = let m = x.levels.longer in omega arith
tree_below-parts p q n (Const c ls) x h = let m = x.names.longer in let o = x.lists.longer in (omega arith, omega arith)
tree_below-parts p q n (App f a) x h = h
tree_below-parts p q n (Lam A b) x h = h
tree_below-parts p q n (Pi A b) x h = h
tree_below-parts p q n (Let A v b) x h = h
tree_below-parts p q n (Proj S i s) x h = let m = x.names.longer in (omega arith, short-keeps p.numbers q.numbers i x.numbers h.1, h.2)
tree_below-parts p q n (Lit i) x h = code-keeps p.numbers q.numbers i x.numbers h
tree_below-parts p q n Wide x h = tt
tree_below-parts p q n (Str s) x h = let m = x.texts.longer in omega arith
tree_below-parts p q n (Local k T) x h = (short-keeps p.numbers q.numbers k x.numbers h.0, h.1)

pub tree_below-more : (p : Parts) (n m : ℕ) (k : TreeKey) → n ≤ m → IsTreeBelow p n k → IsTreeBelow p m k
tree_below-more p n m (Var i) l h = h
tree_below-more p n m (Sort i) l h = h
tree_below-more p n m (Const c ls) l h = h
tree_below-more p n m (App f a) l h = (omega arith, omega arith)
tree_below-more p n m (Lam A b) l h = (omega arith, omega arith)
tree_below-more p n m (Pi A b) l h = (omega arith, omega arith)
tree_below-more p n m (Let A v b) l h = (omega arith, omega arith, omega arith)
tree_below-more p n m (Proj S i s) l h = (h.0, h.1, omega arith)
tree_below-more p n m (Lit i) l h = h
tree_below-more p n m Wide l h = tt
tree_below-more p n m (Str s) l h = h
tree_below-more p n m (Local k T) l h = (h.0, omega arith)

pub marked-parts : (ns ms : List Number) (t : Tree) (row : TreeRow) → Keeps no_number ns ms → IsMarkedTree ns t row → IsMarkedTree ms t row
marked-parts ns ms t row x h = record {
  loose_code = code-keeps ns ms row.loose x h.loose_code;
  loose_is = decoded-keeps ns ms row.loose x h.loose_code ∙ h.loose_is;
  local_code = code-keeps ns ms row.local x h.local_code;
  local_is = decoded-keeps ns ms row.local x h.local_code ∙ h.local_is;
  params_is = h.params_is;
  narrow_is = h.narrow_is;
}

-- things that are all different
pub record PartsApart (p : Parts) : Type 0 where
  pub numbers : AreNumbers p.numbers
  pub names : AreApart [] p.names
  pub texts : AreApart [] p.texts
  pub levels : AreApart zero_level p.levels
  pub lists : AreApart [] p.lists

pub key_tree-injective : (p : Parts) (ts : List Tree) → PartsApart p → AreApart wide ts → (j k : TreeKey) → IsTreeBelow p (length ts) j → IsTreeBelow p (length ts) k → key_tree p ts j ≡ key_tree p ts k → j ≡ k
key_tree-injective p ts s a (Var i) (Var j) hj hk e = let q = decoded-injective p.numbers s.numbers i j hj.there hk.there (cc) in cc
key_tree-injective p ts s a (Sort i) (Sort j) hj hk e = let q = s.levels.apart i j hj hk (cc) in cc
key_tree-injective p ts s a (Const c ls) (Const d ms) hj hk e = let q = s.names.apart c d hj.0 hk.0 (cc) in let r = s.lists.apart ls ms hj.1 hk.1 (cc) in cc
key_tree-injective p ts s a (App f x) (App g y) hj hk e = let q = a.apart f g hj.0 hk.0 (cc) in let r = a.apart x y hj.1 hk.1 (cc) in cc
key_tree-injective p ts s a (Lam f x) (Lam g y) hj hk e = let q = a.apart f g hj.0 hk.0 (cc) in let r = a.apart x y hj.1 hk.1 (cc) in cc
key_tree-injective p ts s a (Pi f x) (Pi g y) hj hk e = let q = a.apart f g hj.0 hk.0 (cc) in let r = a.apart x y hj.1 hk.1 (cc) in cc
key_tree-injective p ts s a (Let f v x) (Let g w y) hj hk e =
    let q = a.apart f g hj.0 hk.0 (cc) in let r = a.apart v w hj.1 hk.1 (cc) in let t = a.apart x y hj.2 hk.2 (cc) in cc
key_tree-injective p ts s a (Proj S i x) (Proj T j y) hj hk e =
    let q = s.names.apart S T hj.0 hk.0 (cc) in let r = decoded-injective p.numbers s.numbers i j hj.1.there hk.1.there (cc) in let t = a.apart x y hj.2 hk.2 (cc) in cc
key_tree-injective p ts s a (Lit i) (Lit j) hj hk e = let q = decoded-injective p.numbers s.numbers i j hj hk (cc) in cc
key_tree-injective p ts s a Wide Wide hj hk e = refl
key_tree-injective p ts s a (Str i) (Str j) hj hk e = let q = s.texts.apart i j hj hk (cc) in cc
key_tree-injective p ts s a (Local i x) (Local j y) hj hk e =
    let q = decoded-injective p.numbers s.numbers i j hj.0.there hk.0.there (cc) in let r = a.apart x y hj.1 hk.1 (cc) in cc
key_tree-injective p ts s a j k hj hk e = cc
