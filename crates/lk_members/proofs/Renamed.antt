-- What is said of lines stays when names are renamed, different ones to different ones, and what is stated is put in another way.
use Rattle.std.proofs.Common.{◌≡◌, Bool, true, false, ◌&&◌, List, [], ◌∷◌, map, Option, Some, None, refl, sym, ap, ◌∙◌, if◌then◌else◌}
use Rattle.std.specs.Prelude.{not, option_map, is_some, All, IfSome}
use Rattle.std.specs.List.{list_any, flat_map}
use Rattle.std.proofs.lemmas.List.{map-append}
use Rattle.std.proofs.lemmas.List.Elements.{All-head, All-tail}
use Rattle.lk_members.specs.Lines.{StatedMember, alone, a_type, a_ctor, a_recursor, MemberLine, or_next, has, same_list, is_distinct, types_with, block_of, type_here, type_of, ctor_here, ctor_of, recursor_here, recursors_of, is_recursor_here, has_recursor}
use Rattle.lk_members.specs.Faults.{is_other, lists_ctor, crosses, bad_lists, fault_of, is_block, is_open, first_open}
use Rattle.lk_members.specs.Units.{Gathered, one, block, if_any, is_this, ctors_listed, with_ctors, block_with, block_at, is_last, ended, at_line, units_from}

-- the names renamed by f, and what is stated put in another way
module _ {X Y D E T U C K R S : Type 0} (f : X → Y) (fd : D → E) (ft : T → U) (fc : C → K) (fr : R → S) where
  abbrev pub said_renamed : StatedMember X D T C R → StatedMember Y E U K S
  said_renamed (alone d) = alone (fd d)
  said_renamed (a_type n ts cs t) = a_type (f n) (map f ts) (map f cs) (ft t)
  said_renamed (a_ctor p n c) = a_ctor (f p) (f n) (fc c)
  said_renamed (a_recursor ts n r) = a_recursor (map f ts) (f n) (fr r)

  abbrev pub line_renamed : MemberLine X D T C R → MemberLine Y E U K S
  line_renamed l = record { number = l.number; said = said_renamed l.said }

module _ {D E T U C K R S : Type 0} (fd : D → E) (ft : T → U) (fc : C → K) (fr : R → S) where
  abbrev pub typed_put : T × List C → U × List K
  typed_put t = (ft t.0, map fc t.1)

  abbrev pub unit_renamed : Gathered D T C R → Gathered E U K S
  unit_renamed (one d) = one (fd d)
  unit_renamed (block ts rs) = block (map typed_put ts) (map fr rs)

-- its names are known
module _ {X D T C R : Type 0} (P : X → Type 0) where
  abbrev pub IsKnownMember : StatedMember X D T C R → Type 0
  IsKnownMember (alone d) = Unit {0}
  IsKnownMember (a_type n ts cs t) = P n × (All P ts × All P cs)
  IsKnownMember (a_ctor p n c) = P p × P n
  IsKnownMember (a_recursor ts n r) = All P ts × P n

  abbrev pub AreKnownLines : List (MemberLine X D T C R) → Type 0
  AreKnownLines [] = Unit {0}
  AreKnownLines (l ∷ ls) = IsKnownMember l.said × AreKnownLines ls

module _ {X Y : Type 0} (sx : X → X → Bool) (sy : Y → Y → Bool) (f : X → Y) (P : X → Type 0) (faithful : (x y : X) → P x → P y → sy (f x) (f y) ≡ sx x y) where
  has_stays : (ys : List X) (x : X) → All P ys → P x → has sy (map f ys) (f x) ≡ has sx ys x
  has_stays [] x h p = refl
  has_stays (y ∷ ys) x h p =
      let a : sy (f y) (f x) ≡ sx y x = faithful y x (All-head P y ys h) p in
      let b : has sy (map f ys) (f x) ≡ has sx ys x = has_stays ys x (All-tail P y ys h) p in
      rw (a, b) refl

  list_stays : (xs ys : List X) → All P xs → All P ys → same_list sy (map f xs) (map f ys) ≡ same_list sx xs ys
  list_stays [] [] h g = refl
  list_stays [] (y ∷ ys) h g = refl
  list_stays (x ∷ xs) [] h g = refl
  list_stays (x ∷ xs) (y ∷ ys) h g =
      let a : sy (f x) (f y) ≡ sx x y = faithful x y (All-head P x xs h) (All-head P y ys g) in
      let b : same_list sy (map f xs) (map f ys) ≡ same_list sx xs ys = list_stays xs ys (All-tail P x xs h) (All-tail P y ys g) in
      rw (a, b) refl

  distinct_stays : (xs : List X) → All P xs → is_distinct sy (map f xs) ≡ is_distinct sx xs
  distinct_stays [] h = refl
  distinct_stays (x ∷ xs) h =
      let a : has sy (map f xs) (f x) ≡ has sx xs x = has_stays xs x (All-tail P x xs h) (All-head P x xs h) in
      let b : is_distinct sy (map f xs) ≡ is_distinct sx xs = distinct_stays xs (All-tail P x xs h) in
      rw (a, b) refl

  -- a list that was found is known
  abbrev IsKnownList : Option (List X) → Type 0
  IsKnownList o = IfSome o (All P)

  other_stays : (o : Option (List X)) (ts : List X) → IsKnownList o → All P ts → is_other sy (option_map (map f) o) (map f ts) ≡ is_other sx o ts
  other_stays None ts h g = refl
  other_stays (Some us) ts h g = ap not (list_stays us ts h g)

  this_stays : (o : Option (List X)) (ts : List X) → IsKnownList o → All P ts → is_this sy (map f ts) (option_map (map f) o) ≡ is_this sx ts o
  this_stays None ts h g = refl
  this_stays (Some us) ts h g = list_stays us ts h g

  any_stays : (p : X → Bool) (q : Y → Bool) (xs : List X) → All P xs → ((x : X) → P x → q (f x) ≡ p x) → list_any q (map f xs) ≡ list_any p xs
  any_stays p q [] h g = refl
  any_stays p q (x ∷ xs) h g =
      let a : q (f x) ≡ p x = g x (All-head P x xs h) in
      let b : list_any q (map f xs) ≡ list_any p xs = any_stays p q xs (All-tail P x xs h) g in
      rw (a, b) refl

  module _ {D E T U C K R S : Type 0} (fd : D → E) (ft : T → U) (fc : C → K) (fr : R → S) where
    abbrev type_put : T × List X → U × List Y
    type_put t = (ft t.0, map f t.1)

    next_put : {A B : Type 0} (g : A → B) (o p : Option A) → or_next (option_map g o) (option_map g p) ≡ option_map g (or_next o p)
    next_put g (Some a) p = refl
    next_put g None p = refl

    -- the types of a block
    with_stays : (s : StatedMember X D T C R) (x : X) → IsKnownMember P s → P x → types_with sy (said_renamed f fd ft fc fr s) (f x) ≡ option_map (map f) (types_with sx s x)
    with_stays (alone d) x k p = refl
    with_stays (a_ctor q n c) x k p = refl
    with_stays (a_recursor ts n r) x k p = refl
    with_stays (a_type n ts cs t) x k p = ap (λ b. if b then Some (map f ts) else None) (has_stays ts x k.1.0 p) ∙ go (has sx ts x)
      where
        go : (b : Bool) → (if b then Some (map f ts) else None) ≡ option_map (map f) (if b then Some ts else None)
        go true = refl
        go false = refl

    with_known : (s : StatedMember X D T C R) (x : X) → IsKnownMember P s → IsKnownList (types_with sx s x)
    with_known (alone d) x k = tt
    with_known (a_ctor q n c) x k = tt
    with_known (a_recursor ts n r) x k = tt
    with_known (a_type n ts cs t) x k = go (has sx ts x)
      where
        go : (b : Bool) → IsKnownList (if b then Some ts else None)
        go true = k.1.0
        go false = tt

    next_known : (o p : Option (List X)) → IsKnownList o → IsKnownList p → IsKnownList (or_next o p)
    next_known (Some a) p h g = h
    next_known None p h g = g

    block_stays : (ls : List (MemberLine X D T C R)) (x : X) → AreKnownLines P ls → P x → block_of sy (map (line_renamed f fd ft fc fr) ls) (f x) ≡ option_map (map f) (block_of sx ls x)
    block_stays [] x k p = refl
    block_stays (l ∷ ls) x k p =
        let a : types_with sy (said_renamed f fd ft fc fr l.said) (f x) ≡ option_map (map f) (types_with sx l.said x) = with_stays l.said x k.0 p in
        let b : block_of sy (map (line_renamed f fd ft fc fr) ls) (f x) ≡ option_map (map f) (block_of sx ls x) = block_stays ls x k.1 p in
        rw (a, b) (next_put (map f) (types_with sx l.said x) (block_of sx ls x))

    block_known : (ls : List (MemberLine X D T C R)) (x : X) → AreKnownLines P ls → IsKnownList (block_of sx ls x)
    block_known [] x k = tt
    block_known (l ∷ ls) x k = next_known (types_with sx l.said x) (block_of sx ls x) (with_known l.said x k.0) (block_known ls x k.1)

    -- types
    type_here_stays : (s : StatedMember X D T C R) (x : X) → IsKnownMember P s → P x → type_here sy (said_renamed f fd ft fc fr s) (f x) ≡ option_map type_put (type_here sx s x)
    type_here_stays (alone d) x k p = refl
    type_here_stays (a_ctor q n c) x k p = refl
    type_here_stays (a_recursor ts n r) x k p = refl
    type_here_stays (a_type n ts cs t) x k p = ap (λ b. if b then Some (ft t, map f cs) else None) (faithful n x k.0 p) ∙ go (sx n x)
      where
        go : (b : Bool) → (if b then Some (ft t, map f cs) else None) ≡ option_map type_put (if b then Some (t, cs) else None)
        go true = refl
        go false = refl

    type_stays : (ls : List (MemberLine X D T C R)) (x : X) → AreKnownLines P ls → P x → type_of sy (map (line_renamed f fd ft fc fr) ls) (f x) ≡ option_map type_put (type_of sx ls x)
    type_stays [] x k p = refl
    type_stays (l ∷ ls) x k p =
        let a : type_here sy (said_renamed f fd ft fc fr l.said) (f x) ≡ option_map type_put (type_here sx l.said x) = type_here_stays l.said x k.0 p in
        let b : type_of sy (map (line_renamed f fd ft fc fr) ls) (f x) ≡ option_map type_put (type_of sx ls x) = type_stays ls x k.1 p in
        rw (a, b) (next_put type_put (type_here sx l.said x) (type_of sx ls x))

    abbrev IsKnownType : Option (T × List X) → Type 0
    IsKnownType o = IfSome o (λ t. All P t.1)

    type_here_known : (s : StatedMember X D T C R) (x : X) → IsKnownMember P s → IsKnownType (type_here sx s x)
    type_here_known (alone d) x k = tt
    type_here_known (a_ctor q n c) x k = tt
    type_here_known (a_recursor ts n r) x k = tt
    type_here_known (a_type n ts cs t) x k = go (sx n x)
      where
        go : (b : Bool) → IsKnownType (if b then Some (t, cs) else None)
        go true = k.1.1
        go false = tt

    next_type_known : (o p : Option (T × List X)) → IsKnownType o → IsKnownType p → IsKnownType (or_next o p)
    next_type_known (Some a) p h g = h
    next_type_known None p h g = g

    type_known : (ls : List (MemberLine X D T C R)) (x : X) → AreKnownLines P ls → IsKnownType (type_of sx ls x)
    type_known [] x k = tt
    type_known (l ∷ ls) x k = next_type_known (type_here sx l.said x) (type_of sx ls x) (type_here_known l.said x k.0) (type_known ls x k.1)

    -- constructors
    ctor_here_stays : (s : StatedMember X D T C R) (t x : X) → IsKnownMember P s → P t → P x → ctor_here sy (said_renamed f fd ft fc fr s) (f t) (f x) ≡ option_map fc (ctor_here sx s t x)
    ctor_here_stays (alone d) t x k p q = refl
    ctor_here_stays (a_type n ts cs u) t x k p q = refl
    ctor_here_stays (a_recursor ts n r) t x k p q = refl
    ctor_here_stays (a_ctor m n c) t x k p q =
        let a : sy (f m) (f t) ≡ sx m t = faithful m t k.0 p in
        let b : sy (f n) (f x) ≡ sx n x = faithful n x k.1 q in
        rw (a, b) (go (sx m t && sx n x))
      where
        go : (b : Bool) → (if b then Some (fc c) else None) ≡ option_map fc (if b then Some c else None)
        go true = refl
        go false = refl

    ctor_stays : (ls : List (MemberLine X D T C R)) (t x : X) → AreKnownLines P ls → P t → P x → ctor_of sy (map (line_renamed f fd ft fc fr) ls) (f t) (f x) ≡ option_map fc (ctor_of sx ls t x)
    ctor_stays [] t x k p q = refl
    ctor_stays (l ∷ ls) t x k p q =
        let a : ctor_here sy (said_renamed f fd ft fc fr l.said) (f t) (f x) ≡ option_map fc (ctor_here sx l.said t x) = ctor_here_stays l.said t x k.0 p q in
        let b : ctor_of sy (map (line_renamed f fd ft fc fr) ls) (f t) (f x) ≡ option_map fc (ctor_of sx ls t x) = ctor_stays ls t x k.1 p q in
        rw (a, b) (next_put fc (ctor_here sx l.said t x) (ctor_of sx ls t x))

    -- recursors
    recursor_here_stays : (s : StatedMember X D T C R) (us : List X) → IsKnownMember P s → All P us → recursor_here sy (said_renamed f fd ft fc fr s) (map f us) ≡ map fr (recursor_here sx s us)
    recursor_here_stays (alone d) us k h = refl
    recursor_here_stays (a_type n ts cs t) us k h = refl
    recursor_here_stays (a_ctor m n c) us k h = refl
    recursor_here_stays (a_recursor ts n r) us k h = ap (λ b. if b then fr r ∷ [] else []) (list_stays ts us k.0 h) ∙ go (same_list sx ts us)
      where
        go : (b : Bool) → (if b then fr r ∷ [] else []) ≡ map fr (if b then r ∷ [] else [])
        go true = refl
        go false = refl

    recursors_stay : (ls : List (MemberLine X D T C R)) (us : List X) → AreKnownLines P ls → All P us → recursors_of sy (map (line_renamed f fd ft fc fr) ls) (map f us) ≡ map fr (recursors_of sx ls us)
    recursors_stay [] us k h = refl
    recursors_stay (l ∷ ls) us k h =
        let a : recursor_here sy (said_renamed f fd ft fc fr l.said) (map f us) ≡ map fr (recursor_here sx l.said us) = recursor_here_stays l.said us k.0 h in
        let b : recursors_of sy (map (line_renamed f fd ft fc fr) ls) (map f us) ≡ map fr (recursors_of sx ls us) = recursors_stay ls us k.1 h in
        rw (a, b) (sym (map-append fr (recursor_here sx l.said us) (recursors_of sx ls us)))

    is_here_stays : (s : StatedMember X D T C R) (us : List X) (x : X) → IsKnownMember P s → All P us → P x → is_recursor_here sy (said_renamed f fd ft fc fr s) (map f us) (f x) ≡ is_recursor_here sx s us x
    is_here_stays (alone d) us x k h p = refl
    is_here_stays (a_type n ts cs t) us x k h p = refl
    is_here_stays (a_ctor m n c) us x k h p = refl
    is_here_stays (a_recursor ts n r) us x k h p =
        let a : same_list sy (map f ts) (map f us) ≡ same_list sx ts us = list_stays ts us k.0 h in
        let b : sy (f n) (f x) ≡ sx n x = faithful n x k.1 p in
        rw (a, b) refl

    has_recursor_stays : (ls : List (MemberLine X D T C R)) (us : List X) (x : X) → AreKnownLines P ls → All P us → P x → has_recursor sy (map (line_renamed f fd ft fc fr) ls) (map f us) (f x) ≡ has_recursor sx ls us x
    has_recursor_stays [] us x k h p = refl
    has_recursor_stays (l ∷ ls) us x k h p =
        let a : is_recursor_here sy (said_renamed f fd ft fc fr l.said) (map f us) (f x) ≡ is_recursor_here sx l.said us x = is_here_stays l.said us x k.0 h p in
        let b : has_recursor sy (map (line_renamed f fd ft fc fr) ls) (map f us) (f x) ≡ has_recursor sx ls us x = has_recursor_stays ls us x k.1 h p in
        rw (a, b) refl

    -- faults
    some_put : {A B : Type 0} (g : A → B) (o : Option A) → is_some (option_map g o) ≡ is_some o
    some_put g (Some a) = refl
    some_put g None = refl

    crosses_stays : (ls : List (MemberLine X D T C R)) (ts : List X) → AreKnownLines P ls → All P ts → crosses sy (map (line_renamed f fd ft fc fr) ls) (map f ts) ≡ crosses sx ls ts
    crosses_stays ls ts k h =
        any_stays (λ x. is_other sx (block_of sx ls x) ts) (λ y. is_other sy (block_of sy (map (line_renamed f fd ft fc fr) ls) y) (map f ts)) ts h
        (λ x p. ap (λ o. is_other sy o (map f ts)) (block_stays ls x k p) ∙ other_stays (block_of sx ls x) ts (block_known ls x k) h)

    bad_stays : (ls : List (MemberLine X D T C R)) (n : X) (ts cs : List X) → AreKnownLines P ls → P n → All P ts → All P cs → bad_lists sy (map (line_renamed f fd ft fc fr) ls) (f n) (map f ts) (map f cs) ≡ bad_lists sx ls n ts cs
    bad_stays ls n ts cs k p h g =
        let a : has sy (map f ts) (f n) ≡ has sx ts n = has_stays ts n h p in
        let b : crosses sy (map (line_renamed f fd ft fc fr) ls) (map f ts) ≡ crosses sx ls ts = crosses_stays ls ts k h in
        let d : is_distinct sy (map f ts) ≡ is_distinct sx ts = distinct_stays ts h in
        let e : is_distinct sy (map f cs) ≡ is_distinct sx cs = distinct_stays cs g in
        rw (a, b, d, e) refl

    pub fault_stays : (ls : List (MemberLine X D T C R)) (s : StatedMember X D T C R) → AreKnownLines P ls → IsKnownMember P s → fault_of sy (map (line_renamed f fd ft fc fr) ls) (said_renamed f fd ft fc fr s) ≡ fault_of sx ls s
    fault_stays ls (alone d) k h = refl
    fault_stays ls (a_type n ts cs t) k h =
        let a : bad_lists sy (map (line_renamed f fd ft fc fr) ls) (f n) (map f ts) (map f cs) ≡ bad_lists sx ls n ts cs = bad_stays ls n ts cs k h.0 h.1.0 h.1.1 in
        let b : is_some (type_of sy (map (line_renamed f fd ft fc fr) ls) (f n)) ≡ is_some (type_of sx ls n) = ap is_some (type_stays ls n k h.0) ∙ some_put type_put (type_of sx ls n) in
        rw (a, b) refl
    fault_stays ls (a_ctor p n c) k h =
        let b : is_some (ctor_of sy (map (line_renamed f fd ft fc fr) ls) (f p) (f n)) ≡ is_some (ctor_of sx ls p n) = ap is_some (ctor_stays ls p n k h.0 h.1) ∙ some_put fc (ctor_of sx ls p n) in
        rw b refl
    fault_stays ls (a_recursor ts n r) k h =
        let b : has_recursor sy (map (line_renamed f fd ft fc fr) ls) (map f ts) (f n) ≡ has_recursor sx ls ts n = has_recursor_stays ls ts n k h.0 h.1 in
        rw b refl

    -- open lines
    lists_stays : (o : Option (T × List X)) (x : X) → IsKnownType o → P x → lists_ctor sy (option_map type_put o) (f x) ≡ lists_ctor sx o x
    lists_stays None x h p = refl
    lists_stays (Some t) x h p = has_stays t.1 x h p

    is_block_stays : (ls : List (MemberLine X D T C R)) (ts : List X) → AreKnownLines P ls → All P ts → is_block sy (map (line_renamed f fd ft fc fr) ls) (map f ts) ≡ is_block sx ls ts
    is_block_stays ls [] k h = refl
    is_block_stays ls (t ∷ ts) k h =
        ap (λ o. elim o [ Some us ↦ same_list sy us (map f (t ∷ ts)) | None ↦ false ]) (block_stays ls t k (All-head P t ts h)) ∙ go (block_of sx ls t) (block_known ls t k)
      where
        go : (o : Option (List X)) → IsKnownList o
            → ◌≡◌ {A = Bool} (elim (option_map (map f) o) [ Some us ↦ same_list sy us (map f (t ∷ ts)) | None ↦ false ]) (elim o [ Some us ↦ same_list sx us (t ∷ ts) | None ↦ false ])
        go None q = refl
        go (Some us) q = list_stays us (t ∷ ts) q h

    open_stays : (ls : List (MemberLine X D T C R)) (s : StatedMember X D T C R) → AreKnownLines P ls → IsKnownMember P s → is_open sy (map (line_renamed f fd ft fc fr) ls) (said_renamed f fd ft fc fr s) ≡ is_open sx ls s
    open_stays ls (alone d) k h = refl
    open_stays ls (a_type n ts cs t) k h =
        let a : list_any (λ y. not (is_some (type_of sy (map (line_renamed f fd ft fc fr) ls) y))) (map f ts) ≡ list_any (λ x. not (is_some (type_of sx ls x))) ts =
        any_stays (λ x. not (is_some (type_of sx ls x))) (λ y. not (is_some (type_of sy (map (line_renamed f fd ft fc fr) ls) y))) ts h.1.0
        (λ x p. ap (λ o. not (is_some o)) (type_stays ls x k p) ∙ ap not (some_put type_put (type_of sx ls x))) in
        let b : list_any (λ y. not (is_some (ctor_of sy (map (line_renamed f fd ft fc fr) ls) (f n) y))) (map f cs) ≡ list_any (λ x. not (is_some (ctor_of sx ls n x))) cs =
        any_stays (λ x. not (is_some (ctor_of sx ls n x))) (λ y. not (is_some (ctor_of sy (map (line_renamed f fd ft fc fr) ls) (f n) y))) cs h.1.1
        (λ x p. ap (λ o. not (is_some o)) (ctor_stays ls n x k h.0 p) ∙ ap not (some_put fc (ctor_of sx ls n x))) in
        rw (a, b) refl
    open_stays ls (a_ctor p n c) k h =
        ap (λ o. not (lists_ctor sy o (f n))) (type_stays ls p k h.0) ∙ ap not (lists_stays (type_of sx ls p) n (type_known ls p k) h.1)
    open_stays ls (a_recursor ts n r) k h = ap not (is_block_stays ls ts k h.0)

    pub first_stays : (all ls : List (MemberLine X D T C R)) → AreKnownLines P all → AreKnownLines P ls → first_open sy (map (line_renamed f fd ft fc fr) all) (map (line_renamed f fd ft fc fr) ls) ≡ first_open sx all ls
    first_stays all [] k h = refl
    first_stays all (l ∷ ls) k h =
        let a : is_open sy (map (line_renamed f fd ft fc fr) all) (said_renamed f fd ft fc fr l.said) ≡ is_open sx all l.said = open_stays all l.said k h.0 in
        let b : first_open sy (map (line_renamed f fd ft fc fr) all) (map (line_renamed f fd ft fc fr) ls) ≡ first_open sx all ls = first_stays all ls k h.1 in
        rw (a, b) refl

    -- units
    any_put : {A B : Type 0} (g : A → B) (o : Option A) → if_any (option_map g o) ≡ map g (if_any o)
    any_put g None = refl
    any_put g (Some a) = refl

    ctors_stay : (ls : List (MemberLine X D T C R)) (t : X) (cs : List X) → AreKnownLines P ls → P t → All P cs → ctors_listed sy (map (line_renamed f fd ft fc fr) ls) (f t) (map f cs) ≡ map fc (ctors_listed sx ls t cs)
    ctors_stay ls t [] k p h = refl
    ctors_stay ls t (x ∷ cs) k p h =
        let a : if_any (ctor_of sy (map (line_renamed f fd ft fc fr) ls) (f t) (f x)) ≡ map fc (if_any (ctor_of sx ls t x)) = ap if_any (ctor_stays ls t x k p (All-head P x cs h)) ∙ any_put fc (ctor_of sx ls t x) in
        let b : ctors_listed sy (map (line_renamed f fd ft fc fr) ls) (f t) (map f cs) ≡ map fc (ctors_listed sx ls t cs) = ctors_stay ls t cs k p (All-tail P x cs h) in
        rw (a, b) (sym (map-append fc (if_any (ctor_of sx ls t x)) (ctors_listed sx ls t cs)))

    with_ctors_stay : (ls : List (MemberLine X D T C R)) (x : X) (o : Option (T × List X)) → AreKnownLines P ls → P x → IsKnownType o → with_ctors sy (map (line_renamed f fd ft fc fr) ls) (f x) (option_map type_put o) ≡ map (typed_put fd ft fc fr) (with_ctors sx ls x o)
    with_ctors_stay ls x None k p h = refl
    with_ctors_stay ls x (Some t) k p h = ap (λ cs. (ft t.0, cs) ∷ []) (ctors_stay ls x t.1 k p h)

    types_stay : (ls : List (MemberLine X D T C R)) (ts : List X) → AreKnownLines P ls → All P ts →
        flat_map (λ y. with_ctors sy (map (line_renamed f fd ft fc fr) ls) y (type_of sy (map (line_renamed f fd ft fc fr) ls) y)) (map f ts) ≡ map (typed_put fd ft fc fr) (flat_map (λ x. with_ctors sx ls x (type_of sx ls x)) ts)
    types_stay ls [] k h = refl
    types_stay ls (x ∷ ts) k h =
        let a : with_ctors sy (map (line_renamed f fd ft fc fr) ls) (f x) (type_of sy (map (line_renamed f fd ft fc fr) ls) (f x)) ≡ map (typed_put fd ft fc fr) (with_ctors sx ls x (type_of sx ls x)) =
        ap (with_ctors sy (map (line_renamed f fd ft fc fr) ls) (f x)) (type_stays ls x k (All-head P x ts h)) ∙ with_ctors_stay ls x (type_of sx ls x) k (All-head P x ts h) (type_known ls x k) in
        let b : flat_map (λ y. with_ctors sy (map (line_renamed f fd ft fc fr) ls) y (type_of sy (map (line_renamed f fd ft fc fr) ls) y)) (map f ts) ≡ map (typed_put fd ft fc fr) (flat_map (λ z. with_ctors sx ls z (type_of sx ls z)) ts) =
        types_stay ls ts k (All-tail P x ts h) in
        rw (a, b) (sym (map-append (typed_put fd ft fc fr) (with_ctors sx ls x (type_of sx ls x)) (flat_map (λ z. with_ctors sx ls z (type_of sx ls z)) ts)))

    block_with_stays : (ls : List (MemberLine X D T C R)) (ts : List X) → AreKnownLines P ls → All P ts → block_with sy (map (line_renamed f fd ft fc fr) ls) (map f ts) ≡ unit_renamed fd ft fc fr (block_with sx ls ts)
    block_with_stays ls ts k h =
        ap (λ us. block us (recursors_of sy (map (line_renamed f fd ft fc fr) ls) (map f ts))) (types_stay ls ts k h)
        ∙ ap (λ rs. block (map (typed_put fd ft fc fr) (flat_map (λ x. with_ctors sx ls x (type_of sx ls x)) ts)) rs) (recursors_stay ls ts k h)

    block_at_stays : (ls : List (MemberLine X D T C R)) (s : StatedMember X D T C R) → AreKnownLines P ls → IsKnownMember P s → block_at sy (map (line_renamed f fd ft fc fr) ls) (said_renamed f fd ft fc fr s) ≡ option_map (map f) (block_at sx ls s)
    block_at_stays ls (alone d) k h = refl
    block_at_stays ls (a_type n ts cs t) k h = refl
    block_at_stays ls (a_ctor p n c) k h = block_stays ls p k h.0
    block_at_stays ls (a_recursor ts n r) k h = refl

    block_at_known : (ls : List (MemberLine X D T C R)) (s : StatedMember X D T C R) → AreKnownLines P ls → IsKnownMember P s → IsKnownList (block_at sx ls s)
    block_at_known ls (alone d) k h = tt
    block_at_known ls (a_type n ts cs t) k h = h.1.0
    block_at_known ls (a_ctor p n c) k h = block_known ls p k
    block_at_known ls (a_recursor ts n r) k h = tt

    later_stays : (ls later : List (MemberLine X D T C R)) (ts : List X) → AreKnownLines P ls → AreKnownLines P later → All P ts →
        list_any (λ (l : MemberLine Y E U K S). is_this sy (map f ts) (block_at sy (map (line_renamed f fd ft fc fr) ls) l.said)) (map (line_renamed f fd ft fc fr) later) ≡ list_any (λ (l : MemberLine X D T C R). is_this sx ts (block_at sx ls l.said)) later
    later_stays ls [] ts k h g = refl
    later_stays ls (l ∷ later) ts k h g =
        let a : is_this sy (map f ts) (block_at sy (map (line_renamed f fd ft fc fr) ls) (said_renamed f fd ft fc fr l.said)) ≡ is_this sx ts (block_at sx ls l.said) =
        ap (is_this sy (map f ts)) (block_at_stays ls l.said k h.0) ∙ this_stays (block_at sx ls l.said) ts (block_at_known ls l.said k h.0) g in
        let b = later_stays ls later ts k h.1 g in
        rw (a, b) refl

    ended_stays : (ls later : List (MemberLine X D T C R)) (o : Option (List X)) → AreKnownLines P ls → AreKnownLines P later → IsKnownList o →
        ended sy (map (line_renamed f fd ft fc fr) ls) (map (line_renamed f fd ft fc fr) later) (option_map (map f) o) ≡ map (unit_renamed fd ft fc fr) (ended sx ls later o)
    ended_stays ls later None k h g = refl
    ended_stays ls later (Some ts) k h g =
        ap (λ b. if not b then block_with sy (map (line_renamed f fd ft fc fr) ls) (map f ts) ∷ [] else []) (later_stays ls later ts k h g)
        ∙ ap (λ u. if is_last sx ls later ts then u ∷ [] else []) (block_with_stays ls ts k g) ∙ go (is_last sx ls later ts)
      where
        go : (b : Bool) → (if b then unit_renamed fd ft fc fr (block_with sx ls ts) ∷ [] else []) ≡ map (unit_renamed fd ft fc fr) (if b then block_with sx ls ts ∷ [] else [])
        go true = refl
        go false = refl

    at_stays : (ls later : List (MemberLine X D T C R)) (s : StatedMember X D T C R) → AreKnownLines P ls → AreKnownLines P later → IsKnownMember P s →
        at_line sy (map (line_renamed f fd ft fc fr) ls) (map (line_renamed f fd ft fc fr) later) (said_renamed f fd ft fc fr s) ≡ map (unit_renamed fd ft fc fr) (at_line sx ls later s)
    at_stays ls later (alone d) k h g = refl
    at_stays ls later (a_type n ts cs t) k h g = ended_stays ls later (Some ts) k h g.1.0
    at_stays ls later (a_ctor p n c) k h g =
        ap (ended sy (map (line_renamed f fd ft fc fr) ls) (map (line_renamed f fd ft fc fr) later)) (block_stays ls p k g.0) ∙ ended_stays ls later (block_of sx ls p) k h (block_known ls p k)
    at_stays ls later (a_recursor ts n r) k h g = refl

    pub units_stay : (all ls : List (MemberLine X D T C R)) → AreKnownLines P all → AreKnownLines P ls → units_from sy (map (line_renamed f fd ft fc fr) all) (map (line_renamed f fd ft fc fr) ls) ≡ map (unit_renamed fd ft fc fr) (units_from sx all ls)
    units_stay all [] k h = refl
    units_stay all (l ∷ ls) k h =
        let a : at_line sy (map (line_renamed f fd ft fc fr) all) (map (line_renamed f fd ft fc fr) ls) (said_renamed f fd ft fc fr l.said) ≡ map (unit_renamed fd ft fc fr) (at_line sx all ls l.said) = at_stays all ls l.said k h.1 h.0 in
        let b : units_from sy (map (line_renamed f fd ft fc fr) all) (map (line_renamed f fd ft fc fr) ls) ≡ map (unit_renamed fd ft fc fr) (units_from sx all ls) = units_stay all ls k h.1 in
        rw (a, b) (sym (map-append (unit_renamed fd ft fc fr) (at_line sx all ls l.said) (units_from sx all ls)))
