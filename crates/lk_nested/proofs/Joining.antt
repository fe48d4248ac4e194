-- The walk that replaces nested occurrences goes on with the first one that was not met, and where all were met it replaces them.
use Rattle.std.proofs.Common.{◌≡◌, Bool, true, false, List, [], ◌∷◌, ◌++◌, Option, None, Some, refl, sym, ap, subst, ◌∙◌, append_assoc}
use Rattle.std.specs.Prelude.{if◌then◌else◌, ◌||◌, nat_eq, length}
use Rattle.std.proofs.lemmas.List.{append-nil}
use Rattle.std.proofs.lemmas.List.Elements.{All-head, All-tail, All-weaker}
use Rattle.lk_tree.specs.Tree.{Name, Level, Tree, var, sort, const, app, lam, pi, let_in, proj, lit, wide, str, local, tree_discrete}
use Rattle.lk_tree.specs.Spine.{head, args}
use Rattle.lk_tree.specs.Mentions.{is_one_of}
use Rattle.lk_tree.specs.declared.rule.Rule.{Rule}
use Rattle.lk_tree.specs.declared.rule.Rule.TheVariants.{UnknownConstant}
use Rattle.lk_rulebook.specs.Place.{Place, Entry, Kind, an_axiom, a_def, a_thm, an_opaque, a_quot, a_type, a_ctor, a_rec}
use Rattle.lk_rulebook.specs.SameTree.{decided}
use Rattle.lk_questions.specs.Program.{Program, done, look, ◌>>=◌}
use Rattle.lk_inductive.specs.BlockSteps.{mention_none, is_among}
use Rattle.lk_inductive.specs.Enlarged.{Aux, Setting}
use Rattle.lk_inductive.specs.Nested.{replaced, at_kind, at_head, nest}
use Rattle.lk_nested.specs.Findings.{Finding, found, refused, asking, looked, finding}
use Rattle.lk_nested.proofs.Thens.{then_found, bind_found, then_ext, then_assoc}
use Rattle.lk_nested.specs.Swaps.{instead, or_built, swapped}
use Rattle.lk_nested.specs.Occurrences.{Test, passes, occurs, fails, kind_test, entry_test, head_test, test_at, is_occurrence}
use Rattle.lk_nested.specs.Unmet.{First, nothing, new, refused_by, first_of, by_test, first_unmet}
use Rattle.lk_nested.specs.Joined.{meets_by, meets, nests, IsMet, AreMet, occurrences}
use Rattle.lk_nested.proofs.Meeting.{meeting}

-- two trees side by side
abbrev both : Tree → Tree → Tree × Tree
both x y = (x, y)

true_or_false : true ≡ false → ⊥
true_or_false h = cc

module _ (w : Place) (s : Setting) where
  -- what a test leads to: an occurrence is replaced, and the rest is what is found in the parts
  through : Test → List Tree → List Aux → Finding (Tree × List Aux) → Finding (Tree × List Aux)
  through passes xs as_ next = next
  through (occurs J ls b t) xs as_ next = meets_by w s (occurs J ls b t) xs as_
  through (fails r) xs as_ next = refused r

  kind_through : (as_ : List Aux) (J : Name) (ls : List Level) (xs : List Tree) (k : Kind) (next : Program (Tree × List Aux)) → finding w (at_kind s as_ J ls xs k next) ≡ through (kind_test J ls xs k) xs as_ (finding w next)
  unfolding through
  kind_through as_ J ls xs an_axiom next = refl
  kind_through as_ J ls xs (a_def h v) next = refl
  kind_through as_ J ls xs (a_thm v) next = refl
  kind_through as_ J ls xs (an_opaque v) next = refl
  kind_through as_ J ls xs a_quot next = refl
  kind_through as_ J ls xs (a_type b t) next = go (nat_eq (length xs) t.parameters)
    where
      go : (x : Bool) → finding w (if x then replaced s as_ J ls xs b t else next) ≡ through (if x then occurs J ls b t else passes) xs as_ (finding w next)
      go true = refl
      go false = refl
  kind_through as_ J ls xs (a_ctor b t k) next = refl
  kind_through as_ J ls xs (a_rec r) next = refl

  entry_through : (as_ : List Aux) (J : Name) (ls : List Level) (xs : List Tree) (next : Program (Tree × List Aux)) (o : Option Entry) (flaw : Option Rule)
      → looked o flaw UnknownConstant (λ g. finding w (at_kind s as_ J ls xs g.kind next)) ≡ through (entry_test J ls xs o flaw) xs as_ (finding w next)
  unfolding through
  entry_through as_ J ls xs next None flaw = refl
  entry_through as_ J ls xs next (Some g) flaw = kind_through as_ J ls xs g.kind next

  head_through : (as_ : List Aux) (h : Tree) (xs : List Tree) (next : Program (Tree × List Aux)) → finding w (at_head s as_ h xs next) ≡ through (head_test w s.names h xs) xs as_ (finding w next)
  unfolding through
  head_through as_ (const J ls) xs next = go (is_one_of s.names J || mention_none s.names xs)
    where
      go : (x : Bool)
          → finding w (if x then next else look UnknownConstant J λ g. at_kind s as_ J ls xs g.kind next) ≡ through (if x then passes else entry_test J ls xs (w.means J) (w.flaw J)) xs as_ (finding w next)
      go true = refl
      go false = entry_through as_ J ls xs next (w.means J) (w.flaw J)
  head_through as_ (var i) xs next = refl
  head_through as_ (sort l) xs next = refl
  head_through as_ (app f a) xs next = refl
  head_through as_ (lam A b) xs next = refl
  head_through as_ (pi A B) xs next = refl
  head_through as_ (let_in A v b) xs next = refl
  head_through as_ (proj S i e) xs next = refl
  head_through as_ (lit n) xs next = refl
  head_through as_ wide xs next = refl
  head_through as_ (str k) xs next = refl
  head_through as_ (local k T) xs next = refl

  -- a walk of one part, and then of another
  one : {X Y : Type 0} → (X → Y) → (List Aux → Finding (X × List Aux)) → List Aux → Finding (Y × List Aux)
  one mk p as_ = then_found (p as_) (λ g. found (mk g.0, g.1))

  two : {X Y Z : Type 0} → (X → Y → Z) → (List Aux → Finding (X × List Aux)) → (List Aux → Finding (Y × List Aux)) → List Aux → Finding (Z × List Aux)
  two mk p q as_ = then_found (p as_) (λ g. then_found (q g.1) (λ b. found (mk g.0 b.0, b.1)))

  two_found : (mk : Tree → Tree → Tree) (e f : Tree) (as_ : List Aux)
      → finding w (nest s e as_ >>= λ g. nest s f g.1 >>= λ b. done (mk g.0 b.0, b.1)) ≡ two mk (nests w s e) (nests w s f) as_
  unfolding two
  two_found mk e f as_ =
      bind_found w (nest s e as_) (λ g. nest s f g.1 >>= λ b. done (mk g.0 b.0, b.1))
      ∙ then_ext (nests w s e as_) (λ g. finding w (nest s f g.1 >>= λ b. done (mk g.0 b.0, b.1))) (λ g. then_found (nests w s f g.1) (λ b. found (mk g.0 b.0, b.1))) (λ g is. bind_found w (nest s f g.1) (λ b. done (mk g.0 b.0, b.1)))

  three_found : (A v b : Tree) (as_ : List Aux) → nests w s (let_in A v b) as_ ≡ two (λ D (x : Tree × Tree). let_in D x.0 x.1) (nests w s A) (two both (nests w s v) (nests w s b)) as_
  unfolding two
  three_found A v b as_ =
      bind_found w (nest s A as_) (λ D. nest s v D.1 >>= λ u. nest s b u.1 >>= λ c. done (let_in D.0 u.0 c.0, c.1))
      ∙ then_ext (nests w s A as_) (λ D. finding {A = Tree × List Aux} w (nest s v D.1 >>= λ u. nest s b u.1 >>= λ c. done (let_in D.0 u.0 c.0, c.1)))
      (λ D. then_found (two both (nests w s v) (nests w s b) D.1) (λ x. found (let_in D.0 x.0.0 x.0.1, x.1))) (λ D is. under D)
    where
      ends : (D : Tree × List Aux) (u : Tree × List Aux) → finding {A = Tree × List Aux} w (nest s b u.1 >>= λ c. done (let_in D.0 u.0 c.0, c.1)) ≡ then_found {A = (Tree × Tree) × List Aux} (then_found (nests w s b u.1) (λ c. found ((u.0, c.0), c.1))) (λ x. found (let_in D.0 x.0.0 x.0.1, x.1))
      ends D u =
          bind_found w (nest s b u.1) (λ c. done (let_in D.0 u.0 c.0, c.1))
          ∙ sym (then_assoc (nests w s b u.1) (λ c. found ((u.0, c.0), c.1)) (λ x. found (let_in D.0 x.0.0 x.0.1, x.1)))

      under : (D : Tree × List Aux) → finding {A = Tree × List Aux} w (nest s v D.1 >>= λ u. nest s b u.1 >>= λ c. done (let_in D.0 u.0 c.0, c.1)) ≡ then_found (two both (nests w s v) (nests w s b) D.1) (λ x. found (let_in D.0 x.0.0 x.0.1, x.1))
      under D =
          bind_found w (nest s v D.1) (λ u. nest s b u.1 >>= λ c. done (let_in D.0 u.0 c.0, c.1))
          ∙ then_ext (nests w s v D.1) (λ u. finding {A = Tree × List Aux} w (nest s b u.1 >>= λ c. done (let_in D.0 u.0 c.0, c.1))) (λ u. then_found {A = (Tree × Tree) × List Aux} (then_found (nests w s b u.1) (λ c. found ((u.0, c.0), c.1))) (λ x. found (let_in D.0 x.0.0 x.0.1, x.1))) (λ u is. ends D u)
          ∙ sym (then_assoc (nests w s v D.1) (λ u. then_found (nests w s b u.1) (λ c. found ((u.0, c.0), c.1))) (λ x. found (let_in D.0 x.0.0 x.0.1, x.1)))

  -- what a walk comes to, by the first occurrence that was not met
  unfoldable pub goes : {X : Type 0} → First → X → (List Aux → Finding (X × List Aux)) → List Aux → Finding (X × List Aux)
  goes nothing t p as_ = found (t, as_)
  goes (new o) t p as_ = then_found (meets w s o as_) (λ r. p r.1)
  goes (refused_by r) t p as_ = refused r

  -- what was met stays met
  more_met : (as_ more : List Aux) (ps : List (Tree × Tree)) → AreMet w s as_ ps → AreMet w s (as_ ++ more) ps
  more_met as_ more ps =
      All-weaker (IsMet w s as_) (IsMet w s (as_ ++ more)) (λ p h. record {
        is = h.is;
        again = λ others. ap (meets w s p.0) (append_assoc as_ more others) ∙ h.again (more ++ others) ∙ ap (λ x. found (p.1, x)) (sym (append_assoc as_ more others));
      }) ps

  pub still_met : (ps : List (Tree × Tree)) (o : Tree) (as_ : List Aux) (r : Tree × List Aux) → meets w s o as_ ≡ found r → AreMet w s as_ ps → AreMet w s r.1 ps
  still_met ps o as_ r h met = let m = meeting w s o as_ r h in subst (λ x. AreMet w s x ps) (sym m.grows) (more_met as_ m.added ps met)

  met_itself : (o : Tree) (as_ : List Aux) (r : Tree × List Aux) → meets w s o as_ ≡ found r → meets w s o r.1 ≡ found r
  met_itself o as_ r h = let m = meeting w s o as_ r h in ap (meets w s o) (sym (append-nil r.1)) ∙ m.again [] ∙ ap (λ x. found (r.0, x)) (append-nil r.1)

  module _ (ps : List (Tree × Tree)) where
    IsWalk : {X : Type 0} → First → X → (List Aux → Finding (X × List Aux)) → Type 0
    IsWalk f t p = (as_ : List Aux) → AreMet w s as_ ps → p as_ ≡ goes f t p as_

    same_goes : {X : Type 0} (f : First) (t : X) (p q : List Aux → Finding (X × List Aux)) (as_ : List Aux) → ((as_ : List Aux) → p as_ ≡ q as_) → goes f t q as_ ≡ goes f t p as_
    unfolding goes
    same_goes nothing t p q as_ same = refl
    same_goes (new o) t p q as_ same = then_ext (meets w s o as_) (λ r. q r.1) (λ r. p r.1) (λ r is. sym (same r.1))
    same_goes (refused_by r) t p q as_ same = refl

    same_walk : {X : Type 0} (f : First) (t : X) (p q : List Aux → Finding (X × List Aux)) → ((as_ : List Aux) → p as_ ≡ q as_) → IsWalk f t q → IsWalk f t p
    unfolding IsWalk
    same_walk f t p q same walk as_ met = same as_ ∙ walk as_ met ∙ same_goes f t p q as_ same

    one_walk : {X Y : Type 0} (mk : X → Y) (f : First) (t : X) (p : List Aux → Finding (X × List Aux)) → IsWalk f t p → IsWalk f (mk t) (one mk p)
    unfolding IsWalk one goes
    one_walk mk f t p walk as_ met = ap (λ x. then_found x (λ g. found (mk g.0, g.1))) (walk as_ met) ∙ go f
      where
        go : (f : First) → then_found (goes f t p as_) (λ g. found (mk g.0, g.1)) ≡ goes f (mk t) (one mk p) as_
        go nothing = refl
        go (new o) = then_assoc (meets w s o as_) (λ r. p r.1) (λ g. found (mk g.0, g.1))
        go (refused_by r) = refl

    -- nothing is new in the first part
    second_part : {X Y Z : Type 0} (mk : X → Y → Z) (g : First) (x : X) (y : Y) (p : List Aux → Finding (X × List Aux)) (q : List Aux → Finding (Y × List Aux))
        → IsWalk nothing x p → IsWalk g y q → (as_ : List Aux) → AreMet w s as_ ps → then_found (q as_) (λ b. found (mk x b.0, b.1)) ≡ goes g (mk x y) (two mk p q) as_
    unfolding IsWalk two goes
    second_part mk nothing x y p q first second as_ met = ap (λ z. then_found z (λ b. found (mk x b.0, b.1))) (second as_ met)
    second_part mk (new o) x y p q first second as_ met =
        ap (λ z. then_found z (λ b. found (mk x b.0, b.1))) (second as_ met)
        ∙ then_assoc (meets w s o as_) (λ r. q r.1) (λ b. found (mk x b.0, b.1))
        ∙ then_ext (meets w s o as_) (λ r. then_found (q r.1) (λ b. found (mk x b.0, b.1))) (λ r. two mk p q r.1)
        (λ r is. sym (ap (λ z. then_found z (λ u. then_found (q u.1) (λ b. found (mk u.0 b.0, b.1)))) (first r.1 (still_met ps o as_ r is met))))
    second_part mk (refused_by r) x y p q first second as_ met = ap (λ z. then_found z (λ b. found (mk x b.0, b.1))) (second as_ met)

    two_walks : {X Y Z : Type 0} (mk : X → Y → Z) (f g : First) (x : X) (y : Y) (p : List Aux → Finding (X × List Aux)) (q : List Aux → Finding (Y × List Aux))
        → IsWalk f x p → IsWalk g y q → IsWalk (first_of f g) (mk x y) (two mk p q)
    unfolding IsWalk two goes
    two_walks mk nothing g x y p q first second as_ met =
        ap (λ z. then_found z (λ u. then_found (q u.1) (λ b. found (mk u.0 b.0, b.1)))) (first as_ met)
        ∙ second_part mk g x y p q first second as_ met
    two_walks mk (new o) g x y p q first second as_ met =
        ap (λ z. then_found z (λ u. then_found (q u.1) (λ b. found (mk u.0 b.0, b.1)))) (first as_ met)
        ∙ then_assoc (meets w s o as_) (λ r. p r.1) (λ u. then_found (q u.1) (λ b. found (mk u.0 b.0, b.1)))
    two_walks mk (refused_by r) g x y p q first second as_ met = ap (λ z. then_found z (λ u. then_found (q u.1) (λ b. found (mk u.0 b.0, b.1)))) (first as_ met)

  -- what is no occurrence is none of those that were met
  not_instead : (as_ : List Aux) (ps : List (Tree × Tree)) (e : Tree) → AreMet w s as_ ps → is_occurrence (test_at w s.names e) ≡ false → instead ps e ≡ None
  not_instead as_ [] e met other = refl
  not_instead as_ (p ∷ ps) e met other = go (tree_discrete e p.0) (not_instead as_ ps e (All-tail (IsMet w s as_) p ps met) other)
    where
      go : (d : Dec (e ≡ p.0)) → instead ps e ≡ None → (if decided d then Some p.1 else instead ps e) ≡ None
      go (yes same) others = let own = (All-head (IsMet w s as_) p ps met).is in absurd (true_or_false (sym own ∙ ap (λ x. is_occurrence (test_at w s.names x)) (sym same) ∙ other))
      go (no f) others = others

  -- what was met
  among_met : (as_ : List Aux) (ps : List (Tree × Tree)) (e : Tree) → AreMet w s as_ ps → is_among e (occurrences ps) ≡ true → (r : Tree) × (instead ps e ≡ Some r) × (meets w s e as_ ≡ found (r, as_))
  among_met as_ [] e met h = absurd cc
  among_met as_ (p ∷ ps) e met h = go (tree_discrete e p.0) (among_met as_ ps e (All-tail (IsMet w s as_) p ps met)) h
    where
      go : (d : Dec (e ≡ p.0)) → (is_among e (occurrences ps) ≡ true → (r : Tree) × (instead ps e ≡ Some r) × (meets w s e as_ ≡ found (r, as_)))
          → (decided d || is_among e (occurrences ps)) ≡ true → (r : Tree) × ((if decided d then Some p.1 else instead ps e) ≡ Some r) × (meets w s e as_ ≡ found (r, as_))
      go (yes same) others i =
          let own = (All-head (IsMet w s as_) p ps met).again [] in
          (p.1, refl, ap (λ x. meets w s x as_) same ∙ ap (meets w s p.0) (sym (append-nil as_)) ∙ own ∙ ap (λ x. found (p.1, x)) (append-nil as_))
      go (no f) others i = others i

  module _ (ps : List (Tree × Tree)) where
    -- a tree that is no occurrence, by its parts
    by_parts : (e t : Tree) (f : First) → is_occurrence (test_at w s.names e) ≡ false → swapped ps e ≡ or_built (instead ps e) t → IsWalk ps f t (nests w s e) → IsWalk ps f (swapped ps e) (nests w s e)
    unfolding IsWalk
    by_parts e t f other is walk as_ met =
        let same : swapped ps e ≡ t = is ∙ ap (λ o. or_built o t) (not_instead as_ ps e met other) in
        subst (λ x. nests w s e as_ ≡ goes f x (nests w s e) as_) (sym same) (walk as_ met)

    at_once : (e : Tree) → is_occurrence (test_at w s.names e) ≡ false → swapped ps e ≡ or_built (instead ps e) e → ((as_ : List Aux) → nests w s e as_ ≡ found (e, as_)) → IsWalk ps nothing (swapped ps e) (nests w s e)
    unfolding goes IsWalk
    at_once e other is done_ as_ met =
        let same : swapped ps e ≡ e = is ∙ ap (λ o. or_built o e) (not_instead as_ ps e met other) in
        done_ as_ ∙ ap (λ x. found (x, as_)) (sym same)

    -- an application, by its test
    tested : (q : Test) (e t : Tree) (f : First) (p : List Aux → Finding (Tree × List Aux)) → test_at w s.names e ≡ q
        → ((as_ : List Aux) → nests w s e as_ ≡ through q (args e) as_ (p as_)) → swapped ps e ≡ or_built (instead ps e) t → IsWalk ps f t p
        → IsWalk ps (by_test q (is_among e (occurrences ps)) e f) (swapped ps e) (nests w s e)
    unfolding IsWalk through goes swapped
    tested passes e t f p is parts swaps walk as_ met = by_parts e t f (ap is_occurrence is) swaps (same_walk ps f t (nests w s e) p parts walk) as_ met
    tested (fails r) e t f p is parts swaps walk as_ met = parts as_
    tested (occurs J ls b u) e t f p is parts swaps walk as_ met = go (is_among e (occurrences ps)) refl
      where
        meets_is : (x : List Aux) → meets w s e x ≡ nests w s e x
        meets_is x = ap (λ q. meets_by w s q (args e) x) is ∙ sym (parts x)

        again : (x : Finding (Tree × List Aux)) → meets w s e as_ ≡ x → x ≡ then_found x (λ r. nests w s e r.1)
        again (found r) h = sym (sym (meets_is r.1) ∙ met_itself e as_ r h)
        again (refused r) h = refl
        again asking h = refl

        go : (m : Bool) → is_among e (occurrences ps) ≡ m → nests w s e as_ ≡ goes (by_test (occurs J ls b u) m e f) (swapped ps e) (nests w s e) as_
        go true known =
            let k = among_met as_ ps e met known in
            sym (meets_is as_) ∙ k.2 ∙ ap (λ x. found (x, as_)) (sym (swaps ∙ ap (λ o. or_built o t) k.1))
        go false known = sym (meets_is as_) ∙ again (meets w s e as_) refl

    -- the whole walk
    pub walk_is : (e : Tree) (as_ : List Aux) → AreMet w s as_ ps → nests w s e as_ ≡ goes (first_unmet w s.names (occurrences ps) e) (swapped ps e) (nests w s e) as_
    unfolding IsWalk swapped one
    walk_is (app f a) as_ met =
        tested (test_at w s.names (app f a)) (app f a) (app (swapped ps f) (swapped ps a)) (first_of (first_unmet w s.names (occurrences ps) f) (first_unmet w s.names (occurrences ps) a))
        (two app (nests w s f) (nests w s a)) refl
        (λ x. head_through x (head (app f a)) (args (app f a)) (nest s f x >>= λ g. nest s a g.1 >>= λ b. done (app g.0 b.0, b.1)) ∙ ap (through (test_at w s.names (app f a)) (args (app f a)) x) (two_found app f a x))
        refl (two_walks ps app (first_unmet w s.names (occurrences ps) f) (first_unmet w s.names (occurrences ps) a) (swapped ps f) (swapped ps a) (nests w s f) (nests w s a) (walk_is f) (walk_is a)) as_ met
    walk_is (lam A b) as_ met =
        let f = first_unmet w s.names (occurrences ps) A in
        let g = first_unmet w s.names (occurrences ps) b in
        by_parts (lam A b) (lam (swapped ps A) (swapped ps b)) (first_of f g) refl refl
        (same_walk ps (first_of f g) (lam (swapped ps A) (swapped ps b)) (nests w s (lam A b)) (two lam (nests w s A) (nests w s b)) (two_found lam A b)
        (two_walks ps lam f g (swapped ps A) (swapped ps b) (nests w s A) (nests w s b) (walk_is A) (walk_is b))) as_ met
    walk_is (pi A b) as_ met =
        let f = first_unmet w s.names (occurrences ps) A in
        let g = first_unmet w s.names (occurrences ps) b in
        by_parts (pi A b) (pi (swapped ps A) (swapped ps b)) (first_of f g) refl refl
        (same_walk ps (first_of f g) (pi (swapped ps A) (swapped ps b)) (nests w s (pi A b)) (two pi (nests w s A) (nests w s b)) (two_found pi A b)
        (two_walks ps pi f g (swapped ps A) (swapped ps b) (nests w s A) (nests w s b) (walk_is A) (walk_is b))) as_ met
    walk_is (let_in A v b) as_ met =
        let f = first_unmet w s.names (occurrences ps) A in
        let g = first_unmet w s.names (occurrences ps) v in
        let h = first_unmet w s.names (occurrences ps) b in
        let whole = let_in (swapped ps A) (swapped ps v) (swapped ps b) in
        by_parts (let_in A v b) whole (first_of f (first_of g h)) refl refl
        (same_walk ps (first_of f (first_of g h)) whole (nests w s (let_in A v b)) (two (λ D (x : Tree × Tree). let_in D x.0 x.1) (nests w s A) (two both (nests w s v) (nests w s b))) (three_found A v b)
        (two_walks ps (λ D (x : Tree × Tree). let_in D x.0 x.1) f (first_of g h) (swapped ps A) (swapped ps v, swapped ps b) (nests w s A) (two both (nests w s v) (nests w s b)) (walk_is A)
        (two_walks ps both g h (swapped ps v) (swapped ps b) (nests w s v) (nests w s b) (walk_is v) (walk_is b)))) as_ met
    walk_is (proj S i e) as_ met =
        let f = first_unmet w s.names (occurrences ps) e in
        by_parts (proj S i e) (proj S i (swapped ps e)) f refl refl
        (same_walk ps f (proj S i (swapped ps e)) (nests w s (proj S i e)) (one (proj S i) (nests w s e)) (λ x. bind_found {B = Tree × List Aux} w (nest s e x) (λ g. done (proj S i g.0, g.1)))
        (one_walk ps (proj S i) f (swapped ps e) (nests w s e) (walk_is e))) as_ met
    walk_is (var i) as_ met = at_once (var i) refl refl (λ x. refl) as_ met
    walk_is (sort l) as_ met = at_once (sort l) refl refl (λ x. refl) as_ met
    walk_is (const c ls) as_ met = at_once (const c ls) refl refl (λ x. refl) as_ met
    walk_is (lit n) as_ met = at_once (lit n) refl refl (λ x. refl) as_ met
    walk_is wide as_ met = at_once wide refl refl (λ x. refl) as_ met
    walk_is (str k) as_ met = at_once (str k) refl refl (λ x. refl) as_ met
    walk_is (local k T) as_ met = at_once (local k T) refl refl (λ x. refl) as_ met
