-- An occurrence that was met is met again, and the auxiliary types only grow at their end.
use Rattle.std.proofs.Common.{◌≡◌, ℕ, suc, Bool, true, false, List, [], ◌∷◌, ◌++◌, Option, None, Some, length, refl, sym, ap, subst, ◌∙◌, append_assoc, arith}
use Rattle.std.specs.Prelude.{◌+◌, if◌then◌else◌, nat_le}
use Rattle.std.proofs.lemmas.List.{append-nil}
use Rattle.lk_tree.specs.Tree.{Name, Level, Tree, const, tree_discrete}
use Rattle.lk_tree.specs.Spine.{apply, args}
use Rattle.lk_tree.specs.declared.rule.Rule.{Rule}
use Rattle.lk_tree.specs.declared.rule.Rule.TheVariants.{NestedForm}
use Rattle.lk_rulebook.specs.Place.{Place, Block, BlockType}
use Rattle.lk_rulebook.specs.SameTree.{decided, is_same_tree}
use Rattle.lk_questions.specs.Program.{Program, done, ◌>>=◌}
use Rattle.lk_questions.specs.Steps.{given}
use Rattle.lk_inductive.specs.BlockSteps.{as_level}
use Rattle.lk_inductive.specs.Enlarged.{Aux, Setting}
use Rattle.lk_inductive.specs.Nested.{may_nest, same_aux, aux_at, at_args, stated_pis, ctors_at, aux_of, others_of, family_of, other_count, aux_applied, met, replaced}
use Rattle.lk_nested.specs.Findings.{Finding, found, finding}
use Rattle.lk_nested.proofs.Thens.{bind_found, came_of}
use Rattle.lk_nested.specs.Occurrences.{Test, passes, occurs, fails, test_at}
use Rattle.lk_nested.specs.Joined.{meets_by, meets}

given_found : {A : Type 0} (w : Place) (b : Bool) (r : Rule) (p : Program A) (v : A) → finding w (given b r p) ≡ found v → (b ≡ true) × (finding w p ≡ found v)
given_found w true r p v h = (refl, h)
given_found w false r p v h = absurd cc

found_is : {A : Type 0} (x y : A) → found x ≡ found y → x ≡ y
found_is x y h = cc

pub tree_itself : (t : Tree) → is_same_tree t t ≡ true
tree_itself t = go (tree_discrete t t)
  where
    go : (d : Dec (t ≡ t)) → decided d ≡ true
    go (yes e) = refl
    go (no f) = absurd (f refl)

-- the auxiliary type of J at ls and bs is J at ls and bs
module _ (w : Place) (s : Setting) (ls : List Level) (bs : List Tree) where
  pub aux_is : (c : Name) (t : BlockType) (a : Aux) → finding w (aux_of s ls bs c t) ≡ found a → same_aux c ls bs a ≡ true
  aux_is c t a h =
      let after_type : Tree → Program Aux = λ r. stated_pis (length s.params) t.indices r >>= λ x. as_level x.1 >>= λ l. ctors_at ls bs t.ctors >>= λ cs.
      done (record { name = c; own = t; levels = ls; args = bs; type = r; indices = x.0; sort = l; ctors = cs }) in
      let p = came_of (finding w (at_args ls bs t.levels t.type)) (λ r. finding w (after_type r)) a (sym (bind_found w (at_args ls bs t.levels t.type) after_type) ∙ h) in
      let r = p.0 in
      let after_pis : List Tree × Tree → Program Aux = λ x. as_level x.1 >>= λ l. ctors_at ls bs t.ctors >>= λ cs.
      done (record { name = c; own = t; levels = ls; args = bs; type = r; indices = x.0; sort = l; ctors = cs }) in
      let q = came_of (finding w (stated_pis (length s.params) t.indices r)) (λ x. finding w (after_pis x)) a (sym (bind_found w (stated_pis (length s.params) t.indices r) after_pis) ∙ p.2) in
      let x = q.0 in
      let after_level : Level → Program Aux = λ l. ctors_at ls bs t.ctors >>= λ cs. done (record { name = c; own = t; levels = ls; args = bs; type = r; indices = x.0; sort = l; ctors = cs }) in
      let m = came_of (finding w (as_level x.1)) (λ l. finding w (after_level l)) a (sym (bind_found w (as_level x.1) after_level) ∙ q.2) in
      let l = m.0 in
      let after_ctors : List Tree → Program Aux = λ cs. done (record { name = c; own = t; levels = ls; args = bs; type = r; indices = x.0; sort = l; ctors = cs }) in
      let n = came_of (finding w (ctors_at ls bs t.ctors)) (λ cs. finding w (after_ctors cs)) a (sym (bind_found w (ctors_at ls bs t.ctors) after_ctors) ∙ m.2) in
      let is = found_is (record { name = c; own = t; levels = ls; args = bs; type = r; indices = x.0; sort = l; ctors = n.0 }) a n.2 in
      subst (λ y. same_aux c ls bs y ≡ true) is (tree_itself (apply (const c ls) bs))

  -- the first of its family
  pub family_begins : (J : Name) (b : Block) (t : BlockType) (ms : List Aux) → finding w (family_of s ls bs J b t) ≡ found ms → (a : Aux) × (rest : List Aux) × (ms ≡ a ∷ rest) × (same_aux J ls bs a ≡ true)
  family_begins J b t ms h =
      let after : Aux → Program (List Aux) = λ a. others_of s ls bs J b.types >>= λ as_. done (a ∷ as_) in
      let p = came_of (finding w (aux_of s ls bs J t)) (λ a. finding w (after a)) ms (sym (bind_found w (aux_of s ls bs J t) after) ∙ h) in
      let a = p.0 in
      let q = came_of (finding w (others_of s ls bs J b.types)) (λ as_. found (a ∷ as_)) ms (sym (bind_found w (others_of s ls bs J b.types) (λ as_. done (a ∷ as_))) ∙ p.2) in
      (a, q.0, sym (found_is (a ∷ q.0) ms q.2), aux_is J t a p.1)

-- its number among the auxiliary types
module _ (J : Name) (ls : List Level) (bs : List Tree) where
  pub at_stays : (i : ℕ) (as_ more : List Aux) (j : ℕ) → aux_at i as_ J ls bs ≡ Some j → aux_at i (as_ ++ more) J ls bs ≡ Some j
  at_stays i [] more j h = absurd cc
  at_stays i (a ∷ as_) more j h = go (same_aux J ls bs a) (at_stays (suc i) as_ more j) h
    where
      go : (b : Bool) → (aux_at (suc i) as_ J ls bs ≡ Some j → aux_at (suc i) (as_ ++ more) J ls bs ≡ Some j)
          → (if b then Some i else aux_at (suc i) as_ J ls bs) ≡ Some j → (if b then Some i else aux_at (suc i) (as_ ++ more) J ls bs) ≡ Some j
      go true others e = e
      go false others e = others e

  pub at_end : (i : ℕ) (as_ : List Aux) (a : Aux) (more : List Aux) → aux_at i as_ J ls bs ≡ None → same_aux J ls bs a ≡ true → aux_at i (as_ ++ a ∷ more) J ls bs ≡ Some (i + length as_)
  at_end i [] a more none is = rw is (let e : i ≡ i + 0 = omega arith in ap Some e)
  at_end i (x ∷ as_) a more none is = go (same_aux J ls bs x) (λ e. at_end (suc i) as_ a more e is) none
    where
      go : (b : Bool) → (aux_at (suc i) as_ J ls bs ≡ None → aux_at (suc i) (as_ ++ a ∷ more) J ls bs ≡ Some (suc i + length as_))
          → (if b then Some i else aux_at (suc i) as_ J ls bs) ≡ None → (if b then Some i else aux_at (suc i) (as_ ++ a ∷ more) J ls bs) ≡ Some (i + suc (length as_))
      go true others e = absurd cc
      go false others e = others e ∙ (let q : suc i + length as_ ≡ i + suc (length as_) = omega arith in ap Some q)

-- what is known of an occurrence once it was met; run: what meeting it with these auxiliary types comes to
pub record Meeting (run : List Aux → Finding (Tree × List Aux)) (as_ : List Aux) (r : Tree × List Aux) : Type 0 where
  pub added : List Aux
  pub grows : r.1 ≡ as_ ++ added
  pub again : (more : List Aux) → run (r.1 ++ more) ≡ found (r.0, r.1 ++ more)

module _ (w : Place) (s : Setting) (J : Name) (ls : List Level) (bs : List Tree) (b : Block) (t : BlockType) where
  abbrev pub run : List Aux → Finding (Tree × List Aux)
  run as_ = finding w (replaced s as_ J ls bs b t)

  -- where it stands among the auxiliary types
  stands : (may : may_nest s.params bs ≡ true) (as_ : List Aux) (i : ℕ) → aux_at 0 as_ J ls bs ≡ Some i → run as_ ≡ found (aux_applied s i, as_)
  stands may as_ i at =
      ap (λ m. finding w (given m NestedForm (met s as_ J ls bs b t (aux_at 0 as_ J ls bs)))) may
      ∙ ap (λ o. finding w (met s as_ J ls bs b t o)) at

  met_before : may_nest s.params bs ≡ true → (as_ : List Aux) (i : ℕ) (r : Tree × List Aux) → aux_at 0 as_ J ls bs ≡ Some i → r ≡ (aux_applied s i, as_) → Meeting run as_ r
  met_before may as_ i r at is =
      subst (Meeting run as_) (sym is) (record {
        added = [];
        grows = sym (append-nil as_);
        again = λ more. stands may (as_ ++ more) i (at_stays J ls bs 0 as_ more i at);
      })

  met_new : may_nest s.params bs ≡ true → (as_ ms : List Aux) (r : Tree × List Aux) → aux_at 0 as_ J ls bs ≡ None → finding w (family_of s ls bs J b t) ≡ found ms → r ≡ (aux_applied s (length as_), as_ ++ ms) → Meeting run as_ r
  met_new may as_ ms r none family is =
      let f = family_begins w s ls bs J b t ms family in
      let a = f.0 in
      let rest = f.1 in
      subst (Meeting run as_) (sym is) (record {
        added = ms;
        grows = refl;
        again = λ more.
            let whole : (as_ ++ ms) ++ more ≡ as_ ++ a ∷ (rest ++ more) = ap (λ x. (as_ ++ x) ++ more) f.2 ∙ append_assoc as_ (a ∷ rest) more in
            stands may ((as_ ++ ms) ++ more) (length as_) (ap (λ x. aux_at 0 x J ls bs) whole ∙ at_end J ls bs 0 as_ a (rest ++ more) none f.3 ∙ (let z : 0 + length as_ ≡ length as_ = omega arith in ap Some z));
      })

  pub meeting_of : (as_ : List Aux) (r : Tree × List Aux) → finding w (replaced s as_ J ls bs b t) ≡ found r → Meeting run as_ r
  meeting_of as_ r h =
      let g = given_found w (may_nest s.params bs) NestedForm (met s as_ J ls bs b t (aux_at 0 as_ J ls bs)) r h in
      go g.0 (aux_at 0 as_ J ls bs) refl g.1
    where
      go : may_nest s.params bs ≡ true → (o : Option ℕ) → aux_at 0 as_ J ls bs ≡ o → finding w (met s as_ J ls bs b t o) ≡ found r → Meeting run as_ r
      go may (Some i) at e = met_before may as_ i r at (sym (found_is (aux_applied s i, as_) r e))
      go may None at e =
          let after : List Aux → Program (Tree × List Aux) = λ ms. done (aux_applied s (length as_), as_ ++ ms) in
          let p = given_found w (nat_le (length as_ + suc (other_count J b.types)) 1024) NestedForm (family_of s ls bs J b t >>= after) r e in
          let q = came_of (finding w (family_of s ls bs J b t)) (λ ms. finding w (after ms)) r (sym (bind_found w (family_of s ls bs J b t) after) ∙ p.1) in
          met_new may as_ q.0 r at q.1 (sym (found_is (aux_applied s (length as_), as_ ++ q.0) r q.2))

-- an occurrence at its place
pub meeting : (w : Place) (s : Setting) (o : Tree) (as_ : List Aux) (r : Tree × List Aux) → meets w s o as_ ≡ found r → Meeting (meets w s o) as_ r
meeting w s o as_ r h = go (test_at w s.names o) h
  where
    go : (q : Test) → meets_by w s q (args o) as_ ≡ found r → Meeting (meets_by w s q (args o)) as_ r
    go passes e = absurd cc
    go (occurs J ls b t) e = meeting_of w s J ls (args o) b t as_ r e
    go (fails x) e = absurd cc
