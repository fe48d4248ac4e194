-- Constructors and types without an occurrence stay as they are.
use Rattle.std.proofs.Common.{◌≡◌, Bool, true, false, List, [], ◌∷◌, refl, ap, ◌∙◌}
use Rattle.lk_tree.specs.declared.rule.Rule.{Rule}
use Rattle.lk_rulebook.specs.Place.{Place, Ctor, BlockType}
use Rattle.lk_questions.specs.Program.{Program, done, ◌>>=◌}
use Rattle.lk_ask.specs.declared.stop.Stop.{Stop}
use Rattle.lk_ask.specs.declared.stop.Stop.TheVariants.{No, Spent, NoMemory}
use Rattle.lk_inductive.specs.Enlarged.{Aux, Setting, Larger}
use Rattle.lk_inductive.specs.Nested.{own_ctor, own_ctors, own_types, aux_types, enlarge}
use Rattle.lk_nested.specs.Findings.{Finding, found, refused, asking, finding, then_held, FindsNothing}
use Rattle.lk_nested.specs.Nestings.{nested_in}
use Rattle.lk_nested.proofs.Thens.{then_found, bind_found}
use Rattle.lk_enlarge.specs.Each.{each}
use Rattle.lk_enlarge.specs.Larger.{any_hold, ctors_hold, types_hold}
use Rattle.lk_enlarge.specs.Owns.{owns, own_type, type_owns}
use Rattle.lk_enlarge.proofs.Each.{own_each, types_each}
use Rattle.lk_enlarge.proofs.Owning.{own_is, own_stops, type_found, type_stops}

-- the first of several
module _ {X : Type 0} (hold : X → Finding Bool) (xs : List X) (x : X) (more : List X) (split : xs ≡ x ∷ more) where
  pub hold_next : hold x ≡ found false → any_hold hold xs ≡ any_hold hold more
  hold_next h = ap (any_hold hold) split ∙ ap (λ p. then_held p (any_hold hold more)) h

  pub hold_yes : hold x ≡ found true → any_hold hold xs ≡ found true
  hold_yes h = ap (any_hold hold) split ∙ ap (λ p. then_held p (any_hold hold more)) h

  pub hold_stop : (stop : Stop) → FindsNothing (hold x) stop → FindsNothing (any_hold hold xs) stop
  hold_stop (No r) h = ap (any_hold hold) split ∙ ap (λ p. then_held p (any_hold hold more)) h
  hold_stop Spent h = absurd h
  hold_stop NoMemory h = tt

neither : (p q : Finding Bool) → then_held p q ≡ found false → (p ≡ found false) × (q ≡ found false)
neither (found true) q h = absurd (let e : true ≡ false = cc in cc)
neither (found false) q h = (refl, h)
neither (refused r) q h = absurd cc
neither asking q h = absurd cc

one_refused : {A : Type 0} (p q : Finding Bool) (r : Rule) → then_held p q ≡ refused r → (p ≡ refused r → A) → (p ≡ found false → q ≡ refused r → A) → A
one_refused (found true) q r h k l = absurd cc
one_refused (found false) q r h k l = l refl h
one_refused (refused s) q r h k l = k h
one_refused asking q r h k l = absurd cc

-- what holds none stays as it is, and what is refused in the search is refused in the making
module _ {X : Type 0} (w : Place) (f : X → List Aux → Program (X × List Aux)) (hold : X → Finding Bool) (as_ : List Aux)
    (stays : (x : X) → hold x ≡ found false → finding w (f x as_) ≡ found (x, as_)) (stops : (x : X) (r : Rule) → hold x ≡ refused r → finding w (f x as_) ≡ refused r) where
  first_stays : (x : X) (xs : List X) → hold x ≡ found false → finding w (each f (x ∷ xs) as_) ≡ then_found (finding w (each f xs as_)) (λ ys. found (x ∷ ys.0, ys.1))
  first_stays x xs h =
      bind_found w (f x as_) (λ y. each f xs y.1 >>= λ ys. done (y.0 ∷ ys.0, ys.1))
      ∙ ap (λ z. then_found z (λ y. finding w (each f xs y.1 >>= λ ys. done (y.0 ∷ ys.0, ys.1)))) (stays x h)
      ∙ bind_found w (each f xs as_) (λ ys. done (x ∷ ys.0, ys.1))

  pub each_stays : (xs : List X) → any_hold hold xs ≡ found false → finding w (each f xs as_) ≡ found (xs, as_)
  each_stays [] h = refl
  each_stays (x ∷ xs) h =
      let both = neither (hold x) (any_hold hold xs) h in
      first_stays x xs both.0 ∙ ap (λ z. then_found z (λ ys. found (x ∷ ys.0, ys.1))) (each_stays xs both.1)

  pub each_refused : (xs : List X) (r : Rule) → any_hold hold xs ≡ refused r → finding w (each f xs as_) ≡ refused r
  each_refused [] r h = absurd cc
  each_refused (x ∷ xs) r h =
      one_refused (hold x) (any_hold hold xs) r h
      (λ k. bind_found w (f x as_) (λ y. each f xs y.1 >>= λ ys. done (y.0 ∷ ys.0, ys.1)) ∙ ap (λ z. then_found z (λ y. finding w (each f xs y.1 >>= λ ys. done (y.0 ∷ ys.0, ys.1)))) (stops x r k))
      (λ k l. first_stays x xs k ∙ ap (λ z. then_found z (λ ys. found (x ∷ ys.0, ys.1))) (each_refused xs r l))

module _ (w : Place) (s : Setting) (as_ : List Aux) where
  ctor_stays : (c : Ctor) → nested_in w s.names c.type ≡ found false → owns w s c as_ ≡ found (c, as_)
  ctor_stays c h = own_is w s c as_ false h

  ctors_stay : (cs : List Ctor) → ctors_hold w s.names cs ≡ found false → finding w (own_ctors s cs as_) ≡ found (cs, as_)
  ctors_stay cs h = ap (finding w) (own_each s cs as_) ∙ each_stays w (own_ctor s) (λ c. nested_in w s.names c.type) as_ ctor_stays (λ c r. own_stops w s c as_ (No r)) cs h

  ctors_refused : (cs : List Ctor) (r : Rule) → ctors_hold w s.names cs ≡ refused r → finding w (own_ctors s cs as_) ≡ refused r
  ctors_refused cs r h = ap (finding w) (own_each s cs as_) ∙ each_refused w (own_ctor s) (λ c. nested_in w s.names c.type) as_ ctor_stays (λ c r. own_stops w s c as_ (No r)) cs r h

  type_stays : (t : BlockType) → ctors_hold w s.names t.ctors ≡ found false → type_owns w s t as_ ≡ found (t, as_)
  type_stays t h = type_found w s t as_ (t.ctors, as_) (ctors_stay t.ctors h)

  type_refused : (t : BlockType) (r : Rule) → ctors_hold w s.names t.ctors ≡ refused r → type_owns w s t as_ ≡ refused r
  type_refused t r h = type_stops w s t as_ (No r) (ctors_refused t.ctors r h)

  types_stay : (ts : List BlockType) → types_hold w s.names ts ≡ found false → finding w (own_types s ts as_) ≡ found (ts, as_)
  types_stay ts h = ap (finding w) (types_each s ts as_) ∙ each_stays w (own_type s) (λ t. ctors_hold w s.names t.ctors) as_ type_stays type_refused ts h

  types_refused : (ts : List BlockType) (r : Rule) → types_hold w s.names ts ≡ refused r → finding w (own_types s ts as_) ≡ refused r
  types_refused ts r h = ap (finding w) (types_each s ts as_) ∙ each_refused w (own_type s) (λ t. ctors_hold w s.names t.ctors) as_ type_stays type_refused ts r h

-- the larger block, by its own types and the auxiliary ones
module _ (w : Place) (s : Setting) (ts : List BlockType) where
  larger_of : List BlockType × List Aux → List BlockType × List Aux → Program Larger
  larger_of own aux = done (record { own = own.0; aux = aux.0; auxs = aux.1 })

  enlarged_then : finding w (enlarge s ts) ≡ then_found (finding w (own_types s ts [])) (λ own. finding w (aux_types 1025 s 0 own.1 >>= larger_of own))
  unfolding larger_of
  enlarged_then = bind_found w (own_types s ts []) (λ own. aux_types 1025 s 0 own.1 >>= larger_of own)

  pub enlarged_stops : (stop : Stop) → FindsNothing (finding w (own_types s ts [])) stop → FindsNothing (finding w (enlarge s ts)) stop
  enlarged_stops (No r) h = enlarged_then ∙ ap (λ x. then_found x (λ own. finding w (aux_types 1025 s 0 own.1 >>= larger_of own))) h
  enlarged_stops Spent h = absurd h
  enlarged_stops NoMemory h = tt

  module _ (own : List BlockType × List Aux) (h : finding w (own_types s ts []) ≡ found own) where
    own_then : finding w (enlarge s ts) ≡ then_found (finding w (aux_types 1025 s 0 own.1)) (λ aux. found (record { own = own.0; aux = aux.0; auxs = aux.1 }))
    unfolding larger_of
    own_then =
        enlarged_then
        ∙ ap (λ x. then_found x (λ own. finding w (aux_types 1025 s 0 own.1 >>= larger_of own))) h
        ∙ bind_found w (aux_types 1025 s 0 own.1) (larger_of own)

    pub enlarged_found : (aux : List BlockType × List Aux) → finding w (aux_types 1025 s 0 own.1) ≡ found aux → finding w (enlarge s ts) ≡ found (record { own = own.0; aux = aux.0; auxs = aux.1 })
    enlarged_found aux i = own_then ∙ ap (λ x. then_found x (λ aux. found (record { own = own.0; aux = aux.0; auxs = aux.1 }))) i

    pub enlarged_stopped : (stop : Stop) → FindsNothing (finding w (aux_types 1025 s 0 own.1)) stop → FindsNothing (finding w (enlarge s ts)) stop
    enlarged_stopped (No r) i = own_then ∙ ap (λ x. then_found x (λ aux. found (record { own = own.0; aux = aux.0; auxs = aux.1 }))) i
    enlarged_stopped Spent i = absurd i
    enlarged_stopped NoMemory i = tt

  -- where none holds an occurrence
  pub enlarged_none : types_hold w s.names ts ≡ found false → finding w (enlarge s ts) ≡ found (record { own = ts; aux = []; auxs = [] })
  enlarged_none h = enlarged_found (ts, []) (types_stay w s [] ts h) ([], []) refl

  pub enlarged_refused : (stop : Stop) → FindsNothing (types_hold w s.names ts) stop → FindsNothing (finding w (enlarge s ts)) stop
  enlarged_refused (No r) h = enlarged_stops (No r) (types_refused w s [] ts r h)
  enlarged_refused Spent h = absurd h
  enlarged_refused NoMemory h = tt
