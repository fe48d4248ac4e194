-- Several things made one after another, by what is found of each.
use Rattle.std.proofs.Common.{◌≡◌, List, [], ◌∷◌, ◌++◌, refl, sym, ap, ◌∙◌, append_assoc}
use Rattle.std.proofs.lemmas.List.{append-nil}
use Rattle.lk_rulebook.specs.Place.{Place, Ctor, BlockType}
use Rattle.lk_questions.specs.Program.{Program, done, ◌>>=◌}
use Rattle.lk_ask.specs.declared.stop.Stop.{Stop}
use Rattle.lk_ask.specs.declared.stop.Stop.TheVariants.{No, Spent, NoMemory}
use Rattle.lk_inductive.specs.Enlarged.{Aux, Setting}
use Rattle.lk_inductive.specs.Nested.{own_ctor, own_ctors, own_types}
use Rattle.lk_nested.specs.Findings.{Finding, found, refused, asking, finding, FindsNothing}
use Rattle.lk_auxiliary.proofs.Pasts.{bind_ext, bind_assoc}
use Rattle.lk_nested.proofs.Thens.{then_found, bind_found, then_ext, then_assoc}
use Rattle.lk_enlarge.specs.Each.{each}
use Rattle.lk_enlarge.specs.Owns.{own_type}

-- what is found of the rest, behind these
abbrev pub behind : {Y : Type 0} → List Y → List Y × List Aux → Finding (List Y × List Aux)
behind front ys = found (front ++ ys.0, ys.1)

pub behind_none : {Y : Type 0} (x : Finding (List Y × List Aux)) → then_found x (behind []) ≡ x
behind_none (found v) = refl
behind_none (refused r) = refl
behind_none asking = refl

pub behind_one : {Y : Type 0} (x : Finding (List Y × List Aux)) (front pushed : List Y) (y : Y) → pushed ≡ front ++ y ∷ []
    → then_found (then_found x (λ ys. found (y ∷ ys.0, ys.1))) (behind front) ≡ then_found x (behind pushed)
behind_one x front pushed y push =
    then_assoc x (λ ys. found (y ∷ ys.0, ys.1)) (behind front)
    ∙ then_ext x (λ ys. behind front (y ∷ ys.0, ys.1)) (behind pushed) (λ ys h. ap (λ z. found (z, ys.1)) (sym (ap (λ z. z ++ ys.0) push ∙ append_assoc front (y ∷ []) ys.0)))

module _ {X Y : Type 0} (w : Place) (f : X → List Aux → Program (Y × List Aux)) where
  -- those of xs are, after these, those of ds
  abbrev pub LeadsEach : List X → List Aux → List Y → List X → List Aux → Type 0
  LeadsEach xs start front ds as_ = finding w (each f xs start) ≡ then_found (finding w (each f ds as_)) (behind front)

  pub each_first : (xs : List X) (start : List Aux) → LeadsEach xs start [] xs start
  each_first xs start = sym (behind_none (finding w (each f xs start)))

  one : (d : X) (more : List X) (as_ : List Aux) → finding w (each f (d ∷ more) as_) ≡ then_found (finding w (f d as_)) (λ y. then_found (finding w (each f more y.1)) (λ ys. found (y.0 ∷ ys.0, ys.1)))
  one d more as_ =
      bind_found w (f d as_) (λ y. each f more y.1 >>= λ ys. done (y.0 ∷ ys.0, ys.1))
      ∙ then_ext (finding w (f d as_)) (λ y. finding w (each f more y.1 >>= λ ys. done (y.0 ∷ ys.0, ys.1))) (λ y. then_found (finding w (each f more y.1)) (λ ys. found (y.0 ∷ ys.0, ys.1)))
      (λ y h. bind_found w (each f more y.1) (λ ys. done (y.0 ∷ ys.0, ys.1)))

  module _ (xs : List X) (start : List Aux) (front : List Y) (ds : List X) (as_ : List Aux) (so_far : LeadsEach xs start front ds as_) where
    module _ (d : X) (more : List X) (split : ds ≡ d ∷ more) where
      split_is : finding w (each f xs start) ≡ then_found (then_found (finding w (f d as_)) (λ y. then_found (finding w (each f more y.1)) (λ ys. found (y.0 ∷ ys.0, ys.1)))) (behind front)
      split_is = so_far ∙ ap (λ x. then_found (finding w (each f x as_)) (behind front)) split ∙ ap (λ x. then_found x (behind front)) (one d more as_)

      pub each_next : (y : Y) (bs : List Aux) (pushed : List Y) → pushed ≡ front ++ y ∷ [] → finding w (f d as_) ≡ found (y, bs) → LeadsEach xs start pushed more bs
      each_next y bs pushed push made =
          split_is
          ∙ ap (λ x. then_found (then_found x (λ y. then_found (finding w (each f more y.1)) (λ ys. found (y.0 ∷ ys.0, ys.1)))) (behind front)) made
          ∙ behind_one (finding w (each f more bs)) front pushed y push

      pub each_stopped : (stop : Stop) → FindsNothing (finding w (f d as_)) stop → FindsNothing (finding w (each f xs start)) stop
      each_stopped (No r) h = split_is ∙ ap (λ x. then_found (then_found x (λ y. then_found (finding w (each f more y.1)) (λ ys. found (y.0 ∷ ys.0, ys.1)))) (behind front)) h
      each_stopped Spent h = absurd h
      each_stopped NoMemory h = tt

    pub each_end : ds ≡ [] → finding w (each f xs start) ≡ found (front, as_)
    each_end none = so_far ∙ ap (λ x. then_found (finding w (each f x as_)) (behind front)) none ∙ ap (λ x. found (x, as_)) (append-nil front)

-- the stated constructors of a type, and a block's own types, are so made
pub own_each : (s : Setting) (cs : List Ctor) (as_ : List Aux) → own_ctors s cs as_ ≡ each (own_ctor s) cs as_
own_each s [] as_ = refl
own_each s (c ∷ cs) as_ =
    bind_ext (own_ctor s c as_) (λ d. own_ctors s cs d.1 >>= λ ds. done (d.0 ∷ ds.0, ds.1)) (λ d. each (own_ctor s) cs d.1 >>= λ ds. done (d.0 ∷ ds.0, ds.1))
    (λ d. ap (λ p. p >>= λ ds. done (d.0 ∷ ds.0, ds.1)) (own_each s cs d.1))

pub types_each : (s : Setting) (ts : List BlockType) (as_ : List Aux) → own_types s ts as_ ≡ each (own_type s) ts as_
types_each s [] as_ = refl
types_each s (t ∷ ts) as_ =
    bind_ext (own_ctors s t.ctors as_) (λ cs. own_types s ts cs.1 >>= λ us. done (record t { ctors = cs.0 } ∷ us.0, us.1)) (λ cs. each (own_type s) ts cs.1 >>= λ us. done (record t { ctors = cs.0 } ∷ us.0, us.1))
    (λ cs. ap (λ p. p >>= λ us. done (record t { ctors = cs.0 } ∷ us.0, us.1)) (types_each s ts cs.1))
    ∙ sym (bind_assoc (own_ctors s t.ctors as_) (λ cs. done (record t { ctors = cs.0 }, cs.1)) (λ y. each (own_type s) ts y.1 >>= λ ys. done (y.0 ∷ ys.0, ys.1)))
