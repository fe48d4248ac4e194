-- A stated constructor with its occurrences replaced, by what is found of its type.
use Rattle.std.proofs.Common.{◌≡◌, Bool, true, false, List, length, ap, ◌∙◌}
use Rattle.lk_tree.specs.Tree.{Tree}
use Rattle.lk_tree.specs.declared.rule.Rule.TheVariants.{BlockShape}
use Rattle.lk_rulebook.specs.Place.{Place, Ctor, BlockType}
use Rattle.lk_questions.specs.Program.{Program, done, ◌>>=◌}
use Rattle.lk_questions.specs.Steps.{given}
use Rattle.lk_ask.specs.declared.stop.Stop.{Stop}
use Rattle.lk_ask.specs.declared.stop.Stop.TheVariants.{No, Spent, NoMemory}
use Rattle.lk_inductive.specs.Enlarged.{Aux, Setting}
use Rattle.lk_inductive.specs.Nested.{has_pis, holds_nested, nest_past, held_ctor, own_ctors}
use Rattle.lk_nested.specs.Findings.{found, refused, finding, FindsNothing}
use Rattle.lk_nested.specs.Nestings.{nested_in}
use Rattle.lk_nested.proofs.Thens.{then_found, bind_found}
use Rattle.lk_enlarge.specs.Opened.{nests_past}
use Rattle.lk_enlarge.specs.Owns.{typed, held, owns, all_owns, with_ctors, type_owns}

module _ (w : Place) (s : Setting) (c : Ctor) (as_ : List Aux) where
  with_type : Tree × List Aux → Program (Ctor × List Aux)
  with_type e = done (typed c e.0, e.1)

  pub held_refused : has_pis (length s.params) c.type ≡ false → held w s c true as_ ≡ refused BlockShape
  unfolding with_type
  held_refused h = ap (λ b. finding w (given b BlockShape (nest_past s s.params c.type as_ >>= with_type))) h

  module _ (pis : has_pis (length s.params) c.type ≡ true) where
    held_is : held w s c true as_ ≡ then_found (nests_past w s c.type as_) (λ e. found (typed c e.0, e.1))
    unfolding with_type
    held_is =
        ap (λ b. finding w (given b BlockShape (nest_past s s.params c.type as_ >>= with_type))) pis
        ∙ bind_found w (nest_past s s.params c.type as_) with_type

    pub held_stops : (stop : Stop) → FindsNothing (nests_past w s c.type as_) stop → FindsNothing (held w s c true as_) stop
    held_stops (No r) h = held_is ∙ ap (λ f. then_found f (λ e. found (typed c e.0, e.1))) h
    held_stops Spent h = absurd h
    held_stops NoMemory h = tt

    pub held_found : (e : Tree × List Aux) → nests_past w s c.type as_ ≡ found e → held w s c true as_ ≡ found (typed c e.0, e.1)
    held_found e h = held_is ∙ ap (λ f. then_found f (λ e. found (typed c e.0, e.1))) h

  own_then : owns w s c as_ ≡ then_found (nested_in w s.names c.type) (λ h. held w s c h as_)
  own_then = bind_found w (holds_nested s.names c.type) (λ h. held_ctor s c as_ h)

  pub own_is : (h : Bool) → nested_in w s.names c.type ≡ found h → owns w s c as_ ≡ held w s c h as_
  own_is h i = own_then ∙ ap (λ f. then_found f (λ h. held w s c h as_)) i

  pub own_stops : (stop : Stop) → FindsNothing (nested_in w s.names c.type) stop → FindsNothing (owns w s c as_) stop
  own_stops (No r) h = own_then ∙ ap (λ f. then_found f (λ h. held w s c h as_)) h
  own_stops Spent h = absurd h
  own_stops NoMemory h = tt

module _ (w : Place) (s : Setting) (t : BlockType) (as_ : List Aux) where
  type_then : type_owns w s t as_ ≡ then_found (all_owns w s t.ctors as_) (λ cs. found (with_ctors t cs.0, cs.1))
  type_then = bind_found w (own_ctors s t.ctors as_) (λ cs. done (with_ctors t cs.0, cs.1))

  pub type_found : (cs : List Ctor × List Aux) → all_owns w s t.ctors as_ ≡ found cs → type_owns w s t as_ ≡ found (with_ctors t cs.0, cs.1)
  type_found cs h = type_then ∙ ap (λ f. then_found f (λ cs. found (with_ctors t cs.0, cs.1))) h

  pub type_stops : (stop : Stop) → FindsNothing (all_owns w s t.ctors as_) stop → FindsNothing (type_owns w s t as_) stop
  type_stops (No r) h = type_then ∙ ap (λ f. then_found f (λ cs. found (with_ctors t cs.0, cs.1))) h
  type_stops Spent h = absurd h
  type_stops NoMemory h = tt
