-- The walk for occurrences goes on past the first one that was not met, once it is met.
use Rattle.std.proofs.Common.{◌≡◌, true, List, [], ◌∷◌, ◌++◌, sym, ap, subst, ◌∙◌}
use Rattle.std.proofs.lemmas.List.Elements.{All-push}
use Rattle.lk_tree.specs.Tree.{Tree}
use Rattle.lk_rulebook.specs.Place.{Place}
use Rattle.lk_inductive.specs.Enlarged.{Aux, Setting}
use Rattle.lk_ask.specs.declared.stop.Stop.{Stop}
use Rattle.lk_ask.specs.declared.stop.Stop.TheVariants.{No, Spent, NoMemory}
use Rattle.lk_nested.specs.Findings.{found, FindsNothing}
use Rattle.lk_nested.proofs.Joining.{goes, still_met, walk_is}
use Rattle.lk_nested.proofs.Meeting.{meeting}
use Rattle.lk_nested.proofs.Thens.{then_found}
use Rattle.lk_nested.specs.Halts.{IsStopped}
use Rattle.lk_nested.specs.Joined.{meets, nests, IsMet, AreMet, occurrences}
use Rattle.lk_nested.specs.Occurrences.{test_at, is_occurrence}
use Rattle.lk_nested.specs.Swaps.{swapped}
use Rattle.lk_nested.specs.Unmet.{nothing, new, first_unmet}
use Rattle.lk_enlarge.proofs.Unmets.{new_occurs}

module _ (w : Place) (s : Setting) (ps : List (Tree × Tree)) (e : Tree) (as_ : List Aux) (met : AreMet w s as_ ps) where
  -- none is left
  pub at_end : first_unmet w s.names (occurrences ps) e ≡ nothing → nests w s e as_ ≡ found (swapped ps e, as_)
  unfolding goes
  at_end first = walk_is w s ps e as_ met ∙ ap (λ f. goes w s f (swapped ps e) (nests w s e) as_) first

  module _ (o : Tree) (first : first_unmet w s.names (occurrences ps) e ≡ new o) where
    goes_on : nests w s e as_ ≡ then_found (meets w s o as_) (λ r. nests w s e r.1)
    unfolding goes
    goes_on = walk_is w s ps e as_ met ∙ ap (λ f. goes w s f (swapped ps e) (nests w s e) as_) first

    pub leads_on : (r : Tree × List Aux) → meets w s o as_ ≡ found r → nests w s e as_ ≡ nests w s e r.1
    leads_on r h = goes_on ∙ ap (λ x. then_found x (λ r. nests w s e r.1)) h

    pub stops_there : (stop : Stop) → FindsNothing (meets w s o as_) stop → FindsNothing (nests w s e as_) stop
    stops_there (No r) h = goes_on ∙ ap (λ x. then_found x (λ r. nests w s e r.1)) h
    stops_there Spent h = absurd h
    stops_there NoMemory h = tt

    pub one_more : is_occurrence (test_at w s.names o) ≡ true → (r : Tree × List Aux) → meets w s o as_ ≡ found r → AreMet w s r.1 (ps ++ (o, r.0) ∷ [])
    one_more occurs r h = All-push (IsMet w s r.1) ps (o, r.0) (still_met w s ps o as_ r h met) (record { is = occurs; again = (meeting w s o as_ r h).again })

-- how far the walk came: to these auxiliary types, with what takes the place of what was met
pub record CameTo (w : Place) (s : Setting) (e : Tree) (start as_ : List Aux) (ps : List (Tree × Tree)) : Type 0 where
  pub leads : nests w s e start ≡ nests w s e as_
  pub met : AreMet w s as_ ps

module _ (w : Place) (s : Setting) (e : Tree) (start as_ : List Aux) (ps : List (Tree × Tree)) (came : CameTo w s e start as_ ps) where
  pub came_end : first_unmet w s.names (occurrences ps) e ≡ nothing → nests w s e start ≡ found (swapped ps e, as_)
  came_end first = came.leads ∙ at_end w s ps e as_ came.met first

  pub came_refused : (stop : Stop) → IsStopped (first_unmet w s.names (occurrences ps) e) stop → FindsNothing (nests w s e start) stop
  unfolding goes
  came_refused (No r) first = came.leads ∙ walk_is w s ps e as_ came.met ∙ ap (λ f. goes w s f (swapped ps e) (nests w s e) as_) first
  came_refused Spent first = absurd first
  came_refused NoMemory first = tt

  module _ (o : Tree) (first : first_unmet w s.names (occurrences ps) e ≡ new o) where
    pub came_stops : (stop : Stop) → FindsNothing (meets w s o as_) stop → FindsNothing (nests w s e start) stop
    came_stops stop h = subst (λ f. FindsNothing f stop) (sym came.leads) (stops_there w s ps e as_ came.met o first stop h)

    pub came_on : (t : Tree) (bs : List Aux) → meets w s o as_ ≡ found (t, bs) → CameTo w s e start bs (ps ++ (o, t) ∷ [])
    came_on t bs h = record {
      leads = came.leads ∙ leads_on w s ps e as_ came.met o first (t, bs) h;
      met = one_more w s ps e as_ came.met o first (new_occurs w s.names (occurrences ps) o e first) (t, bs) h;
    }
