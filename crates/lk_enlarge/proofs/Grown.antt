-- What is known of a block and of what was met, while the store grows.
use Rattle.std.proofs.Common.{◌≡◌, ◌<◌, List, [], ◌∷◌, ◌++◌, length, map, All, refl, sym, ap, subst, ◌∙◌, arith}
use Rattle.std.proofs.lemmas.List.{map-append}
use Rattle.std.proofs.lemmas.List.Elements.{All-same, All-push}
use Rattle.lk_tree.specs.Tree.{Tree, param}
use Rattle.lk_rulebook.specs.Place.{Place}
use Rattle.lk_inductive.specs.Enlarged.{Aux, Setting as PlainSetting}
use Rattle.lk_store.specs.Contents.{Contents, name_at, tree_at, Extends}
use Rattle.lk_subst.specs.Numbers.{values-steady, values-known, trees-steady, trees-known}
use Rattle.lk_nested.specs.declared.swap.Pair.{Pair}
use Rattle.lk_nested.specs.Joined.{meets, nests, AreMet}
use Rattle.lk_nested.specs.Pairs.{pair_at, pairs_at, IsPairIn, ArePairsIn}
use Rattle.lk_nested.specs.Swaps.{pairs-steady, pairs-known}
use Rattle.lk_auxiliary.specs.declared.setting.Setting.{Setting}
use Rattle.lk_auxiliary.specs.declared.auxiliary.Auxiliary.{Auxiliary}
use Rattle.lk_auxiliary.specs.Auxiliaries.{auxs_at, IsAuxiliaryIn}
use Rattle.lk_auxiliary.specs.Settings.{setting_at, IsSettingIn}
use Rattle.lk_auxiliary.proofs.Others.{auxs_stay, auxs_known}
use Rattle.lk_nested.proofs.Marking.{marks_stay, owns_stay}
use Rattle.lk_enlarge.specs.declared.visited.Visited.{Visited}
use Rattle.lk_enlarge.specs.declared.occurrences.Occurrences.{Occurrences}
use Rattle.lk_enlarge.specs.Occurrences.{IsVisited, AreOccurrences}

module _ (c d : Contents) (x : Extends c d) where
  module _ (s : Setting) (h : IsSettingIn c s) where
    levels_stay : map (name_at d) s.levels.now ≡ map (name_at c) s.levels.now
    levels_stay = values-steady [] c.names d.names s.levels.now x.names h.levels_in

    pub setting_stays : setting_at d s ≡ setting_at c s
    setting_stays = rw (values-steady [] c.names d.names s.names.now x.names h.names_in, levels_stay, trees-steady c d s.parameters.now x h.parameters_in) refl

    pub setting_known : IsSettingIn d s
    setting_known = record {
      names_in = values-known [] c.names d.names s.names.now x.names h.names_in;
      levels_in = values-known [] c.names d.names s.levels.now x.names h.levels_in;
      own_levels_are = record {
        known = (let l = h.own_levels_are.known in let longer = x.lists.longer in omega arith);
        is = x.lists.same s.own_levels h.own_levels_are.known ∙ h.own_levels_are.is ∙ ap (map param) (sym levels_stay);
      };
      parameters_in = trees-known c d s.parameters.now x h.parameters_in;
    }

    pub visited_stays : (v : Visited) → IsVisited c s v → IsVisited d s v
    visited_stays v visited = record {
      marks = marks_stay c d x s.names.now h.names_in v.marks visited.marks;
      own = owns_stay c d x s.parameters.now h.parameters_in v.own visited.own;
    }

    pub meets_steady : (v w : Place) → v ≡ w → (o : Tree) (as_ : List Aux) → meets v (setting_at d s) o as_ ≡ meets w (setting_at c s) o as_
    meets_steady v w place o as_ = ap (λ y. meets y (setting_at d s) o as_) place ∙ ap (λ s. meets w s o as_) setting_stays

    module _ (v w : Place) (place : v ≡ w) (as_ : List Auxiliary) (as_in : All (IsAuxiliaryIn c) as_) where
      pub nests_steady : (t : Tree) → nests v (setting_at d s) t (auxs_at d as_) ≡ nests w (setting_at c s) t (auxs_at c as_)
      nests_steady t =
          ap (λ y. nests y (setting_at d s) t (auxs_at d as_)) place
          ∙ ap (λ z. nests w z t (auxs_at d as_)) setting_stays
          ∙ ap (nests w (setting_at c s) t) (auxs_stay c d x as_ as_in)

  -- what was met stays so
  pub met_grown : (w : Place) (plain : PlainSetting) (s : Setting) → IsSettingIn c s → (m : Occurrences) → AreOccurrences w plain c s m → AreOccurrences w plain d s m
  met_grown w plain s h m was = record {
    auxs_in = auxs_known c d x m.auxs.items was.auxs_in;
    pairs_in = pairs-known c d m.pairs.items x was.pairs_in;
    visited_in = visited_stays s h m.visited was.visited_in;
    met = subst (λ bs. AreMet w plain bs (pairs_at d m.pairs.items)) (sym (auxs_stay c d x m.auxs.items was.auxs_in))
        (subst (AreMet w plain (auxs_at c m.auxs.items)) (sym (pairs-steady c d x m.pairs.items was.pairs_in)) was.met);
  }

  module _ (ps qs : List Pair) (p : Pair) (pushed : qs ≡ ps ++ p ∷ []) (known : ArePairsIn c ps) where
    pub pushed_are : p.from < length c.trees → pairs_at d qs ≡ pairs_at c ps ++ (tree_at c p.from, tree_at d p.to) ∷ []
    pushed_are from_in =
        ap (pairs_at d) pushed
        ∙ map-append (pair_at d) ps (p ∷ [])
        ∙ ap (λ y. y ++ (tree_at d p.from, tree_at d p.to) ∷ []) (pairs-steady c d x ps known)
        ∙ ap (λ t. pairs_at c ps ++ (t, tree_at d p.to) ∷ []) (x.trees.same p.from from_in)

    pub pushed_known : p.from < length c.trees → p.to < length d.trees → ArePairsIn d qs
    pushed_known from_in to_in =
        All-same (IsPairIn d) qs (ps ++ p ∷ []) pushed
        (All-push (IsPairIn d) ps p (pairs-known c d ps x known) (record { from_in = (let longer = x.trees.longer in omega arith); to_in = to_in }))
