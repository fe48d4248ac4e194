-- The other types of a family, one after another.
use Rattle.std.proofs.Common.{◌≡◌, ℕ, Bool, true, false, List, [], ◌∷◌, ◌++◌, All, map, length, ◌<◌, refl, sym, ap, ◌∙◌, append_assoc, if◌then◌else◌, arith}
use Rattle.std.proofs.lemmas.List.{append-nil}
use Rattle.std.proofs.lemmas.List.Elements.{All-weaker}
use Rattle.lk_tree.specs.Tree.{Name, Level, Tree}
use Rattle.lk_tree.specs.Mentions.{same_name}
use Rattle.lk_tree.specs.declared.rule.Rule.{Rule}
use Rattle.lk_rulebook.specs.Place.{BlockType as PlainType}
use Rattle.lk_questions.specs.Program.{done, refuse, ◌>>=◌}
use Rattle.lk_env.specs.declared.unit.BlockType.{BlockType}
use Rattle.lk_env.specs.Units.{type_at, IsTypeIn}
use Rattle.lk_inductive.specs.Enlarged.{Aux}
use Rattle.lk_store.specs.Contents.{Contents, name_at, Extends}
use Rattle.lk_subst.specs.Numbers.{trees-steady, trees-known}
use Rattle.lk_env.proofs.Stays.{all_stay, type_stays, type_in_stays, types_stay}
use Rattle.lk_auxiliary.proofs.Pasts.{bind_ext, bind_assoc}
use Rattle.lk_auxiliary.specs.declared.auxiliary.Auxiliary.{Auxiliary}
use Rattle.lk_auxiliary.specs.declared.instance.At.{At}
use Rattle.lk_auxiliary.specs.Auxiliaries.{aux_at, auxs_at, IsAuxiliaryIn}
use Rattle.lk_auxiliary.specs.Parts.{aux_form, other_auxs, more_others, one_other}
use Rattle.lk_auxiliary.specs.Places.{levels_of, arguments_of, IsAtIn}
use Rattle.lk_auxiliary.proofs.Families.{instance_stays}
use Rattle.lk_auxiliary.proofs.Steady.{levels_stay}

module _ (j : ℕ) (ls : List Level) (bs : List Tree) (J : Name) where
  step : (found : List Aux) (t : PlainType) (ts : List PlainType) → more_others j ls bs J found (t ∷ ts) ≡ (one_other j ls bs J found t >>= λ f. more_others j ls bs J f ts)
  step found t ts = go (same_name J t.name)
    where
      go : (b : Bool) → ((if b then other_auxs j ls bs J ts else (aux_form j ls bs t.name t >>= λ a. other_auxs j ls bs J ts >>= λ as_. done (a ∷ as_))) >>= λ as_. done (found ++ as_))
          ≡ ((if b then done found else (aux_form j ls bs t.name t >>= λ a. done (found ++ a ∷ []))) >>= λ f. more_others j ls bs J f ts)
      go true = refl
      go false =
          bind_assoc (aux_form j ls bs t.name t) (λ a. other_auxs j ls bs J ts >>= λ as_. done (a ∷ as_)) (λ as_. done (found ++ as_))
          ∙ bind_ext (aux_form j ls bs t.name t) (λ a. other_auxs j ls bs J ts >>= (λ as_. done (a ∷ as_)) >>= λ as_. done (found ++ as_)) (λ a. more_others j ls bs J (found ++ a ∷ []) ts)
          (λ a. bind_assoc (other_auxs j ls bs J ts) (λ as_. done (a ∷ as_)) (λ as_. done (found ++ as_))
          ∙ bind_ext (other_auxs j ls bs J ts) (λ as_. done (found ++ a ∷ as_)) (λ as_. done ((found ++ a ∷ []) ++ as_)) (λ as_. ap done (sym (append_assoc found (a ∷ []) as_))))
          ∙ sym (bind_assoc (aux_form j ls bs t.name t) (λ a. done (found ++ a ∷ [])) (λ f. more_others j ls bs J f ts))

  pub others_next : (found new : List Aux) (ts : List PlainType) (t : PlainType) (more : List PlainType) → ts ≡ t ∷ more → one_other j ls bs J found t ≡ done new → more_others j ls bs J found ts ≡ more_others j ls bs J new more
  others_next found new ts t more split h = ap (more_others j ls bs J found) split ∙ step found t more ∙ ap (λ p. p >>= λ f. more_others j ls bs J f more) h

  pub others_stop : (found : List Aux) (ts : List PlainType) (t : PlainType) (more : List PlainType) (r : Rule) → ts ≡ t ∷ more → one_other j ls bs J found t ≡ refuse r → more_others j ls bs J found ts ≡ refuse r
  others_stop found ts t more r split h = ap (more_others j ls bs J found) split ∙ step found t more ∙ ap (λ p. p >>= λ f. more_others j ls bs J f more) h

  pub others_end : (found : List Aux) (ts : List PlainType) → ts ≡ [] → more_others j ls bs J found ts ≡ done found
  others_end found ts none = ap (more_others j ls bs J found) none ∙ ap done (append-nil found)

  pub other_same : (found : List Aux) (t : PlainType) → same_name J t.name ≡ true → one_other j ls bs J found t ≡ done found
  other_same found t h = ap (λ (b : Bool). if b then done found else (aux_form j ls bs t.name t >>= λ a. done (found ++ a ∷ []))) h

  pub other_made : (found : List Aux) (t : PlainType) (a : Aux) → same_name J t.name ≡ false → aux_form j ls bs t.name t ≡ done a → one_other j ls bs J found t ≡ done (found ++ a ∷ [])
  other_made found t a h i = ap (λ (b : Bool). if b then done found else (aux_form j ls bs t.name t >>= λ a. done (found ++ a ∷ []))) h ∙ ap (λ p. p >>= λ a. done (found ++ a ∷ [])) i

  pub other_stops : (found : List Aux) (t : PlainType) (r : Rule) → same_name J t.name ≡ false → aux_form j ls bs t.name t ≡ refuse r → one_other j ls bs J found t ≡ refuse r
  other_stops found t r h i = ap (λ (b : Bool). if b then done found else (aux_form j ls bs t.name t >>= λ a. done (found ++ a ∷ []))) h ∙ ap (λ p. p >>= λ a. done (found ++ a ∷ [])) i

-- auxiliary types stay what they are
module _ (c d : Contents) (x : Extends c d) where
  pub aux_stays : (a : Auxiliary) → IsAuxiliaryIn c a → aux_at d a ≡ aux_at c a
  aux_stays a h =
      rw (
        x.names.same a.name h.name_in,
        type_stays c d x a.own h.own_in,
        x.lists.same a.levels h.levels_in,
        trees-steady c d a.arguments.items x h.arguments_in,
        x.trees.same a.ty h.ty_in,
        trees-steady c d a.indices.items x h.indices_in,
        x.levels.same a.sort h.sort_in,
        trees-steady c d a.constructors.items x h.constructors_in,
      ) refl

  pub auxs_stay : (as_ : List Auxiliary) → All (IsAuxiliaryIn c) as_ → auxs_at d as_ ≡ auxs_at c as_
  auxs_stay = all_stay (IsAuxiliaryIn c) (aux_at d) (aux_at c) aux_stays

  pub aux_known : (a : Auxiliary) → IsAuxiliaryIn c a → IsAuxiliaryIn d a
  aux_known a h = record {
    name_in = (let l = h.name_in in let longer = x.names.longer in omega arith);
    own_in = type_in_stays c d x a.own h.own_in;
    levels_in = (let l = h.levels_in in let longer = x.lists.longer in omega arith);
    arguments_in = trees-known c d a.arguments.items x h.arguments_in;
    instance_is = instance_stays c d x a.name a.levels a.instance a.arguments.items h.name_in h.levels_in h.arguments_in
        (record { known = (let l = h.instance_is.known in let longer = x.trees.longer in omega arith); is = x.trees.same a.instance h.instance_is.known ∙ h.instance_is.is });
    ty_in = (let l = h.ty_in in let longer = x.trees.longer in omega arith);
    indices_in = trees-known c d a.indices.items x h.indices_in;
    sort_in = (let l = h.sort_in in let longer = x.levels.longer in omega arith);
    constructors_in = trees-known c d a.constructors.items x h.constructors_in;
  }

  pub auxs_known : (as_ : List Auxiliary) → All (IsAuxiliaryIn c) as_ → All (IsAuxiliaryIn d) as_
  auxs_known as_ h = All-weaker (IsAuxiliaryIn c) (IsAuxiliaryIn d) aux_known as_ h

  pub other_steady : (at : At) (at_in : IsAtIn c at) (j name : ℕ) (found : List Aux) (t : BlockType) → name < length c.names → IsTypeIn c t
      → one_other j (levels_of d at) (arguments_of d at) (name_at d name) found (type_at d t) ≡ one_other j (levels_of c at) (arguments_of c at) (name_at c name) found (type_at c t)
  other_steady at at_in j name found t name_in t_in =
      ap (λ ls. one_other j ls (arguments_of d at) (name_at d name) found (type_at d t)) (levels_stay c d x at.levels.now at_in.levels_in)
      ∙ ap (λ bs. one_other j (levels_of c at) bs (name_at d name) found (type_at d t)) (trees-steady c d at.arguments.now x at_in.arguments_in)
      ∙ ap (λ J. one_other j (levels_of c at) (arguments_of c at) J found (type_at d t)) (x.names.same name name_in)
      ∙ ap (one_other j (levels_of c at) (arguments_of c at) (name_at c name) found) (type_stays c d x t t_in)

  pub more_steady : (at : At) (at_in : IsAtIn c at) (j name : ℕ) (found : List Aux) (ts us : List BlockType) → name < length c.names → us ≡ ts → All (IsTypeIn c) ts
      → more_others j (levels_of d at) (arguments_of d at) (name_at d name) found (map (type_at d) us) ≡ more_others j (levels_of c at) (arguments_of c at) (name_at c name) found (map (type_at c) ts)
  more_steady at at_in j name found ts us name_in same ts_in =
      ap (λ us. more_others j (levels_of d at) (arguments_of d at) (name_at d name) found (map (type_at d) us)) same
      ∙ ap (λ ls. more_others j ls (arguments_of d at) (name_at d name) found (map (type_at d) ts)) (levels_stay c d x at.levels.now at_in.levels_in)
      ∙ ap (λ bs. more_others j (levels_of c at) bs (name_at d name) found (map (type_at d) ts)) (trees-steady c d at.arguments.now x at_in.arguments_in)
      ∙ ap (λ J. more_others j (levels_of c at) (arguments_of c at) J found (map (type_at d) ts)) (x.names.same name name_in)
      ∙ ap (more_others j (levels_of c at) (arguments_of c at) (name_at c name) found) (types_stay c d x ts ts_in)
